-- The checks of an insert, one after another.
use mathlib.Core.Path.{◌≡◌, sym, ap, ◌∙◌}
use mathlib.Core.Bool.{Bool, true, false}
use mathlib.Core.List.{List}
use Prim.Native.Nat.{ℕ, ◌<◌, ◌≤◌}
use native.Mathlib.Omega.{arith}
use borrow.Author.Tests.{le-leb, lt-leb, eq-eqb, ne_eqb, leb-false}
use lib.Dec.{leb, eqb}
use lib.ListN.{get_or, length}
use Rattle.lists.specs.Lists.{any, repeats, same_set}
use Rattle.lists.proofs.Counts.{none_has}
use Rattle.lists.proofs.Members.{at_has}
use Rattle.lists.proofs.Alike.{any_same}
use Rattle.shapes.specs.Shapes.{shape}
use Rattle.numbers.specs.declared.Caps.{Caps}
use Rattle.numbers.specs.Sizes.{most_around}
use Rattle.store.specs.Slots.{code_in}
use Rattle.map.specs.Cells.{Body, Map, live, cells_of}
use Rattle.map.specs.Stars.{holders}
use Rattle.map.specs.Answers.{◌when◌, answer, third, insert_checks}
use Rattle.map.specs.Says.{given, refused, verdict_says}
use Rattle.map.specs.declared.Refusal.TheVariants.{CellOutside, CellLive, TypeUnknown, CountWrong, MarkOutside, MarkTwice, CellSame, MarkFull, FaceFull}
use Rattle.std.specs.Prelude.{Ok, Err}
use Rattle.picture.specs.State.{state_of}
use Rattle.picture.specs.Picture.{Wf}
use Rattle.picture.proofs.Settles.{wf_pic, wf_settled, wf_map}
use Rattle.chain.proofs.Places.{count_word}
use Rattle.chain.proofs.Readied.{chain_holders}
use Rattle.checks.specs.Checked.{Checked}
use Rattle.checks.proofs.Rows.{marks_of_lem, cells_of_lem, code_of}
use Rattle.insert_checks.specs.Admit.{full_in, Same, Known, Tells}
use Rattle.shapes.proofs.Types.{type_marks}

module _ (w : List ℕ) (caps : Caps) (c : ℕ) (b : Body) where
  pub in_outside : caps.cells ≤ c → Checked w caps (λ m. insert_checks m c b) (Err CellOutside)
  unfolding insert_checks ◌when◌ answer verdict_says refused
  in_outside h = record { says = λ m e wf. rw (le-leb m.caps.cells c (omega (arith, cells_of_lem caps m e))) }

  module _ (h : c < caps.cells) (x : ℕ) (word : x ≡ code_in w caps c) where
    below : (m : Map) → m.caps ≡ caps → leb m.caps.cells c ≡ false
    below m e = lt-leb m.caps.cells c (omega (arith, cells_of_lem caps m e))

    pub in_live : (x ≡ 0 → ⊥) → Checked w caps (λ m. insert_checks m c b) (Err CellLive)
    unfolding insert_checks ◌when◌ answer verdict_says refused live
    in_live some = record
        { says = λ m e wf. rw (below m e, ne_eqb (m.at c).code 0 (λ z. some (word ∙ (code_of caps m e w wf c h ∙ z)))) }

    module _ (zero : x ≡ 0) where
      dead : (m : Map) → m.caps ≡ caps → Wf w m → live m c ≡ false
      unfolding live
      dead m e wf = rw (eq-eqb (m.at c).code 0 (sym (code_of caps m e w wf c h) ∙ (sym word ∙ zero)))

      module _ (d : ℕ) (dimension : d ≡ (shape b.code).dimension) where
        pub in_type : d ≡ 0 → Checked w caps (λ m. insert_checks m c b) (Err TypeUnknown)
        unfolding insert_checks ◌when◌ answer verdict_says refused
        in_type z = record { says = λ m e wf. rw (below m e, dead m e wf, eq-eqb (shape b.code).dimension 0 (sym dimension ∙ z)) }

        module _ (some : d ≡ 0 → ⊥) (n : ℕ) (count : n ≡ (shape b.code).marks) where
          known : eqb (shape b.code).dimension 0 ≡ false
          known = ne_eqb (shape b.code).dimension 0 (λ z. some (dimension ∙ z))

          pub in_count : (length b.marks ≡ n → ⊥) → Checked w caps (λ m. insert_checks m c b) (Err CountWrong)
          unfolding insert_checks ◌when◌ answer verdict_says refused
          in_count ne = record
              { says = λ m e wf. rw (below m e, dead m e wf, known, ne_eqb (length b.marks) (shape b.code).marks (λ q. ne (q ∙ sym count))) }

          module _ (size : length b.marks ≡ n) where
            right : eqb (length b.marks) (shape b.code).marks ≡ true
            right = eq-eqb (length b.marks) (shape b.code).marks (size ∙ count)

            pub in_mark : any (leb caps.marks) b.marks ≡ true → Checked w caps (λ m. insert_checks m c b) (Err MarkOutside)
            unfolding insert_checks ◌when◌ answer verdict_says refused
            in_mark q = record { says = λ m e wf. rw (below m e, dead m e wf, known, right, marks_of_lem caps m e, q) }

            module _ (inside : any (leb caps.marks) b.marks ≡ false) where
              within : (m : Map) → m.caps ≡ caps → any (leb m.caps.marks) b.marks ≡ false
              within m e = rw (marks_of_lem caps m e) inside

              pub in_twice : repeats b.marks ≡ true → Checked w caps (λ m. insert_checks m c b) (Err MarkTwice)
              unfolding insert_checks ◌when◌ answer verdict_says refused
              in_twice q = record { says = λ m e wf. rw (below m e, dead m e wf, known, right, within m e, q) }

              module _ (once : repeats b.marks ≡ false) (r : Bool) (same : Same w caps b.code b.marks r) where
                other : (m : Map) → m.caps ≡ caps → Wf w m → r ≡ any (λ k. same_set (m.at k).marks b.marks) (cells_of m b.code)
                other m e wf =
                    same.tells m e wf (omega (arith, positive)) (size ∙ count)
                    (leb-false caps.marks (get_or b.marks 0 0) (none_has (leb caps.marks) b.marks inside (get_or b.marks 0 0) (at_has b.marks 0 first)))
                  where
                    positive : 0 < (shape b.code).dimension
                    positive = omega (arith, some)

                    first : 0 < length b.marks
                    first = omega (arith, type_marks b.code positive)

                pub in_same : r ≡ true → Checked w caps (λ m. insert_checks m c b) (Err CellSame)
                unfolding insert_checks ◌when◌ answer verdict_says refused
                in_same q = record { says = λ m e wf. rw (below m e, dead m e wf, known, right, within m e, once, ← other m e wf, q) }

                module _ (new : r ≡ false) (t : Bool) (solids : Tells w caps (Known caps b.code b.marks) (λ m. third m b) t) where
                  faces : (m : Map) → m.caps ≡ caps → Wf w m → t ≡ third m b
                  faces m e wf = solids.tells m e wf (record { count = size ∙ count; inside = inside })

                  pub in_third : t ≡ true → Checked w caps (λ m. insert_checks m c b) (Err FaceFull)
                  unfolding insert_checks ◌when◌ answer verdict_says refused
                  in_third q = record
                      { says = λ m e wf. rw (below m e, dead m e wf, known, right, within m e, once, ← other m e wf, new, ← faces m e wf, q) }

                  module _ (sole : t ≡ false) (f : Bool) (full : f ≡ any (full_in w caps) b.marks) where
                    counts : (m : Map) → m.caps ≡ caps → Wf w m → f ≡ any (λ v. leb most_around (length (holders m v))) b.marks
                    unfolding full_in
                    counts m e wf =
                        full
                        ∙ any_same (full_in w caps) (λ v. leb most_around (length (holders m v))) b.marks
                        (λ v q.
                        let low : v < caps.marks = leb-false caps.marks v (none_has (leb caps.marks) b.marks inside v q) in
                        ap (leb most_around)
                        (count_word w caps (state_of m) (wf_pic w caps m e wf) v low
                        ∙ ap length (chain_holders caps (state_of m) (wf_settled w caps m e wf).ready v ∙ ap (λ (k : Map). holders k v) (wf_map w caps m e wf))))

                    pub in_full : f ≡ true → Checked w caps (λ m. insert_checks m c b) (Err MarkFull)
                    unfolding insert_checks ◌when◌ answer verdict_says refused
                    in_full q = record
                        { says = λ m e wf. rw (below m e, dead m e wf, known, right, within m e, once, ← other m e wf, new, ← faces m e wf, sole, ← counts m e wf, q) }

                    pub in_good : f ≡ false → Checked w caps (λ m. insert_checks m c b) (Ok tt)
                    unfolding insert_checks ◌when◌ answer verdict_says given
                    in_good q = record
                        { says = λ m e wf. rw (below m e, dead m e wf, known, right, within m e, once, ← other m e wf, new, ← faces m e wf, sole, ← counts m e wf, q) }
