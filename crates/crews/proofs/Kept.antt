-- An edit gets the same answer before and after an accepted one of another crew: each of its checks comes out the same, in the listed order.
use mathlib.Core.Path.{◌≡◌, refl, sym, ap, ap₂, ◌∙◌}
use mathlib.Core.Bool.{Bool, true, false, cond, ◌&&◌}
use mathlib.Core.List.{List, []}
use mathlib.Core.Logic.{◌⊎◌, inl, inr}
use Prim.Native.Nat.{ℕ, ◌<◌}
use native.Mathlib.Omega.{arith}
use borrow.Author.Tests.{eqb-true, eqb-false}
use lib.Dec.{eqb, leb}
use lib.ListN.{length, get_or}
use Rattle.lists.specs.Lists.{has, any, same_set}
use Rattle.lists.proofs.Bools.{clash, either, same_test}
use Rattle.lists.proofs.Members.{any_at, at_any, any_has, has_any, at_has}
use Rattle.lists.proofs.Sets.{same_has}
use Rattle.lists.proofs.Select.{select_in, select_out}
use Rattle.lists.proofs.Alike.{any_same}
use Rattle.numbers.specs.Sizes.{most_around}
use Rattle.numbers.specs.Editions.{second_edition}
use Rattle.numbers.specs.declared.Caps.{Caps}
use Rattle.shapes.specs.Shapes.{shape}
use Rattle.shapes.proofs.Types.{type_marks}
use Rattle.map.specs.Cells.{Body, Map, live, sets_of, facets_at, cells_of}
use Rattle.map.specs.Siblings.{sharers}
use Rattle.map.specs.Stars.{holders}
use Rattle.map.specs.Answers.{◌when◌, answer, third, insert_checks, cell_checks}
use Rattle.map.specs.History.{Edit, Insert, Remove, cell_of, edit_body, edit_answer, changed}
use Rattle.map.specs.Sound.{Sound}
use Rattle.laws.proofs.Facets.{facet_some}
use Rattle.laws.proofs.Local.{Apart, Free, apart_back, facets_inside, holders_free, sharers_free, apart_changed}
use Rattle.laws.proofs.FreeChanged.{free_changed}
use Rattle.laws.proofs.Solids.{part}
use Rattle.crews.specs.Crews.{crew_marks, TwoCrews}

-- the cell under c is free of every mark of x, in both maps
abbrev FreeOf : Map → Map → ℕ → Body → Type 0
FreeOf m m' c x = (v : ℕ) → has v x.marks ≡ true → Free m m' c v

module _ (m m' : Map) (c : ℕ) (a : Apart m m' c) where
  -- 4 and 5: another number is live as before
  live_kept : (k : ℕ) → (k ≡ c → ⊥) → live m' k ≡ live m k
  unfolding live
  live_kept k n = rw (a.other k n)

  -- 3 and 5: the checks of a removal
  removal_kept : (k : ℕ) → (k ≡ c → ⊥) → edit_answer m' (Remove k) ≡ edit_answer m (Remove k)
  unfolding edit_answer cell_checks
  removal_kept k n = rw (live_kept k n, a.caps)

  module _ (x : Body) (free : FreeOf m m' c x) where
    -- a cell of the same set of marks is another one: this one holds none of them, and a cell of a type holds some mark
    other_set : 0 < (shape x.code).dimension → (k : ℕ) → (m.at k).code ≡ x.code → same_set (m.at k).marks x.marks ≡ true → k ≡ c → ⊥
    other_set typed k code same z =
        let some : 0 < length (m.at k).marks = omega (arith, a.fitting k, ap (λ (t : ℕ). (shape t).marks) code, type_marks x.code typed) in
        let v : ℕ = get_or (m.at k).marks 0 0 in
        let here : has v (m.at k).marks ≡ true = at_has (m.at k).marks 0 some in
        let its : has v x.marks ≡ true = sym (same_has (m.at k).marks x.marks same v) ∙ here in
        clash (rw z at here) (rw z at (free v its).0)

    -- so one that is there in one map is there in the other
    same_there : 0 < (shape x.code).dimension → any (λ k. same_set (m.at k).marks x.marks) (cells_of m x.code) ≡ true
        → any (λ k. same_set (m'.at k).marks x.marks) (cells_of m' x.code) ≡ true
    unfolding cells_of
    same_there typed e =
        let r = any_has (λ k. same_set (m.at k).marks x.marks) (cells_of m x.code) e in
        let s = select_out (λ k. eqb (m.at k).code x.code) m.caps.cells r.0 r.1 in
        let kept : m'.at r.0 ≡ m.at r.0 = a.other r.0 (other_set typed r.0 (eqb-true _ _ s.1) r.2) in
        has_any (λ k. same_set (m'.at k).marks x.marks) (cells_of m' x.code) r.0
        (select_in (λ k. eqb (m'.at k).code x.code) m'.caps.cells r.0 (rw a.caps s.0) (rw kept s.1)) (rw kept r.2)

    -- a face of x has the same sharers: it has a mark, which is one of x
    face_kept : length x.marks ≡ (shape x.code).marks → (f : ℕ) → f < length (sets_of x.code x.marks)
        → sharers m' (get_or (sets_of x.code x.marks) f []) ≡ sharers m (get_or (sets_of x.code x.marks) f [])
    unfolding facets_at
    face_kept fit f l =
        let alone : Map = part m (λ k. x) in
        let face : List ℕ = get_or (sets_of x.code x.marks) f [] in
        let v : ℕ = get_or face 0 0 in
        let here : has v face ≡ true = at_has face 0 (facet_some alone 0 f l) in
        sharers_free m m' c a v (free v (facets_inside alone 0 fit f v here)) face here

    -- 11: each of its marks stands in the same cells
    full_kept : any (λ v. leb most_around (length (holders m' v))) x.marks ≡ any (λ v. leb most_around (length (holders m v))) x.marks
    full_kept = any_same _ _ x.marks (λ v h. ap (λ (l : List ℕ). leb most_around (length l)) (holders_free m m' c a v (free v h)))

module _ (m m' : Map) (c : ℕ) (a : Apart m m' c) (x : Body) (free : FreeOf m m' c x) where
  back : FreeOf m' m c x
  back v h = let f = free v h in (f.1, f.0)

  -- 10: a cell of that type has the same set of marks as before
  same_kept : 0 < (shape x.code).dimension
      → any (λ k. same_set (m'.at k).marks x.marks) (cells_of m' x.code) ≡ any (λ k. same_set (m.at k).marks x.marks) (cells_of m x.code)
  same_kept typed = same_test _ _ (same_there m' m c (apart_back m m' c a) x back typed) (same_there m m' c a x free typed)

  -- 19: a face of it has two solids as before
  third_kept : length x.marks ≡ (shape x.code).marks → third m' x ≡ third m x
  unfolding third
  third_kept fit =
      ap₂ (λ (n : ℕ) (t : Bool). eqb n second_edition && (eqb (shape x.code).dimension 3 && t)) (ap (λ (caps : Caps). caps.edition) a.caps)
      (same_test (any (two m') faces) (any (two m) faces)
      (λ e. let k = any_at (two m') faces [] e in at_any (two m) faces [] k.0 k.1 (sym (count k.0 k.1) ∙ k.2))
      (λ e. let k = any_at (two m) faces [] e in at_any (two m') faces [] k.0 k.1 (count k.0 k.1 ∙ k.2)))
    where
      faces : List (List ℕ)
      faces = sets_of x.code x.marks

      two : Map → List ℕ → Bool
      two n face = leb 2 (length (sharers n face))

      count : (f : ℕ) → f < length faces → two m' (get_or faces f []) ≡ two m (get_or faces f [])
      count f l = ap (λ (l : List ℕ). leb 2 (length l)) (face_kept m m' c a x free fit f l)

  -- the checks of an insertion: 10 and 19 are looked at only where 6 and 7 have passed
  insertion_kept : (k : ℕ) → (k ≡ c → ⊥) → edit_answer m' (Insert k x) ≡ edit_answer m (Insert k x)
  unfolding edit_answer insert_checks ◌when◌ answer
  insertion_kept k n = go (either (eqb (shape x.code).dimension 0)) (either (eqb (length x.marks) (shape x.code).marks))
    where
      go : (eqb (shape x.code).dimension 0 ≡ true) ⊎ (eqb (shape x.code).dimension 0 ≡ false)
          → (eqb (length x.marks) (shape x.code).marks ≡ true) ⊎ (eqb (length x.marks) (shape x.code).marks ≡ false)
          → edit_answer m' (Insert k x) ≡ edit_answer m (Insert k x)
      go (inl e) f = rw (live_kept m m' c a k n, e, a.caps)
      go (inr e) (inr f) = rw (live_kept m m' c a k n, e, f, a.caps)
      go (inr e) (inl f) =
          let typed : 0 < (shape x.code).dimension = omega (arith, eqb-false (shape x.code).dimension 0 e) in
          rw (live_kept m m' c a k n, same_kept typed, third_kept (eqb-true (length x.marks) (shape x.code).marks f), full_kept m m' c a x free, a.caps)

module _ (m : Map) (s : Sound m) where
  -- the marks of an accepted edit are those of the cell that it puts or takes
  accepted_marks : (e : Edit) → (edit_answer m e).refusal ≡ 0 → crew_marks m e ≡ (edit_body m e).marks
  unfolding crew_marks
  accepted_marks (Insert c x) ok = refl
  accepted_marks (Remove c) ok = ap (λ (n : ℕ). cond (eqb n 0) (m.at c).marks []) ok

  -- an edit is answered alike before and after an accepted one of the other crew
  pub changed_kept : (a b : Edit) → TwoCrews m a b → (edit_answer m b).refusal ≡ 0 → edit_answer (changed m b) a ≡ edit_answer m a
  unfolding crew_marks
  changed_kept (Insert c x) b crews ok =
      insertion_kept m (changed m b) (cell_of b) (apart_changed m s b ok) x
      (λ v h. free_changed m s b ok v (rw (accepted_marks b ok) at (crews.marks v h))) c crews.numbers
  changed_kept (Remove c) b crews ok = removal_kept m (changed m b) (cell_of b) (apart_changed m s b ok) c crews.numbers
