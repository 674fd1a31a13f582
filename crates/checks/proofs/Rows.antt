-- Each row of checks, check by check.
use mathlib.Core.Path.{◌≡◌, sym, ap, ◌∙◌}
use mathlib.Core.Bool.{true, false}
use mathlib.Core.List.{List}
use Prim.Native.Nat.{ℕ, ◌<◌, ◌≤◌}
use native.Mathlib.Omega.{arith}
use borrow.Author.Tests.{le-leb, lt-leb, lt-ltb, le-ltb, eq-eqb, ne_eqb}
use lib.Dec.{leb}
use lib.ListN.{length}
use Rattle.lists.specs.Lists.{any, repeats}
use Rattle.words.specs.Words.{part_of}
use Rattle.shapes.specs.Shapes.{shape, facet_count}
use Rattle.shapes.specs.Sizes.{most_corners}
use Rattle.shapes.proofs.Facts.{facts}
use Rattle.numbers.specs.declared.Caps.{Caps}
use Rattle.store.specs.Slots.{code_in, licence_in, marks_at}
use Rattle.map.specs.Cells.{Map, live}
use Rattle.map.specs.Answers.{◌when◌, answer, cell_checks, half_checks, star_checks, set_checks, type_checks}
use Rattle.map.specs.Says.{given, refused, verdict_says}
use Rattle.map.specs.declared.Refusal.TheVariants.{CellOutside, CellNotLive, TypeUnknown, CountWrong, MarkOutside, MarkTwice, FacetOutside}
use Rattle.std.specs.Prelude.{Ok, Err}
use Rattle.picture.specs.State.{state_of}
use Rattle.picture.specs.Picture.{Wf}
use Rattle.picture.proofs.Record.{code_read, licence_read, marks_read}
use Rattle.picture.proofs.Settles.{wf_pic}
use Rattle.checks.specs.Checked.{Checked}

module _ (caps : Caps) (m : Map) (e : m.caps ≡ caps) where
  pub marks_of_lem : m.caps.marks ≡ caps.marks
  marks_of_lem = ap (λ (c : Caps). c.marks) e

  pub cells_of_lem : m.caps.cells ≡ caps.cells
  cells_of_lem = ap (λ (c : Caps). c.cells) e

  -- the type that a record gives
  pub code_of : (w : List ℕ) → Wf w m → (c : ℕ) → c < caps.cells → code_in w caps c ≡ (m.at c).code
  unfolding state_of
  code_of w wf c h = code_read w caps (state_of m) (wf_pic w caps m e wf) c h

  -- the licence
  pub licence_of : (w : List ℕ) → Wf w m → (c : ℕ) → c < caps.cells → licence_in w caps c ≡ (m.at c).licence
  unfolding state_of
  licence_of w wf c h = licence_read w caps (state_of m) (wf_pic w caps m e wf) c h

  -- and the marks, as many as that type has
  pub marks_in_lem : (w : List ℕ) → Wf w m → (c : ℕ) → c < caps.cells
      → part_of w (marks_at caps c (shape (code_in w caps c)).marks) (shape (code_in w caps c)).marks ≡ (m.at c).marks
  unfolding state_of
  marks_in_lem w wf c h =
      let size : (shape (code_in w caps c)).marks ≡ length (m.at c).marks = ap (λ (t : ℕ). (shape t).marks) (code_of w wf c h) ∙ sym (wf.sound.fitting c) in
      ap (λ (n : ℕ). part_of w (marks_at caps c n) n) size
      ∙ marks_read w caps (state_of m) (wf_pic w caps m e wf) c h (omega (arith, wf.sound.fitting c, (facts (m.at c).code).marks))

module _ (w : List ℕ) (caps : Caps) (c : ℕ) where
  pub cell_outside : caps.cells ≤ c → Checked w caps (λ m. cell_checks m c) (Err CellOutside)
  unfolding cell_checks ◌when◌ answer verdict_says refused
  cell_outside h = record { says = λ m e wf. rw (le-leb m.caps.cells c (omega (arith, cells_of_lem caps m e))) }

  module _ (h : c < caps.cells) (t : ℕ) (word : t ≡ code_in w caps c) where
    code : (m : Map) → m.caps ≡ caps → Wf w m → (m.at c).code ≡ t
    code m e wf = sym (code_of caps m e w wf c h) ∙ sym word

    alive : (m : Map) → m.caps ≡ caps → Wf w m → (t ≡ 0 → ⊥) → live m c ≡ true
    unfolding live
    alive m e wf ne = rw (ne_eqb (m.at c).code 0 (λ z. ne (sym (code m e wf) ∙ z)))

    dead : (m : Map) → m.caps ≡ caps → Wf w m → t ≡ 0 → live m c ≡ false
    unfolding live
    dead m e wf z = rw (eq-eqb (m.at c).code 0 (code m e wf ∙ z))

    below : (m : Map) → m.caps ≡ caps → leb m.caps.cells c ≡ false
    below m e = lt-leb m.caps.cells c (omega (arith, cells_of_lem caps m e))

    pub cell_dead : t ≡ 0 → Checked w caps (λ m. cell_checks m c) (Err CellNotLive)
    unfolding cell_checks ◌when◌ answer verdict_says refused
    cell_dead z = record { says = λ m e wf. rw (below m e, dead m e wf z) }

    pub cell_live : (t ≡ 0 → ⊥) → Checked w caps (λ m. cell_checks m c) (Ok tt)
    unfolding cell_checks ◌when◌ answer verdict_says given
    cell_live ne = record { says = λ m e wf. rw (below m e, alive m e wf ne) }

    module _ (f n : ℕ) (count : n ≡ facet_count t) where
      pub half_dead : t ≡ 0 → Checked w caps (λ m. half_checks m c f) (Err CellNotLive)
      unfolding half_checks cell_checks ◌when◌ answer verdict_says refused
      half_dead z = record { says = λ m e wf. rw (below m e, dead m e wf z) }

      pub half_facet : (t ≡ 0 → ⊥) → n ≤ f → Checked w caps (λ m. half_checks m c f) (Err FacetOutside)
      unfolding half_checks cell_checks ◌when◌ answer verdict_says refused
      half_facet ne less = record
          { says = λ m e wf. rw (below m e, alive m e wf ne, code m e wf, le-leb (facet_count t) f (omega arith)) }

      pub half_live : (t ≡ 0 → ⊥) → f < n → Checked w caps (λ m. half_checks m c f) (Ok tt)
      unfolding half_checks cell_checks ◌when◌ answer verdict_says given
      half_live ne less = record
          { says = λ m e wf. rw (below m e, alive m e wf ne, code m e wf, lt-leb (facet_count t) f (omega arith)) }

  pub half_outside : (f : ℕ) → caps.cells ≤ c → Checked w caps (λ m. half_checks m c f) (Err CellOutside)
  unfolding half_checks cell_checks ◌when◌ answer verdict_says refused
  half_outside f h = record { says = λ m e wf. rw (le-leb m.caps.cells c (omega (arith, cells_of_lem caps m e))) }

module _ (w : List ℕ) (caps : Caps) (d v : ℕ) where
  pub star_low : d < 1 → Checked w caps (λ m. star_checks m d v) (Err TypeUnknown)
  unfolding star_checks ◌when◌ answer verdict_says refused
  star_low h = record { says = λ m e wf. rw (lt-ltb d 1 h) }

  module _ (low : 1 ≤ d) where
    pub star_high : 3 < d → Checked w caps (λ m. star_checks m d v) (Err TypeUnknown)
    unfolding star_checks ◌when◌ answer verdict_says refused
    star_high h = record { says = λ m e wf. rw (le-ltb d 1 low, lt-ltb 3 d h) }

    module _ (high : d ≤ 3) where
      pub star_mark : caps.marks ≤ v → Checked w caps (λ m. star_checks m d v) (Err MarkOutside)
      unfolding star_checks ◌when◌ answer verdict_says refused
      star_mark h = record { says = λ m e wf. rw (le-ltb d 1 low, le-ltb 3 d high, le-leb m.caps.marks v (omega (arith, marks_of_lem caps m e))) }

      pub star_good : v < caps.marks → Checked w caps (λ m. star_checks m d v) (Ok tt)
      unfolding star_checks ◌when◌ answer verdict_says given
      star_good h = record { says = λ m e wf. rw (le-ltb d 1 low, le-ltb 3 d high, lt-leb m.caps.marks v (omega (arith, marks_of_lem caps m e))) }

module _ (w : List ℕ) (caps : Caps) (t n : ℕ) (kind : n ≡ (shape t).dimension) where
  pub type_none : n ≡ 0 → Checked w caps (λ m. type_checks t) (Err TypeUnknown)
  unfolding type_checks ◌when◌ answer verdict_says refused
  type_none z = record { says = λ m e wf. rw (eq-eqb (shape t).dimension 0 (sym kind ∙ z)) }

  pub type_good : (n ≡ 0 → ⊥) → Checked w caps (λ m. type_checks t) (Ok tt)
  unfolding type_checks ◌when◌ answer verdict_says given
  type_good ne = record { says = λ m e wf. rw (ne_eqb (shape t).dimension 0 (λ z. ne (kind ∙ z))) }

module _ (w : List ℕ) (caps : Caps) (set : List ℕ) where
  pub set_none : length set < 1 → Checked w caps (λ m. set_checks m set) (Err CountWrong)
  unfolding set_checks ◌when◌ answer verdict_says refused
  set_none h = record { says = λ m e wf. rw (lt-ltb (length set) 1 h) }

  module _ (some : 1 ≤ length set) where
    pub set_many : most_corners < length set → Checked w caps (λ m. set_checks m set) (Err CountWrong)
    unfolding set_checks ◌when◌ answer verdict_says refused
    set_many h = record { says = λ m e wf. rw (le-ltb (length set) 1 some, lt-ltb most_corners (length set) h) }

    module _ (few : length set ≤ most_corners) where
      pub set_outside : any (leb caps.marks) set ≡ true → Checked w caps (λ m. set_checks m set) (Err MarkOutside)
      unfolding set_checks ◌when◌ answer verdict_says refused
      set_outside h = record { says = λ m e wf. rw (le-ltb (length set) 1 some, le-ltb most_corners (length set) few, marks_of_lem caps m e, h) }

      module _ (inside : any (leb caps.marks) set ≡ false) where
        pub set_twice : repeats set ≡ true → Checked w caps (λ m. set_checks m set) (Err MarkTwice)
        unfolding set_checks ◌when◌ answer verdict_says refused
        set_twice h = record { says = λ m e wf. rw (le-ltb (length set) 1 some, le-ltb most_corners (length set) few, marks_of_lem caps m e, inside, h) }

        pub set_good : repeats set ≡ false → Checked w caps (λ m. set_checks m set) (Ok tt)
        unfolding set_checks ◌when◌ answer verdict_says given
        set_good h = record { says = λ m e wf. rw (le-ltb (length set) 1 some, le-ltb most_corners (length set) few, marks_of_lem caps m e, inside, h) }
