-- What an accepting verdict tells.
use mathlib.Core.Path.{◌≡◌, refl, sym, ap, ◌∙◌}
use mathlib.Core.Bool.{true, false, not, ◌&&◌, ◌||◌}
use mathlib.Core.List.{List}
use Prim.Native.Nat.{ℕ, ◌<◌, ◌≤◌}
use borrow.Author.Tests.{leb-false, ltb-false, not-true, not-false, eqb-false}
use lib.Dec.{leb, ltb, eqb}
use lib.ListN.{get_or, length}
use Rattle.lists.specs.Lists.{any, all, repeats}
use Rattle.lists.proofs.Members.{at_has}
use Rattle.lists.proofs.Bools.{and_left, and_right}
use Rattle.lists.proofs.Counts.{neither, none_has}
use Rattle.shapes.specs.Shapes.{shape, facet_count}
use Rattle.shapes.specs.Sizes.{most_corners}
use Rattle.numbers.specs.declared.Caps.{Caps}
use Rattle.map.specs.Cells.{Map, live}
use Rattle.map.specs.Answers.{Check, ◌when◌, cell_checks, half_checks, star_checks, set_checks, type_checks}
use Rattle.map.specs.Says.{verdict_says}
use Rattle.map.specs.declared.Refusal.{Refusal}
use Rattle.std.specs.Prelude.{Result, ⊤, Ok}
use Rattle.picture.specs.Picture.{Wf}
use Rattle.checks.specs.Checked.{Checked}
use Rattle.checks.proofs.Values.{Numbered, all_pass}

-- the rows are numbered
pub cell_numbered : (m : Map) (c : ℕ) → Numbered (cell_checks m c)
unfolding cell_checks ◌when◌ all
cell_numbered m c = refl

pub half_numbered : (m : Map) (c f : ℕ) → Numbered (half_checks m c f)
unfolding half_checks cell_checks ◌when◌ all
half_numbered m c f = refl

pub star_numbered : (m : Map) (d v : ℕ) → Numbered (star_checks m d v)
unfolding star_checks ◌when◌ all
star_numbered m d v = refl

pub type_numbered : (t : ℕ) → Numbered (type_checks t)
unfolding type_checks ◌when◌ all
type_numbered t = refl

pub set_numbered : (m : Map) (set : List ℕ) → Numbered (set_checks m set)
unfolding set_checks ◌when◌ all
set_numbered m set = refl

accepted : (w : List ℕ) (caps : Caps) (checks : Map → List Check) (r : Result ⊤ Refusal) → Checked w caps checks r → r ≡ (Ok tt)
    → (m : Map) → m.caps ≡ caps → Wf w m → Numbered (checks m) → all (λ (c : Check). not c.fails) (checks m) ≡ true
unfolding verdict_says
accepted w caps checks r k v m e wf n = all_pass (checks m) n (ap verdict_says (sym v) ∙ k.says m e wf)

module _ (w : List ℕ) (caps : Caps) (r : Result ⊤ Refusal) (v : r ≡ (Ok tt)) (m : Map) (e : m.caps ≡ caps) (wf : Wf w m) where
  pub cell_passed : (c : ℕ) → Checked w caps (λ m. cell_checks m c) r → (c < m.caps.cells) × (live m c ≡ true)
  unfolding cell_checks ◌when◌ all
  cell_passed c k =
      let p = accepted w caps (λ m. cell_checks m c) r k v m e wf (cell_numbered m c) in (
        leb-false m.caps.cells c (not-true (leb m.caps.cells c) (and_left (not (leb m.caps.cells c)) (not (not (live m c)) && true) p)),
        not-false (live m c) (not-true (not (live m c)) (and_left (not (not (live m c))) true (and_right (not (leb m.caps.cells c)) (not (not (live m c)) && true) p))),
      )

  pub half_passed : (c f : ℕ) → Checked w caps (λ m. half_checks m c f) r
      → (c < m.caps.cells) × (live m c ≡ true) × (f < facet_count (m.at c).code)
  unfolding half_checks cell_checks ◌when◌ all
  half_passed c f k =
      let p = accepted w caps (λ m. half_checks m c f) r k v m e wf (half_numbered m c f) in
      let q = and_right (not (leb m.caps.cells c)) (not (not (live m c)) && (not (leb (facet_count (m.at c).code) f) && true)) p in
      let l = and_right (not (not (live m c))) (not (leb (facet_count (m.at c).code) f) && true) q in (
        leb-false m.caps.cells c (not-true (leb m.caps.cells c) (and_left (not (leb m.caps.cells c)) (not (not (live m c)) && (not (leb (facet_count (m.at c).code) f) && true)) p)),
        not-false (live m c) (not-true (not (live m c)) (and_left (not (not (live m c))) (not (leb (facet_count (m.at c).code) f) && true) q)),
        leb-false (facet_count (m.at c).code) f (not-true (leb (facet_count (m.at c).code) f) (and_left (not (leb (facet_count (m.at c).code) f)) true l)),
      )

  pub star_passed : (d u : ℕ) → Checked w caps (λ m. star_checks m d u) r → (1 ≤ d) × (d ≤ 3) × (u < m.caps.marks)
  unfolding star_checks ◌when◌ all
  star_passed d u k =
      let p = accepted w caps (λ m. star_checks m d u) r k v m e wf (star_numbered m d u) in
      let b = neither (ltb d 1) (ltb 3 d) (not-true (ltb d 1 || ltb 3 d) (and_left (not (ltb d 1 || ltb 3 d)) (not (leb m.caps.marks u) && true) p)) in
      let q = and_right (not (ltb d 1 || ltb 3 d)) (not (leb m.caps.marks u) && true) p in (
        ltb-false d 1 b.0,
        ltb-false 3 d b.1,
        leb-false m.caps.marks u (not-true (leb m.caps.marks u) (and_left (not (leb m.caps.marks u)) true q)),
      )

  pub type_passed : (t : ℕ) → Checked w caps (λ m. type_checks t) r → (shape t).dimension ≡ 0 → ⊥
  unfolding type_checks ◌when◌ all
  type_passed t k =
      let p = accepted w caps (λ m. type_checks t) r k v m e wf (type_numbered t) in
      eqb-false (shape t).dimension 0 (not-true (eqb (shape t).dimension 0) (and_left (not (eqb (shape t).dimension 0)) true p))

  -- the set has a first mark, and it is of the mesh
  pub set_passed : (set : List ℕ) → Checked w caps (λ m. set_checks m set) r → (0 < length set) × (get_or set 0 0 < m.caps.marks)
  unfolding set_checks ◌when◌ all
  set_passed set k =
      let p = accepted w caps (λ m. set_checks m set) r k v m e wf (set_numbered m set) in
      let b = neither (ltb (length set) 1) (ltb most_corners (length set)) (not-true (ltb (length set) 1 || ltb most_corners (length set))
      (and_left (not (ltb (length set) 1 || ltb most_corners (length set))) (not (any (leb m.caps.marks) set) && (not (repeats set) && true)) p)) in
      let some : 0 < length set = ltb-false (length set) 1 b.0 in
      let q = and_right (not (ltb (length set) 1 || ltb most_corners (length set))) (not (any (leb m.caps.marks) set) && (not (repeats set) && true)) p in
      let inside : any (leb m.caps.marks) set ≡ false = not-true (any (leb m.caps.marks) set) (and_left (not (any (leb m.caps.marks) set)) (not (repeats set) && true) q) in
      (some, leb-false m.caps.marks (get_or set 0 0) (none_has (leb m.caps.marks) set inside (get_or set 0 0) (at_has set 0 some)))
