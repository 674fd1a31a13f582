-- The table of words and the table of fields are inverse: one test, computed.
use mathlib.Core.Path.{◌≡◌, refl, sym}
use mathlib.Core.Logic.{⊎_elim}
use Prim.Native.Nat.{ℕ, zero, suc, ◌+◌, ◌<◌, ◌≤◌}
use native.Mathlib.Nat.{not-suc-le-zero, eq-or-lt_of_le}
use native.Mathlib.Omega.{arith}
use mathlib.Core.Path.{subst}
use Rattle.store.specs.Fields.{HeadField, Magic, MarkCap, CellCap, Edition, Count, HeadRest, MarkField, First, Held, Anchor, MarkRest, CellField, Code, Licence, Near, Sib, Link, Far, CellRest, Place, InNear, InFar, head_place, head_fields, head_field, mark_place, mark_fields, mark_field, cell_place, near_fields, far_fields, cell_field, HeadFits, MarkFits, PlaceFits, CellFits}
use Rattle.shapes.specs.Sizes.{most_code, most_facets, most_marks}
use Rattle.store.specs.Layout.{mark_words, near_marks}

-- what holds of each number below n
Below : (ℕ → Type 0) → ℕ → Type 0
Below P zero = 0 ≤ 0
Below P (suc n) = Below P n × P n

below : (P : ℕ → Type 0) (n : ℕ) → Below P n → (k : ℕ) → k < n → P k
unfolding Below
below P zero b k h = absurd (not-suc-le-zero h)
below P (suc n) b k h =
    ⊎_elim (λ (z : k ≡ n). subst P (sym z) b.1) (λ (l : k < n). below P n b.0 k l) (eq-or-lt_of_le {n = k} {m = n} (omega arith))

none : 0 ≤ 0
none = omega arith

-- the head: each word is a field that stands there, and each field stands at its word
head_places : Below (λ k. head_place (head_field k) ≡ k) 16
unfolding Below head_place head_field head_fields
head_places = ((((((((((((((((none, refl), refl), refl), refl), refl), refl), refl), refl), refl), refl), refl), refl), refl), refl), refl), refl)

head_fits : Below (λ k. HeadFits (head_field k)) 16
unfolding Below head_field head_fields
head_fits = ((((((((((((((((none, omega arith), omega arith), omega arith), omega arith), (omega arith, refl)), (omega arith, omega arith)), (omega arith, omega arith)), (omega arith, omega arith)), (omega arith, omega arith)), (omega arith, omega arith)), (omega arith, omega arith)), (omega arith, omega arith)), (omega arith, refl)), (omega arith, refl)), (omega arith, refl)), (omega arith, refl))

pub head_of : (k : ℕ) → k < 16 → (head_place (head_field k) ≡ k) × HeadFits (head_field k)
head_of k h = (below (λ k. head_place (head_field k) ≡ k) 16 head_places k h, below (λ k. HeadFits (head_field k)) 16 head_fits k h)

head_counts : Below (λ t. head_field (4 + suc t) ≡ Count (suc t)) most_code
unfolding Below head_field head_fields
head_counts = (((((((none, refl), refl), refl), refl), refl), refl), refl)

pub head_at : (f : HeadField) → HeadFits f → (head_place f < 16) × (head_field (head_place f) ≡ f)
unfolding head_place head_field head_fields
head_at Magic h = (omega arith, refl)
head_at MarkCap h = (omega arith, refl)
head_at CellCap h = (omega arith, refl)
head_at Edition h = (omega arith, refl)
head_at (Count zero) h = absurd (omega arith)
head_at (Count (suc t)) h = (omega arith, below (λ t. head_field (4 + suc t) ≡ Count (suc t)) most_code head_counts t (omega arith))
head_at (HeadRest k) h = h

-- a mark's record
mark_places : Below (λ k. mark_place (mark_field k) ≡ k) mark_words
unfolding Below mark_place mark_field mark_fields
mark_places = ((((((((none, refl), refl), refl), refl), refl), refl), refl), refl)

mark_fits : Below (λ k. MarkFits (mark_field k)) mark_words
unfolding Below mark_field mark_fields
mark_fits = ((((((((none, omega arith), omega arith), (omega arith, omega arith)), (omega arith, omega arith)), (omega arith, omega arith)), (omega arith, refl)), (omega arith, refl)), (omega arith, refl))

pub mark_of : (k : ℕ) → k < mark_words → (mark_place (mark_field k) ≡ k) × MarkFits (mark_field k)
mark_of k h = (below (λ k. mark_place (mark_field k) ≡ k) mark_words mark_places k h, below (λ k. MarkFits (mark_field k)) mark_words mark_fits k h)

mark_anchors : Below (λ d. mark_field (1 + suc d) ≡ Anchor (suc d)) 3
unfolding Below mark_field mark_fields
mark_anchors = (((none, refl), refl), refl)

pub mark_at_lem : (f : MarkField) → MarkFits f → (mark_place f < mark_words) × (mark_field (mark_place f) ≡ f)
unfolding mark_place mark_field mark_fields
mark_at_lem First h = (omega arith, refl)
mark_at_lem Held h = (omega arith, refl)
mark_at_lem (Anchor zero) h = absurd (omega arith)
mark_at_lem (Anchor (suc d)) h = (omega arith, below (λ d. mark_field (1 + suc d) ≡ Anchor (suc d)) 3 mark_anchors d (omega arith))
mark_at_lem (MarkRest k) h = h

-- a cell's record, in its two parts
near_places : Below (λ k. cell_place (cell_field (InNear k)) ≡ InNear k) 16
unfolding Below cell_place cell_field near_fields
near_places = ((((((((((((((((none, refl), refl), refl), refl), refl), refl), refl), refl), refl), refl), refl), refl), refl), refl), refl), refl)

near_fits : Below (λ k. CellFits (cell_field (InNear k))) 16
unfolding Below cell_field near_fields
near_fits = ((((((((((((((((none, omega arith), omega arith), omega arith), omega arith), omega arith), omega arith), omega arith), omega arith), omega arith), omega arith), omega arith), omega arith), omega arith), omega arith), omega arith), omega arith)

far_places : Below (λ k. cell_place (cell_field (InFar k)) ≡ InFar k) 16
unfolding Below cell_place cell_field far_fields
far_places = ((((((((((((((((none, refl), refl), refl), refl), refl), refl), refl), refl), refl), refl), refl), refl), refl), refl), refl), refl)

far_fits : Below (λ k. CellFits (cell_field (InFar k))) 16
unfolding Below cell_field far_fields
far_fits = ((((((((((((((((none, omega arith), omega arith), omega arith), omega arith), omega arith), omega arith), omega arith), omega arith), omega arith), omega arith), omega arith), omega arith), (omega arith, refl)), (omega arith, refl)), (omega arith, refl)), (omega arith, refl))

pub cell_of_lem : (p : Place) → PlaceFits p → (cell_place (cell_field p) ≡ p) × CellFits (cell_field p)
cell_of_lem (InNear k) h = (
  below (λ k. cell_place (cell_field (InNear k)) ≡ InNear k) 16 near_places k h,
  below (λ k. CellFits (cell_field (InNear k))) 16 near_fits k h,
)
cell_of_lem (InFar k) h = (
  below (λ k. cell_place (cell_field (InFar k)) ≡ InFar k) 16 far_places k h,
  below (λ k. CellFits (cell_field (InFar k))) 16 far_fits k h,
)

-- a field is told by its place
Told : CellField → Type 0
Told f = PlaceFits (cell_place f) × (cell_field (cell_place f) ≡ f)

cell_nears : Below (λ k. Told (Near k)) near_marks
unfolding Below Told cell_place cell_field near_fields
cell_nears = ((((none, (omega arith, refl)), (omega arith, refl)), (omega arith, refl)), (omega arith, refl))

cell_sibs : Below (λ f. Told (Sib f)) most_facets
unfolding Below Told cell_place cell_field near_fields
cell_sibs = ((((((none, (omega arith, refl)), (omega arith, refl)), (omega arith, refl)), (omega arith, refl)), (omega arith, refl)), (omega arith, refl))

cell_links : Below (λ k. Told (Link k)) most_marks
unfolding Below Told cell_place cell_field near_fields far_fields
cell_links = ((((((((none, (omega arith, refl)), (omega arith, refl)), (omega arith, refl)), (omega arith, refl)), (omega arith, refl)), (omega arith, refl)), (omega arith, refl)), (omega arith, refl))

cell_fars : Below (λ k. Told (Far k)) most_marks
unfolding Below Told cell_place cell_field far_fields
cell_fars = ((((((((none, (omega arith, refl)), (omega arith, refl)), (omega arith, refl)), (omega arith, refl)), (omega arith, refl)), (omega arith, refl)), (omega arith, refl)), (omega arith, refl))

cell_code : Told Code
unfolding Told cell_place cell_field near_fields
cell_code = (omega arith, refl)

cell_licence : Told Licence
unfolding Told cell_place cell_field near_fields
cell_licence = (omega arith, refl)

cell_rest : (p : Place) → CellFits (CellRest p) → Told (CellRest p)
unfolding Told cell_place
cell_rest p h = h

pub cell_at : (f : CellField) → CellFits f → PlaceFits (cell_place f) × (cell_field (cell_place f) ≡ f)
unfolding Told
cell_at Code h = cell_code
cell_at Licence h = cell_licence
cell_at (Near k) h = below (λ k. Told (Near k)) near_marks cell_nears k h
cell_at (Sib f) h = below (λ f. Told (Sib f)) most_facets cell_sibs f h
cell_at (Link k) h = below (λ k. Told (Link k)) most_marks cell_links k h
cell_at (Far k) h = below (λ k. Told (Far k)) most_marks cell_fars k h
cell_at (CellRest p) h = cell_rest p h
