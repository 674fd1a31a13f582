-- Nothing else fits: an answer of the outline is that of one enum value alone.
use mathlib.Core.Path.{◌≡◌, refl, sym, ap, ◌∙◌}
use mathlib.Core.List.{List, [], ◌∷◌}
use Prim.Native.Nat.{ℕ, zero, suc}
use lib.ListN.{get_or}
use Rattle.numbers.specs.declared.Cell.{Cell}
use Rattle.numbers.specs.declared.Half.{Half}
use Rattle.map.specs.declared.Refusal.{Refusal}
use Rattle.map.specs.declared.Refusal.TheVariants.{BadFrame}
use Rattle.map.specs.declared.Way.{Way}
use Rattle.map.specs.declared.Stopped.{Stopped}
use Rattle.map.specs.declared.Unbuilt.{Unbuilt}
use Rattle.std.specs.Prelude.{Result, ⊤, Option, Ok, Err, Some, None, true, false, Bool}
use Rattle.map.specs.Answers.{Answer}
use Rattle.map.specs.Ways.{way_at}
use Rattle.map.proofs.Refusals.{refusals, number_back}
use Rattle.map.proofs.Ways.{way_back}
use Rattle.map.specs.Says.{number_of, given, refused, verdict_says, value_says, pair_says, cell_says, half_says, found_says, truth_says, built_says, edits_says, RefusedAt, StoppedAt}

-- what an answer was, read back: accepted with its values, or refused
module _ {A : Type 0} (accepted : List ℕ → A) (refusing : Refusal → List ℕ → A) where
  back : Answer → A
  back a = elim a.refusal [ zero ↦ accepted a.values | suc k ↦ refusing (get_or refusals k BadFrame) a.values ]

  back_refused : (r : Refusal) (values : List ℕ) → back (record { refusal = number_of r; values = values }) ≡ refusing r values
  unfolding back
  back_refused r values =
      let k = number_back r in
      ap (λ (n : ℕ). back (record { refusal = n; values = values })) k.1 ∙ ap (λ (q : Refusal). refusing q values) k.2

-- what can be read back is fixed
one : {A : Type 0} (says : A → Answer) (read : Answer → A) → ((x : A) → read (says x) ≡ x) → (x y : A) → says x ≡ says y → x ≡ y
one says read f x y e = sym (f x) ∙ (ap read e ∙ f y)

was_verdict : List ℕ → Result ⊤ Refusal
was_verdict values = (Ok tt)

not_verdict : Refusal → List ℕ → Result ⊤ Refusal
not_verdict r values = Err r

pub verdict_one : (x y : Result ⊤ Refusal) → verdict_says x ≡ verdict_says y → x ≡ y
unfolding verdict_says given refused back was_verdict not_verdict
verdict_one = one verdict_says (back was_verdict not_verdict) again
  where
    again : (x : Result ⊤ Refusal) → back was_verdict not_verdict (verdict_says x) ≡ x
    again (Ok tt) = refl
    again (Err r) = back_refused was_verdict not_verdict r []

was_value : List ℕ → Result ℕ Refusal
was_value values = Ok (get_or values 0 0)

not_value : Refusal → List ℕ → Result ℕ Refusal
not_value r values = Err r

pub value_one : (x y : Result ℕ Refusal) → value_says x ≡ value_says y → x ≡ y
unfolding value_says given refused back was_value not_value
value_one = one value_says (back was_value not_value) again
  where
    again : (x : Result ℕ Refusal) → back was_value not_value (value_says x) ≡ x
    again (Ok n) = refl
    again (Err r) = back_refused was_value not_value r []

was_pair : List ℕ → Result (ℕ × ℕ) Refusal
was_pair values = Ok ((get_or values 0 0), (get_or values 1 0))

not_pair : Refusal → List ℕ → Result (ℕ × ℕ) Refusal
not_pair r values = Err r

pub pair_one : (x y : Result (ℕ × ℕ) Refusal) → pair_says x ≡ pair_says y → x ≡ y
unfolding pair_says given refused back was_pair not_pair
pair_one = one pair_says (back was_pair not_pair) again
  where
    again : (x : Result (ℕ × ℕ) Refusal) → back was_pair not_pair (pair_says x) ≡ x
    again (Ok (n, k)) = refl
    again (Err r) = back_refused was_pair not_pair r []

abbrev cell_number : ℕ → Cell
cell_number n = record { 0 = n }

was_cell_at : List ℕ → Result (Option Cell) Refusal
was_cell_at [] = (Ok None)
was_cell_at (c ∷ rest) = Ok (Some (cell_number c))

not_cell_at : Refusal → List ℕ → Result (Option Cell) Refusal
not_cell_at r values = Err r

pub cell_one : (x y : Result (Option Cell) Refusal) → cell_says x ≡ cell_says y → x ≡ y
unfolding cell_says given refused back was_cell_at not_cell_at
cell_one = one cell_says (back was_cell_at not_cell_at) again
  where
    again : (x : Result (Option Cell) Refusal) → back was_cell_at not_cell_at (cell_says x) ≡ x
    again (Ok (Some c)) = refl
    again (Ok None) = refl
    again (Err r) = back_refused was_cell_at not_cell_at r []

abbrev half_number : ℕ → Half
half_number n = record { 0 = n }

was_half_at : List ℕ → Result (Half × Way) Refusal
was_half_at values = Ok ((half_number (get_or values 0 0)), (way_at (get_or values 1 0)))

not_half_at : Refusal → List ℕ → Result (Half × Way) Refusal
not_half_at r values = Err r

pub half_one : (x y : Result (Half × Way) Refusal) → half_says x ≡ half_says y → x ≡ y
unfolding half_says given refused back was_half_at not_half_at
half_one = one half_says (back was_half_at not_half_at) again
  where
    again : (x : Result (Half × Way) Refusal) → back was_half_at not_half_at (half_says x) ≡ x
    again (Ok (h, way)) = ap (λ (x : Way). Ok (h, x)) (way_back way)
    again (Err r) = back_refused was_half_at not_half_at r []

was_found : List ℕ → Result (Option Half) Refusal
was_found [] = (Ok None)
was_found (h ∷ rest) = Ok (Some (half_number h))

not_found : Refusal → List ℕ → Result (Option Half) Refusal
not_found r values = Err r

pub found_one : (x y : Result (Option Half) Refusal) → found_says x ≡ found_says y → x ≡ y
unfolding found_says given refused back was_found not_found
found_one = one found_says (back was_found not_found) again
  where
    again : (x : Result (Option Half) Refusal) → back was_found not_found (found_says x) ≡ x
    again (Ok (Some h)) = refl
    again (Ok None) = refl
    again (Err r) = back_refused was_found not_found r []

was_truth : List ℕ → Result Bool Refusal
was_truth values = elim (get_or values 0 0) [ zero ↦ (Ok false) | suc k ↦ (Ok true) ]

not_truth : Refusal → List ℕ → Result Bool Refusal
not_truth r values = Err r

pub truth_one : (x y : Result Bool Refusal) → truth_says x ≡ truth_says y → x ≡ y
unfolding truth_says given refused back was_truth not_truth
truth_one = one truth_says (back was_truth not_truth) again
  where
    again : (x : Result Bool Refusal) → back was_truth not_truth (truth_says x) ≡ x
    again (Ok true) = refl
    again (Ok false) = refl
    again (Err r) = back_refused was_truth not_truth r []

was_built : List ℕ → Result ⊤ Unbuilt
was_built values = (Ok tt)

not_built : Refusal → List ℕ → Result ⊤ Unbuilt
not_built r values = RefusedAt r (get_or values 0 0)

pub built_one : (x y : Result ⊤ Unbuilt) → built_says x ≡ built_says y → x ≡ y
unfolding built_says given refused back was_built not_built
built_one = one built_says (back was_built not_built) again
  where
    again : (x : Result ⊤ Unbuilt) → back was_built not_built (built_says x) ≡ x
    again (Ok tt) = refl
    again (Err e) = back_refused was_built not_built e.why (e.place ∷ [])

was_edits : List ℕ → Result ℕ Stopped
was_edits values = Ok (get_or values 0 0)

not_edits : Refusal → List ℕ → Result ℕ Stopped
not_edits r values = StoppedAt (get_or values 0 0) r

pub edits_one : (x y : Result ℕ Stopped) → edits_says x ≡ edits_says y → x ≡ y
unfolding edits_says given refused back was_edits not_edits
edits_one = one edits_says (back was_edits not_edits) again
  where
    again : (x : Result ℕ Stopped) → back was_edits not_edits (edits_says x) ≡ x
    again (Ok n) = refl
    again (Err e) = back_refused was_edits not_edits e.why (e.made ∷ [])
