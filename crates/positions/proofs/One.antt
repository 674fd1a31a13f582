-- Nothing else fits: an answer with floats is that of one enum value alone.
use mathlib.Core.Path.{◌≡◌, refl, sym, ap, ◌∙◌}
use mathlib.Core.List.{List, [], ◌∷◌}
use Prim.Native.Nat.{ℕ, zero, suc}
use lib.ListN.{get_or}
use lib.IntN.{ℤ}
use lib.Ieee.{Float, nan}
use Rattle.map.specs.Cells.{Map}
use Rattle.map.specs.Says.{given, refused}
use Rattle.map.specs.declared.Refusal.TheVariants.{BadFrame}
use Rattle.metres.specs.declared.Point.{Point}
use Rattle.map.specs.declared.Refusal.{Refusal}
use Rattle.std.specs.Prelude.{Result, Ok, Err}
use Rattle.map.proofs.Refusals.{refusals, number_back}
use Rattle.map.proofs.Says.{value_one}
use Rattle.picture.specs.Picture.{Wf}
use Rattle.positions.specs.declared.Measured.TheVariants.{SquaredLength, DoubledArea, SixfoldVolume}
use Rattle.positions.specs.declared.Measured.{Measured}
use Rattle.positions.specs.declared.CornersAt.{CornersAt}
use Rattle.positions.specs.Replies.{Reply, measure_says, centre_says}
use Rattle.positions.specs.Pointed.{Pointed, Cornered}

-- what an answer was, read back
float : Reply → ℕ → Float
float r k = get_or r.floats k nan

kinds : Float → List (Result Measured Refusal)
kinds x = Err BadFrame ∷ Ok (SquaredLength x) ∷ Ok (DoubledArea x) ∷ Ok (SixfoldVolume x) ∷ []

was_measured : Reply → Result Measured Refusal
was_measured r =
    elim r.answer.refusal [ zero ↦ get_or (kinds (float r 0)) (get_or r.answer.values 0 0) (Err BadFrame) | suc k ↦ Err (get_or refusals k BadFrame) ]

pub measured_one : (x y : Result Measured Refusal) → measure_says x ≡ measure_says y → x ≡ y
unfolding measure_says given refused was_measured kinds float
measured_one x y e = sym (again x) ∙ (ap was_measured e ∙ again y)
  where
    again : (x : Result Measured Refusal) → was_measured (measure_says x) ≡ x
    again (Ok (SquaredLength x)) = refl
    again (Ok (DoubledArea x)) = refl
    again (Ok (SixfoldVolume x)) = refl
    again (Err why) =
        let k = number_back why in
        ap (λ (n : ℕ). was_measured (record { answer = record { refusal = n; values = [] }; floats = [] })) k.1 ∙ ap Err k.2

was_centred : Reply → Result Point Refusal
was_centred r =
    elim r.answer.refusal [ zero ↦ Ok (record { x = float r 0; y = float r 1; z = float r 2 }) | suc k ↦ Err (get_or refusals k BadFrame) ]

pub centred_one : (x y : Result Point Refusal) → centre_says x ≡ centre_says y → x ≡ y
unfolding centre_says given refused was_centred float
centred_one x y e = sym (again x) ∙ (ap was_centred e ∙ again y)
  where
    again : (x : Result Point Refusal) → was_centred (centre_says x) ≡ x
    again (Ok p) = refl
    again (Err why) =
        let k = number_back why in
        ap (λ (n : ℕ). was_centred (record { answer = record { refusal = n; values = [] }; floats = [] })) k.1 ∙ ap Err k.2

-- two answers under one promise, on well-formed memory
module _ (w : List ℕ) (m : Map) (wf : Wf w m) (positions : List ℤ) (c : ℕ) where
  pub pointed_one : (o o' o'' : List Float) (r r' : Result ℕ Refusal) → Pointed w positions c o r o' → Pointed w positions c o r' o'' → (r ≡ r') × (o' ≡ o'')
  pointed_one o o' o'' r r' p q =
      let u = p.answers m wf in
      let v = q.answers m wf in
      (value_one r r' (u.0 ∙ sym v.0), u.1 ∙ sym v.1)

  pub cornered_one : (r r' : CornersAt) → Cornered w positions c r → Cornered w positions c r' → (r.count ≡ r'.count) × (r.at ≡ r'.at)
  cornered_one r r' p q = (same, go r.count refl)
    where
      same : r.count ≡ r'.count
      same = value_one r.count r'.count (p.count.answers m wf ∙ sym (q.count.answers m wf))

      go : (v : Result ℕ Refusal) → r.count ≡ v → r.at ≡ r'.at
      go (Ok n) e = p.points m wf n e ∙ sym (q.points m wf n (sym same ∙ e))
      go (Err why) e = p.none why e ∙ sym (q.none why (sym same ∙ e))
