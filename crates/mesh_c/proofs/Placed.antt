-- The calls with positions, told by numbers.
use mathlib.Core.Path.{◌≡◌, refl, ap, ◌∙◌, subst}
use mathlib.Core.List.{List}
use Prim.Native.Nat.{ℕ, ◌*◌, ◌≤◌}
use native.Mathlib.Omega.{arith}
use lib.ListN.{length, drop}
use lib.IntN.{ℤ}
use lib.Ieee.{Float}
use Rattle.lists.specs.Lists.{first}
use Rattle.map.specs.Cells.{Map}
use Rattle.map.specs.Says.{given, refused, value_says}
use Rattle.metres.specs.declared.Point.{Point}
use Rattle.map.specs.declared.Refusal.{Refusal}
use Rattle.std.specs.Prelude.{Result, Ok, Err}
use Rattle.map.proofs.Refusals.{number_some}
use Rattle.ask.specs.Asked.{Asked}
use Rattle.ask.specs.Refusals.{no_value}
use Rattle.positions.specs.declared.Measured.TheVariants.{SquaredLength, DoubledArea, SixfoldVolume}
use Rattle.positions.specs.declared.Measured.{Measured}
use Rattle.positions.specs.Replies.{Reply, measure_says, no_measure, centre_says, no_centre}
use Rattle.positions.specs.Pointed.{points_answer, Pointed}
use Rattle.c_answers.specs.Told.{Told}
use Rattle.c_answers.specs.Floats.{ToldMeasure, ToldPoint}
use Rattle.mesh_c.specs.Placed.{Sized, Centre, Corners}
use Rattle.mesh_c.proofs.Plain.{value_plain}
use Rattle.mesh_c.proofs.Queries.{answered}

pub sized : (w : List ℕ) (reply : Map → Reply) (a : Result Measured Refusal) → Asked measure_says no_measure w reply a
    → (k : ℕ) (x : Float) (r k' : ℕ) (x' : Float) → ToldMeasure (measure_says a) k x r k' x' → Sized w reply k x r k' x'
unfolding measure_says refused given first
sized w reply a asked k x r k' x' told = record {
  refused = λ none. told.told.number ∙ ap (λ (b : Result Measured Refusal). (measure_says b).answer.refusal) (asked.refused none);
  kept = kept a told;
  answers = λ m wf. subst (λ (b : Reply). ToldMeasure b k x r k' x') (asked.answers m wf) told;
}
  where
    kept : (b : Result Measured Refusal) → ToldMeasure (measure_says b) k x r k' x' → (r ≡ 0 → ⊥) → (k' ≡ k) × (x' ≡ x)
    kept (Ok (SquaredLength y)) t some = absurd (some t.told.number)
    kept (Ok (DoubledArea y)) t some = absurd (some t.told.number)
    kept (Ok (SixfoldVolume y)) t some = absurd (some t.told.number)
    kept (Err why) t some = (t.told.value, t.size)

pub centred : (w : List ℕ) (reply : Map → Reply) (a : Result Point Refusal) → Asked centre_says no_centre w reply a
    → (x y z : Float) (r : ℕ) (x' y' z' : Float) → ToldPoint (centre_says a) x y z r x' y' z' → Centre w reply x y z r x' y' z'
unfolding centre_says refused given
centred w reply a asked x y z r x' y' z' told = record {
  refused = λ none. told.number ∙ ap (λ (b : Result Point Refusal). (centre_says b).answer.refusal) (asked.refused none);
  kept = kept a told;
  answers = λ m wf. subst (λ (b : Reply). ToldPoint b x y z r x' y' z') (asked.answers m wf) told;
}
  where
    kept : (b : Result Point Refusal) → ToldPoint (centre_says b) x y z r x' y' z' → (r ≡ 0 → ⊥) → (x' ≡ x) × (y' ≡ y) × (z' ≡ z)
    kept (Ok p) t some = absurd (some t.number)
    kept (Err why) t some = (t.first, t.second, t.third)

module _ (w : List ℕ) (positions : List ℤ) (c : ℕ) (o o' : List Float) where
  points_kept : (a : Result ℕ Refusal) → Pointed w positions c o a o' → (r : ℕ) → r ≡ (value_says a).refusal → (r ≡ 0 → ⊥) → o' ≡ o
  unfolding value_says given
  points_kept (Ok n) p r e some = absurd (some e)
  points_kept (Err why) p r e some = p.kept why refl

  points_first : (a : Result ℕ Refusal) → Pointed w positions c o a o' → (n r n' : ℕ) → Told (value_says a) n r n' → r ≡ 0
      → (3 * n' ≤ length o) × (length o' ≡ length o) × (drop (3 * n') o' ≡ drop (3 * n') o)
  unfolding value_says given refused first
  points_first (Ok k) p n r n' told z = rw told.value (p.first k refl)
  points_first (Err why) p n r n' told z = absurd (omega (arith, z, told.number, number_some why))

  pub cornered : (a : Result ℕ Refusal) → Pointed w positions c o a o' → (n r n' : ℕ) → Told (value_says a) n r n' → Corners w positions c o n r o' n'
  cornered a p n r n' told = record {
    count = answered value_plain w (λ m. points_answer m positions c (length o)) a asked n r n' told;
    kept = points_kept a p r told.number;
    first = points_first a p n r n' told;
    wrote = λ m wf. (p.answers m wf).1;
  }
    where
      asked : Asked value_says no_value w (λ m. points_answer m positions c (length o)) a
      asked = record { refused = p.refused; answers = λ m wf. (p.answers m wf).0 }
