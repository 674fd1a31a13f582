-- From the promises of reading and writing a surface, and their answers told, to the promises told by numbers.
use mathlib.Core.Path.{◌≡◌, refl, ap, ◌∙◌}
use mathlib.Core.List.{List}
use Prim.Native.Nat.{ℕ, ◌≤◌}
use native.Mathlib.Omega.{arith}
use lib.ListN.{length, drop}
use lib.IntN.{ℤ}
use Rattle.std.specs.Prelude.{Result, Ok, Err}
use Rattle.lists.specs.Lists.{first}
use Rattle.map.specs.Answers.{Answer}
use Rattle.map.specs.Says.{given, refused}
use Rattle.map.proofs.Refusals.{number_some}
use Rattle.surfaces.specs.ReadsOff.{broken, surfaced_says, ReadsOff}
use Rattle.surfaces.specs.declared.NotRead.{NotRead}
use Rattle.surfaces.specs.declared.NotRead.TheVariants as NotRead'
use Rattle.surfaces_out.specs.WritesOff.{written_says, WritesOff}
use Rattle.surfaces_out.specs.declared.NotWritten.{NotWritten}
use Rattle.surfaces_out.specs.declared.NotWritten.TheVariants as NotWritten'
use Rattle.c_answers.specs.Told.{Told}
use Rattle.mesh_c.specs.Surfaces.{SurfaceRead, SurfaceWritten}

-- a read has a value where it is refused
read_place : (a : Result (Unit {0}) NotRead) (x r x' : ℕ) → Told (surfaced_says a) x r x' → r ≡ 0 → x' ≡ x
unfolding surfaced_says broken given first
read_place (Ok _) x r x' t z = t.value
read_place (Err (NotRead'.Broken place)) x r x' t z = absurd (omega (arith, z, t.number))
read_place (Err (NotRead'.Refused why place)) x r x' t z = absurd (omega (arith, number_some why, t.number))

pub surface_read : (w : List ℕ) (positions : List ℤ) (text : List ℕ) (a : Result (Unit {0}) NotRead) (w' : List ℕ) (positions' : List ℤ)
    → ReadsOff w positions text a w' positions' → (x r x' : ℕ) → Told (surfaced_says a) x r x' → SurfaceRead w positions text x r w' positions' x'
surface_read w positions text a w' positions' f x r x' t = record {
  answers = record {
    number = t.number ∙ ap (λ (b : Answer). b.refusal) f.says;
    value = t.value ∙ ap (λ (b : Answer). first x b.values) f.says;
  };
  place = read_place a x r x' t;
  broke = f.broke;
  kept = f.kept;
  left = f.left;
}

module _ (w : List ℕ) (positions : List ℤ) (o o' : List ℕ) where
  written_kept : (a : Result ℕ NotWritten) → WritesOff w positions o a o' → (n r n' : ℕ) → Told (written_says a) n r n' → (r ≡ 0 → ⊥) → (o' ≡ o) × (n' ≡ n)
  unfolding written_says given refused first
  written_kept (Ok k) f n r n' t some = absurd (some t.number)
  written_kept (Err NotWritten'.NotSurface) f n r n' t some = (f.kept (λ k q. omega (arith, ap (λ (b : Result ℕ NotWritten). (written_says b).refusal) q)), t.value)
  written_kept (Err (NotWritten'.Refused why)) f n r n' t some =
      (f.kept (λ k q. omega (arith, ap (λ (b : Result ℕ NotWritten). (written_says b).refusal) q, number_some why)), t.value)

  written_first : (a : Result ℕ NotWritten) → WritesOff w positions o a o' → (n r n' : ℕ) → Told (written_says a) n r n' → r ≡ 0
      → (n' ≤ length o) × (length o' ≡ length o) × (drop n' o' ≡ drop n' o)
  unfolding written_says given refused first
  written_first (Ok k) f n r n' t z = rw t.value (f.first k refl)
  written_first (Err NotWritten'.NotSurface) f n r n' t z = absurd (omega (arith, z, t.number))
  written_first (Err (NotWritten'.Refused why)) f n r n' t z = absurd (omega (arith, z, t.number, number_some why))

  pub surface_written : (a : Result ℕ NotWritten) → WritesOff w positions o a o' → (n r n' : ℕ) → Told (written_says a) n r n' → SurfaceWritten w positions o n r o' n'
  unfolding written_says refused
  surface_written a f n r n' t = record {
    refused = λ none. t.number ∙ ap (λ (b : Result ℕ NotWritten). (written_says b).refusal) (f.refused none);
    kept = written_kept a f n r n' t;
    first = written_first a f n r n' t;
    answers = λ m wf.
        let q = f.answers m wf in (
          record {
            number = t.number ∙ ap (λ (b : Answer). b.refusal) q.0;
            value = t.value ∙ ap (λ (b : Answer). first n b.values) q.0;
          },
          q.1,
        );
  }
