-- What a call told by a number promises: the promise of the call that it stands for, of the verdict, the value or the truth with that number.
use Rattle.std.specs.Prelude.{◌≡◌, Bool, cond, ℕ, Result, ⊤}
use Rattle.map.specs.Says.{verdict_says, value_says}
use Rattle.map.specs.declared.Refusal.{Refusal}
use Rattle.c_answers.specs.Told.{Told}

-- 0 for accepted, else the number of the refusal, which no other refusal has
pub record ByNumber (Promise : Result ⊤ Refusal → Type 0) (r : ℕ) : Type 0 where
  pub verdict : Result ⊤ Refusal
  pub number : r ≡ (verdict_says verdict).refusal
  pub promised : Promise verdict

-- 0 with the count in its lent word, else the number of the refusal and the word as it was
pub record ByCount (Promise : Result ℕ Refusal → Type 0) (x r x' : ℕ) : Type 0 where
  pub value : Result ℕ Refusal
  pub told : Told (value_says value) x r x'
  pub promised : Promise value

-- 1 for yes, 0 for no
pub record ByBit (Promise : Bool → Type 0) (r : ℕ) : Type 0 where
  pub truth : Bool
  pub bit : r ≡ cond truth 1 0
  pub promised : Promise truth
