-- What a listing query promises: memory that is no mesh is refused with 14; a refusal changes no place of the output, and a list that fits
-- changes only its first places, on any memory; on well-formed memory the answer and the places are the definition's.
use Rattle.std.specs.Prelude.{◌≡◌, false, cond, List, ◌++◌, ℕ, ◌<◌, ◌≤◌, min, eqb, get_or, length, drop, Result, Ok, Err}
use Rattle.lists.specs.Lists.{list_of}
use Rattle.words.specs.Words.{Only}
use Rattle.store.specs.Open.{is_mesh}
use Rattle.map.specs.Cells.{Map}
use Rattle.map.specs.Answers.{Check, Answer, list_answer}
use Rattle.map.specs.Says.{value_says}
use Rattle.map.specs.declared.Refusal.{Refusal}
use Rattle.map.specs.declared.Refusal.TheVariants.{NotMesh, OutputShort}
use Rattle.picture.specs.Picture.{Wf}

-- the output afterwards: "a list that fits changes only its first places"; a refusal changes nothing
unfoldable pub listed : Answer → List ℕ → List ℕ → List ℕ
listed a l out = cond (eqb a.refusal 0) (l ++ drop (length l) out) out

pub record ListingIn (places : ℕ) (w : List ℕ) (checks : Map → List Check) (list : Map → List ℕ) (o : List ℕ) (r : Result ℕ Refusal) (o' : List ℕ) : Type 0 where
  pub refused : is_mesh w ≡ false → r ≡ Err NotMesh
  pub kept : (why : Refusal) → r ≡ Err why → o' ≡ o
  pub first : (n : ℕ) → r ≡ Ok n → (n ≤ length o) × Only (λ i. i < n) o o'
  pub answers : (m : Map) → Wf w m
      → (value_says r ≡ list_answer (checks m) (list m) places) × (o' ≡ listed (list_answer (checks m) (list m) places) (list m) o)

-- in as many places as the output has
abbrev pub Listing : List ℕ → (Map → List Check) → (Map → List ℕ) → List ℕ → Result ℕ Refusal → List ℕ → Type 0
Listing w checks list o r o' = ListingIn (length o) w checks list o r o'

-- of two lists side by side, each in an output of its own, in as many places as both have
pub record Paired (w : List ℕ) (checks : Map → List Check) (list beside : Map → List ℕ) (o p : List ℕ) (r : Result ℕ Refusal) (o' p' : List ℕ) : Type 0 where
  pub entries : ListingIn (min (length o) (length p)) w checks list o r o'
  pub words : ListingIn (min (length o) (length p)) w checks beside p r p'

-- the first n numbers of a list given out, or 12 where there are fewer places
pub record GivenIn (places : ℕ) (from : List ℕ) (n : ℕ) (o : List ℕ) (r : Result ℕ Refusal) (o' : List ℕ) : Type 0 where
  pub short : places < n → (r ≡ Err OutputShort) × (o' ≡ o)
  pub fits : n ≤ places → (r ≡ Ok n) × (o' ≡ list_of n (λ i. get_or from i 0) ++ drop n o)

abbrev pub Given : List ℕ → ℕ → List ℕ → Result ℕ Refusal → List ℕ → Type 0
Given from n o r o' = GivenIn (length o) from n o r o'

pub record GivenTwo (from beside : List ℕ) (n : ℕ) (o p : List ℕ) (r : Result ℕ Refusal) (o' p' : List ℕ) : Type 0 where
  pub entries : GivenIn (min (length o) (length p)) from n o r o'
  pub words : GivenIn (min (length o) (length p)) beside n p r p'
