-- What a query told by numbers promises: memory that is no mesh is refused with 14; a refusal leaves what was lent as it was, on any
-- memory; on well-formed memory the number and the lent words are the definition's answer.
use Rattle.std.specs.Prelude.{◌≡◌, false, List, ℕ, ◌+◌, ◌<◌, ◌≤◌, min, get_or, length}
use Rattle.words.specs.Words.{Only, part_of}
use Rattle.store.specs.Slots.{marks_at}
use Rattle.store.specs.Open.{is_mesh}
use Rattle.map.specs.Cells.{Map}
use Rattle.map.specs.Answers.{Check, Answer, list_answer, type_answer}
use Rattle.picture.specs.Picture.{Wf}
use Rattle.listing.specs.Listing.{listed}
use Rattle.c_answers.specs.Told.{Told}

-- one number
pub record Answered (w : List ℕ) (answer : Map → Answer) (x r x' : ℕ) : Type 0 where
  pub refused : is_mesh w ≡ false → r ≡ 14
  pub kept : (r ≡ 0 → ⊥) → x' ≡ x
  pub answers : (m : Map) → Wf w m → Told (answer m) x r x'

-- two numbers: a half-facet and the way that it runs, the capacities
pub record Faced (w : List ℕ) (answer : Map → Answer) (x y r x' y' : ℕ) : Type 0 where
  pub half : Answered w answer x r x'
  pub kept : (r ≡ 0 → ⊥) → y' ≡ y
  pub way : (m : Map) → Wf w m → y' ≡ get_or (answer m).values 1 y

-- a half-facet or none, a cell or none: y tells how many there are
pub record Sought (w : List ℕ) (answer : Map → Answer) (y x r y' x' : ℕ) : Type 0 where
  pub half : Answered w answer x r x'
  pub kept : (r ≡ 0 → ⊥) → y' ≡ y
  pub found : (m : Map) → Wf w m → r ≡ 0 → y' ≡ length (answer m).values

-- a list in the first places of an output, and its count
pub record ListedIn (places : ℕ) (w : List ℕ) (checks : Map → List Check) (list : Map → List ℕ) (o : List ℕ) (n r : ℕ) (o' : List ℕ) (n' : ℕ) : Type 0 where
  pub count : Answered w (λ m. list_answer (checks m) (list m) places) n r n'
  pub kept : (r ≡ 0 → ⊥) → o' ≡ o
  -- only as many places as are counted change, whatever memory holds
  pub first : r ≡ 0 → (n' ≤ length o) × Only (λ i. i < n') o o'
  pub wrote : (m : Map) → Wf w m → o' ≡ listed (list_answer (checks m) (list m) places) (list m) o

abbrev pub Listed : List ℕ → (Map → List Check) → (Map → List ℕ) → List ℕ → ℕ → ℕ → List ℕ → ℕ → Type 0
Listed w checks list o n r o' n' = ListedIn (length o) w checks list o n r o' n'

-- two lists side by side, each in an output of its own
pub record ListedTwo (w : List ℕ) (checks : Map → List Check) (list beside : Map → List ℕ) (o p : List ℕ) (n r : ℕ) (o' p' : List ℕ) (n' : ℕ) : Type 0 where
  pub entries : ListedIn (min (length o) (length p)) w checks list o n r o' n'
  pub words : ListedIn (min (length o) (length p)) w checks beside p n r p' n'

-- where in memory the marks of a cell stand, and how many; refused as the type query is
pub record MarksTold (w : List ℕ) (c at n r at' n' : ℕ) : Type 0 where
  pub refused : is_mesh w ≡ false → r ≡ 14
  pub kept : (r ≡ 0 → ⊥) → (at' ≡ at) × (n' ≡ n)
  -- they lie in memory, whatever it holds
  pub inside : r ≡ 0 → at' + n' ≤ length w
  pub answers : (m : Map) → Wf w m → r ≡ (type_answer m c).refusal
  pub place : (m : Map) → Wf w m → r ≡ 0 → at' ≡ marks_at m.caps c (length (m.at c).marks)
  pub marks : (m : Map) → Wf w m → r ≡ 0 → (n' ≡ length (m.at c).marks) × (part_of w at' n' ≡ (m.at c).marks)

-- the whole check: 1 exactly if memory is well-formed, for some map, and else 0
pub record Judged (w : List ℕ) (r : ℕ) : Type 0 where
  pub bit : r ≤ 1
  pub yes : r ≡ 1 → (m : Map) × Wf w m
  pub no : r ≡ 0 → (m : Map) → Wf w m → ⊥
