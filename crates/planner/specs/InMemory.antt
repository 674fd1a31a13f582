-- The plan as the records of any memory give it, and what each step of the planner promises.
use Rattle.std.specs.Prelude.{◌≡◌, Bool, cond, not, ◌&&◌, List, [], ◌∷◌, ◌++◌, map, ℕ, ◌*◌, ◌≤◌, eqb, length, set}
use Rattle.lists.specs.Lists.{select}
use Rattle.numbers.specs.declared.Caps.{Caps}
use Rattle.store.specs.Slots.{code_in}
use Rattle.map.specs.Cells.{Live}
use Rattle.map.specs.History.{Insert, Remove}
use Rattle.frames.specs.Forms.{Appended}
use Rattle.cell_set.specs.CellSet.{in_set}
use Rattle.wanted.specs.Wanted.{wanted_of}
use Rattle.wanted.specs.Records.{stands_in}
use Rattle.planner.specs.Plan.{others, edit_words}

-- the words that remove cells, and those that insert the cells of a list that do not pass
abbrev pub removal_words : List ℕ → List ℕ
removal_words l = edit_words (map (λ (c : ℕ). Remove c) l)

abbrev pub insertion_words : (Live → Bool) → List Live → List ℕ
insertion_words p cells = edit_words (map (λ (x : Live). Insert x.number x.body) (others p cells))

-- the set of cells with those of a list that pass
unfoldable pub marked_in : (Live → Bool) → List ℕ → List Live → List ℕ
marked_in p standing [] = standing
marked_in p standing (x ∷ xs) = marked_in p (cond (p x) (set standing x.number 1) standing) xs

-- a cell of memory that is live and not in the set
unfoldable pub goes_in : List ℕ → Caps → List ℕ → ℕ → Bool
goes_in w caps standing c = not (eqb (code_in w caps c) 0) && not (in_set standing c)

unfoldable pub removal_in : List ℕ → Caps → List ℕ → ℕ → List ℕ
removal_in w caps standing c = cond (goes_in w caps standing c) (2 ∷ c ∷ []) []

-- one record: its cell in the set, or so many words
pub record MarkedRecord (stands : Bool) (c n : ℕ) (standing : List ℕ) (r : ℕ) (standing' : List ℕ) : Type 0 where
  pub count : r ≡ cond stands 0 n
  pub marks : standing' ≡ cond stands (set standing c 1) standing

-- the records of a whole wanted list
pub record Marked (w : List ℕ) (caps : Caps) (wanted standing : List ℕ) (r : ℕ) (standing' : List ℕ) : Type 0 where
  pub few : r ≤ 2 * length wanted
  pub size : length standing' ≡ length standing
  pub all : (wanted_of wanted).refusal ≡ 0
      → (r ≡ length (insertion_words (stands_in w caps) (wanted_of wanted).cells))
      × (standing' ≡ marked_in (stands_in w caps) standing (wanted_of wanted).cells)

-- the insertions written: of a whole wanted list, those of its missing cells
pub record Inserted (w : List ℕ) (caps : Caps) (wanted o : List ℕ) (at r : ℕ) (o' : List ℕ) : Type 0 where
  pub words : List ℕ
  pub appended : Appended words o at r o'
  pub all : (wanted_of wanted).refusal ≡ 0 → words ≡ insertion_words (stands_in w caps) (wanted_of wanted).cells

-- the removals written, then the insertions
pub record Wrote (w : List ℕ) (caps : Caps) (standing wanted o : List ℕ) (r : ℕ) (o' : List ℕ) : Type 0 where
  pub words : List ℕ
  pub appended : Appended words o 0 r o'
  pub all : (wanted_of wanted).refusal ≡ 0
      → words ≡ removal_words (select (goes_in w caps standing) caps.cells) ++ insertion_words (stands_in w caps) (wanted_of wanted).cells
