-- The cells of one dimension along a list.
use Rattle.std.specs.Prelude.{List, ℕ, eqb, get_or}
use Rattle.lists.specs.Lists.{keep, list_of}
use Rattle.shapes.specs.Shapes.{shape}
use Rattle.numbers.specs.declared.Caps.{Caps}
use Rattle.store.specs.Slots.{code_in}

-- of the first n of a list of cells, those of the dimension, by the records
unfoldable pub kept : List ℕ → Caps → ℕ → List ℕ → ℕ → List ℕ
kept w caps d cells n = keep (λ c. eqb (shape (code_in w caps c)).dimension d) (list_of n (λ i. get_or cells i 0))
