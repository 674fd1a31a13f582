-- A wanted list of cells, build records one after another, and what it is that the live cells of a map are the wanted ones.
use Rattle.std.specs.Prelude.{Bool, cond, not, ◌&&◌, ◌||◌, List, [], ◌∷◌, ℕ, zero, suc, eqb, ltb, length, take}
use Rattle.lists.specs.Lists.{has, all, every, same, repeats}
use Rattle.shapes.specs.Shapes.{shape}
use Rattle.map.specs.Cells.{Body, licensed_body, Live, Map, live}
use Rattle.map.specs.Afresh.{numbers}

-- the cells that words name, and the refusal where they end: 0 unless a record is refused
pub record Wanted : Type 0 where
  pub cells : List Live
  pub refusal : ℕ

abbrev pub ended : ℕ → Wanted
ended refusal = record { cells = []; refusal = refusal }

-- a cell before the others
abbrev pub before : Live → Wanted → Wanted
before x r = record { cells = x ∷ r.cells; refusal = r.refusal }

-- "6 for an unknown type in it", then 7 where fewer words are left than the type has marks
unfoldable pub record_refusal : ℕ → ℕ → ℕ
record_refusal t left = cond (eqb (shape t).dimension 0) 6 (cond (ltb left (shape t).marks) 7 0)

-- "7 for a wanted list cut short": a record without its number, type and licence is; read on behind the first n words, the marks of the record before
unfoldable pub wanted_from : ℕ → List ℕ → Wanted
wanted_from n [] = ended 0
wanted_from (suc n) (x ∷ words) = wanted_from n words
wanted_from zero (c ∷ []) = ended 7
wanted_from zero (c ∷ t ∷ []) = ended 7
wanted_from zero (c ∷ t ∷ licence ∷ rest) =
    cond (eqb (record_refusal t (length rest)) 0)
    (before (record { number = c; body = licensed_body t licence (take (shape t).marks rest) }) (wanted_from (shape t).marks rest))
    (ended (record_refusal t (length rest)))

unfoldable pub wanted_of : List ℕ → Wanted
wanted_of words = wanted_from 0 words

-- the same "type, mark order and licence"
unfoldable pub same_body : Body → Body → Bool
same_body a b = eqb a.code b.code && (eqb a.licence b.licence && same a.marks b.marks)

-- the cell is live, as it is wanted
unfoldable pub stands : Map → Live → Bool
stands m x = live m x.number && same_body (m.at x.number) x.body

-- "the live cells .., with type, mark order and licence, are the wanted ones, each once": each wanted cell stands, none is wanted twice, and each
-- live cell is wanted
unfoldable pub as_wanted : Map → List Live → Bool
as_wanted m cells =
    all (stands m) cells && (not (repeats (numbers cells)) && every m.caps.cells (λ c. not (live m c) || has c (numbers cells)))
