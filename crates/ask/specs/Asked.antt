-- What a query promises: memory that is no mesh is refused with 14; on well-formed memory the answer is the definition's.
use Rattle.std.specs.Prelude.{◌≡◌, false, List, [], ℕ, length}
use Rattle.std.specs.Borrow.{Bor}
use Rattle.words.specs.Words.{BeginsAt}
use Rattle.store.specs.Slots.{marks_at}
use Rattle.store.specs.Open.{is_mesh}
use Rattle.map.specs.Cells.{Map}
use Rattle.map.specs.Answers.{type_answer, marks_part}
use Rattle.picture.specs.Picture.{Wf}

-- what an answer says is compared: numbers for most, points and measures for some
pub record Asked {A B : Type 0} (says : A → B) (noMesh : A) (w : List ℕ) (answer : Map → B) (r : A) : Type 0 where
  pub refused : is_mesh w ≡ false → r ≡ noMesh
  pub answers : (m : Map) → Wf w m → says r ≡ answer m

-- the part of memory that a query hands back: empty where memory is no mesh
pub record Handed (w : List ℕ) (part : Map → List ℕ) (r : List ℕ) : Type 0 where
  pub refused : is_mesh w ≡ false → r ≡ []
  pub answers : (m : Map) → Wf w m → r ≡ part m

-- "handed back as the very part of mesh memory that stores it": the marks of a cell, where its record has them side by side
pub record HandedMarks (w : Bor (List ℕ)) (c : ℕ) (r : Bor (List ℕ)) : Type 0 where
  pub marks : Handed w.now (λ m. marks_part m c) r.now
  pub begins : (m : Map) → Wf w.now m → (type_answer m c).refusal ≡ 0 → BeginsAt w (marks_at m.caps c (length (m.at c).marks)) r
