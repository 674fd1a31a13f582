-- A whole text, as the code goes along it.
use Rattle.std.specs.Prelude.{◌≡◌, List, [], ◌∷◌, ℕ, ◌*◌, length, Result, Ok, Err}
use Rattle.off.specs.Words.{Word}
use Rattle.off.specs.Numbers.{number_of, coordinate_of, title_of}
use Rattle.off.specs.Reading.{Read, Got, Stop, ◌then◌, one, many, faces, Surface, reading}
use Rattle.off_form.specs.Took.{left}
use Rattle.off_form.specs.declared.Broken.{Broken}
use Rattle.off_form.specs.declared.Form.{Form}
use Rattle.off_form.specs.declared.Head.{Head}

-- "The text is the word OFF, three counts"
unfoldable pub head_read : ℕ → List Word → Read (List ℕ)
head_read end ws = one title_of end ws then λ _ ws. many number_of end 3 ws

pub record Headed (text : List ℕ) (r : Result Head Broken) : Type 0 where
  pub stops : (broken : Broken) → r ≡ Err broken → head_read (length text) (left text 0) ≡ Stop broken.place
  pub is : (h : Head) → r ≡ Ok h
      → (edges : ℕ) × (head_read (length text) (left text 0) ≡ Got (h.marks ∷ h.cells ∷ edges ∷ []) (left text h.behind.at))

-- what a text says stands where the cursors are: the positions from the first vertex to the first face, the records from there to the end
pub record Stands (text : List ℕ) (f : Form) (s : Surface) : Type 0 where
  pub reads : reading text ≡ Got s []
  pub marks : s.marks ≡ f.marks
  pub cells : s.cells ≡ f.cells
  pub vertices : many coordinate_of (length text) (3 * f.marks) (left text f.vertices.at) ≡ Got s.positions (left text f.faces.at)
  pub faces : faces (length text) f.cells 0 (left text f.faces.at) ≡ Got s.records []

-- "17 .. with the byte place of the first word that breaks this form, or the length of a text that ends early"
pub record Formed (text : List ℕ) (r : Result Form Broken) : Type 0 where
  pub stops : (broken : Broken) → r ≡ Err broken → reading text ≡ Stop broken.place
  pub stands : (f : Form) → r ≡ Ok f → (s : Surface) × Stands text f s
