-- The reading of a text: "the word OFF, three counts (edges not used), three numbers a vertex, then 3 or 4 and that many places a face".
use Rattle.std.specs.Prelude.{List, [], ◌∷◌, ◌++◌, ℕ, zero, suc, ◌-◌, ◌*◌, length, get_or, ℤ}
use Rattle.off.specs.Words.{Word, words_from}
use Rattle.off.specs.Numbers.{Says, Is, Breaks, number_of, coordinate_of, size_of, title_of}

-- what was read, and the words after it; or refusal 17, "with the byte place of the first word that breaks this form, or the length of a
-- text that ends early"
pub data Read (A : Type 0) : Type 0 where
  Got : A → List Word → Read A
  Stop : ℕ → Read A

infixr 10 ◌then◌
unfoldable pub ◌then◌ : {A B : Type 0} → Read A → (A → List Word → Read B) → Read B
Got a ws then f = f a ws
Stop place then f = Stop place

-- one word of a text of length `end`, as f reads it
unfoldable pub one : {A : Type 0} → (List ℕ → Says A) → ℕ → List Word → Read A
one f end [] = Stop end
one f end (w ∷ ws) = elim (f w.bytes) [ Is a ↦ Got a ws | Breaks ↦ Stop w.place ]

-- n words, each as f reads it
unfoldable pub many : {A : Type 0} → (List ℕ → Says A) → ℕ → ℕ → List Word → Read (List A)
many f end zero ws = Got [] ws
many f end (suc n) ws = one f end ws then λ a ws. many f end n ws then λ rest ws. Got (a ∷ rest) ws

-- the type code of a face: 2 for a triangle, 3 for a quad
unfoldable pub face_code : ℕ → ℕ
face_code size = size - 1

-- a face is a build record: "a cell number, a type code, then that type's marks", with the licence after the type; none "for a face read from
-- OFF, means 0"
unfoldable pub face : ℕ → ℕ → List Word → Read (List ℕ)
face end c ws = one size_of end ws then λ size ws. many number_of end size ws then λ marks ws. Got (c ∷ face_code size ∷ 0 ∷ marks) ws

-- "faces cells 0, 1, 2 in file order": n faces, the first of them cell c
unfoldable pub faces : ℕ → ℕ → ℕ → List Word → Read (List ℕ)
faces end zero c ws = Got [] ws
faces end (suc n) c ws = face end c ws then λ x ws. faces end n (suc c) ws then λ xs ws. Got (x ++ xs) ws

-- what a text says: "the first two counts become the capacities", three numbers a mark, and the build records of the faces
pub record Surface : Type 0 where
  pub marks : ℕ
  pub cells : ℕ
  pub positions : List ℤ
  pub records : List ℕ

abbrev pub surface : List ℕ → List ℤ → List ℕ → Surface
surface counts positions records =
    record { marks = get_or counts 0 0; cells = get_or counts 1 0; positions = positions; records = records }

-- behind the last face stands no word
unfoldable pub ended : Surface → List Word → Read Surface
ended s [] = Got s []
ended s (w ∷ ws) = Stop w.place

unfoldable pub read_words : ℕ → List Word → Read Surface
read_words end ws =
    one title_of end ws then λ _ ws.
    many number_of end 3 ws then λ counts ws.
    many coordinate_of end (3 * get_or counts 0 0) ws then λ positions ws.
    faces end (get_or counts 1 0) 0 ws then λ records ws.
    ended (surface counts positions records) ws

unfoldable pub reading : List ℕ → Read Surface
reading text = read_words (length text) (words_from 0 text)
