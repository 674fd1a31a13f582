-- What is written is read back: the counts, the positions and the faces, numbered 0, 1, 2 and so on.
use mathlib.Core.Path.{◌≡◌, refl, ap}
use mathlib.Core.Bool.{true, ◌||◌}
use mathlib.Core.List.{List, [], ◌∷◌, ◌++◌, append_assoc, map}
use Prim.Native.Nat.{ℕ, zero, suc, ◌+◌, ◌*◌, ◌<◌, ◌≤◌}
use native.Mathlib.Decide.{dec_lt}
use native.Mathlib.Omega.{arith}
use borrow.Author.Tests.{eq-eqb}
use lib.Dec.{eqb}
use lib.ListN.{length, get_or, take, length-take}
use lib.Seq.{take-suc}
use lib.IntN.{ℤ, pos}
use mir.Syntax.{w16}
use mir.Val.{SFits}
use Rattle.lists.specs.Lists.{all, same}
use Rattle.lists.proofs.Bools.{and_both, or_left, or_right}
use Rattle.off.specs.Words.{parts, Word, words_from}
use Rattle.off.specs.Numbers.{Is, number_of, coordinate_of, three_or_four, size_of, title, title_of}
use Rattle.off.specs.Reading.{Got, ◌then◌, one, many, face_code, face, faces, Surface, ended, read_words, reading}
use Rattle.off.specs.Writing.{digits_of, coordinate_text, counts_line, vertex_line, face_line, vertex_lines, face_lines, text_of, records_from}
use Rattle.off.proofs.Joined.{plain, fine, spelled, Spells, spells_none, spells_line}
use Rattle.off.proofs.Digits.{digits_fine, number_read, coordinate_read, coordinate_fine}
use Rattle.off.proofs.Meant.{Each, none, more, read_one, read_many, read_count}

-- a face that the form has: three or four marks, each a number of the form
pub record Face (x : List ℕ) : Type 0 where
  pub least : 3 ≤ length x
  pub most : length x ≤ 4
  pub marks : Each (λ v. v < 1000000) x

each_of : {A : Type 0} {P Q : A → Type 0} → ((a : A) → P a → Q a) → (l : List A) → Each P l → Each Q l
each_of f [] none = none
each_of f (x ∷ xs) (more p ps) = more (f x p) (each_of f xs ps)

all_fine : {A : Type 0} (text : A → List ℕ) → ((a : A) → fine (text a) ≡ true) → (l : List A) → all fine (map text l) ≡ true
unfolding all
all_fine text f [] = refl
all_fine text f (x ∷ xs) = and_both (fine (text x)) (all fine (map text xs)) (f x) (all_fine text f xs)

map_both : {A B : Type 0} (f : A → B) (a b : List A) → map f (a ++ b) ≡ map f a ++ map f b
map_both f [] b = refl
map_both f (x ∷ xs) b = ap (λ (l : List _). f x ∷ l) (map_both f xs b)

-- the words of the faces
unfoldable face_words : List (List ℕ) → List (List ℕ)
face_words [] = []
face_words (x ∷ xs) = digits_of (length x) ∷ (map digits_of x ++ face_words xs)

spells_faces : (xs : List (List ℕ)) → Spells (face_lines xs) (face_words xs)
unfolding face_lines face_line face_words
spells_faces [] = spells_none
spells_faces (x ∷ xs) =
    spells_line (digits_of (length x)) (map digits_of x) (face_lines xs) (face_words xs) (digits_fine (length x)) (all_fine digits_of digits_fine x) (spells_faces xs)

-- the words of the vertices
take_three : (l : List ℤ) (k : ℕ) → suc (suc (suc k)) ≤ length l
    → take (suc (suc (suc k))) l ≡ take k l ++ (get_or l k (pos 0) ∷ get_or l (k + 1) (pos 0) ∷ get_or l (k + 2) (pos 0) ∷ [])
take_three l k h =
    let e : k + 1 ≡ suc k = omega arith in
    let f : k + 2 ≡ suc (suc k) = omega arith in
    rw (e, f, take-suc l (suc (suc k)) (pos 0) (omega arith), take-suc l (suc k) (pos 0) (omega arith), take-suc l k (pos 0) (omega arith))
    (simp append_assoc)

spells_vertex : (l : List ℤ) (n : ℕ) (rest : List ℕ) (ws : List (List ℕ)) → Spells rest ws
    → Spells (vertex_line l n ++ rest)
    (coordinate_text (get_or l (3 * n) (pos 0)) ∷ coordinate_text (get_or l (3 * n + 1) (pos 0)) ∷ coordinate_text (get_or l (3 * n + 2) (pos 0)) ∷ ws)
unfolding vertex_line all
spells_vertex l n rest ws s =
    spells_line (coordinate_text (get_or l (3 * n) (pos 0))) (coordinate_text (get_or l (3 * n + 1) (pos 0)) ∷ coordinate_text (get_or l (3 * n + 2) (pos 0)) ∷ []) rest ws
    (coordinate_fine _) (and_both _ _ (coordinate_fine _) (and_both _ _ (coordinate_fine _) refl)) s

spells_vertices : (n : ℕ) (l : List ℤ) → 3 * n ≤ length l → (rest : List ℕ) (ws : List (List ℕ)) → Spells rest ws
    → Spells (vertex_lines n l ++ rest) (map coordinate_text (take (3 * n) l) ++ ws)
unfolding vertex_lines
spells_vertices zero l h rest ws s = s
spells_vertices (suc n) l h rest ws s =
    rw (append_assoc (vertex_lines n l) (vertex_line l n) rest, words)
    (spells_vertices n l (omega arith) (vertex_line l n ++ rest) _ (spells_vertex l n rest ws s))
  where
    words : map coordinate_text (take (3 * suc n) l) ++ ws
        ≡ map coordinate_text (take (3 * n) l)
        ++ (coordinate_text (get_or l (3 * n) (pos 0)) ∷ coordinate_text (get_or l (3 * n + 1) (pos 0)) ∷ coordinate_text (get_or l (3 * n + 2) (pos 0)) ∷ ws)
    words =
        let e : 3 * suc n ≡ suc (suc (suc (3 * n))) = omega arith in
        rw (e, take_three l (3 * n) (omega arith), map_both coordinate_text (take (3 * n) l)) (simp append_assoc)

-- the size of a face, and its marks
size_read : (n : ℕ) → 3 ≤ n → n ≤ 4 → size_of (digits_of n) ≡ Is n
unfolding size_of three_or_four
size_read n l h = rw (number_read n (omega arith), size (dec_lt n 4))
  where
    size : Dec (n < 4) → eqb n 3 || eqb n 4 ≡ true
    size (yes k) = or_left (eqb n 3) (eqb n 4) (eq-eqb n 3 (omega arith))
    size (no f) = or_right (eqb n 3) (eqb n 4) (eq-eqb n 4 (omega arith))

face_step : (end c n : ℕ) (x : List ℕ) (ws us vs : List Word) → one size_of end ws ≡ Got n us → many number_of end n us ≡ Got x vs
    → face end c ws ≡ Got (c ∷ face_code n ∷ 0 ∷ x) vs
unfolding face ◌then◌
face_step end c n x ws us vs e f = rw (e, f)

read_face : (end c : ℕ) (x : List ℕ) → Face x → (rest : List (List ℕ)) (ws : List Word) → spelled ws ≡ digits_of (length x) ∷ (map digits_of x ++ rest)
    → (vs : List Word) × (face end c ws ≡ Got (c ∷ face_code (length x) ∷ 0 ∷ x) vs) × (spelled vs ≡ rest)
read_face end c x f rest ws s =
    let first = read_one size_of end (length x) (digits_of (length x)) (map digits_of x ++ rest) ws (size_read (length x) f.least f.most) s in
    let others = read_many number_of digits_of end x (each_of number_read x f.marks) rest first.0 first.2 in
    (others.0, face_step end c (length x) x ws first.0 others.0 first.1 others.1, others.2)

faces_step : (end n c : ℕ) (x r : List ℕ) (ws us vs : List Word) → face end c ws ≡ Got x us → faces end n (suc c) us ≡ Got r vs
    → faces end (suc n) c ws ≡ Got (x ++ r) vs
unfolding faces ◌then◌
faces_step end n c x r ws us vs e f = rw (e, f)

faces_none : (end c : ℕ) (ws : List Word) → faces end 0 c ws ≡ Got [] ws
unfolding faces
faces_none end c ws = refl

read_faces : (end c : ℕ) (xs : List (List ℕ)) → Each Face xs → (ws : List Word) → spelled ws ≡ face_words xs
    → (vs : List Word) × (faces end (length xs) c ws ≡ Got (records_from c xs) vs) × (spelled vs ≡ [])
unfolding face_words records_from
read_faces end c [] none ws s = (ws, faces_none end c ws, s)
read_faces end c (x ∷ xs) (more p ps) ws s =
    let first = read_face end c x p (face_words xs) ws s in
    let others = read_faces end (suc c) xs ps first.0 first.2 in
    (others.0, faces_step end (length xs) c (c ∷ face_code (length x) ∷ 0 ∷ x) (records_from (suc c) xs) ws first.0 others.0 first.1 others.1, others.2)

ended_none : (s : Surface) (ws : List Word) → spelled ws ≡ [] → ended s ws ≡ Got s []
unfolding ended spelled
ended_none s [] e = refl
ended_none s (w ∷ ws) e = let z : ◌≡◌ {A = ℕ} 0 1 = cc in absurd (omega arith)

-- the parts of the reading, one after another
whole_step : (end m c k : ℕ) (l : List ℤ) (r : List ℕ) (ws w1 w2 w3 w4 : List Word)
    → one title_of end ws ≡ Got title w1 → many number_of end 3 w1 ≡ Got (m ∷ c ∷ k ∷ []) w2 → many coordinate_of end (3 * m) w2 ≡ Got l w3
    → faces end c 0 w3 ≡ Got r w4 → ended (record { marks = m; cells = c; positions = l; records = r }) w4 ≡ Got (record { marks = m; cells = c; positions = l; records = r }) []
    → read_words end ws ≡ Got (record { marks = m; cells = c; positions = l; records = r }) []
unfolding read_words ◌then◌
whole_step end m c k l r ws w1 w2 w3 w4 e f g h i = rw (e, f, g, h, i)

title_read : title_of title ≡ Is title
unfolding title_of title same
title_read = refl

title_fine : fine title ≡ true
unfolding fine title all plain parts
title_fine = refl

text_words : (marks : ℕ) (l : List ℤ) (xs : List (List ℕ)) → 3 * marks ≤ length l
    → Spells (text_of marks l xs) (title ∷ (digits_of marks ∷ digits_of (length xs) ∷ digits_of 0 ∷ (map coordinate_text (take (3 * marks) l) ++ face_words xs)))
unfolding text_of counts_line all
text_words marks l xs h =
    spells_line title [] _ _ title_fine refl
    (spells_line (digits_of marks) (digits_of (length xs) ∷ digits_of 0 ∷ []) _ _ (digits_fine marks) (and_both _ _ (digits_fine (length xs)) (and_both _ _ (digits_fine 0) refl))
    (spells_vertices marks l h (face_lines xs) (face_words xs) (spells_faces xs)))

take_size : (n : ℕ) (l : List ℤ) → n ≤ length l → length (take n l) ≡ n
take_size n l h = omega (arith, length-take n l)

-- "An OFF surface read, written as OFF by us and read again gives the same cells and positions."
pub round_trip : (marks : ℕ) (l : List ℤ) (xs : List (List ℕ)) → marks < 1000000 → length xs < 1000000 → 3 * marks ≤ length l
    → Each (SFits w16) (take (3 * marks) l) → Each Face xs
    → reading (text_of marks l xs) ≡ Got (record { marks = marks; cells = length xs; positions = take (3 * marks) l; records = records_from 0 xs }) []
unfolding reading
round_trip marks l xs h k fits coordinates each =
    let end = length (text_of marks l xs) in
    let ws = words_from 0 (text_of marks l xs) in
    let first = read_one title_of end title title _ ws title_read (text_words marks l xs fits 0) in
    let counts = read_many number_of digits_of end (marks ∷ length xs ∷ 0 ∷ []) (more (number_read marks h) (more (number_read (length xs) k) (more (number_read 0 (omega arith)) none)))
    (map coordinate_text (take (3 * marks) l) ++ face_words xs) first.0 first.2 in
    let positions = read_count coordinate_of coordinate_text end (take (3 * marks) l) (3 * marks) (take_size (3 * marks) l fits) (each_of coordinate_read (take (3 * marks) l) coordinates) (face_words xs) counts.0 counts.2 in
    let last = read_faces end 0 xs each positions.0 positions.2 in
    whole_step end marks (length xs) 0 (take (3 * marks) l) (records_from 0 xs) ws first.0 counts.0 positions.0 last.0
    first.1 counts.1 positions.1 last.1 (ended_none _ last.0 last.2)
