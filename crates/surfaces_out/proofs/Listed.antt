-- The live cells of memory, one after another, and those of the map.
use mathlib.Core.Path.{◌≡◌, refl, sym, ap, ◌∙◌}
use mathlib.Core.Bool.{Bool, true, false, cond, not, ◌&&◌}
use mathlib.Core.List.{List, [], ◌∷◌, ◌++◌, append_assoc, append-nil, map}
use mathlib.Core.Logic.{⊎_elim}
use Rattle.std.specs.Prelude.{Some, None}
use Prim.Native.Nat.{ℕ, zero, suc, ◌+◌, ◌*◌, ◌<◌, ◌≤◌}
use native.Mathlib.Decide.{dec_lt}
use native.Mathlib.Numerals.{add-one}
use native.Mathlib.Omega.{arith}
use lib.Dec.{eqb}
use lib.ListN.{length, length-append}
use Rattle.lists.specs.Lists.{any, has, select}
use Rattle.lists.proofs.Bools.{either, clash, and_left, and_right}
use Rattle.lists.proofs.Select.{select_in, select_out}
use Rattle.lists.proofs.Counts.{none_has, has_none}
use Rattle.numbers.specs.declared.Caps.{Caps}
use Rattle.shapes.specs.Shapes.{shape}
use Rattle.store.specs.Slots.{code_in}
use Rattle.map.specs.Cells.{Map, Live, live, live_at, live_cells}
use Rattle.picture.specs.Picture.{Wf}
use Rattle.checks.proofs.Rows.{code_of}
use Rattle.positions.proofs.Marked.{corners_are}
use Rattle.frames.specs.Forms.{Appended}
use Rattle.frames.proofs.Append.{append_none, append_more, append_same}
use Rattle.off.specs.Writing.{face_line, face_lines}
use Rattle.surfaces_out.specs.WritesOff.{is_face, other_cell, faces_of}
use Rattle.surfaces_out.specs.InMemory.{other_type, corners_in, line_in, faces_in, Surveyed}
use Rattle.surfaces_out.specs.declared.Survey.{Survey}
use Rattle.surfaces_out.proofs.Marked.{line_few}

pub map_last : {A B : Type 0} (f : A → B) (l : List A) (x : A) → map f (l ++ (x ∷ [])) ≡ map f l ++ (f x ∷ [])
map_last f [] x = refl
map_last f (y ∷ ys) x = ap (λ (l : List _). f y ∷ l) (map_last f ys x)

lines_last : (l : List (List ℕ)) (x : List ℕ) → face_lines (l ++ (x ∷ [])) ≡ face_lines l ++ face_line x
unfolding face_lines
lines_last [] x = append-nil (face_line x)
lines_last (y ∷ ys) x = ap (λ (l : List ℕ). face_line y ++ l) (lines_last ys x) ∙ sym (append_assoc (face_line y) (face_lines ys) (face_line x))

module _ (w : List ℕ) (caps : Caps) where
  faces_next : (c : ℕ) → faces_in w caps (suc c) ≡ cond (eqb (code_in w caps c) 0) (faces_in w caps c) (faces_in w caps c ++ (corners_in w caps c ∷ []))
  unfolding faces_in select
  faces_next c = go (eqb (code_in w caps c) 0)
    where
      go : (b : Bool) → map (corners_in w caps) (cond (not b) (select (λ k. not (eqb (code_in w caps k) 0)) c ++ (c ∷ [])) (select (λ k. not (eqb (code_in w caps k) 0)) c))
          ≡ cond b (map (corners_in w caps) (select (λ k. not (eqb (code_in w caps k) 0)) c))
          (map (corners_in w caps) (select (λ k. not (eqb (code_in w caps k) 0)) c) ++ (corners_in w caps c ∷ []))
      go true = refl
      go false = map_last (corners_in w caps) (select (λ k. not (eqb (code_in w caps k) 0)) c) c

  pub lines_next : (c : ℕ) → face_lines (faces_in w caps (suc c)) ≡ face_lines (faces_in w caps c) ++ line_in w caps c
  unfolding line_in
  lines_next c = ap face_lines (faces_next c) ∙ go (eqb (code_in w caps c) 0)
    where
      go : (b : Bool) → face_lines (cond b (faces_in w caps c) (faces_in w caps c ++ (corners_in w caps c ∷ [])))
          ≡ face_lines (faces_in w caps c) ++ cond b [] (face_line (corners_in w caps c))
      go true = sym (append-nil (face_lines (faces_in w caps c)))
      go false = lines_last (faces_in w caps c) (corners_in w caps c)

  count_next : (c : ℕ) → length (faces_in w caps (suc c)) ≡ length (faces_in w caps c) + cond (eqb (code_in w caps c) 0) 0 1
  count_next c = ap length (faces_next c) ∙ go (eqb (code_in w caps c) 0)
    where
      go : (b : Bool) → length (cond b (faces_in w caps c) (faces_in w caps c ++ (corners_in w caps c ∷ []))) ≡ length (faces_in w caps c) + cond b 0 1
      go true = omega arith
      go false = length-append (faces_in w caps c) (corners_in w caps c ∷ [])

  none_in : faces_in w caps 0 ≡ []
  unfolding faces_in select
  none_in = refl

  lines_none : [] ≡ face_lines (faces_in w caps 0)
  unfolding face_lines
  lines_none = sym (ap face_lines none_in)

  -- written so far
  pub cells_none : (o : List ℕ) (at : ℕ) → Appended (face_lines (faces_in w caps 0)) o at at o
  cells_none o at = append_same lines_none (append_none o at)

  pub cells_more : {o o' o'' : List ℕ} {at p q : ℕ} (c : ℕ) → Appended (face_lines (faces_in w caps c)) o at p o' → Appended (line_in w caps c) o' p q o''
      → Appended (face_lines (faces_in w caps (c + 1))) o at q o''
  cells_more c f g = append_same (sym (ap (λ (k : ℕ). face_lines (faces_in w caps k)) (add-one c) ∙ lines_next c)) (append_more (face_lines (faces_in w caps c)) (line_in w caps c) f g)

  pub cells_done : {o o' : List ℕ} {at p : ℕ} (c : ℕ) → c ≤ caps.cells → caps.cells ≤ c → Appended (face_lines (faces_in w caps c)) o at p o'
      → Appended (face_lines (faces_in w caps caps.cells)) o at p o'
  cells_done c h k f = let e : c ≡ caps.cells = omega arith in append_same (ap (λ (i : ℕ). face_lines (faces_in w caps i)) e) f

pub lines_most : (w : List ℕ) (caps : Caps) (c : ℕ) → length (face_lines (faces_in w caps c)) ≤ 64 * c
lines_most w caps zero = omega (arith, ap length (lines_none w caps))
lines_most w caps (suc c) =
    omega (arith, lines_most w caps c, ap length (lines_next w caps c), length-append (face_lines (faces_in w caps c)) (line_in w caps c), line_few w caps c)

-- the cells so far: none that is no face, how many live ones, and how many bytes their lines have
pub record Surveying (w : List ℕ) (caps : Caps) (c faces bytes : ℕ) : Type 0 where
  pub none : (k : ℕ) → k < c → other_type (code_in w caps k) ≡ false
  pub count : faces ≡ length (faces_in w caps c)
  pub sum : bytes ≡ length (face_lines (faces_in w caps c))
  pub fewer : faces ≤ c
  pub most : bytes ≤ 64 * c

pub one_few : (t one : ℕ) → one ≡ cond (eqb t 0) 0 1 → one ≤ 1
one_few t one e = go (eqb t 0) e
  where
    go : (b : Bool) → one ≡ cond b 0 1 → one ≤ 1
    go true h = omega arith
    go false h = omega arith

empty_lines : length (face_lines []) ≡ 0
unfolding face_lines
empty_lines = refl

module _ (w : List ℕ) (caps : Caps) where
  pub survey_start : Surveying w caps 0 0 0
  survey_start = record {
    none = λ k h. absurd (omega arith);
    count = sym (ap length (none_in w caps));
    sum = sym (ap (λ (l : List (List ℕ)). length (face_lines l)) (none_in w caps) ∙ empty_lines);
    fewer = omega arith;
    most = omega arith;
  }

  module _ (c faces bytes : ℕ) (s : Surveying w caps c faces bytes) (t : ℕ) (e : t ≡ code_in w caps c) where
    pub survey_other : c < caps.cells → (b : Bool) → b ≡ other_type t → b ≡ true → Surveyed w caps None
    survey_other h b q z = record {
      is = λ k r. cc;
      other = λ r. (c, h, ap other_type (sym e) ∙ (sym q ∙ z));
    }

    pub survey_next : (b : Bool) → b ≡ other_type t → b ≡ false → (one more : ℕ) → one ≡ cond (eqb t 0) 0 1 → more ≡ length (line_in w caps c)
        → Surveying w caps (c + 1) (faces + one) (bytes + more)
    survey_next b q z one more eo em =
        let ones : one ≡ cond (eqb (code_in w caps c) 0) 0 1 = eo ∙ ap (λ (k : ℕ). cond (eqb k 0) 0 1) e in
        let few : cond (eqb (code_in w caps c) 0) 0 1 ≤ 1 = small (eqb (code_in w caps c) 0) in
        record {
          none = λ k h. here k h (dec_lt k c);
          count = omega (arith, s.count, ap (λ (k : ℕ). length (faces_in w caps k)) (add-one c), count_next w caps c);
          sum = omega (arith, s.sum, ap (λ (k : ℕ). length (face_lines (faces_in w caps k))) (add-one c), ap length (lines_next w caps c), length-append (face_lines (faces_in w caps c)) (line_in w caps c));
          fewer = omega (arith, s.fewer);
          most = omega (arith, s.most, line_few w caps c);
        }
      where
        small : (t : Bool) → cond t 0 1 ≤ 1
        small true = omega arith
        small false = omega arith

        here : (k : ℕ) → k < c + 1 → Dec (k < c) → other_type (code_in w caps k) ≡ false
        here k h (yes l) = s.none k l
        here k h (no l) = let same : k ≡ c = omega arith in ap (λ (i : ℕ). other_type (code_in w caps i)) same ∙ (ap other_type (sym e) ∙ (sym q ∙ z))

  pub survey_few : (c faces bytes : ℕ) → Surveying w caps c faces bytes → (more : ℕ) → more ≡ length (line_in w caps c) → (bytes ≤ 64 * c) × (more ≤ 64)
  survey_few c faces bytes s more e = (s.most, omega (arith, line_few w caps c))

  pub survey_done : (c faces bytes : ℕ) → Surveying w caps c faces bytes → c ≤ caps.cells → caps.cells ≤ c → Surveyed w caps (Some (record { faces = faces; bytes = bytes }))
  survey_done c faces bytes s h k =
      let e : c ≡ caps.cells = omega arith in
      record {
        is = λ found r.
            let same : record { faces = faces; bytes = bytes } ≡ found = cc in
            let en : faces ≡ found.faces = ap (λ (s : Survey). s.faces) same in
            let eb : bytes ≡ found.bytes = ap (λ (s : Survey). s.bytes) same in (
              (λ i l. s.none i (omega arith)),
              sym en ∙ (s.count ∙ ap (λ (i : ℕ). length (faces_in w caps i)) e),
              sym eb ∙ (s.sum ∙ ap (λ (i : ℕ). length (face_lines (faces_in w caps i))) e),
            );
        other = λ r. cc;
      }

-- by the map
pub map_fused : {A B C : Type 0} (f : A → B) (g : B → C) (l : List A) → map g (map f l) ≡ map (λ a. g (f a)) l
map_fused f g [] = refl
map_fused f g (x ∷ xs) = ap (λ (l : List _). g (f x) ∷ l) (map_fused f g xs)

any_fused : {A : Type 0} (f : ℕ → A) (p : A → Bool) (l : List ℕ) → any p (map f l) ≡ any (λ a. p (f a)) l
unfolding any
any_fused f p [] = refl
any_fused f p (x ∷ xs) = rw (any_fused f p xs)

mapped_same : {A : Type 0} (f g : ℕ → A) (p q : ℕ → Bool) (n : ℕ) → ((k : ℕ) → k < n → p k ≡ q k) → ((k : ℕ) → k < n → f k ≡ g k)
    → map f (select p n) ≡ map g (select q n)
unfolding select
mapped_same f g p q zero h e = refl
mapped_same f g p q (suc n) h e =
    ap (λ (b : Bool). map f (cond b (select p n ++ (n ∷ [])) (select p n))) (h n (omega arith))
    ∙ go (q n) (mapped_same f g p q n (λ k l. h k (omega arith)) (λ k l. e k (omega arith)))
  where
    go : (b : Bool) → map f (select p n) ≡ map g (select q n) → map f (cond b (select p n ++ (n ∷ [])) (select p n)) ≡ map g (cond b (select q n ++ (n ∷ [])) (select q n))
    go true i = map_last f (select p n) n ∙ (ap (λ (l : List _). l ++ (f n ∷ [])) i ∙ (ap (λ (x : _). map g (select q n) ++ (x ∷ [])) (e n (omega arith)) ∙ sym (map_last g (select q n) n)))
    go false i = i

any_true : (p : ℕ → Bool) (l : List ℕ) (v : ℕ) → has v l ≡ true → p v ≡ true → any p l ≡ true
any_true p l v h e = ⊎_elim (λ t. t) (λ f. absurd (clash e (none_has p l f v h))) (either (any p l))

module _ (w : List ℕ) (caps : Caps) (m : Map) (q : m.caps ≡ caps) (wf : Wf w m) where
  codes : (k : ℕ) → k < caps.cells → code_in w caps k ≡ (m.at k).code
  codes k h = code_of caps m q w wf k h

  cells : m.caps.cells ≡ caps.cells
  cells = ap (λ (c : Caps). c.cells) q

  pub faces_are : faces_in w caps caps.cells ≡ faces_of m
  unfolding faces_in faces_of live_cells live corners_in
  faces_are =
      mapped_same (corners_in w caps) (λ k. (m.at k).marks) (λ c. not (eqb (code_in w caps c) 0)) (live m) caps.cells
      (λ k h. ap (λ (t : ℕ). not (eqb t 0)) (codes k h)) (λ k h. corners_are w caps m q wf k h (shape (code_in w caps k)).marks refl)
      ∙ (ap (λ (n : ℕ). map (λ k. (m.at k).marks) (select (live m) n)) (sym cells) ∙ sym (map_fused (live_at m) (λ (x : Live). x.body.marks) (select (live m) m.caps.cells)))

  others_are : other_cell m ≡ any (λ k. not (is_face (m.at k).code)) (select (live m) m.caps.cells)
  unfolding other_cell live_cells
  others_are = any_fused (live_at m) (λ (x : Live). not (is_face x.body.code)) (select (live m) m.caps.cells)

  pub others_none : ((c : ℕ) → c < caps.cells → other_type (code_in w caps c) ≡ false) → other_cell m ≡ false
  unfolding other_type live
  others_none f = others_are ∙ has_none (λ k. not (is_face (m.at k).code)) (select (live m) m.caps.cells) each
    where
      both : (a b : Bool) → a && b ≡ false → a ≡ true → b ≡ false
      both true b e t = e
      both false b e t = absurd (clash t refl)

      each : (v : ℕ) → has v (select (live m) m.caps.cells) ≡ true → not (is_face (m.at v).code) ≡ false
      each v h =
          let there = select_out (live m) m.caps.cells v h in
          let inside : v < caps.cells = omega (arith, cells, there.0) in
          both (not (eqb (m.at v).code 0)) (not (is_face (m.at v).code)) (rw (codes v inside) at (f v inside)) there.1

  pub others_some : (c : ℕ) → c < caps.cells → other_type (code_in w caps c) ≡ true → other_cell m ≡ true
  unfolding other_type live
  others_some c h e =
      let t : not (eqb (m.at c).code 0) && not (is_face (m.at c).code) ≡ true = rw (codes c h) at e in
      others_are ∙ any_true (λ k. not (is_face (m.at k).code)) (select (live m) m.caps.cells) c
      (select_in (live m) m.caps.cells c (omega (arith, cells)) (and_left (not (eqb (m.at c).code 0)) (not (is_face (m.at c).code)) t))
      (and_right (not (eqb (m.at c).code 0)) (not (is_face (m.at c).code)) t)
