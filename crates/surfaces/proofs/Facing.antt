-- A face of the text, and its insertion.
use mathlib.Core.Path.{◌≡◌, refl, sym, ap, ◌∙◌}
use mathlib.Core.Bool.{true, ◌||◌}
use mathlib.Core.List.{List, [], ◌∷◌}
use Rattle.std.specs.Prelude.{Ok, Err, Result, ⊤}
use Prim.Native.Nat.{ℕ, zero, suc, ◌+◌, ◌-◌, ◌≤◌}
use native.Mathlib.Decide.{ℕ_discrete}
use native.Mathlib.Omega.{arith}
use borrow.Author.Tests.{ne_eqb}
use lib.Dec.{eqb}
use lib.ListN.{length, get_or, take, drop}
use lib.Seq.{sets, sets-eq, take_at, length-sets}
use Rattle.words.specs.Words.{part_of}
use Rattle.words.proofs.Fits.{part_fits}
use Rattle.shapes.specs.Shapes.{shapes, shape}
use Rattle.map.specs.Cells.{body_of}
use Rattle.map.specs.History.{Insert}
use Rattle.map.specs.declared.Refusal.{Refusal}
use Rattle.mesh.specs.Edited.{Edited}
use Rattle.off.specs.Words.{Word}
use Rattle.off.specs.Numbers.{Says, Is, Breaks, number_of, three_or_four, size_of}
use Rattle.off.specs.Reading.{Read, Got, Stop, ◌then◌, one, many, face_code, face}
use Rattle.off.specs.declared.Cursor.{Cursor}
use Rattle.off_form.specs.Took.{left}
use Rattle.surfaces.specs.Passes.{MarksRead, FaceInserted}
use Rattle.surfaces.proofs.Filling.{many_first, many_some, many_nothing}

-- as many are read as were asked for
pub one_read : {A : Type 0} (f : List ℕ → Says A) (end k : ℕ) (l : List A) (ws us : List Word) → many f end (suc k) ws ≡ Got l us
    → (a : A) × (vs : List Word) × (one f end ws ≡ Got a vs)
one_read f end k l ws us e = go (one f end ws) refl
  where
    go : (r : Read _) → one f end ws ≡ r → (a : _) × (vs : List Word) × (one f end ws ≡ Got a vs)
    go (Got a vs) h = (a, vs, h)
    go (Stop p) h = absurd (many_some f end k l ws us e p h)

pub many_length : {A : Type 0} (f : List ℕ → Says A) (end n : ℕ) (l : List A) (ws us : List Word) → many f end n ws ≡ Got l us → length l ≡ n
many_length f end zero l ws us e = ap length (many_nothing f end l ws us e).0
many_length f end (suc n) l ws us e =
    let first = one_read f end n l ws us e in
    let rest = many_first f end n l ws us e first.0 first.1 first.2 in
    ap length rest.2 ∙ ap suc (many_length f end n rest.0 first.1 us rest.1)

-- "3 or 4"
three_or_four_lem : (s : Says ℕ) (n : ℕ) → three_or_four s ≡ Is n → (3 ≤ n) × (n ≤ 4)
unfolding three_or_four
three_or_four_lem Breaks n e = let z : ◌≡◌ {A = ℕ} 0 1 = cc in absurd (omega arith)
three_or_four_lem (Is m) n e = go (ℕ_discrete m 3) (ℕ_discrete m 4)
  where
    same : eqb m 3 || eqb m 4 ≡ true → m ≡ n
    same t = let q = rw t at e in cc

    go : Dec (m ≡ 3) → Dec (m ≡ 4) → (3 ≤ n) × (n ≤ 4)
    go (yes h) d = let q : Is 3 ≡ Is n = rw h at e in let z : 3 ≡ n = cc in (omega arith, omega arith)
    go (no h) (yes k) = let q : Is 4 ≡ Is n = rw k at e in let z : 4 ≡ n = cc in (omega arith, omega arith)
    go (no h) (no k) = let q = rw (ne_eqb m 3 h, ne_eqb m 4 k) at e in let z : ◌≡◌ {A = ℕ} 0 1 = cc in absurd (omega arith)

pub size_few : (end n : ℕ) (ws us : List Word) → one size_of end ws ≡ Got n us → (3 ≤ n) × (n ≤ 4)
unfolding one size_of
size_few end n [] us e = let z : ◌≡◌ {A = ℕ} 0 1 = cc in absurd (omega arith)
size_few end n (w ∷ ws) us e = three_or_four_lem (number_of w.bytes) n (said (three_or_four (number_of w.bytes)) e)
  where
    said : (s : Says ℕ) → elim s [ Is a ↦ Got a ws | Breaks ↦ Stop w.place ] ≡ Got n us → s ≡ Is n
    said (Is a) h = cc
    said Breaks h = let o : ◌≡◌ {A = ℕ} 0 1 = cc in absurd (omega arith)

-- a triangle has three marks and a quad four
pub face_marks : (n : ℕ) → 3 ≤ n → n ≤ 4 → (shape (face_code n)).marks ≡ n
unfolding face_code shape shapes
face_marks n l h = go (ℕ_discrete n 3)
  where
    go : Dec (n ≡ 3) → (shape (face_code n)).marks ≡ n
    go (yes e) = rw e
    go (no f) = let e : n ≡ 4 = omega arith in rw e

-- the parts of a face that was read
pub record Parts (end c : ℕ) (x : List ℕ) (ws us : List Word) : Type 0 where
  pub size : ℕ
  pub marks : List ℕ
  pub behind : List Word
  pub sized : one size_of end ws ≡ Got size behind
  pub read : many number_of end size behind ≡ Got marks us
  pub is : x ≡ c ∷ face_code size ∷ 0 ∷ marks

pub face_parts : (end c : ℕ) (x : List ℕ) (ws us : List Word) → face end c ws ≡ Got x us → Parts end c x ws us
unfolding face ◌then◌
face_parts end c x ws us e = go (one size_of end ws) refl e
  where
    rest : (n : ℕ) (vs : List Word) → one size_of end ws ≡ Got n vs → (r : Read (List ℕ)) → many number_of end n vs ≡ r
        → (r then λ marks ws. Got (c ∷ face_code n ∷ 0 ∷ marks) ws) ≡ Got x us → Parts end c x ws us
    rest n vs h (Got l ys) q k = record { size = n; marks = l; behind = vs; sized = h; read = q ∙ ap (Got l) cc; is = cc }
    rest n vs h (Stop p) q k = let z : ◌≡◌ {A = ℕ} 0 1 = cc in absurd (omega arith)

    go : (r : Read ℕ) → one size_of end ws ≡ r → (r then λ size ws. many number_of end size ws then λ marks ws. Got (c ∷ face_code size ∷ 0 ∷ marks) ws) ≡ Got x us
        → Parts end c x ws us
    go (Got n vs) h k = rest n vs h (many number_of end n vs) refl k
    go (Stop p) h k = let z : ◌≡◌ {A = ℕ} 0 1 = cc in absurd (omega arith)

-- the marks of a face, as they stand in the first places
marks_part_lem : (o l : List ℕ) (n : ℕ) → length l ≡ n → n ≤ length o → part_of (sets o 0 l) 0 n ≡ l
marks_part_lem o l n e h =
    part_fits (sets o 0 l) 0 n (omega (arith, length-sets o 0 l))
    ∙ (ap (λ (k : List ℕ). take n (drop 0 k)) (sets-eq l o 0 (omega arith)) ∙ take_at l (drop (0 + length l) o) n e)

module _ (w text : List ℕ) (from c : ℕ) where
  pub inserted_none : (p : ℕ) → one size_of (length text) (left text from) ≡ Stop p → (why : Refusal) → FaceInserted w text from c (Err why) w
  inserted_none p e why = record {
    size = refl;
    refused = λ x ws f other z.
        let parts = face_parts (length text) c x (left text from) ws f in
        let q : Stop p ≡ Got parts.size parts.behind = sym e ∙ parts.sized in
        let o : ◌≡◌ {A = ℕ} 0 1 = cc in absurd (omega arith);
    made = λ x ws f at z. let o : ◌≡◌ {A = ℕ} 0 1 = cc in absurd (omega arith);
  }

  module _ (n behind : ℕ) (e : one size_of (length text) (left text from) ≡ Got n (left text behind))
      (out out' : List ℕ) (next : ℕ) (reads : MarksRead text behind n out next out') (big : 4 ≤ length out)
      (t : ℕ) (et : t ≡ n - 1) (marks : List ℕ) (em : marks ≡ part_of out' 0 n) (v : Result ⊤ Refusal) (w' : List ℕ) (edited : Edited w (Insert c (body_of t marks)) v w') where
    -- the face as the text has it
    module _ (x : List ℕ) (ws : List Word) (f : face (length text) c (left text from) ≡ Got x ws) where
      parts : Parts (length text) c x (left text from) ws
      parts = face_parts (length text) c x (left text from) ws f

      alike : (parts.size ≡ n) × (parts.behind ≡ left text behind)
      alike = let q : Got parts.size parts.behind ≡ Got n (left text behind) = sym parts.sized ∙ e in (cc, cc)

      read : many number_of (length text) n (left text behind) ≡ Got parts.marks ws
      read = rw (alike.0, alike.1) at parts.read

      here : (left text next ≡ ws) × (out' ≡ sets out 0 parts.marks)
      here = reads parts.marks ws read

      few : n ≤ 4
      few = (size_few (length text) n (left text from) (left text behind) e).1

      named : marks ≡ drop 3 x
      named =
          em ∙ (ap (λ (k : List ℕ). part_of k 0 n) here.1
          ∙ (marks_part_lem out parts.marks n (many_length number_of (length text) n parts.marks (left text behind) ws read) (omega (arith, few))
          ∙ sym (ap (drop 3) parts.is)))

      typed : t ≡ get_or x 1 0
      unfolding face_code
      typed = et ∙ (ap (λ (k : ℕ). k - 1) (sym alike.0) ∙ sym (ap (λ (k : List ℕ). get_or k 1 0) parts.is))

      same : Edited w (Insert c (body_of (get_or x 1 0) (drop 3 x))) v w'
      same = rw (← typed, ← named) edited

    pub inserted_refused : (why : Refusal) → v ≡ Err why → FaceInserted w text from c (Err why) w'
    inserted_refused why q = record {
      size = edited.inside.size;
      refused = λ x ws f other z. let eq : v ≡ Err other = cc in rw (← eq) (same x ws f);
      made = λ x ws f at z. let o : ◌≡◌ {A = ℕ} 0 1 = cc in absurd (omega arith);
    }

    pub inserted_made : v ≡ (Ok tt) → (at : Cursor) → at.at ≡ next → FaceInserted w text from c (Ok at) w'
    inserted_made q at ea = record {
      size = edited.inside.size;
      refused = λ x ws f other z. let o : ◌≡◌ {A = ℕ} 0 1 = cc in absurd (omega arith);
      made = λ x ws f other z.
          let eq : at ≡ other = cc in
          (rw (← q) (same x ws f), ap (λ (k : Cursor). left text k.at) (sym eq) ∙ (ap (left text) ea ∙ (here x ws f).0));
    }
