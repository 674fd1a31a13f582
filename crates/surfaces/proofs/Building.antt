-- Faces inserted one after another are the build of their records.
use mathlib.Core.Path.{◌≡◌, refl, sym, ap, subst, ◌∙◌}
use mathlib.Core.List.{List, [], ◌∷◌, ◌++◌}
use Rattle.std.specs.Prelude.{Result, Ok, Err, ⊤}
use Prim.Native.Nat.{ℕ, suc, ◌+◌, ◌-◌, ◌<◌, ◌≤◌, min}
use native.Mathlib.Numerals.{add-one}
use native.Mathlib.Omega.{arith}
use lib.ListN.{length, get_or, take, drop, length-append, length-drop}
use lib.Seq.{take_at, drop_at, drop-drop, get_or-drop}
use Rattle.numbers.specs.Sizes.{caps_under}
use Rattle.numbers.specs.declared.Caps.{Caps}
use Rattle.words.specs.Words.{part_of}
use Rattle.words.proofs.Fits.{part_fits}
use Rattle.shapes.specs.Shapes.{shape}
use Rattle.map.specs.Cells.{body_of}
use Rattle.map.specs.History.{Insert}
use Rattle.map.specs.declared.Refusal.{Refusal}
use Rattle.map.specs.Says.{RefusedAt}
use Rattle.format.specs.Formatted.{Formatted}
use Rattle.mesh.specs.Edited.{Edited}
use Rattle.build.specs.Builds.{Builds}
use Rattle.build.specs.Recorded.{width, Recorded}
use Rattle.build.proofs.Records.{record_made}
use Rattle.build.proofs.Going.{Going, going_start, build_done, build_stopped, going_refused, going_next}
use Rattle.off.specs.Words.{Word}
use Rattle.off.specs.Reading.{Read, Got, Stop, ◌then◌, face_code, face, faces}
use Rattle.off.specs.Numbers.{number_of}
use Rattle.off.specs.declared.Cursor.{Cursor}
use Rattle.off_form.specs.Took.{left}
use Rattle.surfaces.specs.Passes.{FaceInserted}
use Rattle.surfaces.proofs.Facing.{many_length, size_few, face_marks, Parts, face_parts}

-- the first of some faces that were read
pub record First (end k c : ℕ) (r : List ℕ) (ws us : List Word) : Type 0 where
  pub record' : List ℕ
  pub behind : List Word
  pub others : List ℕ
  pub here : face end c ws ≡ Got record' behind
  pub after : faces end k (suc c) behind ≡ Got others us
  pub is : r ≡ record' ++ others

pub faces_first : (end k c : ℕ) (r : List ℕ) (ws us : List Word) → faces end (suc k) c ws ≡ Got r us → First end k c r ws us
unfolding faces ◌then◌
faces_first end k c r ws us e = go (face end c ws) refl e
  where
    rest : (x : List ℕ) (vs : List Word) → face end c ws ≡ Got x vs → (y : Read (List ℕ)) → faces end k (suc c) vs ≡ y
        → (y then λ xs ws. Got (x ++ xs) ws) ≡ Got r us → First end k c r ws us
    rest x vs h (Got l ys) q m = record { record' = x; behind = vs; others = l; here = h; after = q ∙ ap (Got l) cc; is = cc }
    rest x vs h (Stop p) q m = let z : ◌≡◌ {A = ℕ} 0 1 = cc in absurd (omega arith)

    go : (y : Read (List ℕ)) → face end c ws ≡ y → (y then λ x ws. faces end k (suc c) ws then λ xs ws. Got (x ++ xs) ws) ≡ Got r us
        → First end k c r ws us
    go (Got x vs) h m = rest x vs h (faces end k (suc c) vs) refl m
    go (Stop p) h m = let z : ◌≡◌ {A = ℕ} 0 1 = cc in absurd (omega arith)

pub faces_nothing : (end c : ℕ) (r : List ℕ) (ws us : List Word) → faces end 0 c ws ≡ Got r us → r ≡ []
unfolding faces
faces_nothing end c r ws us e = cc

-- a record of a face among the others
module _ (records : List ℕ) (i c size : ℕ) (marks others : List ℕ) (e : drop i records ≡ (c ∷ face_code size ∷ 0 ∷ marks) ++ others) (n : length marks ≡ size)
    (least : 3 ≤ size) (most : size ≤ 4) where
  long : length records ≡ i + (3 + size) + length others
  long = omega (arith, length-drop i records, ap length e, length-append marks others)

  pub record_there : i < length records
  record_there = omega (arith, long)

  number : c ≡ get_or records i 0
  number = ap (λ (l : List ℕ). get_or l 0 0) (sym e) ∙ (get_or-drop i records 0 0 ∙ ap (λ (k : ℕ). get_or records k 0) (omega arith))

  typed : face_code size ≡ get_or records (i + 1) 0
  typed = ap (λ (l : List ℕ). get_or l 1 0) (sym e) ∙ get_or-drop i records 1 0

  licensed : 0 ≡ get_or records (i + 2) 0
  licensed = ap (λ (l : List ℕ). get_or l 2 0) (sym e) ∙ get_or-drop i records 2 0

  wide : width records i ≡ 3 + size
  unfolding width
  wide = ap (λ (t : ℕ). 3 + (shape t).marks) (sym typed) ∙ ap (λ (k : ℕ). 3 + k) (face_marks size least most)

  pub record_ends : i + (3 + size) ≡ min (i + width records i) (length records)
  record_ends = rw wide (omega (arith, long))

  behind_licence : drop (i + 3) records ≡ marks ++ others
  behind_licence = sym (drop-drop 3 i records) ∙ ap (drop 3) e

  named : marks ≡ part_of records (i + 3) (i + (3 + size) - 3 - i)
  named =
      let k : i + (3 + size) - 3 - i ≡ size = omega arith in
      sym (ap (part_of records (i + 3)) k
      ∙ (part_fits records (i + 3) size (omega (arith, long)) ∙ (ap (take size) behind_licence ∙ take_at marks others size n)))

  pub record_left : drop (i + (3 + size)) records ≡ others
  record_left =
      sym (drop-drop (3 + size) i records)
      ∙ (ap (drop (3 + size)) e ∙ drop_at (c ∷ face_code size ∷ 0 ∷ marks) others (3 + size) (omega (arith, n)))

  pub record_inserted : (w : List ℕ) (v : Result ⊤ Refusal) (w' : List ℕ) → Edited w (Insert c (body_of (face_code size) marks)) v w' → Recorded w records i (i + (3 + size)) v w'
  record_inserted w v w' d =
      record_made w records i (i + (3 + size)) c (face_code size) (i + 1) 0 (i + 2) (i + 3) (i + (3 + size) - 3 - i) marks (omega arith) number typed refl licensed refl named refl refl v w' d

-- the faces up to a cursor, since the format
pub record FacesGoing (w₁ text : List ℕ) (caps : Caps) (n from at c : ℕ) (w : List ℕ) : Type 0 where
  pub size : length w ≡ length w₁
  pub few : c ≤ n
  pub going : (records : List ℕ) → faces (length text) n 0 (left text from) ≡ Got records []
      → (i : ℕ) × Going w₁ caps records i c w × (faces (length text) (n - c) c (left text at) ≡ Got (drop i records) [])

module _ (text : List ℕ) (caps : Caps) (n from : ℕ) where
  module _ (w₀ w₁ : List ℕ) (v : Result ⊤ Refusal) (f : Formatted w₀ caps v w₁) (ok : v ≡ (Ok tt)) where
    pub faces_begin : FacesGoing w₁ text caps n from from 0 w₁
    faces_begin = record {
      size = refl;
      few = omega arith;
      going = λ records r.
          let z : n - 0 ≡ n = omega arith in
          (0, going_start caps records w₀ w₁ v f ok 0 0 refl refl, rw z r);
    }

    module _ (at c : ℕ) (w : List ℕ) (g : FacesGoing w₁ text caps n from at c w) where
      pub faces_built : n ≤ c → (records : List ℕ) → faces (length text) n 0 (left text from) ≡ Got records [] → Builds w₀ caps records (Ok tt) w
      faces_built h records r =
          let s = g.going records r in
          let z : n - c ≡ 0 = omega arith in
          let none : drop s.0 records ≡ [] = faces_nothing (length text) c (drop s.0 records) (left text at) [] (rw z at s.2) in
          build_done caps records w₀ w₁ v f ok s.0 c w s.1 (omega (arith, length-drop s.0 records, ap length none))

      module _ (h : c < n) (r : Result Cursor Refusal) (w' : List ℕ) (did : FaceInserted w text at c r w') where
        -- the face and its record
        module _ (records : List ℕ) (e : faces (length text) n 0 (left text from) ≡ Got records []) where
          abbrev i : ℕ
          i = (g.going records e).0

          first : First (length text) (n - suc c) c (drop i records) (left text at) []
          first =
              let z : n - c ≡ suc (n - suc c) = omega arith in
              faces_first (length text) (n - suc c) c (drop i records) (left text at) [] (rw z at (g.going records e).2)

          parts : Parts (length text) c first.record' (left text at) first.behind
          parts = face_parts (length text) c first.record' (left text at) first.behind first.here

          abbrev size : ℕ
          size = parts.size

          few : (3 ≤ size) × (size ≤ 4)
          few = size_few (length text) size (left text at) parts.behind parts.sized

          count : length parts.marks ≡ size
          count = many_length number_of (length text) size parts.marks parts.behind first.behind parts.read

          words : drop i records ≡ (c ∷ face_code size ∷ 0 ∷ parts.marks) ++ first.others
          words = first.is ∙ ap (λ (l : List ℕ). l ++ first.others) parts.is

          same : (u : Result ⊤ Refusal) → Edited w (Insert c (body_of (get_or first.record' 1 0) (drop 3 first.record'))) u w'
              → Edited w (Insert c (body_of (face_code size) parts.marks)) u w'
          same u d = subst (λ (l : List ℕ). Edited w (Insert c (body_of (get_or l 1 0) (drop 3 l))) u w') parts.is d

          recorded : (u : Result ⊤ Refusal) → Edited w (Insert c (body_of (get_or first.record' 1 0) (drop 3 first.record'))) u w'
              → Recorded w records i (i + (3 + size)) u w'
          recorded u d = record_inserted records i c size parts.marks first.others words count few.0 few.1 w u w' (same u d)

        -- a face refused, and the memory formatted again
        pub faces_stopped : (why : Refusal) → r ≡ Err why → (again : Result ⊤ Refusal) (w'' : List ℕ) (p q k : ℕ) → Formatted w' (caps_under p q k) again w''
            → p ≡ caps.edition → q ≡ caps.marks → k ≡ caps.cells → (place : ℕ) → place ≡ c
            → (records : List ℕ) → faces (length text) n 0 (left text from) ≡ Got records [] → Builds w₀ caps records (RefusedAt why place) w''
        faces_stopped why q again w'' ed mk cl second ee em ec place ep records e =
            let d = did.refused (first records e).record' (first records e).behind (first records e).here why q in
            let there = record_there records (i records e) c (size records e) (parts records e).marks (first records e).others (words records e) (count records e) (few records e).0 (few records e).1 in
            let ends = record_ends records (i records e) c (size records e) (parts records e).marks (first records e).others (words records e) (count records e) (few records e).0 (few records e).1 in
            let s = going_refused caps records w₁ (i records e) c w (g.going records e).1 there (i records e + (3 + size records e)) ends (Err why) w' (recorded records e (Err why) d) why refl in
            build_stopped caps records w₀ w₁ v f ok why c s.0 w' w'' s.1 again ed mk cl second ee em ec place ep

        -- a face inserted
        pub faces_next : (k : Cursor) → r ≡ Ok k → (c' : ℕ) → c' ≡ c + 1 → FacesGoing w₁ text caps n from k.at c' w'
        faces_next k q c' ec = record {
          size = did.size ∙ g.size;
          few = omega arith;
          going = λ records e.
              let d = did.made (first records e).record' (first records e).behind (first records e).here k q in
              let there = record_there records (i records e) c (size records e) (parts records e).marks (first records e).others (words records e) (count records e) (few records e).0 (few records e).1 in
              let ends = record_ends records (i records e) c (size records e) (parts records e).marks (first records e).others (words records e) (count records e) (few records e).0 (few records e).1 in
              let rest = record_left records (i records e) c (size records e) (parts records e).marks (first records e).others (words records e) (count records e) (few records e).0 (few records e).1 in
              let more : c' ≡ suc c = ec ∙ add-one c in (
                i records e + (3 + size records e),
                going_next caps records w₁ (i records e) c w (g.going records e).1 there (i records e + (3 + size records e)) ends (Ok tt) w' (recorded records e (Ok tt) d.0) refl
                    (i records e + (3 + size records e)) c' refl ec,
                rw (more, rest, d.1) (first records e).after,
              );
        }
