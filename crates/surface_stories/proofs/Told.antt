-- The faces that a text tells: each of three or four marks, each mark a number of the form.
use mathlib.Core.Path.{◌≡◌, refl, sym, ap, ◌∙◌}
use mathlib.Core.Bool.{Bool, true, false, cond, ◌&&◌}
use mathlib.Core.List.{List, [], ◌∷◌, ◌++◌}
use Prim.Native.Nat.{ℕ, zero, suc, ◌-◌, ◌<◌, ◌≤◌}
use native.Mathlib.Omega.{arith}
use borrow.Author.Tests.{leb-true}
use lib.Dec.{leb, ltb}
use lib.ListN.{length}
use lib.IntN.{ℤ}
use mir.Syntax.{w16}
use mir.Val.{SFits}
use Rattle.lists.specs.Lists.{all}
use Rattle.lists.proofs.Bools.{and_left, and_right}
use Rattle.off.specs.Words.{Word}
use Rattle.off.specs.Numbers.{Says, Is, Breaks, is_digit, decimal, most_digits, number_of, coordinate_of}
use Rattle.off.specs.Reading.{Got, Stop, one, many, face_code, faces}
use Rattle.off.specs.Writing.{records_from}
use Rattle.off.proofs.Meant.{Each, none, more}
use Rattle.off.proofs.Round.{Face}
use Rattle.surfaces.proofs.Filling.{many_first, many_nothing, one_fits}
use Rattle.surfaces.proofs.Facing.{one_read, many_length, size_few, face_parts}
use Rattle.surfaces.proofs.Building.{faces_first, faces_nothing}

-- six digits say a number below 1,000,000
digit : (b : ℕ) → is_digit b ≡ true → b - 48 ≤ 9
unfolding is_digit
digit b e = omega (arith, leb-true b 57 (and_right (leb 48 b) (leb b 57) e))

first_digit : (b : ℕ) (l : List ℕ) → all is_digit (b ∷ l) ≡ true → (b - 48 ≤ 9) × (all is_digit l ≡ true)
unfolding all
first_digit b l e = (digit b (and_left (is_digit b) (all is_digit l) e), and_right (is_digit b) (all is_digit l) e)

too_long : (n : ℕ) → suc (suc (suc (suc (suc (suc (suc n)))))) ≤ 6 → ⊥
too_long n h = omega arith

small_number : (w : List ℕ) → length w ≤ 6 → all is_digit w ≡ true → decimal 0 w < 1000000
unfolding decimal
small_number [] h e = omega arith
small_number (a ∷ []) h e =
    let pa = first_digit a ([]) e in
    omega (arith, pa.0)
small_number (a ∷ b ∷ []) h e =
    let pa = first_digit a (b ∷ []) e in
    let pb = first_digit b ([]) pa.1 in
    omega (arith, pa.0, pb.0)
small_number (a ∷ b ∷ c ∷ []) h e =
    let pa = first_digit a (b ∷ c ∷ []) e in
    let pb = first_digit b (c ∷ []) pa.1 in
    let pc = first_digit c ([]) pb.1 in
    omega (arith, pa.0, pb.0, pc.0)
small_number (a ∷ b ∷ c ∷ d ∷ []) h e =
    let pa = first_digit a (b ∷ c ∷ d ∷ []) e in
    let pb = first_digit b (c ∷ d ∷ []) pa.1 in
    let pc = first_digit c (d ∷ []) pb.1 in
    let pd = first_digit d ([]) pc.1 in
    omega (arith, pa.0, pb.0, pc.0, pd.0)
small_number (a ∷ b ∷ c ∷ d ∷ f ∷ []) h e =
    let pa = first_digit a (b ∷ c ∷ d ∷ f ∷ []) e in
    let pb = first_digit b (c ∷ d ∷ f ∷ []) pa.1 in
    let pc = first_digit c (d ∷ f ∷ []) pb.1 in
    let pd = first_digit d (f ∷ []) pc.1 in
    let pf = first_digit f ([]) pd.1 in
    omega (arith, pa.0, pb.0, pc.0, pd.0, pf.0)
small_number (a ∷ b ∷ c ∷ d ∷ f ∷ g ∷ []) h e =
    let pa = first_digit a (b ∷ c ∷ d ∷ f ∷ g ∷ []) e in
    let pb = first_digit b (c ∷ d ∷ f ∷ g ∷ []) pa.1 in
    let pc = first_digit c (d ∷ f ∷ g ∷ []) pb.1 in
    let pd = first_digit d (f ∷ g ∷ []) pc.1 in
    let pf = first_digit f (g ∷ []) pd.1 in
    let pg = first_digit g ([]) pf.1 in
    omega (arith, pa.0, pb.0, pc.0, pd.0, pf.0, pg.0)
small_number (a ∷ b ∷ c ∷ d ∷ f ∷ g ∷ i ∷ w) h e = absurd (too_long (length w) h)

number_small : (w : List ℕ) (n : ℕ) → number_of w ≡ Is n → n < 1000000
unfolding number_of most_digits
number_small w n e = go (ltb 0 (length w) && (leb (length w) 6 && all is_digit w)) refl e
  where
    go : (b : Bool) → ltb 0 (length w) && (leb (length w) 6 && all is_digit w) ≡ b → cond b (Is (decimal 0 w)) Breaks ≡ Is n → n < 1000000
    go true h q =
        let same : decimal 0 w ≡ n = cc in
        let both = and_right (ltb 0 (length w)) (leb (length w) 6 && all is_digit w) h in
        omega (arith, small_number w (leb-true (length w) 6 (and_left (leb (length w) 6) (all is_digit w) both)) (and_right (leb (length w) 6) (all is_digit w) both))
    go false h q = let z : ◌≡◌ {A = ℕ} 0 1 = cc in absurd (omega arith)

one_small : (end : ℕ) (ws us : List Word) (n : ℕ) → one number_of end ws ≡ Got n us → n < 1000000
unfolding one
one_small end [] us n e = let o : ◌≡◌ {A = ℕ} 0 1 = cc in absurd (omega arith)
one_small end (w ∷ ws) us n e = number_small w.bytes n (said (number_of w.bytes) e)
  where
    said : (s : Says ℕ) → elim s [ Is a ↦ Got a ws | Breaks ↦ Stop w.place ] ≡ Got n us → s ≡ Is n
    said (Is a) h = cc
    said Breaks h = let o : ◌≡◌ {A = ℕ} 0 1 = cc in absurd (omega arith)

many_each : {A : Type 0} (f : List ℕ → Says A) (P : A → Type 0) → ((end : ℕ) (ws us : List Word) (a : A) → one f end ws ≡ Got a us → P a)
    → (end n : ℕ) (l : List A) (ws us : List Word) → many f end n ws ≡ Got l us → Each P l
many_each f P h end zero l ws us e = rw (many_nothing f end l ws us e).0 none
many_each f P h end (suc n) l ws us e =
    let first = one_read f end n l ws us e in
    let rest = many_first f end n l ws us e first.0 first.1 first.2 in
    rw rest.2 (more (h end ws first.1 first.0 first.2) (many_each f P h end n rest.0 first.1 us rest.1))

pub coordinates_told : (end n : ℕ) (l : List ℤ) (ws us : List Word) → many coordinate_of end n ws ≡ Got l us → Each (SFits w16) l
coordinates_told end n l ws us e = many_each coordinate_of (SFits w16) one_fits end n l ws us e

-- the records of a text are those of its faces
pub record Told (c n : ℕ) (r : List ℕ) : Type 0 where
  pub list : List (List ℕ)
  pub records : r ≡ records_from c list
  pub count : length list ≡ n
  pub each : Each Face list

pub faces_told : (end n c : ℕ) (r : List ℕ) (ws us : List Word) → faces end n c ws ≡ Got r us → Told c n r
unfolding records_from
faces_told end zero c r ws us e = record { list = []; records = faces_nothing end c r ws us e; count = refl; each = none }
faces_told end (suc n) c r ws us e =
    let first = faces_first end n c r ws us e in
    let parts = face_parts end c first.record' ws first.behind first.here in
    let rest = faces_told end n (suc c) first.others first.behind us first.after in
    let size = many_length number_of end parts.size parts.marks parts.behind first.behind parts.read in
    let few = size_few end parts.size ws parts.behind parts.sized in
    let one : Face parts.marks =
    record {
      least = omega (arith, size, few.0);
      most = omega (arith, size, few.1);
      marks = many_each number_of (λ v. v < 1000000) one_small end parts.size parts.marks parts.behind first.behind parts.read;
    } in
    record {
      list = parts.marks ∷ rest.list;
      records =
          first.is ∙ (ap (λ (l : List ℕ). l ++ first.others) parts.is
          ∙ (ap (λ (k : ℕ). (c ∷ face_code k ∷ 0 ∷ parts.marks) ++ first.others) (sym size)
          ∙ ap (λ (l : List ℕ). (c ∷ face_code (length parts.marks) ∷ 0 ∷ parts.marks) ++ l) rest.records));
      count = ap suc rest.count;
      each = more one rest.each;
    }
