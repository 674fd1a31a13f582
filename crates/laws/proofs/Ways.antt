-- Which way the sibling runs: what each word says, and that it is the same word from either side.
use mathlib.Core.Path.{◌≡◌, refl, sym, ap, ◌∙◌}
use mathlib.Core.Bool.{Bool, true, false, cond}
use mathlib.Core.List.{List, [], ◌∷◌, ◌++◌, reverse, reverse-cons, reverse-append, reverse-reverse, append-nil}
use Prim.Native.Nat.{ℕ, zero, suc, ◌+◌, ◌-◌, ◌%◌, ◌<◌, ◌≤◌}
use native.Mathlib.Decide.{dec_lt}
use native.Mathlib.Omega.{arith}
use borrow.Author.Tests.{eq-eqb, ne_eqb, eqb-true}
use lib.Dec.{eqb}
use lib.ListN.{length, get_or, take, drop, length-append, length-drop, length-reverse, take-append-drop, get_or-append}
use lib.Seq.{length-take-le, take_at, drop_at, get_or_at, get_or-append-add, get_or-drop, get_or-take}
use Rattle.lists.specs.Lists.{same, repeats, list_of}
use Rattle.lists.proofs.Bools.{clash, not_true_false, and_left, and_right, same_test}
use Rattle.lists.proofs.Members.{any_at, once}
use Rattle.lists.proofs.Counts.{eqb_swap}
use Rattle.lists.proofs.Fill.{length_list_of}
use Rattle.lists.proofs.Mapped.{list_at}
use Rattle.lists.proofs.Through.{one_there}
use Rattle.map.specs.declared.Way.{Way}
use Rattle.map.specs.declared.Way.TheVariants.{Lone, Same, Opposite, Neither}
use Rattle.map.specs.Cells.{Map}
use Rattle.map.specs.Siblings.{marks_of, sibling, border}
use Rattle.map.specs.Ways.{way_number, turned, rotation, runs, direction, between, way}

-- lists that are told to be the same are
pub same_is : (a b : List ℕ) → same a b ≡ true → a ≡ b
unfolding same
same_is [] [] e = refl
same_is [] (y ∷ ys) e = absurd (clash e refl)
same_is (x ∷ xs) [] e = absurd (clash e refl)
same_is (x ∷ xs) (y ∷ ys) e =
    let first : x ≡ y = eqb-true x y (and_left (eqb x y) (same xs ys) e) in
    rw first (ap {B = List ℕ} (λ r. y ∷ r) (same_is xs ys (and_right (eqb x y) (same xs ys) e)))

pub is_same : (a b : List ℕ) → a ≡ b → same a b ≡ true
unfolding same
is_same [] b e = rw (← e)
is_same (x ∷ xs) b e = rw (← e, eq-eqb x x refl) (is_same xs xs refl)

-- a list begun at another place has its numbers in the same order, and behind the last the first
module _ (l : List ℕ) (k : ℕ) (h : k ≤ length l) where
  pub turned_size : length (turned l k) ≡ length l
  unfolding turned
  turned_size = omega (arith, length-append (drop k l) (take k l), length-drop k l, length-take-le k l h)

  pub turned_on : (i : ℕ) → k + i < length l → get_or (turned l k) i 0 ≡ get_or l (k + i) 0
  unfolding turned
  turned_on i less = get_or-append (drop k l) (take k l) 0 i (omega (arith, length-drop k l)) ∙ get_or-drop k l i 0

  pub turned_over : (i : ℕ) → i < length l → length l ≤ k + i → get_or (turned l k) i 0 ≡ get_or l (k + i - length l) 0
  unfolding turned
  turned_over i low over =
      let j : ℕ = k + i - length l in
      let at : i ≡ length (drop k l) + j = omega (arith, length-drop k l) in
      ap (λ (n : ℕ). get_or (drop k l ++ take k l) n 0) at ∙ (get_or-append-add (drop k l) (take k l) j 0 ∙ get_or-take k l j 0 (omega arith))

  -- turned on it is the list again
  turned_back : turned (turned l k) (length l - k) ≡ l
  unfolding turned
  turned_back =
      rw (drop_at (drop k l) (take k l) (length l - k) (length-drop k l), take_at (drop k l) (take k l) (length l - k) (length-drop k l))
      (take-append-drop k l)

pub turned_none : (l : List ℕ) → turned l 0 ≡ l
unfolding turned
turned_none l = append-nil l

-- and a list reversed has them from the last to the first
pub reverse_at : (l : List ℕ) (i : ℕ) → i < length l → get_or (reverse l) i 0 ≡ get_or l (length l - 1 - i) 0
reverse_at [] i h = absurd (omega arith)
reverse_at (x ∷ xs) i h = ap (λ (l : List ℕ). get_or l i 0) (reverse-cons x xs) ∙ go (reverse_at xs i) (dec_lt i (length xs))
  where
    go : (i < length xs → get_or (reverse xs) i 0 ≡ get_or xs (length xs - 1 - i) 0) → Dec (i < length xs)
        → get_or (reverse xs ++ (x ∷ [])) i 0 ≡ get_or (x ∷ xs) (suc (length xs) - 1 - i) 0
    go rest (yes l) =
        let at : suc (length xs) - 1 - i ≡ suc (length xs - 1 - i) = omega arith in
        rw at (get_or-append (reverse xs) (x ∷ []) 0 i (omega (arith, length-reverse xs)) ∙ rest l)
    go rest (no f) =
        let at : suc (length xs) - 1 - i ≡ 0 = omega arith in
        rw at (get_or_at (reverse xs) x [] 0 i (omega (arith, length-reverse xs)))

-- a rotation is the list begun at a place of it
pub rotation_at : (a b : List ℕ) → rotation a b ≡ true → (k : ℕ) × (k < length b) × (a ≡ turned b k)
unfolding rotation
rotation_at a b e =
    let r = any_at (λ n. same a (turned b n)) (list_of (length b) (λ n. n)) 0 e in
    let low : r.0 < length b = omega (arith, r.1, length_list_of (length b) (λ n. n)) in
    (r.0, low, same_is a (turned b r.0) (rw (list_at (length b) (λ n. n) r.0 0 low) at r.2))

pub at_rotation : (a b : List ℕ) (k : ℕ) → k < length b → a ≡ turned b k → rotation a b ≡ true
unfolding rotation
at_rotation a b k h e = one_there (λ n. same a (turned b n)) (λ n. n) (length b) k h (is_same a (turned b k) e)

-- what is one from one side is one from the other
rotation_back : (a b : List ℕ) → length a ≡ length b → rotation a b ≡ true → rotation b a ≡ true
rotation_back a b size e = let r = rotation_at a b e in go r.0 r.1 r.2
  where
    go : (k : ℕ) → k < length b → a ≡ turned b k → rotation b a ≡ true
    go zero h q = at_rotation b a 0 (omega arith) (sym (turned_none a ∙ (q ∙ turned_none b)))
    go (suc k) h q =
        at_rotation b a (length b - suc k) (omega arith)
        (sym (ap (λ (l : List ℕ). turned l (length b - suc k)) q ∙ turned_back b (suc k) (omega arith)))

reversed_back : (a b : List ℕ) → length a ≡ length b → rotation a (reverse b) ≡ true → rotation b (reverse a) ≡ true
unfolding turned
reversed_back a b size e =
    let r = rotation_at a (reverse b) e in
    let k : ℕ = r.0 in
    let u : List ℕ = take k (reverse b) in
    let v : List ℕ = drop k (reverse b) in
    let low : k < length (reverse b) = r.1 in
    let back : reverse a ≡ reverse u ++ reverse v = ap reverse r.2 ∙ reverse-append v u in
    let front : length (reverse u) ≡ k = length-reverse u ∙ length-take-le k (reverse b) (omega arith) in
    let whole : b ≡ reverse v ++ reverse u =
    sym (reverse-reverse b) ∙ (ap reverse (sym (take-append-drop k (reverse b))) ∙ reverse-append u v) in
    at_rotation b (reverse a) k (omega (arith, length-reverse a, length-reverse b))
    (whole ∙ rw (back, drop_at (reverse u) (reverse v) k front, take_at (reverse u) (reverse v) k front))

-- so two facets of one size say one word of each other
module _ (f g : ℕ) (a b : List ℕ) (size : length a ≡ length b) where
  rotation_swap : rotation a b ≡ rotation b a
  rotation_swap = same_test _ _ (rotation_back a b size) (rotation_back b a (sym size))

  reversed_swap : rotation a (reverse b) ≡ rotation b (reverse a)
  reversed_swap = same_test _ _ (reversed_back a b size) (reversed_back b a (sym size))

  edge_swap : same a b ≡ same b a
  edge_swap = same_test _ _ (λ e. is_same b a (sym (same_is a b e))) (λ e. is_same a b (sym (same_is b a e)))

  edge_reversed : same a (reverse b) ≡ same b (reverse a)
  edge_reversed = same_test _ _ (λ e. over a b (same_is a (reverse b) e)) (λ e. over b a (same_is b (reverse a) e))
    where
      over : (a b : List ℕ) → a ≡ reverse b → same b (reverse a) ≡ true
      over a b e = is_same b (reverse a) (sym (ap reverse e ∙ reverse-reverse b))

  pub direction_swap : direction f a g b ≡ direction g b f a
  unfolding direction
  direction_swap = rw (size, eqb_swap f g, edge_swap, edge_reversed, rotation_swap, reversed_swap)

-- no facet that has a sibling is lone
direction_some : (f g : ℕ) (a b : List ℕ) → direction f a g b ≡ Lone → ⊥
unfolding direction runs way_number
direction_some f g a b =
    go (eqb (length a) 1) (eqb f g) (eqb (length a) 2) (same a b) (same a (reverse b)) (rotation a b) (rotation a (reverse b))
  where
    some : (x : Way) → 0 < way_number x → x ≡ Lone → ⊥
    some x l e = omega (arith, l, ap way_number e)

    runs_some : (p q : Bool) → cond p Same (cond q Opposite Neither) ≡ Lone → ⊥
    runs_some true q = some Same (omega arith)
    runs_some false true = some Opposite (omega arith)
    runs_some false false = some Neither (omega arith)

    go : (one ends two p q r s : Bool)
        → cond one (cond ends Same Opposite) (cond two (cond p Same (cond q Opposite Neither)) (cond r Same (cond s Opposite Neither))) ≡ Lone → ⊥
    go true true two p q r s = some Same (omega arith)
    go true false two p q r s = some Opposite (omega arith)
    go false ends true p q r s = runs_some p q
    go false ends false p q r s = runs_some r s

-- "lone (no other)": a border, and nothing else
pub lone_border : (m : Map) (h : ℕ) → way m h ≡ Lone → border m h ≡ true
unfolding way between
lone_border m h = go (border m h)
  where
    go : (b : Bool) → cond b Lone (direction (h % 8) (marks_of m h) (sibling m h % 8) (marks_of m (sibling m h))) ≡ Lone → b ≡ true
    go true e = refl
    go false e = absurd (direction_some _ _ _ _ e)

pub border_lone : (m : Map) (h : ℕ) → border m h ≡ true → way m h ≡ Lone
unfolding way
border_lone m h e = ap (λ (b : Bool). cond b Lone (between m h (sibling m h))) e

-- a face's word says which of the two lists is a rotation
module _ (f g : ℕ) (a b : List ℕ) (face : 3 ≤ length a) where
  face_runs : direction f a g b ≡ runs (rotation a b) (rotation a (reverse b))
  unfolding direction
  face_runs = rw (ne_eqb (length a) 1 (λ e. omega arith), ne_eqb (length a) 2 (λ e. omega arith))

  pub face_same : direction f a g b ≡ Same → rotation a b ≡ true
  unfolding runs way_number
  face_same e = go (rotation a b) (rotation a (reverse b)) (sym face_runs ∙ e)
    where
      go : (p q : Bool) → cond p Same (cond q Opposite Neither) ≡ Same → p ≡ true
      go true q e = refl
      go false true e = absurd (omega (arith, ap way_number e))
      go false false e = absurd (omega (arith, ap way_number e))

  pub face_opposite : direction f a g b ≡ Opposite → rotation a (reverse b) ≡ true
  unfolding runs way_number
  face_opposite e = go (rotation a b) (rotation a (reverse b)) (sym face_runs ∙ e)
    where
      go : (p q : Bool) → cond p Same (cond q Opposite Neither) ≡ Opposite → q ≡ true
      go true q e = absurd (omega (arith, ap way_number e))
      go false true e = refl
      go false false e = absurd (omega (arith, ap way_number e))

  pub face_neither : direction f a g b ≡ Neither → (rotation a b ≡ false) × (rotation a (reverse b) ≡ false)
  unfolding runs way_number
  face_neither e = go (rotation a b) (rotation a (reverse b)) (sym face_runs ∙ e)
    where
      go : (p q : Bool) → cond p Same (cond q Opposite Neither) ≡ Neither → (p ≡ false) × (q ≡ false)
      go true q e = absurd (omega (arith, ap way_number e))
      go false true e = absurd (omega (arith, ap way_number e))
      go false false e = (refl, refl)

-- a list of three marks or more, none twice, is never a rotation both of a list and of it reversed
module _ (b : List ℕ) (distinct : repeats b ≡ false) (many : 3 ≤ length b) (k j : ℕ) (low : k < length b) (less : j < length b)
    (both : turned b k ≡ turned (reverse b) j) where
  back_on : (i : ℕ) → j + i < length b → get_or (turned (reverse b) j) i 0 ≡ get_or b (length b - 1 - (j + i)) 0
  back_on i h = turned_on (reverse b) j (omega (arith, length-reverse b)) i (omega (arith, length-reverse b)) ∙ reverse_at b (j + i) h

  back_over : (i : ℕ) → i < length b → length b ≤ j + i → get_or (turned (reverse b) j) i 0 ≡ get_or b (length b - 1 - (j + i - length b)) 0
  back_over i h over =
      let size = length-reverse b in
      turned_over (reverse b) j (omega (arith, size)) i (omega (arith, size)) (omega (arith, size))
      ∙ (ap (λ (n : ℕ). get_or (reverse b) (j + i - n) 0) size ∙ reverse_at b (j + i - length b) (omega arith))

  at : (i p q : ℕ) → p < length b → q < length b → get_or (turned b k) i 0 ≡ get_or b p 0 → get_or (turned (reverse b) j) i 0 ≡ get_or b q 0 → p ≡ q
  at i p q hp hq ep eq = once b distinct p q hp hq (sym ep ∙ (ap (λ (l : List ℕ). get_or l i 0) both ∙ eq))

  first : k + 0 ≡ length b - 1 - (j + 0)
  first = at 0 (k + 0) (length b - 1 - (j + 0)) (omega arith) (omega arith) (turned_on b k (omega arith) 0 (omega arith)) (back_on 0 (omega arith))

  not_both : ⊥
  not_both = go (dec_lt (k + 1) (length b)) (dec_lt (j + 1) (length b))
    where
      go : Dec (k + 1 < length b) → Dec (j + 1 < length b) → ⊥
      go (yes x) (yes y) =
          let second : k + 1 ≡ length b - 1 - (j + 1) =
          at 1 (k + 1) (length b - 1 - (j + 1)) (omega arith) (omega arith) (turned_on b k (omega arith) 1 x) (back_on 1 y) in
          omega (arith, first, second)
      go (yes x) (no y) =
          let second : k + 1 ≡ length b - 1 - (j + 1 - length b) =
          at 1 (k + 1) (length b - 1 - (j + 1 - length b)) (omega arith) (omega arith) (turned_on b k (omega arith) 1 x) (back_over 1 (omega arith) (omega arith)) in
          omega (arith, first, second)
      go (no x) (yes y) =
          let second : k + 1 - length b ≡ length b - 1 - (j + 1) =
          at 1 (k + 1 - length b) (length b - 1 - (j + 1)) (omega arith) (omega arith) (turned_over b k (omega arith) 1 (omega arith) (omega arith)) (back_on 1 y) in
          omega (arith, first, second)
      go (no x) (no y) = omega (arith, first)

pub face_one : (a b : List ℕ) → repeats b ≡ false → 3 ≤ length b → rotation a b ≡ true → rotation a (reverse b) ≡ false
face_one a b distinct many e =
    not_true_false _ (λ t.
    let r = rotation_at a b e in
    let q = rotation_at a (reverse b) t in
    not_both b distinct many r.0 q.0 r.1 (omega (arith, q.1, length-reverse b)) (sym r.2 ∙ q.2))

-- and an edge's list is never both the other and the other reversed
pub edge_one : (a b : List ℕ) → repeats b ≡ false → length b ≡ 2 → same a b ≡ true → same a (reverse b) ≡ false
edge_one a b distinct two e =
    not_true_false _ (λ t.
    let turn : b ≡ reverse b = sym (same_is a b e) ∙ same_is a (reverse b) t in
    let at : get_or b 0 0 ≡ get_or b (length b - 1 - 0) 0 = ap (λ (l : List ℕ). get_or l 0 0) turn ∙ reverse_at b 0 (omega arith) in
    let one : 0 ≡ length b - 1 - 0 = once b distinct 0 (length b - 1 - 0) (omega arith) (omega arith) at in
    omega (arith, one))
