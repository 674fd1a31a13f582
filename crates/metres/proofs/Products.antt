-- Sums and products of whole numbers: the laws of a ring, and a test that tells where two such terms are equal whatever the numbers are. A term
-- is multiplied out to signed products of names, ascending; where those of one side are taken away by those of the other, the terms are equal.
use mathlib.Core.Path.{◌≡◌, refl, sym, ap, ◌∙◌}
use mathlib.Core.Bool.{Bool, true, false, cond, not, ◌&&◌}
use mathlib.Core.List.{List, [], ◌∷◌, ◌++◌, map}
use Prim.Native.Nat.{ℕ, zero, suc}
use native.Mathlib.Omega.{arith}
use borrow.Author.Tests.{eqb-true}
use lib.Dec.{eqb, ltb}
use lib.IntN.{ℤ, pos, negsuc, neg_ℤ, suc_ℤ, pred_ℤ, ◌+ℤ◌, ◌-ℤ◌, ◌*ℤ◌, +ℤ_idl, +ℤ_idr, +ℤ_assoc, +ℤ_comm, +ℤ_invr, +ℤ_invl, neg_ℤ-neg_ℤ, neg_ℤ-+ℤ, suc_ℤ-+ℤ, pred_ℤ-+ℤ, suc_ℤ-*ℤ, pred_ℤ-*ℤ, zero-*ℤ, *ℤ-zero, *ℤ_comm}
use Rattle.lists.specs.Lists.{same}
use Rattle.lists.proofs.Bools.{and_left, and_right}

-- ---- the laws

induct : (P : ℤ → Type 0) → P (pos zero) → ((m : ℤ) → P m → P (suc_ℤ m)) → ((m : ℤ) → P m → P (pred_ℤ m)) → (k : ℤ) → P k
induct P z s p (pos zero) = z
induct P z s p (pos (suc n)) = s (pos n) (induct P z s p (pos n))
induct P z s p (negsuc zero) = p (pos zero) z
induct P z s p (negsuc (suc n)) = p (negsuc n) (induct P z s p (negsuc n))

last_two : (a b c : ℤ) → a +ℤ b +ℤ c ≡ a +ℤ c +ℤ b
last_two a b c = +ℤ_assoc a b c ∙ (ap (λ (x : ℤ). a +ℤ x) (+ℤ_comm b c) ∙ sym (+ℤ_assoc a c b))

distributes : (m n k : ℤ) → (m +ℤ n) *ℤ k ≡ m *ℤ k +ℤ n *ℤ k
distributes m n k = induct (λ (m : ℤ). (m +ℤ n) *ℤ k ≡ m *ℤ k +ℤ n *ℤ k) none more less m
  where
    none : (pos zero +ℤ n) *ℤ k ≡ pos zero *ℤ k +ℤ n *ℤ k
    none = ap (λ (x : ℤ). x *ℤ k) (+ℤ_idl n) ∙ sym (ap (λ (x : ℤ). x +ℤ n *ℤ k) (zero-*ℤ k) ∙ +ℤ_idl (n *ℤ k))

    more : (m : ℤ) → (m +ℤ n) *ℤ k ≡ m *ℤ k +ℤ n *ℤ k → (suc_ℤ m +ℤ n) *ℤ k ≡ suc_ℤ m *ℤ k +ℤ n *ℤ k
    more m h =
        ap (λ (x : ℤ). x *ℤ k) (suc_ℤ-+ℤ m n)
        ∙ (suc_ℤ-*ℤ (m +ℤ n) k
        ∙ (ap (λ (x : ℤ). x +ℤ k) h ∙ (last_two (m *ℤ k) (n *ℤ k) k ∙ ap (λ (x : ℤ). x +ℤ n *ℤ k) (sym (suc_ℤ-*ℤ m k)))))

    less : (m : ℤ) → (m +ℤ n) *ℤ k ≡ m *ℤ k +ℤ n *ℤ k → (pred_ℤ m +ℤ n) *ℤ k ≡ pred_ℤ m *ℤ k +ℤ n *ℤ k
    less m h =
        ap (λ (x : ℤ). x *ℤ k) (pred_ℤ-+ℤ m n)
        ∙ (pred_ℤ-*ℤ (m +ℤ n) k
        ∙ (ap (λ (x : ℤ). x -ℤ k) h ∙ (last_two (m *ℤ k) (n *ℤ k) (neg_ℤ k) ∙ ap (λ (x : ℤ). x +ℤ n *ℤ k) (sym (pred_ℤ-*ℤ m k)))))

-- what makes nothing with a is the opposite of a
opposite_of : (a b : ℤ) → a +ℤ b ≡ pos zero → b ≡ neg_ℤ a
opposite_of a b h =
    sym (+ℤ_idl b)
    ∙ (ap (λ (x : ℤ). x +ℤ b) (sym (+ℤ_invl a)) ∙ (+ℤ_assoc (neg_ℤ a) a b ∙ (ap (λ (x : ℤ). neg_ℤ a +ℤ x) h ∙ +ℤ_idr (neg_ℤ a))))

minus_left : (m k : ℤ) → neg_ℤ m *ℤ k ≡ neg_ℤ (m *ℤ k)
minus_left m k =
    opposite_of (m *ℤ k) (neg_ℤ m *ℤ k)
    (sym (distributes m (neg_ℤ m) k) ∙ (ap (λ (x : ℤ). x *ℤ k) (+ℤ_invr m) ∙ zero-*ℤ k))

minus_right : (m k : ℤ) → m *ℤ neg_ℤ k ≡ neg_ℤ (m *ℤ k)
minus_right m k = *ℤ_comm m (neg_ℤ k) ∙ (minus_left k m ∙ ap neg_ℤ (*ℤ_comm k m))

associates : (m n k : ℤ) → m *ℤ n *ℤ k ≡ m *ℤ (n *ℤ k)
associates m n k = induct (λ (m : ℤ). m *ℤ n *ℤ k ≡ m *ℤ (n *ℤ k)) none more less m
  where
    none : pos zero *ℤ n *ℤ k ≡ pos zero *ℤ (n *ℤ k)
    none = ap (λ (x : ℤ). x *ℤ k) (zero-*ℤ n) ∙ (zero-*ℤ k ∙ sym (zero-*ℤ (n *ℤ k)))

    more : (m : ℤ) → m *ℤ n *ℤ k ≡ m *ℤ (n *ℤ k) → suc_ℤ m *ℤ n *ℤ k ≡ suc_ℤ m *ℤ (n *ℤ k)
    more m h =
        ap (λ (x : ℤ). x *ℤ k) (suc_ℤ-*ℤ m n)
        ∙ (distributes (m *ℤ n) n k ∙ (ap (λ (x : ℤ). x +ℤ n *ℤ k) h ∙ sym (suc_ℤ-*ℤ m (n *ℤ k))))

    less : (m : ℤ) → m *ℤ n *ℤ k ≡ m *ℤ (n *ℤ k) → pred_ℤ m *ℤ n *ℤ k ≡ pred_ℤ m *ℤ (n *ℤ k)
    less m h =
        ap (λ (x : ℤ). x *ℤ k) (pred_ℤ-*ℤ m n)
        ∙ (distributes (m *ℤ n) (neg_ℤ n) k
        ∙ ((λ i. h i +ℤ minus_left n k i) ∙ sym (pred_ℤ-*ℤ m (n *ℤ k))))

-- ---- terms

pub data Term : Type 0 where
  Name : ℕ → Term
  Plus : Term → Term → Term
  Times : Term → Term → Term
  Minus : Term → Term

abbrev pub Less : Term → Term → Term
Less s t = Plus s (Minus t)

-- a signed product of names
pub record Signed : Type 0 where
  pub minus : Bool
  pub names : List ℕ

unfoldable pub insert : ℕ → List ℕ → List ℕ
insert n [] = n ∷ []
insert n (k ∷ ks) = cond (ltb n k) (n ∷ k ∷ ks) (k ∷ insert n ks)

unfoldable pub merge : List ℕ → List ℕ → List ℕ
merge [] l = l
merge (n ∷ ns) l = insert n (merge ns l)

unfoldable pub differ : Bool → Bool → Bool
differ true b = not b
differ false b = b

unfoldable pub joined : Signed → Signed → Signed
joined s t = record { minus = differ s.minus t.minus; names = merge s.names t.names }

unfoldable pub turned : Signed → Signed
turned s = record { minus = not s.minus; names = s.names }

unfoldable pub spread : List Signed → List Signed → List Signed
spread [] l = []
spread (s ∷ ss) l = map (joined s) l ++ spread ss l

unfoldable pub expanded : Term → List Signed
expanded (Name n) = record { minus = false; names = n ∷ [] } ∷ []
expanded (Plus s t) = expanded s ++ expanded t
expanded (Times s t) = spread (expanded s) (expanded t)
expanded (Minus t) = map turned (expanded t)

-- a product taken away by its opposite
unfoldable pub opposite : Signed → Signed → Bool
opposite s t = differ s.minus t.minus && same s.names t.names

unfoldable pub without : Signed → List Signed → List Signed
without s [] = s ∷ []
without s (t ∷ ts) = cond (opposite s t) ts (t ∷ without s ts)

unfoldable pub left : List Signed → List Signed
left [] = []
left (s ∷ ss) = without s (left ss)

-- nothing is left of one term less the other
unfoldable pub nothing : List Signed → Bool
nothing [] = true
nothing (s ∷ ss) = false

unfoldable pub equal : Term → Term → Bool
equal s t = nothing (left (expanded (Less s t)))

same_is : (a b : List ℕ) → same a b ≡ true → a ≡ b
unfolding same
same_is [] [] e = refl
same_is [] (y ∷ ys) e = absurd (let z : ◌≡◌ {A = ℕ} 0 1 = cc in omega arith)
same_is (x ∷ xs) [] e = absurd (let z : ◌≡◌ {A = ℕ} 0 1 = cc in omega arith)
same_is (x ∷ xs) (y ∷ ys) e = λ i. eqb-true x y (and_left (eqb x y) (same xs ys) e) i ∷ same_is xs ys (and_right (eqb x y) (same xs ys) e) i

module _ (f : ℕ → ℤ) where
  -- the number of a term
  abbrev pub value : Term → ℤ
  value (Name n) = f n
  value (Plus s t) = value s +ℤ value t
  value (Times s t) = value s *ℤ value t
  value (Minus t) = neg_ℤ (value t)

  unfoldable product : List ℕ → ℤ
  product [] = pos 1
  product (n ∷ ns) = f n *ℤ product ns

  unfoldable signed : Bool → ℤ → ℤ
  signed true z = neg_ℤ z
  signed false z = z

  unfoldable number : Signed → ℤ
  number s = signed s.minus (product s.names)

  unfoldable total : List Signed → ℤ
  total [] = pos 0
  total (s ∷ ss) = number s +ℤ total ss

  one_times : (z : ℤ) → pos 1 *ℤ z ≡ z
  one_times z = suc_ℤ-*ℤ (pos 0) z ∙ (ap (λ (x : ℤ). x +ℤ z) (zero-*ℤ z) ∙ +ℤ_idl z)

  first_two : (a b c : ℤ) → a *ℤ (b *ℤ c) ≡ b *ℤ (a *ℤ c)
  first_two a b c = sym (associates a b c) ∙ (ap (λ (x : ℤ). x *ℤ c) (*ℤ_comm a b) ∙ associates b a c)

  product_insert : (n : ℕ) (l : List ℕ) → product (insert n l) ≡ f n *ℤ product l
  unfolding product insert
  product_insert n [] = refl
  product_insert n (k ∷ ks) = go (ltb n k) (product_insert n ks)
    where
      go : (b : Bool) → product (insert n ks) ≡ f n *ℤ product ks → product (cond b (n ∷ k ∷ ks) (k ∷ insert n ks)) ≡ f n *ℤ (f k *ℤ product ks)
      go true h = refl
      go false h = ap (λ (x : ℤ). f k *ℤ x) h ∙ first_two (f k) (f n) (product ks)

  product_merge : (l r : List ℕ) → product (merge l r) ≡ product l *ℤ product r
  unfolding product merge
  product_merge [] r = sym (one_times (product r))
  product_merge (n ∷ ns) r =
      product_insert n (merge ns r) ∙ (ap (λ (x : ℤ). f n *ℤ x) (product_merge ns r) ∙ sym (associates (f n) (product ns) (product r)))

  signs : (a b : Bool) (x y : ℤ) → signed (differ a b) (x *ℤ y) ≡ signed a x *ℤ signed b y
  unfolding signed differ
  signs false false x y = refl
  signs false true x y = sym (minus_right x y)
  signs true false x y = sym (minus_left x y)
  signs true true x y = sym (minus_left x (neg_ℤ y) ∙ (ap neg_ℤ (minus_right x y) ∙ neg_ℤ-neg_ℤ (x *ℤ y)))

  number_joined : (s t : Signed) → number (joined s t) ≡ number s *ℤ number t
  unfolding number joined
  number_joined s t =
      ap (signed (differ s.minus t.minus)) (product_merge s.names t.names) ∙ signs s.minus t.minus (product s.names) (product t.names)

  number_turned : (s : Signed) → number (turned s) ≡ neg_ℤ (number s)
  unfolding number turned signed
  number_turned s = go s.minus (product s.names)
    where
      go : (b : Bool) (x : ℤ) → signed (not b) x ≡ neg_ℤ (signed b x)
      go true x = sym (neg_ℤ-neg_ℤ x)
      go false x = refl

  total_append : (l r : List Signed) → total (l ++ r) ≡ total l +ℤ total r
  unfolding total
  total_append [] r = sym (+ℤ_idl (total r))
  total_append (s ∷ ss) r = ap (λ (x : ℤ). number s +ℤ x) (total_append ss r) ∙ sym (+ℤ_assoc (number s) (total ss) (total r))

  total_turned : (l : List Signed) → total (map turned l) ≡ neg_ℤ (total l)
  unfolding total
  total_turned [] = refl
  total_turned (s ∷ ss) = (λ i. number_turned s i +ℤ total_turned ss i) ∙ sym (neg_ℤ-+ℤ (number s) (total ss))

  total_joined : (s : Signed) (l : List Signed) → total (map (joined s) l) ≡ number s *ℤ total l
  unfolding total
  total_joined s [] = sym (*ℤ-zero (number s))
  total_joined s (t ∷ ts) =
      (λ i. number_joined s t i +ℤ total_joined s ts i)
      ∙ ((λ i. *ℤ_comm (number s) (number t) i +ℤ *ℤ_comm (number s) (total ts) i)
      ∙ (sym (distributes (number t) (total ts) (number s)) ∙ *ℤ_comm (number t +ℤ total ts) (number s)))

  total_spread : (l r : List Signed) → total (spread l r) ≡ total l *ℤ total r
  unfolding total spread
  total_spread [] r = sym (zero-*ℤ (total r))
  total_spread (s ∷ ss) r =
      total_append (map (joined s) r) (spread ss r)
      ∙ ((λ i. total_joined s r i +ℤ total_spread ss r i) ∙ sym (distributes (number s) (total ss) (total r)))

  total_expanded : (t : Term) → total (expanded t) ≡ value t
  unfolding expanded total number signed product
  total_expanded (Name n) = +ℤ_idr (f n *ℤ pos 1) ∙ (*ℤ_comm (f n) (pos 1) ∙ one_times (f n))
  total_expanded (Plus s t) = total_append (expanded s) (expanded t) ∙ (λ i. total_expanded s i +ℤ total_expanded t i)
  total_expanded (Times s t) = total_spread (expanded s) (expanded t) ∙ (λ i. total_expanded s i *ℤ total_expanded t i)
  total_expanded (Minus t) = total_turned (expanded t) ∙ ap neg_ℤ (total_expanded t)

  gone : (s t : Signed) → opposite s t ≡ true → number s +ℤ number t ≡ pos 0
  unfolding opposite number signed differ
  gone s t e =
      ap (λ (l : List ℕ). signed s.minus (product l) +ℤ signed t.minus (product t.names)) (same_is s.names t.names (and_right (differ s.minus t.minus) (same s.names t.names) e))
      ∙ go s.minus t.minus (product t.names) (and_left (differ s.minus t.minus) (same s.names t.names) e)
    where
      go : (a b : Bool) (x : ℤ) → differ a b ≡ true → signed a x +ℤ signed b x ≡ pos 0
      go true true x e = absurd (let z : ◌≡◌ {A = ℕ} 0 1 = cc in omega arith)
      go true false x e = +ℤ_invl x
      go false true x e = +ℤ_invr x
      go false false x e = absurd (let z : ◌≡◌ {A = ℕ} 0 1 = cc in omega arith)

  total_without : (s : Signed) (l : List Signed) → total (without s l) ≡ number s +ℤ total l
  unfolding total without
  total_without s [] = refl
  total_without s (t ∷ ts) = go (opposite s t) refl (total_without s ts)
    where
      go : (b : Bool) → opposite s t ≡ b → total (without s ts) ≡ number s +ℤ total ts → total (cond b ts (t ∷ without s ts)) ≡ number s +ℤ (number t +ℤ total ts)
      go true e h = sym (sym (+ℤ_assoc (number s) (number t) (total ts)) ∙ (ap (λ (x : ℤ). x +ℤ total ts) (gone s t e) ∙ +ℤ_idl (total ts)))
      go false e h =
          ap (λ (x : ℤ). number t +ℤ x) h
          ∙ (sym (+ℤ_assoc (number t) (number s) (total ts)) ∙ (ap (λ (x : ℤ). x +ℤ total ts) (+ℤ_comm (number t) (number s)) ∙ +ℤ_assoc (number s) (number t) (total ts)))

  total_left : (l : List Signed) → total (left l) ≡ total l
  unfolding total left
  total_left [] = refl
  total_left (s ∷ ss) = total_without s (left ss) ∙ ap (λ (x : ℤ). number s +ℤ x) (total_left ss)

  -- what the test says
  pub equal_terms : (s t : Term) → equal s t ≡ true → value s ≡ value t
  unfolding equal nothing total
  equal_terms s t e =
      let zero_sum : value s -ℤ value t ≡ pos 0 = sym (total_expanded (Less s t)) ∙ (sym (total_left (expanded (Less s t))) ∙ empty (left (expanded (Less s t))) e) in
      sym (+ℤ_idr (value s))
      ∙ (ap (λ (x : ℤ). value s +ℤ x) (sym (+ℤ_invl (value t))) ∙ (sym (+ℤ_assoc (value s) (neg_ℤ (value t)) (value t)) ∙ (ap (λ (x : ℤ). x +ℤ value t) zero_sum ∙ +ℤ_idl (value t))))
    where
      empty : (l : List Signed) → nothing l ≡ true → total l ≡ pos 0
      empty [] e = refl
      empty (s ∷ ss) e = absurd (let z : ◌≡◌ {A = ℕ} 0 1 = cc in omega arith)
