-- What a write leaves as it was.
use mathlib.Core.Path.{◌≡◌, refl, sym, ap, ◌∙◌, subst}
use mathlib.Core.Bool.{Bool, true, false, cond}
use mathlib.Core.List.{List, []}
use Prim.Native.Nat.{ℕ, ◌+◌, ◌-◌, ◌<◌, ◌≤◌, min}
use native.Mathlib.Decide.{dec_lt}
use native.Mathlib.Omega.{arith}
use borrow.Author.Tests.{leb-true}
use lib.Dec.{leb}
use lib.ListN.{length, get_or, set, take, drop, length-set, length-take, length-drop}
use lib.Seq.{get_or-set_same, get_or-set_other, get_or-take, get_or-drop, ext_get_or, set-get_or}
use Rattle.words.specs.Words.{part_of, Only}

-- a word just written is read back
pub read_same : (m : List ℕ) (at v : ℕ) → at < length m → get_or (set m at v) at 0 ≡ v
read_same m at v h = get_or-set_same m at v 0 h

-- and every other is as it was
pub read_other : (m : List ℕ) (at v other : ℕ) → (other ≡ at → ⊥) → get_or (set m at v) other 0 ≡ get_or m other 0
read_other m at v other ne = get_or-set_other m at other v 0 ne

pub read_above : (m : List ℕ) (at v other : ℕ) → at < other → get_or (set m at v) other 0 ≡ get_or m other 0
read_above m at v other h = read_other m at v other (λ e. omega arith)

pub read_below : (m : List ℕ) (at v other : ℕ) → other < at → get_or (set m at v) other 0 ≡ get_or m other 0
read_below m at v other h = read_other m at v other (λ e. omega arith)

-- the word that stands there, written again, changes nothing
pub put_again : (m : List ℕ) (at : ℕ) → set m at (get_or m at 0) ≡ m
put_again m at = set-get_or m at 0

module _ {P : ℕ → Type 0} where
  pub only_none : {m : List ℕ} → Only P m m
  only_none = record { size = refl; same = λ at ne. refl }

  pub only_then : {m m' m'' : List ℕ} → Only P m m' → Only P m' m'' → Only P m m''
  only_then a b = record { size = b.size ∙ a.size; same = λ at ne. b.same at ne ∙ a.same at ne }

  pub only_put : (m : List ℕ) (at v : ℕ) → P at → Only P m (set m at v)
  only_put m at v p = record {
    size = length-set m at v;
    same = λ other ne. read_other m at v other (λ e. ne (subst P (sym e) p));
  }

  pub only_wider : {Q : ℕ → Type 0} {m m' : List ℕ} → ((at : ℕ) → P at → Q at) → Only P m m' → Only Q m m'
  only_wider f a = record { size = a.size; same = λ at ne. a.same at (λ p. ne (f at p)) }

-- only no place changes: nothing changes
pub only_nowhere : {m m' : List ℕ} → Only (λ _. ⊥) m m' → m' ≡ m
only_nowhere {m} {m'} a = ext_get_or 0 m' m a.size (λ at h. a.same at (λ e. e))

-- two memories that differ from one memory in their first n words alone, and have those alike, are the same
pub only_one : {n : ℕ} {m a b : List ℕ} → Only (λ i. i < n) m a → Only (λ i. i < n) m b → take n a ≡ take n b → a ≡ b
only_one {n} {m} {a} {b} x y e = ext_get_or 0 a b (x.size ∙ sym y.size) (λ i h. go i (dec_lt i n))
  where
    go : (i : ℕ) → Dec (i < n) → get_or a i 0 ≡ get_or b i 0
    go i (yes h) = sym (get_or-take n a i 0 h) ∙ (ap (λ (l : List ℕ). get_or l i 0) e ∙ get_or-take n b i 0 h)
    go i (no f) = x.same i f ∙ sym (y.same i f)

-- a part of which no word changes is the same part
pub part_same : {P : ℕ → Type 0} {m m' : List ℕ} (at n : ℕ) → Only P m m' → ((k : ℕ) → k < n → P (at + k) → ⊥) → part_of m' at n ≡ part_of m at n
unfolding part_of
part_same {P} {m} {m'} at n a ne = rw a.size (go (leb (at + n) (length m)) refl)
  where
    words : at + n ≤ length m → take n (drop at m') ≡ take n (drop at m)
    words h =
        ext_get_or 0 (take n (drop at m')) (take n (drop at m))
        (simp (length-take, length-drop) (ap (λ (k : ℕ). min n (k - at)) a.size))
        (λ k below.
        let small : k < n = omega (arith, length-take n (drop at m')) in
        rw (get_or-take, get_or-take, get_or-drop, get_or-drop) (a.same (at + k) (ne k small)))

    go : (b : Bool) → leb (at + n) (length m) ≡ b → cond b (take n (drop at m')) [] ≡ cond b (take n (drop at m)) []
    go true e = words (leb-true _ _ e)
    go false e = refl
