-- Words that say what was meant are read as it.
use mathlib.Core.Path.{◌≡◌, refl, ap, ◌∙◌}
use mathlib.Core.List.{List, [], ◌∷◌, ◌++◌, map}
use Prim.Native.Nat.{ℕ, suc}
use native.Mathlib.Omega.{arith}
use lib.ListN.{length}
use Rattle.off.specs.Words.{Word}
use Rattle.off.specs.Numbers.{Says, Is}
use Rattle.off.specs.Reading.{Got, ◌then◌, one, many}
use Rattle.off.proofs.Joined.{spelled}

-- each of a list
pub data Each {A : Type 0} (P : A → Type 0) : List A → Type 0 where
  none : Each P []
  more : {x : A} {xs : List A} → P x → Each P xs → Each P (x ∷ xs)

pub one_is : {A : Type 0} (f : List ℕ → Says A) (end : ℕ) (a : A) (w : Word) (ws : List Word) → f w.bytes ≡ Is a → one f end (w ∷ ws) ≡ Got a ws
unfolding one
one_is f end a w ws e = rw (e, one)

-- the first of some words
pub read_one : {A : Type 0} (f : List ℕ → Says A) (end : ℕ) (a : A) (b : List ℕ) (rest : List (List ℕ)) (ws : List Word) → f b ≡ Is a
    → spelled ws ≡ b ∷ rest → (vs : List Word) × (one f end ws ≡ Got a vs) × (spelled vs ≡ rest)
unfolding spelled
read_one f end a b rest [] e s = let z : ◌≡◌ {A = ℕ} 0 1 = cc in absurd (omega arith)
read_one f end a b rest (w ∷ ws) e s =
    let same : w.bytes ≡ b = cc in
    let behind : spelled ws ≡ rest = cc in
    (ws, one_is f end a w ws (ap f same ∙ e), behind)

many_more : {A : Type 0} (f : List ℕ → Says A) (end n : ℕ) (a : A) (l : List A) (ws us vs : List Word)
    → one f end ws ≡ Got a us → many f end n us ≡ Got l vs → many f end (suc n) ws ≡ Got (a ∷ l) vs
unfolding many ◌then◌
many_more f end n a l ws us vs e g = rw (e, g)

many_none : {A : Type 0} (f : List ℕ → Says A) (end : ℕ) (ws : List Word) → many f end 0 ws ≡ Got [] ws
unfolding many
many_none f end ws = refl

-- as many as a list is long
pub read_many : {A : Type 0} (f : List ℕ → Says A) (text : A → List ℕ) (end : ℕ) (l : List A) → Each (λ a. f (text a) ≡ Is a) l
    → (rest : List (List ℕ)) (ws : List Word) → spelled ws ≡ map text l ++ rest
    → (vs : List Word) × (many f end (length l) ws ≡ Got l vs) × (spelled vs ≡ rest)
read_many f text end [] none rest ws s = (ws, many_none f end ws, s)
read_many f text end (a ∷ l) (more p ps) rest ws s =
    let first = read_one f end a (text a) (map text l ++ rest) ws p s in
    let others = read_many f text end l ps rest first.0 first.2 in
    (others.0, many_more f end (length l) a l ws first.0 others.0 first.1 others.1, others.2)

pub read_count : {A : Type 0} (f : List ℕ → Says A) (text : A → List ℕ) (end : ℕ) (l : List A) (n : ℕ) → length l ≡ n → Each (λ a. f (text a) ≡ Is a) l
    → (rest : List (List ℕ)) (ws : List Word) → spelled ws ≡ map text l ++ rest
    → (vs : List Word) × (many f end n ws ≡ Got l vs) × (spelled vs ≡ rest)
read_count f text end l n e each rest ws s =
    let r = read_many f text end l each rest ws s in
    (r.0, rw (← e) r.1, r.2)
