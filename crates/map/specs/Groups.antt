-- Groups: "a largest set joined by links", over any list of cells and any links.
use Rattle.std.specs.Prelude.{◌≡◌, Bool, true, ◌||◌, List, ℕ, zero, suc, eqb, length}
use Rattle.lists.specs.Lists.{has, any, keep}

-- links of the list s lead from a to b
pub data Joined (link : ℕ → ℕ → Bool) (s : List ℕ) : ℕ → ℕ → Type 0 where
  here : {a : ℕ} → has a s ≡ true → Joined link s a a
  onward : {a b c : ℕ} → has a s ≡ true → link a b ≡ true → Joined link s b c → Joined link s a c

-- those of g, and those of s that are linked with one of them
unfoldable pub grow : (ℕ → ℕ → Bool) → List ℕ → List ℕ → List ℕ
grow link s g = keep (λ b. has b g || any (λ (a : ℕ). link a b) g) s

unfoldable pub grown : (ℕ → ℕ → Bool) → List ℕ → ℕ → List ℕ → List ℕ
grown link s zero g = g
grown link s (suc n) g = grown link s n (grow link s g)

-- the group of a: grown from a alone, as often as s is long
unfoldable pub group_of : (ℕ → ℕ → Bool) → List ℕ → ℕ → List ℕ
group_of link s a = grown link s (length s) (keep (λ b. eqb b a) s)
