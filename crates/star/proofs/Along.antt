-- The cells of one dimension along a list, one by one; and along a chain, the star.
use mathlib.Core.Path.{◌≡◌, refl, ap, ◌∙◌}
use mathlib.Core.Bool.{Bool, true, false}
use mathlib.Core.List.{List}
use Prim.Native.Nat.{ℕ, ◌+◌, ◌<◌, ◌≤◌}
use native.Mathlib.Numerals.{add-one}
use native.Mathlib.Omega.{arith}
use borrow.Author.Tests.{eq-eqb, ne_eqb}
use lib.Dec.{eqb}
use lib.ListN.{length, get_or, set, take, drop}
use lib.Seq.{take-append_seam}
use Rattle.lists.specs.Lists.{has, keep, list_of}
use Rattle.lists.specs.Filled.{Copied}
use Rattle.lists.proofs.Fill.{fill_start, copy_more, list_of_take, length_list_of}
use Rattle.lists.proofs.Keep.{keep_yes, keep_no, keep_size}
use Rattle.lists.proofs.Alike.{keep_same}
use Rattle.lists.proofs.Order.{keep_select}
use Rattle.lists.proofs.Select.{select_out}
use Rattle.shapes.specs.Shapes.{shape}
use Rattle.numbers.specs.declared.Caps.{Caps}
use Rattle.store.specs.Slots.{code_in}
use Rattle.map.specs.Cells.{Map, holds, dimension_at}
use Rattle.map.specs.Stars.{holders, star}
use Rattle.picture.specs.State.{State, map_with}
use Rattle.picture.specs.Picture.{Pic, chain_of}
use Rattle.picture.proofs.Record.{code_read}
use Rattle.chain.specs.Chain.{Gathered}
use Rattle.chain.proofs.Readied.{chain_holders, ready_linked}
use Rattle.star.specs.Along.{kept}
use Rattle.star.specs.Listed.{Gives, AtMark}
use Rattle.numbers.specs.Sizes.{most_around}

module _ (w : List ℕ) (caps : Caps) (d : ℕ) (cells o : List ℕ) where
  test : ℕ → Bool
  test c = eqb (shape (code_in w caps c)).dimension d

  pub kept_start : Copied (kept w caps d cells 0) o 0 o
  unfolding kept keep list_of
  kept_start = record { count = refl; filled = fill_start o }

  pub kept_yes : (i k c t e : ℕ) (o' o'' : List ℕ) → Copied (kept w caps d cells i) o k o' → c ≡ get_or cells i 0
      → t ≡ code_in w caps c → e ≡ (shape t).dimension → e ≡ d → o'' ≡ set o' k c
      → Copied (kept w caps d cells (i + 1)) o (k + 1) o''
  unfolding kept list_of test
  kept_yes i k c t e o' o'' f hc ht he hd q =
      let yes : test (get_or cells i 0) ≡ true = rw (← hc, ← ht, ← he) (eq-eqb e d hd) in
      rw (add-one i, keep_yes test (list_of i (λ i. get_or cells i 0)) (get_or cells i 0) yes, ← hc) (copy_more (kept w caps d cells i) o o' o'' k c f q)

  pub kept_no : (i k c t e : ℕ) (o' : List ℕ) → Copied (kept w caps d cells i) o k o' → c ≡ get_or cells i 0
      → t ≡ code_in w caps c → e ≡ (shape t).dimension → (e ≡ d → ⊥)
      → Copied (kept w caps d cells (i + 1)) o k o'
  unfolding kept list_of test
  kept_no i k c t e o' f hc ht he hd =
      let no : test (get_or cells i 0) ≡ false = rw (← hc, ← ht, ← he) (ne_eqb e d hd) in
      rw (add-one i, keep_no test (list_of i (λ i. get_or cells i 0)) (get_or cells i 0) no) f

pub kept_end : (w : List ℕ) (caps : Caps) (d : ℕ) (cells o o' : List ℕ) (i n k : ℕ) → Copied (kept w caps d cells i) o k o' → i ≤ n → n ≤ i
    → Copied (kept w caps d cells n) o k o'
kept_end w caps d cells o o' i n k f a b = let e : i ≡ n = omega arith in rw e at f

kept_most : (w : List ℕ) (caps : Caps) (d : ℕ) (cells : List ℕ) (n : ℕ) → length (kept w caps d cells n) ≤ n
unfolding kept
kept_most w caps d cells n =
    omega (
      arith,
      keep_size (λ c. eqb (shape (code_in w caps c)).dimension d) (list_of n (λ i. get_or cells i 0)),
      length_list_of n (λ i. get_or cells i 0),
    )

-- the star is the holders of that dimension
pub star_holders : (m : Map) (d v : ℕ) → keep (λ c. eqb (dimension_at m c) d) (holders m v) ≡ star m d v
unfolding star holders
star_holders m d v = keep_select (holds m v) (λ c. eqb (dimension_at m c) d) m.caps.cells

holder_below : (m : Map) (v c : ℕ) → has c (holders m v) ≡ true → c < m.caps.cells
unfolding holders
holder_below m v c e = (select_out (holds m v) m.caps.cells c e).0

module _ (w : List ℕ) (caps : Caps) (d v : ℕ) (zeros cells o o' : List ℕ) (n r : ℕ) where
  -- along the chain of a mark, the cells of a dimension are the star
  pub star_kept : (s : State) → Pic w caps s → AtMark caps v s → Gathered w caps v zeros n cells → most_around ≤ length zeros
      → kept w caps d cells n ≡ star (map_with caps s) d v
  unfolding kept star map_with dimension_at
  star_kept s p a g room =
      let l = g.list s p (ready_linked caps s a.ready) a.mark in
      let first : take n cells ≡ chain_of caps s v =
      rw (l.1 (omega (arith, g.few)), l.0) (take-append_seam (chain_of caps s v) (drop (length (chain_of caps s v)) zeros)) in
      rw (list_of_take cells n (omega (arith, g.few, g.size)), first, chain_holders caps s a.ready v)
      (keep_same (λ c. eqb (shape (code_in w caps c)).dimension d) (λ c. eqb (dimension_at (map_with caps s) c) d)
      (holders (map_with caps s) v) (λ c e. ap (λ (t : ℕ). eqb (shape t).dimension d) (code_read w caps s p c (held c e)))
      ∙ star_holders (map_with caps s) d v)
    where
      held : (c : ℕ) → has c (holders (map_with caps s) v) ≡ true → c < caps.cells
      held c e = holder_below (map_with caps s) v c e

  pub star_gives : Gathered w caps v zeros n cells → length zeros ≡ most_around → Copied (kept w caps d cells n) o r o'
      → Gives w caps most_around (AtMark caps v) (λ m. star m d v) o r o'
  star_gives g room f = record {
    few = omega (arith, f.count, kept_few, g.few);
    size = f.filled.size;
    gives = λ s p a. rw (star_kept s p a g (omega arith)) at f;
  }
    where
      kept_few : length (kept w caps d cells n) ≤ n
      kept_few = kept_most w caps d cells n
