-- A walk along the chain of a mark, cell by cell: what lies before it, and the cell that it has come to.
use mathlib.Core.Path.{◌≡◌, refl, sym, ap, ◌∙◌}
use mathlib.Core.List.{List}
use Prim.Native.Nat.{ℕ, zero, suc, ◌+◌, ◌/◌, ◌%◌, ◌≤◌}
use native.Mathlib.Omega.{arith}
use lib.ListN.{length, length-append}
use Rattle.lists.specs.Lists.{select, place}
use Rattle.numbers.specs.declared.Caps.{Caps}
use Rattle.numbers.specs.Sizes.{most_around}
use Rattle.store.specs.Fields.{Link}
use Rattle.store.specs.Slots.{InCell, read}
use Rattle.map.specs.Cells.{Body}
use Rattle.picture.specs.State.{State}
use Rattle.picture.specs.Picture.{Pic, chain_of, ahead, link_to, link}
use Rattle.chain.specs.Chain.{Linked}
use Rattle.chain.proofs.Nexts.{None, First, first_from, from_none, from_first, from_full, select_first}
use Rattle.chain.proofs.Places.{link_says, link_word_lem}

to_none : (at : ℕ → Body) (v x : ℕ) → link_to at v x ≡ 0 → x ≡ 0
unfolding link_to
to_none at v zero e = refl
to_none at v (suc c) e = absurd (omega (arith, e))

to_some : (at : ℕ → Body) (v x i : ℕ) → link_to at v x ≡ suc i → (c : ℕ) × (x ≡ suc c)
unfolding link_to
to_some at v zero i e = absurd (omega (arith, e))
to_some at v (suc c) i e = (c, refl)

module _ (caps : Caps) (s : State) (v : ℕ) where
  -- y is the link to the first cell from lo on, and n cells lie before
  pub record Along (lo n y : ℕ) : Type 0 where
    pub low : lo ≤ caps.cells
    pub leads : y ≡ link caps s v lo
    pub count : n ≡ length (select (s.chain v) lo)

  pub along_start : (y : ℕ) → y ≡ link caps s v 0 → Along 0 0 y
  unfolding select
  along_start y e = record { low = omega arith; leads = e; count = refl }

  pub along_end : (lo n y : ℕ) → Along lo n y → y ≡ 0 → None (s.chain v) lo caps.cells
  unfolding link ahead chain_of
  along_end lo n y a e = from_none (s.chain v) caps.cells lo (to_none s.at v _ (sym a.leads ∙ e))

  module _ (l : Linked caps s) where
    pub along_full : (lo n y : ℕ) → Along lo n y → most_around ≤ n → None (s.chain v) lo caps.cells
    unfolding chain_of
    along_full lo n y a h =
        from_none (s.chain v) caps.cells lo
        (from_full (s.chain v) lo caps.cells n (omega (arith, a.count)) (omega (arith, l.few v)))

    module _ (lo n y i : ℕ) (a : Along lo n y) (e : y ≡ suc i) where
      come : (c : ℕ) × First (s.chain v) lo caps.cells c × (suc i ≡ link_to s.at v (suc c))
      unfolding link ahead chain_of
      come =
          let c = to_some s.at v (first_from (s.chain v) caps.cells lo) i (sym a.leads ∙ e) in
          (c.0, from_first (s.chain v) caps.cells lo c.0 c.1, sym e ∙ (a.leads ∙ ap (link_to s.at v) c.1))

      says : (i / 8 ≡ come.0) × (i % 8 ≡ place v (s.at come.0).marks)
      says = link_says caps s l v come.0 i come.1.here come.2

      -- the cell that it has come to, and its corner
      pub along_here : First (s.chain v) lo caps.cells (i / 8) × (i % 8 ≡ place v (s.at (i / 8)).marks)
      along_here = rw says.0 (come.1, says.1)

      pub along_more : (w : List ℕ) → Pic w caps s → (y' : ℕ) → y' ≡ read w caps (InCell (i / 8) (Link (i % 8))) → Along (suc (i / 8)) (n + 1) y'
      along_more w p y' f = rw says.0 (record {
        low = come.1.high;
        leads = f ∙ link_word_lem w caps s p l v come.0 i come.1.high come.1.here come.2;
        count = rw (select_first (s.chain v) lo caps.cells come.0 come.1, length-append) (omega (arith, a.count));
      })
