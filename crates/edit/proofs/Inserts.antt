-- An insertion step by step: each step is allowed in its turn, and what is left are the words of the map with the cell.
use mathlib.Core.Path.{◌≡◌, refl, ap}
use mathlib.Core.Bool.{true, false}
use mathlib.Core.List.{List}
use mathlib.Core.Logic.{inl}
use Prim.Native.Nat.{ℕ, suc, ◌/◌, ◌≤◌}
use native.Mathlib.Decide.{ℕ_discrete}
use native.Mathlib.Omega.{arith}
use borrow.Author.Tests.{ltb-true, ltb-false}
use lib.Dec.{ltb}
use lib.ListN.{length}
use Rattle.lists.specs.Lists.{has}
use Rattle.lists.proofs.Bools.{clash}
use Rattle.shapes.specs.Table.{table}
use Rattle.map.specs.Cells.{Body, Map, no_cell, live, holds, cells_of}
use Rattle.map.specs.Stars.{holders}
use Rattle.map.specs.History.{Insert, put, changed}
use Rattle.map.specs.Sound.{Sound, TwoSolids}
use Rattle.laws.proofs.Edits.{MayInsert, none_holds, sound_insert}
use Rattle.laws.proofs.Local.{more_insert}
use Rattle.laws.proofs.Counted.{count_insert}
use Rattle.laws.proofs.Halves.{none_facets}
use Rattle.laws.proofs.Solids.{two_insert}
use Rattle.picture.specs.State.{State, map_with, state_of}
use Rattle.picture.specs.Picture.{chain_of, Pic, Wf}
use Rattle.picture.specs.Changes.{with_body, with_count}
use Rattle.picture.specs.Writes.{MayWrite}
use Rattle.chain.specs.Chain.{Linked}
use Rattle.shapes.specs.Sizes.{most_code}
use Rattle.shapes.proofs.Facts.{facts}
use Rattle.shapes.proofs.Types.{type_code}
use Rattle.mend.specs.Settle.{MaySettle, settled}
use Rattle.edit.specs.Edit.{with_links, MayLinks}
use Rattle.edit.proofs.Around.{Turn, turn_in, links_hold, Around, no_sib, around_settle, around_wf}
use Rattle.store.specs.Layout.{near_marks}

-- the state with the cell's body, and then in the chains of its marks
abbrev pub bodied : Map → ℕ → Body → State
bodied m c x = with_body (state_of m) c x

abbrev pub joined : Map → ℕ → Body → State
joined m c x = with_links (bodied m c x) c x.marks true

-- a number that is not live has no marks
dead_short : (m : Map) → Sound m → (c : ℕ) → live m c ≡ false → length (m.at c).marks ≤ near_marks
unfolding no_cell
dead_short m s c e = rw (s.dead c e) (omega arith)

module _ (m : Map) (s : Sound m) (c : ℕ) (x : Body) (r : MayInsert m c x) where
  -- the number holds no mark before
  none : (v : ℕ) → holds m v c ≡ false
  none v = none_holds m c (s.dead c r.free) v

  pub may_write : MayWrite m.caps c x.marks (ltb near_marks (length x.marks)) (state_of m)
  unfolding state_of
  may_write = record {
    cell = r.number;
    loose = none;
    near = λ e. (before, ltb-false near_marks (length x.marks) e);
    all = λ e. inl (ltb-true near_marks (length x.marks) e);
  }
    where
      before : length (m.at c).marks ≤ near_marks
      before = dead_short m s c r.free

  -- the chains without the cell are those of the map before
  still_linked : Linked m.caps (bodied m c x)
  unfolding state_of with_body chain_of changed put holds holders
  still_linked = record {
    held = λ v k e. held v k e (ℕ_discrete k c);
    corners = λ k. omega (arith, after.fitting k, (facts ((changed m (Insert c x)).at k).code).marks);
    distinct = after.distinct;
    few = s.few;
  }
    where
      after : Sound (changed m (Insert c x))
      after = sound_insert m s c x r

      held : (v k : ℕ) → holds m v k ≡ true → Dec (k ≡ c) → has v ((changed m (Insert c x)).at k).marks ≡ true
      held v k e (yes q) = absurd (clash (rw q at e) (none v))
      held v k e (no n) = rw ((more_insert m s c x r).apart.other k n) e

  pub may_links : MayLinks m.caps c x.marks true (bodied m c x)
  unfolding state_of with_body chain_of changed put holders
  may_links = record {
    linked = still_linked;
    cell = r.number;
    corners = ap (λ (b : Body). b.marks) (more_insert m s c x r).after;
    inside = r.inside;
    was = λ v e. none v;
    few = λ on v e. omega (arith, r.few v e);
  }

  pub same_map : map_with m.caps (joined m c x) ≡ changed m (Insert c x)
  unfolding map_with with_links with_body state_of changed put
  same_map = refl

  turn : Turn m (changed m (Insert c x)) c x.code x.marks
  turn = turn_in m (changed m (Insert c x)) c x (more_insert m s c x r) s (sound_insert m s c x r) r.typed

  around : Around m.caps m c (joined m c x)
  unfolding with_links with_body state_of
  around = record {
    chains = λ v k.
        rw same_map
        (links_hold m (changed m (Insert c x)) c x.marks true turn.apart turn.free
        (λ v e. rw (more_insert m s c x r).after e) (bodied m c x) (λ v k. refl) v k);
    own = λ h q. no_sib m h (none_facets m (h / 8) (rw q (s.dead c r.free)));
    other = λ h n. refl;
    ancs = λ d v. refl;
    counts = λ u. refl;
  }

  pub may_settle : MaySettle m.caps table x.code x.marks (joined m c x)
  may_settle = around_settle m.caps m c x.code x.marks (joined m c x) (rw same_map turn) around

  pub may_count : (1 ≤ x.code) × (x.code ≤ most_code)
  may_count = type_code x.code r.typed

  pub inserted : TwoSolids m → (w : List ℕ) → Pic w m.caps (with_count (settled m.caps (joined m c x)) x.code (suc (length (cells_of m x.code))))
      → Wf w (changed m (Insert c x))
  inserted two w p =
      rw same_map at
      (around_wf m.caps m c x.code x.marks (joined m c x) (rw same_map turn) around (rw same_map (two_insert m s two c x r)) w (rw (same_map, count_insert m s c x r) p))
