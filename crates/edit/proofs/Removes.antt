-- A removal step by step: each step is allowed in its turn, and what is left are the words of the map without the cell.
use mathlib.Core.Path.{◌≡◌, refl, sym, ap, ap₂, ◌∙◌, subst, fun_ext}
use mathlib.Core.Bool.{Bool, true, false, cond, ◌&&◌}
use mathlib.Core.List.{List, []}
use mathlib.Core.Logic.{inr}
use Prim.Native.Nat.{ℕ, ◌+◌, ◌*◌, ◌-◌, ◌/◌, ◌%◌, ◌<◌, ◌≤◌}
use native.Mathlib.Omega.{arith}
use native.Mathlib.Decide.{ℕ_discrete, dec_lt}
use borrow.Author.Tests.{eq-eqb, ne_eqb, lt-ltb, le-ltb, ltb-false}
use lib.Dec.{eqb, ltb}
use lib.ListN.{length}
use Rattle.lists.specs.Lists.{has}
use Rattle.lists.proofs.Bools.{clash}
use Rattle.shapes.specs.Sizes.{most_facets, most_code}
use Rattle.shapes.proofs.Types.{type_code}
use Rattle.shapes.specs.Table.{table}
use Rattle.words.proofs.Frame.{only_none, only_then}
use Rattle.numbers.specs.declared.Caps.{Caps}
use Rattle.numbers.specs.Half.{cut, half_of}
use Rattle.map.specs.declared.Way.TheVariants.{Lone}
use Rattle.map.specs.Cells.{Map, no_cell, dimension_at, holds, cells_of}
use Rattle.map.specs.Ways.{way_number}
use Rattle.map.specs.History.{Remove, put, changed}
use Rattle.map.specs.Sound.{Sound, TwoSolids}
use Rattle.laws.proofs.Edits.{MayRemove, none_holds, sound_remove}
use Rattle.laws.proofs.Local.{more_remove}
use Rattle.laws.proofs.Counted.{count_remove}
use Rattle.laws.proofs.Solids.{two_remove}
use Rattle.picture.specs.State.{State, map_with, state_of}
use Rattle.picture.specs.Picture.{Pic, Wf, sib_word}
use Rattle.picture.specs.Changes.{with_body, with_sib, with_count}
use Rattle.picture.specs.Step.{Step}
use Rattle.picture.specs.Writes.{MayWrite}
use Rattle.picture.proofs.Alike.{state_same}
use Rattle.chain.proofs.Readied.{ready_linked}
use Rattle.mend.specs.Settle.{MaySettle, settled}
use Rattle.edit.specs.Edit.{with_links, MayLinks}
use Rattle.edit.specs.Cleared.{cleared_to, cleared}
use Rattle.edit.proofs.Around.{Turn, turn_out, links_hold, Around, past_sib, around_settle, around_wf}
use Rattle.store.specs.Layout.{near_marks, past_halves}

-- the state with the cell out of the chains of its marks, then with no cell there, then with no siblings of it
abbrev pub parted : Map → ℕ → State
parted m c = with_links (state_of m) c (m.at c).marks false

abbrev pub emptied : Map → ℕ → State
emptied m c = with_body (parted m c) c no_cell

abbrev pub gone : Map → ℕ → State
gone m c = cleared (emptied m c) c

module _ (s : State) (c h : ℕ) where
  -- the siblings of the cell are cleared
  cleared_own : h / 8 ≡ c → (most_facets ≤ h % 8 → sib_word s h ≡ 0) → sib_word (cleared s c) h ≡ 0
  unfolding cleared_to way_number
  cleared_own q past = rw (eq-eqb (h / 8) c q) (go (dec_lt (h % 8) most_facets))
    where
      go : Dec (h % 8 < most_facets)
          → 4 * cond (ltb (h % 8) most_facets) 0 (s.sib h) + way_number (cond (ltb (h % 8) most_facets) Lone (s.way h)) ≡ 0
      go (yes l) = rw (lt-ltb (h % 8) most_facets l)
      go (no f) = rw (le-ltb (h % 8) most_facets (omega arith)) (past (omega arith))

  -- and no others
  cleared_other : (h / 8 ≡ c → ⊥) → sib_word (cleared s c) h ≡ sib_word s h
  unfolding cleared_to
  cleared_other n = rw (ne_eqb (h / 8) c n)

-- one after another
none_cleared : (s : State) (c : ℕ) → cleared_to s c 0 ≡ s
unfolding cleared_to
none_cleared s c =
    state_same (cleared_to s c 0) s refl refl (fun_ext (λ h. none 0 s.sib h)) (fun_ext (λ h. none Lone s.way h)) refl refl
  where
    go : {A : Type 0} (b : Bool) (x y : A) → cond (b && false) x y ≡ y
    go true x y = refl
    go false x y = refl

    none : {A : Type 0} (x : A) (was : ℕ → A) (h : ℕ) → cond (eqb (h / 8) c && ltb (h % 8) 0) x (was h) ≡ was h
    none x was h = rw (le-ltb (h % 8) 0 (omega arith)) (go (eqb (h / 8) c) x (was h))

one_more : (s : State) (c k : ℕ) → k < most_facets → with_sib (cleared_to s c k) (8 * c + k) 0 Lone ≡ cleared_to s c (k + 1)
unfolding cleared_to with_sib
one_more s c k l =
    state_same (with_sib (cleared_to s c k) (8 * c + k) 0 Lone) (cleared_to s c (k + 1)) refl refl
    (fun_ext (λ h. go 0 s.sib h (ℕ_discrete (h / 8) c) (ℕ_discrete (h % 8) k)))
    (fun_ext (λ h. go Lone s.way h (ℕ_discrete (h / 8) c) (ℕ_discrete (h % 8) k))) refl refl
  where
    past : {A : Type 0} (x : A) (was : ℕ → A) (h : ℕ) → (h % 8 ≡ k → ⊥) → Dec (h % 8 < k)
        → cond (ltb (h % 8) k) x (was h) ≡ cond (ltb (h % 8) (k + 1)) x (was h)
    past x was h f (yes i) = rw (lt-ltb (h % 8) k i, lt-ltb (h % 8) (k + 1) (omega arith))
    past x was h f (no g) = rw (le-ltb (h % 8) k (omega arith), le-ltb (h % 8) (k + 1) (omega (arith, f)))

    go : {A : Type 0} (x : A) (was : ℕ → A) (h : ℕ) → Dec (h / 8 ≡ c) → Dec (h % 8 ≡ k)
        → cond (eqb (8 * c + k) h) x (cond (eqb (h / 8) c && ltb (h % 8) k) x (was h)) ≡ cond (eqb (h / 8) c && ltb (h % 8) (k + 1)) x (was h)
    go x was h (no n) d = rw (ne_eqb (8 * c + k) h (λ z. n (omega arith)), ne_eqb (h / 8) c n)
    go x was h (yes q) (yes e) = rw (eq-eqb (8 * c + k) h (omega arith), eq-eqb (h / 8) c q, lt-ltb (h % 8) (k + 1) (omega arith))
    go x was h (yes q) (no f) = rw (ne_eqb (8 * c + k) h (λ z. f (omega arith)), eq-eqb (h / 8) c q) (past x was h f (dec_lt (h % 8) k))

module _ (caps : Caps) (c : ℕ) (w : List ℕ) where
  pub clears_start : Step caps w w (λ s. c < caps.cells) (λ s. cleared_to s c 0)
  clears_start = record { inside = only_none; state = λ s p l. subst (λ (x : State). Pic w caps x) (sym (none_cleared s c)) p }

  pub clears_more : (w' w'' : List ℕ) (k h x : ℕ) → Step caps w w' (λ s. c < caps.cells) (λ s. cleared_to s c k) → h ≡ half_of (cut c) (k % 8) → x ≡ 0
      → Step caps w' w'' (λ s. (h / 8 < caps.cells) × (h % 8 < most_facets) × (x < past_halves)) (λ s. with_sib s h x Lone) → k < most_facets
      → Step caps w w'' (λ s. c < caps.cells) (λ s. cleared_to s c (k + 1))
  unfolding half_of
  clears_more w' w'' k h x a e z b l = record {
    inside = only_then a.inside b.inside;
    state = λ s p i.
        let here : h ≡ 8 * c + k = omega (arith, e, p.cells) in
        subst (λ (x : State). Pic w'' caps x) (ap₂ (λ (h x : ℕ). with_sib (cleared_to s c k) h x Lone) here z ∙ one_more s c k (omega arith))
        (b.state (cleared_to s c k) (a.state s p i) (omega (arith, here), omega (arith, here), omega (arith, z)));
  }

module _ (m : Map) (s : Sound m) (c : ℕ) (r : MayRemove m c) where
  pub may_links : MayLinks m.caps c (m.at c).marks false (state_of m)
  unfolding state_of map_with holds
  may_links = record {
    linked = ready_linked m.caps (state_of m) (record { sound = s; chains = λ v k. refl });
    cell = r.number;
    corners = refl;
    inside = λ v e. s.inside v c e;
    was = λ v e. e;
    few = λ on. absurd (clash on refl);
  }

  turn : Turn m (changed m (Remove c)) c (m.at c).code (m.at c).marks
  unfolding dimension_at
  turn = turn_out (changed m (Remove c)) m c (m.at c) (more_remove m s c r) (sound_remove m s c r) s (s.typed c r.live)

  -- out of the chains of its marks the cell stands in no chain
  links : (v k : ℕ) → (parted m c).chain v k ≡ holds (changed m (Remove c)) v k
  unfolding state_of no_cell has
  links =
      links_hold m (changed m (Remove c)) c (m.at c).marks false turn.apart turn.free
      (λ v e. rw (more_remove m s c r).before) (state_of m) (λ v k. refl)

  pub may_write : MayWrite m.caps c [] (ltb near_marks (length (m.at c).marks)) (parted m c)
  unfolding with_links state_of
  may_write = record {
    cell = r.number;
    loose = λ v. links v c ∙ none_holds (changed m (Remove c)) c (more_remove m s c r).before v;
    near = λ e. (ltb-false near_marks (length (m.at c).marks) e, omega arith);
    all = λ e. inr refl;
  }

  pub same_map : map_with m.caps (gone m c) ≡ changed m (Remove c)
  unfolding map_with with_links with_body cleared_to state_of changed put
  same_map = refl

  around : Around m.caps m c (gone m c)
  unfolding with_links with_body cleared_to state_of
  around = record {
    chains = λ v k. rw same_map (links v k);
    own = λ h q. cleared_own (emptied m c) c h q (λ l. past_sib m h l);
    other = λ h n. cleared_other (emptied m c) c h n;
    ancs = λ d v. refl;
    counts = λ u. refl;
  }

  pub may_settle : MaySettle m.caps table (m.at c).code (m.at c).marks (gone m c)
  may_settle = around_settle m.caps m c (m.at c).code (m.at c).marks (gone m c) (rw same_map turn) around

  pub may_count : (1 ≤ (m.at c).code) × ((m.at c).code ≤ most_code)
  unfolding dimension_at
  may_count = type_code (m.at c).code (s.typed c r.live)

  pub removed : TwoSolids m → (w : List ℕ)
      → Pic w m.caps (with_count (settled m.caps (gone m c)) (m.at c).code (length (cells_of m (m.at c).code) - 1))
      → Wf w (changed m (Remove c))
  removed two w p =
      let fewer : length (cells_of (changed m (Remove c)) (m.at c).code) ≡ length (cells_of m (m.at c).code) - 1
      = omega (arith, count_remove m s c r) in
      rw same_map at
      (around_wf m.caps m c (m.at c).code (m.at c).marks (gone m c) (rw same_map turn) around (rw same_map (two_remove m s two c r)) w (rw (same_map, fewer) p))
