-- Facet by facet the sets are mended.
use mathlib.Core.Path.{◌≡◌, refl, sym, ap, ◌∙◌, subst}
use mathlib.Core.Bool.{Bool, true, false}
use mathlib.Core.List.{List, [], ◌∷◌}
use Prim.Native.Nat.{ℕ, suc, ◌+◌, ◌<◌, ◌≤◌}
use native.Mathlib.Numerals.{add-one}
use native.Mathlib.Omega.{arith}
use lib.ListN.{get_or, length, drop, length-map, drop_of_length-le}
use lib.Seq.{drop-cons}
use Rattle.words.proofs.Frame.{only_none, only_then}
use Rattle.shapes.specs.Shapes.{shape, facet_count}
use Rattle.shapes.specs.Table.{table}
use Rattle.numbers.specs.declared.Caps.{Caps}
use Rattle.map.specs.Cells.{Map, holds}
use Rattle.map.specs.Sound.{Sound}
use Rattle.picture.specs.State.{State, map_with}
use Rattle.picture.specs.Picture.{Pic}
use Rattle.picture.specs.Step.{Step}
use Rattle.picture.specs.Ready.{Ready}
use Rattle.sibling.specs.Shared.{SetInside, MayMend, mended}
use Rattle.map.specs.Cells.{sets_of}
use Rattle.mend.specs.Settle.{MaySettle}
use Rattle.facet.specs.Facet.{set_in}
use Rattle.mend.specs.Sibs.{Sibs}
use Rattle.mend.specs.Mended.{Mends}
use Rattle.mend.proofs.Sibs.{same_map, sibs_mend}
use Rattle.facet.proofs.Sets.{set_is, set_first}

-- the same step by another name of the set
pub mend_step : (caps : Caps) (rows : List (List (List ℕ))) (w w' set set' : List ℕ) → set ≡ set' → Step caps w w' (MayMend caps rows set) (mended caps set)
    → Step caps w w' (MayMend caps rows set') (mended caps set')
mend_step caps rows w w' set set' e p = rw e at p

-- a state with the same cells and chains is ready too
pub ready_same : (caps : Caps) (s s' : State) → s'.at ≡ s.at → s'.chain ≡ s.chain → Ready caps s → Ready caps s'
ready_same caps s s' a b r = record {
  sound = rw (same_map caps s s' a) r.sound;
  chains = λ v c. ap (λ (f : ℕ → ℕ → Bool). f v c) b ∙ (r.chains v c ∙ ap (λ (m : Map). holds m v c) (sym (same_map caps s s' a)));
}

module _ (caps : Caps) (rows : List (List (List ℕ))) (t : ℕ) (marks w : List ℕ) where
  pub mends_start : Mends caps rows t marks w w (drop 0 (sets_of t marks))
  mends_start = record {
    inside = only_none;
    state = λ s p k. (s, p, record { at = refl; chain = refl; anc = refl; count = refl; right = k.sibs });
  }

  sets_count : length (sets_of t marks) ≡ facet_count t
  unfolding facet_count
  sets_count = length-map (shape t).facets _

  pub mends_more : (w' w'' : List ℕ) (f : ℕ) → Mends caps rows t marks w w' (drop f (sets_of t marks)) → f < facet_count t
      → Step caps w' w'' (MayMend caps rows (set_in rows t f marks)) (mended caps (set_in rows t f marks))
      → Mends caps rows t marks w w'' (drop (f + 1) (sets_of t marks))
  mends_more w' w'' f p h q = record {
    inside = only_then p.inside q.inside;
    state = λ s pic k.
        let r = p.state s pic k in
        let set : set_in rows t f marks ≡ get_or (sets_of t marks) f [] = rw k.types (set_is t f marks) in
        let next : drop f (sets_of t marks) ≡ set_in rows t f marks ∷ drop (f + 1) (sets_of t marks) =
        rw (add-one f, set) (drop-cons (sets_of t marks) f [] (omega (arith, sets_count))) in (
          mended caps (set_in rows t f marks) r.0,
          q.state r.0 r.1 (may s r.0 k r.2),
          sibs_mend caps s k.ready.sound r.0 (set_in rows t f marks) (drop (f + 1) (sets_of t marks)) (rw next at r.2),
        );
  }
    where
      may : (s s' : State) {left : List (List ℕ)} → MaySettle caps rows t marks s → Sibs caps s s' left → MayMend caps rows (set_in rows t f marks) s'
      may s s' k x =
          let first = rw (sym k.types) at (set_first t f marks h k.count) in
          record {
            ready = ready_same caps s s' x.at x.chain k.ready;
            asked = record { types = k.types; some = first.0; mark = k.inside (get_or (set_in rows t f marks) 0 0) first.1 };
          }

  pub mends_done : (w' : List ℕ) (f : ℕ) → Mends caps rows t marks w w' (drop f (sets_of t marks)) → facet_count t ≤ f → Mends caps rows t marks w w' []
  mends_done w' f p h = rw (drop_of_length-le (sets_of t marks) {i = f} (omega (arith, sets_count))) at p
