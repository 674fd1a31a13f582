-- Each edit, a whole history and a build leave a sound map with two solids at most on a face.
use mathlib.Core.Path.{◌≡◌, refl}
use mathlib.Core.Bool.{Bool, true, false, cond}
use mathlib.Core.List.{List, [], ◌∷◌}
use mathlib.Core.Logic.{⊎_elim}
use Prim.Native.Nat.{ℕ, zero, suc}
use borrow.Author.Tests.{eqb-true}
use lib.Dec.{eqb}
use lib.ListN.{length, take, drop}
use Rattle.lists.proofs.Bools.{either}
use Rattle.numbers.specs.declared.Caps.{Caps}
use Rattle.shapes.specs.Shapes.{shape}
use Rattle.map.specs.Cells.{licensed_body, Map}
use Rattle.map.specs.History.{empty, Edit, Insert, edit_answer, changed, edited, history, build, build_from}
use Rattle.map.specs.Sound.{Sound, TwoSolids}
use Rattle.laws.proofs.Edits.{sound_empty, sound_changed}
use Rattle.laws.proofs.Solids.{two_empty, two_changed}

module _ (m : Map) (s : Sound m) where
  -- each edit keeps the map sound, accepted or refused
  pub sound_edited : (e : Edit) → Sound (edited m e)
  unfolding edited
  sound_edited e = go (eqb (edit_answer m e).refusal 0) refl
    where
      go : (b : Bool) → eqb (edit_answer m e).refusal 0 ≡ b → Sound (cond b (changed m e) m)
      go true a = sound_changed m s e (eqb-true _ 0 a)
      go false a = s

-- a whole history keeps it sound
pub sound_history : (m : Map) (es : List Edit) → Sound m → Sound (history m es)
unfolding history
sound_history m [] s = s
sound_history m (e ∷ es) s = sound_history (edited m e) es (sound_edited m s e)

-- every mesh that edits leave from a formatted one is sound
pub sound_mesh : (caps : Caps) (es : List Edit) → Sound (history (empty caps) es)
sound_mesh caps es = sound_history _ es (sound_empty caps)

module _ (m : Map) (s : Sound m) (t : TwoSolids m) where
  -- each edit leaves two solids at most, accepted or refused
  pub two_edited : (e : Edit) → TwoSolids (edited m e)
  unfolding edited
  two_edited e = go (eqb (edit_answer m e).refusal 0) refl
    where
      go : (b : Bool) → eqb (edit_answer m e).refusal 0 ≡ b → TwoSolids (cond b (changed m e) m)
      go true a = two_changed m s t e (eqb-true _ 0 a)
      go false a = t

-- so does a whole history
pub two_history : (m : Map) (es : List Edit) → Sound m → TwoSolids m → TwoSolids (history m es)
unfolding history
two_history m [] s t = t
two_history m (e ∷ es) s t = two_history (edited m e) es (sound_edited m s e) (two_edited m s t e)

-- every mesh that edits leave from a formatted one has two solids at most
pub two_mesh : (caps : Caps) (es : List Edit) → TwoSolids (history (empty caps) es)
two_mesh caps es = two_history _ es (sound_empty caps) (two_empty caps)

-- a build leaves a sound map with two solids at most
build_leaves : (n place : ℕ) (m : Map) (words : List ℕ) → Sound m → TwoSolids m
    → Sound (build_from n place m words).map × TwoSolids (build_from n place m words).map
unfolding build_from
build_leaves zero place m words s t = (s, t)
build_leaves (suc n) place m [] s t = (s, t)
build_leaves (suc n) place m (c ∷ []) s t = (sound_empty m.caps, two_empty m.caps)
build_leaves (suc n) place m (c ∷ k ∷ []) s t = (sound_empty m.caps, two_empty m.caps)
build_leaves (suc n) place m (c ∷ k ∷ licence ∷ rest) s t =
    let e : Edit = Insert c (licensed_body k licence (take (shape k).marks rest)) in
    ⊎_elim (λ (ok : eqb (edit_answer m e).refusal 0 ≡ true). let a = eqb-true _ 0 ok in
    rw (ok, build_from) (build_leaves n (suc place) (changed m e) (drop (shape k).marks rest) (sound_changed m s e a) (two_changed m s t e a)))
    (λ (no : eqb (edit_answer m e).refusal 0 ≡ false). rw (no, build_from) (sound_empty m.caps, two_empty m.caps))
    (either (eqb (edit_answer m e).refusal 0))

module _ (caps : Caps) (words : List ℕ) where
  pub sound_build : Sound (build caps words).map
  unfolding build
  sound_build = (build_leaves (length words) 0 (empty caps) words (sound_empty caps) (two_empty caps)).0

  pub two_build : TwoSolids (build caps words).map
  unfolding build
  two_build = (build_leaves (length words) 0 (empty caps) words (sound_empty caps) (two_empty caps)).1
