-- The walker: on an unedited mesh its steps are the cycle's, and it first returns to its start after exactly as many steps as the set has
-- half-facets; after an edit a step gives the sibling as it is then, or the refusal.
use mathlib.Core.Path.{◌≡◌, refl, sym, ap, ◌∙◌}
use mathlib.Core.List.{List, [], ◌∷◌}
use Prim.Native.Nat.{ℕ, zero, suc, ◌/◌, ◌%◌, ◌<◌}
use native.Mathlib.Omega.{arith}
use borrow.Author.Tests.{lt-leb, ltb-true}
use lib.ListN.{get_or, length}
use Rattle.lists.specs.Lists.{steps}
use Rattle.numbers.proofs.Inverse.{half_whole, below_half}
use Rattle.shapes.specs.Shapes.{facet_count}
use Rattle.map.specs.Cells.{Map, facets_at}
use Rattle.map.specs.Siblings.{is_half, Half, siblings, sibling, walk}
use Rattle.map.specs.Answers.{Answer, ◌when◌, answer, cell_checks, half_checks, sibling_answer, step_answer}
use Rattle.map.specs.declared.Way.{Way}
use Rattle.map.specs.Ways.{way_number, way}
use Rattle.map.specs.History.{Edit, edited}
use Rattle.map.specs.Says.{given}
use Rattle.map.specs.declared.Refusal.{Refusal}
use Rattle.std.specs.Prelude.{Result, ⊤, Ok}
use Rattle.map.specs.Sound.{Sound}
use Rattle.laws.proofs.Cycles.{walk_has, walk_returns, walk_not_before}
use Rattle.laws.proofs.Sharers.{siblings_live}
use Rattle.picture.specs.Picture.{Wf}
use Rattle.laws.proofs.Facets.{facets_count}
use Rattle.ask.specs.declared.Walker.{Walker}
use Rattle.ask.specs.Steps.{step_says}
use Rattle.ask.proofs.Steps.{step_one}
use Rattle.mesh.specs.Edited.{Edited}
use Rattle.stories.specs.Walked.{Stepped, Walked, here, onward}
use Rattle.stories.proofs.Halves.{half_alive}

-- at a live half-facet a step is answered by the sibling and the way that it runs
step_given : (m : Map) → Sound m → (h : ℕ) → Half m h → step_answer m h ≡ given (sibling m h ∷ way_number (way m h) ∷ [])
unfolding step_answer sibling_answer half_checks cell_checks ◌when◌ answer given is_half facet_count
step_given m s h x =
    let count : h % 8 < facet_count (m.at (h / 8)).code =
    omega (arith, facets_count m (h / 8), ltb-true (h % 8) (length (facets_at m (h / 8))) x.facet) in
    rw (
      lt-leb m.caps.cells (h / 8) (below_half h m.caps.cells x.below),
      half_alive m s h x.facet,
      lt-leb (facet_count (m.at (h / 8)).code) (h % 8) count,
      half_whole h,
    )

module _ {w : List ℕ} {m : Map} (wf : Wf w m) where
  -- a step at a live half-facet is not refused, goes to the sibling and tells the way that it runs
  pub step_sibling : (at : Walker) (r : Result (Walker × Way) Refusal) → Half m at.0.0 → Stepped w at r
      → (next : Walker) × (r ≡ Ok (next, (way m at.0.0))) × (next.0.0 ≡ sibling m at.0.0)
  unfolding step_says given
  step_sibling at r x q =
      let next : Walker = record { 0 = record { 0 = sibling m at.0.0 } } in
      (next, step_one r (Ok (next, (way m at.0.0))) (q.answers m wf ∙ step_given m wf.sound at.0.0 x), refl)

  -- so a step that gives a place gives the sibling's
  step_place : (at next : Walker) (ran : Way) → Half m at.0.0 → Stepped w at (Ok (next, ran)) → next.0.0 ≡ sibling m at.0.0
  unfolding step_says given
  step_place at next ran x q = ap (λ (a : Answer). get_or a.values 0 0) (q.answers m wf ∙ step_given m wf.sound at.0.0 x)

  -- n steps on unedited memory lead where the definition's walk does
  pub walked_walk : {n : ℕ} {from to : Walker} → Half m from.0.0 → Walked w n from to → to.0.0 ≡ walk m n from.0.0
  unfolding walk steps
  walked_walk x here = refl
  walked_walk {from = from} x (onward {n} {at = at} {next} {ran} walked step) =
      let there : at.0.0 ≡ walk m n from.0.0 = walked_walk x walked in
      step_place at next ran (rw there (siblings_live m from.0.0 _ (walk_has m from.0.0 x n))) step ∙ ap (sibling m) there

  -- and so to a live half-facet
  walked_live : {n : ℕ} {from to : Walker} → Half m from.0.0 → Walked w n from to → Half m to.0.0
  walked_live {n} {from} x walked = rw (walked_walk x walked) (siblings_live m from.0.0 _ (walk_has m from.0.0 x n))

  -- whatever it is that steps as promised, from a live half-facet it steps on as often as is asked
  pub walks_on : (step : Walker → Result (Walker × Way) Refusal) → ((at : Walker) → Stepped w at (step at)) → (from : Walker) → Half m from.0.0
      → (n : ℕ) → (to : Walker) × Walked w n from to
  walks_on step promised from x zero = (from, here)
  walks_on step promised from x (suc n) =
      let r = walks_on step promised from x n in
      let next = step_sibling r.0 (step r.0) (walked_live x r.1) (promised r.0) in
      (next.0, onward r.1 (rw next.1 at (promised r.0)))

  module _ {from to : Walker} (x : Half m from.0.0) where
    -- after as many steps as the set has half-facets the walker is back at its start
    pub walked_returns : Walked w (length (siblings m from.0.0)) from to → to.0.0 ≡ from.0.0
    walked_returns walked = walked_walk x walked ∙ walk_returns m from.0.0 x

    -- and after fewer it is not
    pub walked_not_before : {n : ℕ} → 0 < n → n < length (siblings m from.0.0) → Walked w n from to → to.0.0 ≡ from.0.0 → ⊥
    walked_not_before {n} more less walked back = walk_not_before m from.0.0 x n more less (sym (walked_walk x walked) ∙ back)

-- a step after an edit, accepted or refused, gives the sibling as it is then, or the refusal for that half-facet
pub step_edited : {w w' : List ℕ} {m : Map} {e : Edit} {v : Result ⊤ Refusal} → Wf w m → Edited w e v w' → (at : Walker) (r : Result (Walker × Way) Refusal) → Stepped w' at r
    → step_says r ≡ step_answer (edited m e) at.0.0
step_edited wf edit at r q = q.answers _ (edit.answers _ wf).1
