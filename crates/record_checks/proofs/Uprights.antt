-- A state that stands upright is linked; with no two cells the same it is ready, and a ready state stands upright. What laid-out memory
-- tells stands upright.
use mathlib.Core.Path.{◌≡◌, refl, sym, ap, ◌∙◌}
use mathlib.Core.Bool.{Bool, true, false, not}
use mathlib.Core.List.{List, [], ◌∷◌}
use mathlib.Core.Logic.{⊎_elim}
use Prim.Native.Nat.{ℕ, ◌<◌, ◌≤◌}
use native.Mathlib.Decide.{dec_lt}
use native.Mathlib.Omega.{arith}
use borrow.Author.Tests.{eqb-true, ltb-true}
use lib.Dec.{eqb, ltb}
use lib.ListN.{length}
use Rattle.lists.specs.Lists.{has, same_set}
use Rattle.lists.proofs.Bools.{clash, or_cases, not_true_false}
use Rattle.lists.proofs.Counts.{select_empty}
use Rattle.lists.proofs.Select.{select_same}
use Rattle.shapes.specs.Shapes.{no_shape, shapes, shape}
use Rattle.shapes.proofs.Facts.{facts}
use Rattle.numbers.specs.declared.Caps.{Caps}
use Rattle.store.specs.Slots.{code_in}
use Rattle.map.specs.Cells.{Body, no_cell, live, dimension_at, holds}
use Rattle.map.specs.Stars.{holders}
use Rattle.picture.specs.State.{State, map_with}
use Rattle.picture.specs.Picture.{chain_of}
use Rattle.picture.specs.Ready.{Ready}
use Rattle.chain.specs.Chain.{Linked}
use Rattle.facet.specs.Facet.{marks_in}
use Rattle.record_checks.specs.Laid.{typed, laid_in}
use Rattle.record_checks.specs.Upright.{Upright}
use Rattle.record_checks.proofs.Records.{marks_length, marks_inside, typed_passes, licence_none}
use Rattle.record_checks.proofs.Seen.{body_seen, seen, Headed, body_here, body_past, seen_once, few_seen}
use Rattle.numbers.specs.Sizes.{most_around}

module _ (caps : Caps) (s : State) where
  -- the chains are the holders of the marks
  pub upright_chain : Upright caps s → (v : ℕ) → chain_of caps s v ≡ holders (map_with caps s) v
  unfolding chain_of holders map_with
  upright_chain u v = select_same (s.chain v) (holds (map_with caps s) v) caps.cells (λ c h. u.chains v c)

  pub upright_linked : Upright caps s → Linked caps s
  unfolding holds map_with
  upright_linked u = record {
    held = λ v c e. sym (u.chains v c) ∙ e;
    corners = λ c. omega (arith, u.fitting c, (facts (s.at c).code).marks);
    distinct = u.distinct;
    few = λ v. rw (upright_chain u v) (u.few v);
  }

  pub upright_ready : Upright caps s
      → ((a b : ℕ) → live (map_with caps s) a ≡ true → (s.at a).code ≡ (s.at b).code → same_set (s.at a).marks (s.at b).marks ≡ true → a ≡ b)
      → Ready caps s
  unfolding map_with
  upright_ready u alone = record {
    sound = record {
      below = u.below;
      dead = u.dead;
      typed = u.typed;
      fitting = u.fitting;
      inside = u.inside;
      distinct = u.distinct;
      alone = alone;
      few = u.few;
    };
    chains = u.chains;
  }

  pub ready_upright : Ready caps s → Upright caps s
  unfolding map_with
  ready_upright r = record {
    chains = r.chains;
    below = r.sound.below;
    dead = r.sound.dead;
    typed = r.sound.typed;
    fitting = r.sound.fitting;
    inside = r.sound.inside;
    distinct = r.sound.distinct;
    few = r.sound.few;
  }

module _ (w : List ℕ) (caps : Caps) (hd : Headed w caps) (laid : laid_in w caps ≡ true) where
  -- a number with no type has no marks
  no_marks : (c : ℕ) → c < caps.cells → code_in w caps c ≡ 0 → marks_in w caps c ≡ []
  unfolding shape shapes no_shape
  no_marks c h e = nil_of (marks_in w caps c) (marks_length w caps hd laid c h ∙ ap (λ (t : ℕ). (shape t).marks) e)
    where
      nil_of : (l : List ℕ) → length l ≡ 0 → l ≡ []
      nil_of [] e = refl
      nil_of (x ∷ xs) e = absurd (omega (arith, e))

  body_fits : (c : ℕ) → length (body_seen w caps c).marks ≡ (shape (body_seen w caps c).code).marks
  unfolding no_cell shape shapes no_shape
  body_fits c = go (dec_lt c caps.cells)
    where
      go : Dec (c < caps.cells) → length (body_seen w caps c).marks ≡ (shape (body_seen w caps c).code).marks
      go (yes h) = rw (body_here w caps c h) (marks_length w caps hd laid c h)
      go (no h) = rw (body_past w caps c (omega arith))

  body_live : (c : ℕ) → not (eqb (body_seen w caps c).code 0) ≡ true → c < caps.cells
  unfolding no_cell
  body_live c t = go (dec_lt c caps.cells)
    where
      go : Dec (c < caps.cells) → c < caps.cells
      go (yes h) = h
      go (no h) = absurd (clash t (rw (body_past w caps c (omega arith)) refl))

  body_dead : (c : ℕ) → not (eqb (body_seen w caps c).code 0) ≡ false → body_seen w caps c ≡ no_cell
  unfolding no_cell
  body_dead c t = go (dec_lt c caps.cells)
    where
      zero_of : (b : Bool) → not b ≡ false → b ≡ true
      zero_of true e = refl
      zero_of false e = absurd (clash refl e)

      go : Dec (c < caps.cells) → body_seen w caps c ≡ no_cell
      go (yes h) =
          let e : code_in w caps c ≡ 0 = sym (ap (λ (b : Body). b.code) (body_here w caps c h)) ∙ eqb-true (body_seen w caps c).code 0 (zero_of _ t) in
          body_here w caps c h ∙ rw (no_marks c h e, licence_none w caps hd laid c h e, e)
      go (no h) = body_past w caps c (omega arith)

  body_typed : (c : ℕ) → not (eqb (body_seen w caps c).code 0) ≡ true → 0 < (shape (body_seen w caps c).code).dimension
  unfolding typed
  body_typed c t =
      let h = body_live c t in
      rw (body_here w caps c h)
      (⊎_elim
      (λ (z : eqb (code_in w caps c) 0 ≡ true). absurd (clash t (rw (body_here w caps c h, z) refl)))
      (λ (l : ltb 0 (shape (code_in w caps c)).dimension ≡ true). ltb-true 0 (shape (code_in w caps c)).dimension l)
      (or_cases (eqb (code_in w caps c) 0) (ltb 0 (shape (code_in w caps c)).dimension) (typed_passes w caps hd laid c h)))

  body_inside : (v c : ℕ) → has v (body_seen w caps c).marks ≡ true → v < caps.marks
  unfolding no_cell has
  body_inside v c t = go (dec_lt c caps.cells)
    where
      go : Dec (c < caps.cells) → v < caps.marks
      go (yes h) = marks_inside w caps hd laid c h v (ap (λ (b : Body). has v b.marks) (sym (body_here w caps c h)) ∙ t)
      go (no h) = absurd (clash t (ap (λ (b : Body). has v b.marks) (body_past w caps c (omega arith))))

  chain_short : (v : ℕ) → length (chain_of caps (seen w caps) v) ≤ most_around
  unfolding chain_of seen
  chain_short v = go (dec_lt v caps.marks)
    where
      go : Dec (v < caps.marks) → length (chain_of caps (seen w caps) v) ≤ most_around
      go (yes h) = few_seen w caps hd laid v h
      go (no h) =
          rw (select_empty (λ c. has v (body_seen w caps c).marks) caps.cells (λ c less. not_true_false _ (λ t. h (body_inside v c t)))) (omega arith)

  pub seen_upright : Upright caps (seen w caps)
  unfolding seen map_with holds live dimension_at holders chain_of
  seen_upright = record {
    chains = λ v c. refl;
    below = body_live;
    dead = body_dead;
    typed = body_typed;
    fitting = body_fits;
    inside = body_inside;
    distinct = seen_once w caps hd laid;
    few = chain_short;
  }
