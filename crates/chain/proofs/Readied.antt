-- A ready state is linked, and its chains are the holders of the marks.
use mathlib.Core.Path.{◌≡◌, sym, ◌∙◌}
use Prim.Native.Nat.{ℕ}
use native.Mathlib.Omega.{arith}
use Rattle.lists.proofs.Select.{select_same}
use Rattle.shapes.proofs.Facts.{facts}
use Rattle.numbers.specs.declared.Caps.{Caps}
use Rattle.map.specs.Cells.{holds}
use Rattle.map.specs.Stars.{holders}
use Rattle.picture.specs.State.{State, map_with}
use Rattle.picture.specs.Picture.{chain_of}
use Rattle.picture.specs.Ready.{Ready}
use Rattle.chain.specs.Chain.{Linked}

module _ (caps : Caps) (s : State) (r : Ready caps s) where
  -- the chain of a mark is the list of its holders
  pub chain_holders : (v : ℕ) → chain_of caps s v ≡ holders (map_with caps s) v
  unfolding chain_of holders map_with
  chain_holders v = select_same (s.chain v) (holds (map_with caps s) v) caps.cells (λ k h. r.chains v k)

  pub ready_linked : Linked caps s
  unfolding holds map_with
  ready_linked = record {
    held = λ v c e. sym (r.chains v c) ∙ e;
    corners = λ c. omega (arith, r.sound.fitting c, (facts (s.at c).code).marks);
    distinct = λ c. r.sound.distinct c;
    few = λ v. rw (chain_holders v) (r.sound.few v);
  }
