-- `journal_store::copy_words` meets its contract.
use mathlib.Core.Path.{◌≡◌}
use native.Mathlib.Omega.{arith}
use Rattle.journal_store.proofs.Copying.{copied_start, copied_filled}
use Rattle.journal_store.proofs.copy_words.Goals as goal

pub loop-i-init : goal.loop-i-init
loop-i-init c = copied_start _ _ _ _ (omega arith)

pub returns : goal.returns
returns c =
    let all : c.loop-i.i ≡ c.min-copied.result = omega arith in
    copied_filled _ _ _ _ _ _ _ _ (omega arith) c.min-places.ensures c.min-copied.ensures (rw all at c.loop-i.invariant) (c.fill.ensures.after (λ y same. same))
