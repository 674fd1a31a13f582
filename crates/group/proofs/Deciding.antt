-- The first anchor from the first half-facet at the mark and the first border at it.
use mathlib.Core.Path.{◌≡◌, sym, ◌∙◌}
use mathlib.Core.Bool.{Bool, true}
use mathlib.Core.List.{List}
use Prim.Native.Nat.{ℕ, suc, ◌-◌, ◌/◌}
use native.Mathlib.Omega.{arith}
use Rattle.numbers.specs.declared.Caps.{Caps}
use Rattle.map.specs.Sound.{Fitting}
use Rattle.map.specs.Stars.{anchors}
use Rattle.picture.specs.State.{State, map_with, next}
use Rattle.star.specs.Listed.{Reads}
use Rattle.border.specs.declared.Ends.{Ends}
use Rattle.group.specs.Group.{Around}
use Rattle.border.specs.First.{Beside, Ended, AllOut}
use Rattle.border.proofs.Firsts.{first_borderless, first_border}

module _ (w : List ℕ) (caps : Caps) (rows : List (List (List ℕ))) (d v : ℕ) (r : Ends) (ended : Ended w caps d v r) where
  beside : (s : State) → Around caps rows v s → Beside caps v s
  beside s a = record { settled = a.settled; mark = a.mark }

  fits : (s : State) → Around caps rows v s → Fitting (map_with caps s)
  fits s a = record { count = a.settled.ready.sound.fitting }

  pub decide_none : r.border ≡ 0 → Reads w caps (Around caps rows v) (λ m. next (anchors m d v)) r.any
  decide_none e = record {
    reads = λ s p a.
        let q = ended.ends s p (beside s a) in
        q.0 ∙ sym (first_borderless (map_with caps s) d v (fits s a) (sym q.1 ∙ e));
  }

  pub decide_border : (out : Bool) → (r.border ≡ 0 → ⊥) → AllOut w caps d v ((r.border - 1) / 8) out → out ≡ true
      → Reads w caps (Around caps rows v) (λ m. next (anchors m d v)) r.border
  decide_border out some all t = record {
    reads = λ s p a.
        let q = ended.ends s p (beside s a) in
        let one : r.border ≡ suc (r.border - 1) = omega (arith, some) in
        one ∙ sym (first_border (map_with caps s) d v (fits s a) (r.border - 1) (sym q.1 ∙ one) (all.out t s p (beside s a)));
  }
