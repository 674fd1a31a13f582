-- Nothing else fits: the promise of a format leaves one answer and one memory.
use mathlib.Core.Path.{◌≡◌, refl, sym, ◌∙◌, subst}
use mathlib.Core.List.{List}
use Prim.Native.Nat.{ℕ}
use Rattle.numbers.specs.declared.Caps.{Caps}
use Rattle.map.specs.Cells.{map_of}
use Rattle.map.specs.History.{empty}
use Rattle.map.specs.declared.Refusal.{Refusal}
use Rattle.std.specs.Prelude.{Result, ⊤, Ok, Err}
use Rattle.map.proofs.Says.{verdict_one}
use Rattle.picture.proofs.Put.{wf_alone}
use Rattle.format.specs.Formatted.{Formatted}

pub format_one : {w a b : List ℕ} {caps : Caps} {r s : Result ⊤ Refusal} → Formatted w caps r a → Formatted w caps s b → (r ≡ s) × (a ≡ b)
unfolding empty map_of
format_one {w} {a} {b} {caps} {r} {s} x y = (same, go r x (subst (λ (v : Result ⊤ Refusal). Formatted w caps v b) (sym same) y))
  where
    same : r ≡ s
    same = verdict_one r s (x.says ∙ sym y.says)

    go : (v : Result ⊤ Refusal) → Formatted w caps v a → Formatted w caps v b → a ≡ b
    go (Ok tt) f g = wf_alone (f.wf refl) (g.wf refl) f.inside g.inside
    go (Err why) f g = f.kept why refl ∙ sym (g.kept why refl)
