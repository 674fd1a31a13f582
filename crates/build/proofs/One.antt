-- Nothing else fits: the promise of a build leaves one answer and one memory.
use mathlib.Core.Path.{◌≡◌, sym, ◌∙◌}
use mathlib.Core.List.{List}
use Prim.Native.Nat.{ℕ}
use native.Mathlib.Decide.{ℕ_discrete}
use lib.ListN.{length}
use Rattle.numbers.specs.declared.Caps.{Caps}
use Rattle.map.specs.declared.Unbuilt.{Unbuilt}
use Rattle.std.specs.Prelude.{Result, ⊤}
use Rattle.map.proofs.Says.{built_one}
use Rattle.laws.proofs.Edits.{build_caps}
use Rattle.picture.proofs.Put.{wf_alone}
use Rattle.build.specs.Builds.{format_refusal, Builds}

pub build_one : {w a b : List ℕ} {caps : Caps} {records : List ℕ} {r s : Result ⊤ Unbuilt} → Builds w caps records r a → Builds w caps records s b
    → (r ≡ s) × (a ≡ b)
build_one {w} {a} {b} {caps} {records} {r} {s} x y =
    (built_one r s (x.says ∙ sym y.says), go (ℕ_discrete (format_refusal (length w) caps) 0))
  where
    go : Dec (format_refusal (length w) caps ≡ 0) → a ≡ b
    go (yes ok) = wf_alone {w = w} (x.wf ok) (y.wf ok) (rw (build_caps caps records) x.inside) (rw (build_caps caps records) y.inside)
    go (no f) = x.kept f ∙ sym (y.kept f)
