-- Memory opened, then the row: each way that the check of a call ends.
use mathlib.Core.Path.{◌≡◌, ap, ◌∙◌}
use mathlib.Core.List.{List}
use Prim.Native.Nat.{ℕ}
use native.Mathlib.Omega.{arith}
use Rattle.lists.proofs.Bools.{clash}
use Rattle.numbers.specs.declared.Caps.{Caps}
use Rattle.std.specs.Prelude.{Result, ⊤, Ok, Err}
use Rattle.store.specs.Open.{opened}
use Rattle.map.specs.Cells.{Map}
use Rattle.map.specs.Answers.{Check}
use Rattle.map.specs.Says.{verdict_says}
use Rattle.map.specs.declared.Refusal.{Refusal}
use Rattle.map.specs.declared.Refusal.TheVariants.{NotMesh}
use Rattle.checks.specs.Checked.{Checked}
use Rattle.checks.specs.Opening.{Opens}
use Rattle.checks.proofs.Opens.{nothing_opened, mesh_opened, wf_mesh, wf_caps}

module _ (w : List ℕ) (checks : Map → List Check) where
  pub opens_none : (Err NotMesh) ≡ opened w → Opens w checks (Err NotMesh)
  opens_none e = record {
    opens = λ caps q. absurd (let z : ◌≡◌ {A = ℕ} 0 1 = cc in omega arith);
    no_mesh = λ why q no. cc;
    fails = λ why q m wf. absurd (clash (wf_mesh w m wf) (nothing_opened w e));
  }

  module _ (caps : Caps) (e : Ok caps ≡ opened w) (verdict : Result ⊤ Refusal) (k : Checked w caps checks verdict) where
    pub opens_refused : (why : Refusal) → verdict ≡ Err why → Opens w checks (Err why)
    unfolding verdict_says
    opens_refused why v = record {
      opens = λ caps q. absurd (let z : ◌≡◌ {A = ℕ} 0 1 = cc in omega arith);
      no_mesh = λ why q no. absurd (clash (mesh_opened w caps e).0 no);
      fails = λ other q m wf. ap verdict_says (let z : Err other ≡ verdict = cc in z) ∙ k.says m (wf_caps w m wf caps e) wf;
    }

    pub opens_open : verdict ≡ (Ok tt) → Opens w checks (Ok caps)
    opens_open v = record {
      opens = λ other q. (let z : Ok other ≡ Ok caps = cc in z ∙ e, let z : other ≡ caps = cc in rw (z, ← v) k);
      no_mesh = λ why q no. absurd (let z : ◌≡◌ {A = ℕ} 0 1 = cc in omega arith);
      fails = λ why q m wf. absurd (let z : ◌≡◌ {A = ℕ} 0 1 = cc in omega arith);
    }
