-- Memory that is no mesh, handed on by a `?` behind `open`: the caller refuses with 14.
use mathlib.Core.Bool.{Bool, true, false, cond}
use mathlib.Core.List.{List}
use mathlib.Core.Path.{◌≡◌, sym, ap, ◌∙◌}
use Prim.Native.Nat.{ℕ}
use native.Mathlib.Omega.{arith}
use Rattle.std.specs.Prelude.{Result, Ok, Err, IsErrAnd}
use Rattle.numbers.specs.declared.Caps.{Caps}
use Rattle.map.specs.declared.Refusal.{Refusal}
use Rattle.map.specs.declared.Refusal.TheVariants.{NotMesh}
use Rattle.map.proofs.Handed.{handed}
use Rattle.store.specs.Open.{caps_in, is_mesh, opened}

pub not_mesh : (w : List ℕ) (why : Refusal) → opened w ≡ Err why → why ≡ NotMesh
unfolding opened
not_mesh w why e = go (is_mesh w) e
  where
    go : (b : Bool) → cond b (Ok (caps_in w)) (Err NotMesh) ≡ Err why → why ≡ NotMesh
    go true e = absurd (let z : ◌≡◌ {A = ℕ} 0 1 = cc in omega arith)
    go false e = cc

pub only_refusal : (w : List ℕ) (why : Refusal) → Err why ≡ opened w → Err NotMesh ≡ opened w
only_refusal w why e = sym (ap Err (not_mesh w why (sym e))) ∙ e

pub shut_as : {T E : Type 0} (into : Refusal → E) (r : Result T E) (why : Refusal) (opening : Result Caps Refusal) (w : List ℕ)
    → IsErrAnd r (λ e. e ≡ into why) → opening ≡ Err why → opening ≡ opened w → (r ≡ Err (into NotMesh)) × (Err NotMesh ≡ opened w)
shut_as into r why opening w x q o =
    let no = not_mesh w why (sym o ∙ q) in
    (handed r (into why) x ∙ ap (λ (n : Refusal). Err (into n)) no, sym (ap Err no) ∙ (sym q ∙ o))

pub shut : {T : Type 0} (r : Result T Refusal) (why : Refusal) (opening : Result Caps Refusal) (w : List ℕ)
    → IsErrAnd r (λ e. e ≡ why) → opening ≡ Err why → opening ≡ opened w → (r ≡ Err NotMesh) × (Err NotMesh ≡ opened w)
shut = shut_as (λ why. why)
