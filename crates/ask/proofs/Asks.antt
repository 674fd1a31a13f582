-- A query: refused by what opens it, or a mesh, and the value read.
use mathlib.Core.Path.{◌≡◌, refl, sym, ap, ◌∙◌}
use mathlib.Core.List.{List}
use Prim.Native.Nat.{ℕ}
use Rattle.lists.proofs.Bools.{clash}
use Rattle.numbers.specs.declared.Caps.{Caps}
use Rattle.std.specs.Prelude.{Result, ⊤, Ok, Err}
use Rattle.store.specs.Open.{opened}
use Rattle.map.specs.Cells.{Map}
use Rattle.map.specs.Answers.{Check, Answer, answer}
use Rattle.map.specs.Says.{given, refused, verdict_says}
use Rattle.map.specs.declared.Refusal.{Refusal}
use Rattle.map.specs.declared.Refusal.TheVariants.{NotMesh}
use Rattle.picture.specs.Picture.{Wf}
use Rattle.checks.specs.Checked.{Checked}
use Rattle.checks.proofs.Values.{Numbered, refused_values, given_values}
use Rattle.checks.specs.Opening.{Opens}
use Rattle.checks.proofs.Opens.{nothing_opened, mesh_opened, wf_mesh, wf_caps}
use Rattle.ask.specs.Asked.{Asked}

module _ {A : Type 0} (says : A → Answer) (w : List ℕ) (checks : Map → List Check) (values : Map → List ℕ) where
  -- refused: no mesh, or by the checks
  pub asked_refused : (say : Refusal → A) → ((why : Refusal) → says (say why) ≡ refused why) → (opening : Result Caps Refusal) → Opens w checks opening
      → (why : Refusal) → opening ≡ Err why → Asked says (say NotMesh) w (λ m. answer (checks m) (values m)) (say why)
  asked_refused say tells opening o why q = record {
    refused = λ none. ap say (o.no_mesh why q none);
    answers = λ m wf. tells why ∙ refused_values (checks m) why (values m) (o.fails why q m wf);
  }

  -- accepted, and the values given
  pub asked_given : (noMesh : A) (caps : Caps) → Ok caps ≡ opened w → (r : A) (verdict : Result ⊤ Refusal) → Checked w caps checks verdict → verdict ≡ (Ok tt)
      → ((m : Map) → Numbered (checks m)) → ((m : Map) → m.caps ≡ caps → Wf w m → says r ≡ given (values m))
      → Asked says noMesh w (λ m. answer (checks m) (values m)) r
  unfolding verdict_says
  asked_given noMesh caps opens r verdict k v n q = record {
    refused = λ none. absurd (clash (mesh_opened w caps opens).0 none);
    answers = λ m wf.
        let e = wf_caps w m wf caps opens in
        q m e wf ∙ given_values (checks m) (values m) (n m) (ap verdict_says (sym v) ∙ k.says m e wf);
  }

-- a query of the mesh as a whole: no mesh, or what is asked of it
module _ {A : Type 0} (says : A → Answer) (noMesh : A) (w : List ℕ) (answer : Map → Answer) where
  pub mesh_none : (Err NotMesh) ≡ opened w → Asked says noMesh w answer noMesh
  mesh_none e = record { refused = λ none. refl; answers = λ m wf. absurd (clash (wf_mesh w m wf) (nothing_opened w e)) }

  pub mesh_given : (caps : Caps) → Ok caps ≡ opened w → (r : A) → ((m : Map) → m.caps ≡ caps → Wf w m → says r ≡ answer m)
      → Asked says noMesh w answer r
  mesh_given caps opens r q = record {
    refused = λ none. absurd (clash (mesh_opened w caps opens).0 none);
    answers = λ m wf. q m (wf_caps w m wf caps opens) wf;
  }
