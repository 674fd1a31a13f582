-- An edit: refused by what opens it, or made.
use mathlib.Core.Path.{◌≡◌, refl, sym, ap, ◌∙◌, subst}
use mathlib.Core.Bool.{Bool, true, false, cond}
use mathlib.Core.List.{List, []}
use Prim.Native.Nat.{ℕ, ◌<◌}
use native.Mathlib.Omega.{arith}
use borrow.Author.Tests.{eq-eqb, ne_eqb}
use lib.Dec.{eqb}
use lib.ListN.{get_or}
use Rattle.lists.proofs.Bools.{clash}
use Rattle.numbers.specs.Room.{room}
use Rattle.words.specs.Words.{Only}
use Rattle.words.proofs.Frame.{only_none}
use Rattle.numbers.specs.declared.Caps.{Caps}
use Rattle.std.specs.Prelude.{Result, ⊤, Ok, Err}
use Rattle.store.specs.Open.{room_in, caps_in, opened}
use Rattle.map.specs.Cells.{Map}
use Rattle.map.specs.Answers.{Check, Answer, answer}
use Rattle.map.specs.History.{Edit, edit_answer, changed, edited}
use Rattle.map.specs.Says.{number_of, given, refused, verdict_says}
use Rattle.map.specs.declared.Refusal.{Refusal}
use Rattle.map.specs.declared.Refusal.TheVariants.{NotMesh}
use Rattle.laws.proofs.Edits.{edited_changed}
use Rattle.picture.specs.Picture.{Wf}
use Rattle.edit.specs.Edit.{Made}
use Rattle.checks.specs.Checked.{Checked}
use Rattle.map.proofs.Refusals.{number_some}
use Rattle.checks.specs.Opening.{Opens}
use Rattle.checks.proofs.Opens.{mesh_opened, wf_caps}
use Rattle.mesh.specs.Edited.{Edited}

-- a refused edit leaves the map
edited_kept : (m : Map) (e : Edit) (why : Refusal) → refused why ≡ edit_answer m e → edited m e ≡ m
unfolding edited refused
edited_kept m e why q = rw (← q, ne_eqb (number_of why) 0 (λ z. omega (arith, number_some why)))

module _ (w : List ℕ) (e : Edit) where
  -- refused: no mesh, or by its checks
  pub edited_refused : (checks : Map → List Check) → ((m : Map) → edit_answer m e ≡ answer (checks m) []) → (opening : Result Caps Refusal) → Opens w checks opening
      → (why : Refusal) → opening ≡ Err why → Edited w e (Err why) w
  unfolding verdict_says
  edited_refused checks says opening o why q = record {
    refused = λ none. ap Err (o.no_mesh why q none);
    kept = λ other z. refl;
    inside = only_none;
    answers = λ m wf.
        let a : refused why ≡ edit_answer m e = o.fails why q m wf ∙ sym (says m) in
        (a, subst (λ (k : Map). Wf w k) (sym (edited_kept m e why a)) wf);
  }

  module _ (caps : Caps) (opens : Ok caps ≡ opened w) (checks : Map → List Check) (says : (m : Map) → edit_answer m e ≡ answer (checks m) []) (verdict : Result ⊤ Refusal)
      (checked : Checked w caps checks verdict) where
    pub edited_made : verdict ≡ (Ok tt) → (w' : List ℕ) → Made caps w w' e → Edited w e (Ok tt) w'
    unfolding verdict_says given caps_in
    edited_made v w' made = record {
      refused = λ none. absurd (clash (mesh_opened w caps opens).0 none);
      kept = λ why z. absurd (never why z);
      inside = subst (λ (k : Caps). Only (λ i. i < room k.marks k.cells) w w') (mesh_opened w caps opens).1 made.inside;
      answers = λ m wf.
          let c = wf_caps w m wf caps opens in
          let q : given [] ≡ edit_answer m e = ap verdict_says (sym v) ∙ (checked.says m c wf ∙ sym (says m)) in
          let ok : (edit_answer m e).refusal ≡ 0 = ap (λ (a : Answer). a.refusal) (sym q) in
          (q, subst (λ (k : Map). Wf w' k) (sym (edited_changed m e ok)) (made.wf m c wf ok));
    }
      where
        never : (why : Refusal) → ◌≡◌ {A = Result ⊤ Refusal} (Ok tt) (Err why) → ⊥
        never why z = let o : ◌≡◌ {A = ℕ} 0 1 = cc in omega arith
