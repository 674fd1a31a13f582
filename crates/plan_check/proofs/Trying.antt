-- A plan tried: the words of the room copied, the edits made, the cells compared.
use mathlib.Core.Path.{◌≡◌, refl, sym, ap, ◌∙◌, subst}
use mathlib.Core.Bool.{Bool, true, false, cond, ◌&&◌}
use mathlib.Core.List.{List, [], ◌∷◌}
use Prim.Native.Nat.{ℕ, ◌<◌, ◌≤◌}
use native.Mathlib.Omega.{arith}
use borrow.Author.Tests.{eq-eqb, ne_eqb}
use lib.Dec.{eqb}
use lib.ListN.{length, get_or}
use Rattle.lists.specs.Lists.{first}
use Rattle.numbers.specs.Room.{room}
use Rattle.numbers.specs.declared.Caps.{Caps}
use Rattle.map.specs.Cells.{Map}
use Rattle.map.specs.Answers.{Answer}
use Rattle.map.specs.Morning.{morning, told}
use Rattle.map.specs.Says.{number_of, given, edits_says, StoppedAt}
use Rattle.map.specs.declared.Stopped.{Stopped}
use Rattle.std.specs.Prelude.{Result, Ok, Err}
use Rattle.map.specs.declared.Refusal.{Refusal}
use Rattle.map.proofs.Refusals.{number_some}
use Rattle.picture.specs.Picture.{Wf}
use Rattle.edits.specs.InTurn.{ListEdited}
use Rattle.edits.proofs.Cut.{wf_alike}
use Rattle.edits.proofs.Alone.{morning_caps}
use Rattle.journal_store.specs.Writes.{Copied}
use Rattle.journal_store.proofs.Copying.{copied_word}
use Rattle.wanted.specs.Wanted.{wanted_of, as_wanted}
use Rattle.wanted.specs.Plans.{plan_right, plan_verdict}
use Rattle.plan_check.specs.Checked.{planned_says}
use Rattle.plan_check.specs.Steps.{AsWanted, Tried}
use Rattle.plan_check.specs.declared.Flaw.TheVariants.{Wrong}

-- what the edits tell, and so what the check says
module _ (m : Map) (edits wanted : List ℕ) where
  pub verdict_stopped : (n : ℕ) (why : Refusal) → edits_says (StoppedAt n why) ≡ told (morning m edits) → planned_says (Err (Wrong n)) ≡ plan_verdict m edits wanted
  unfolding edits_says told first planned_says plan_verdict plan_right
  verdict_stopped n why e =
      let refusal : (morning m edits).refusal ≡ number_of why = sym (ap (λ (a : Answer). a.refusal) e) in
      let made : (morning m edits).made ≡ n = sym (ap (λ (a : Answer). first 0 a.values) e) in
      rw (refusal, made, ne_eqb (number_of why) 0 (λ z. omega (arith, number_some why)))

  module _ (n : ℕ) (e : edits_says (Ok n) ≡ told (morning m edits)) (r : Bool) (is : r ≡ as_wanted (morning m edits).map (wanted_of wanted).cells) where
    all_made : ((morning m edits).refusal ≡ 0) × ((morning m edits).made ≡ n)
    unfolding edits_says given told first
    all_made = (sym (ap (λ (a : Answer). a.refusal) e), sym (ap (λ (a : Answer). first 0 a.values) e))

    pub verdict_yes : r ≡ true → planned_says (Ok tt) ≡ plan_verdict m edits wanted
    unfolding planned_says plan_verdict plan_right
    verdict_yes z = rw (all_made.0, sym is ∙ z)

    pub verdict_wrong : r ≡ false → planned_says (Err (Wrong n)) ≡ plan_verdict m edits wanted
    unfolding planned_says plan_verdict plan_right
    verdict_wrong z = rw (all_made.0, all_made.1, sym is ∙ z)

module _ (w : List ℕ) (caps : Caps) (mesh edits wanted w₁ w₂ : List ℕ) (k : ℕ) (ek : k ≡ length w) (copy : Copied mesh 0 k w w₁) (r : Result ℕ Stopped)
    (did : ListEdited w₁ edits r w₂) where
  size : length w₂ ≡ length w
  size = did.inside.size ∙ copy.only.size

  -- the copy is the well-formed memory of the same map
  module _ (m : Map) (wf : Wf mesh m) (long : length w ≡ room m.caps.marks m.caps.cells) where
    copied : Wf w₁ m
    copied =
        wf_alike mesh w₁ m wf (omega (arith, copy.only.size)) (λ i h. copied_word copy i i (omega arith) (omega arith) (omega arith))

    says : edits_says r ≡ told (morning m edits)
    says = (did.answers m copied).0

    left : Wf w₂ (morning m edits).map
    left = (did.answers m copied).1

  -- stopped
  pub tried_stopped : (n : ℕ) (why : Refusal) → r ≡ StoppedAt n why → Tried w caps mesh edits wanted (Err (Wrong n)) w₂
  tried_stopped n why e = record {
    size = size;
    decided = λ other q. let z : ◌≡◌ {A = ℕ} 0 1 = cc in omega arith;
    answers = λ ok m em wf long. (verdict_stopped m edits wanted n why (ap edits_says (sym e) ∙ says m wf long), left m wf long);
  }

  -- all made, and the cells compared
  module _ (n : ℕ) (e : r ≡ Ok n) (q : Bool) (compared : AsWanted w₂ caps wanted q) where
    is : (wanted_of wanted).refusal ≡ 0 → (m : Map) → m.caps ≡ caps → (wf : Wf mesh m) → (long : length w ≡ room m.caps.marks m.caps.cells)
        → q ≡ as_wanted (morning m edits).map (wanted_of wanted).cells
    is ok m em wf long = compared.says ok (morning m edits).map (morning_caps m edits ∙ em) (left m wf long)

    pub tried_yes : q ≡ true → Tried w caps mesh edits wanted (Ok tt) w₂
    tried_yes z = record {
      size = size;
      decided = λ other q. let z : ◌≡◌ {A = ℕ} 0 1 = cc in omega arith;
      answers = λ ok m em wf long. (verdict_yes m edits wanted n (ap edits_says (sym e) ∙ says m wf long) q (is ok m em wf long) z, left m wf long);
    }

    pub tried_wrong : q ≡ false → Tried w caps mesh edits wanted (Err (Wrong n)) w₂
    tried_wrong z = record {
      size = size;
      decided = λ other q. let z : ◌≡◌ {A = ℕ} 0 1 = cc in omega arith;
      answers = λ ok m em wf long. (verdict_wrong m edits wanted n (ap edits_says (sym e) ∙ says m wf long) q (is ok m em wf long) z, left m wf long);
    }
