-- A list of edits on well-formed memory: the answer and the memory of the morning.
use mathlib.Core.Path.{◌≡◌, refl, sym, ap, ◌∙◌, subst}
use mathlib.Core.List.{List, [], ◌∷◌}
use Prim.Native.Nat.{ℕ, suc}
use native.Mathlib.Omega.{arith}
use borrow.Author.Tests.{ne_eqb}
use lib.ListN.{length}
use Rattle.lists.specs.Lists.{first}
use Rattle.map.specs.Cells.{Map}
use Rattle.map.specs.Answers.{Answer}
use Rattle.map.specs.History.{Edit, edit_answer, changed, edited}
use Rattle.map.specs.Says.{number_of, given, refused, verdict_says, edits_says, StoppedAt}
use Rattle.map.specs.declared.Refusal.{Refusal}
use Rattle.map.specs.declared.Stopped.{Stopped}
use Rattle.std.specs.Prelude.{Result, Ok, Err}
use Rattle.map.proofs.Refusals.{number_some}
use Rattle.laws.proofs.Edits.{edited_changed}
use Rattle.picture.specs.Picture.{Wf}
use Rattle.mesh.specs.Edited.{Edited}
use Rattle.map.specs.Morning as M
use Rattle.map.specs.Morning.{Morning, in_turn, told}
use Rattle.edits.specs.InTurn as T
use Rattle.edits.specs.InTurn.{one_more, InTurn}

-- an edit that is accepted, and one that is refused
module _ (m : Map) (e : Edit) (es : List Edit) (last : ℕ) where
  pub turn_made : (edit_answer m e).refusal ≡ 0 → in_turn m (e ∷ es) last ≡ M.one_more (in_turn (changed m e) es last)
  unfolding in_turn
  turn_made q = rw (q, in_turn)

  pub turn_refused : (n : ℕ) → (edit_answer m e).refusal ≡ n → (n ≡ 0 → ⊥) → in_turn m (e ∷ es) last ≡ record { made = 0; refusal = n; map = m }
  unfolding in_turn
  turn_refused n q some = rw (in_turn, q, ne_eqb n 0 some) (rw q)

-- an answer with one more made
grown : Answer → Answer
grown a = record { refusal = a.refusal; values = suc (first 0 a.values) ∷ [] }

grown_says : (r : Result ℕ Stopped) → edits_says (one_more r) ≡ grown (edits_says r)
unfolding edits_says given grown first
grown_says (Ok n) = refl
grown_says (Err e) = refl

grown_told : (x : Morning) → told (M.one_more x) ≡ grown (told x)
unfolding told grown first
grown_told x = refl

pub in_turn_wf : {w w' : List ℕ} {es : List Edit} {last : ℕ} {r : Result ℕ Stopped} → InTurn w es last r w' → (m : Map) → Wf w m
    → (edits_says r ≡ told (in_turn m es last)) × Wf w' (in_turn m es last).map
unfolding in_turn told edits_says given verdict_says refused
in_turn_wf T.all m wf = (refl, wf)
in_turn_wf (T.none why) m wf = (refl, wf)
in_turn_wf {w} {w'} (T.refused {e = e} {es} {last} why did) m wf =
    let q : (edit_answer m e).refusal ≡ number_of why = sym (ap (λ (a : Answer). a.refusal) (did.answers m wf).0) in
    rw (turn_refused m e es last (number_of why) q (λ z. omega (arith, number_some why))) (refl, subst (λ (l : List ℕ). Wf l m) (sym (did.kept why refl)) wf)
in_turn_wf {w} {w'} (T.made {w₁ = w₁} {e = e} {es} {last} {r} did rest) m wf =
    let q : (edit_answer m e).refusal ≡ 0 = sym (ap (λ (a : Answer). a.refusal) (did.answers m wf).0) in
    let x = in_turn_wf rest (changed m e) (subst (λ (k : Map). Wf w₁ k) (edited_changed m e q) (did.answers m wf).1) in
    rw (turn_made m e es last q) (grown_says r ∙ (ap grown x.0 ∙ sym (grown_told (in_turn (changed m e) es last))), x.1)

-- the words stay as many
pub in_turn_size : {w w' : List ℕ} {es : List Edit} {last : ℕ} {r : Result ℕ Stopped} → InTurn w es last r w' → length w' ≡ length w
in_turn_size T.all = refl
in_turn_size (T.none why) = refl
in_turn_size (T.refused why did) = did.inside.size
in_turn_size (T.made did rest) = in_turn_size rest ∙ did.inside.size
