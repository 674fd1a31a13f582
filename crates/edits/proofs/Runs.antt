-- A list of edits is a run of single edits: so many of them as were made.
use mathlib.Core.Path.{◌≡◌, refl, sym, ap, ◌∙◌, subst}
use mathlib.Core.Bool.{Bool, true, false}
use mathlib.Core.List.{List, [], ◌∷◌, ◌++◌}
use Prim.Native.Nat.{ℕ, suc, ◌+◌, ◌-◌, ◌<◌, ◌≤◌}
use native.Mathlib.Decide.{ℕ_discrete}
use native.Mathlib.Omega.{arith}
use lib.ListN.{length, get_or, take, drop, take-append-drop, length-drop}
use lib.Seq.{get_or-drop, ext_get_or, length-take-le}
use Rattle.lists.specs.Lists.{first}
use Rattle.lists.proofs.Bools.{clash}
use Rattle.words.specs.Words.{Only}
use Rattle.store.specs.Open.{room_in, is_mesh}
use Rattle.map.specs.Cells.{Map}
use Rattle.map.specs.Answers.{Answer}
use Rattle.map.specs.History.{Edit, edit_answer, changed, edited, history}
use Rattle.map.specs.Says.{given, verdict_says, edits_says, StoppedAt}
use Rattle.map.specs.declared.Stopped.{Stopped}
use Rattle.map.specs.declared.Refusal.{Refusal}
use Rattle.std.specs.Prelude.{Result, ⊤, Ok, Err}
use Rattle.laws.proofs.Edits.{edited_changed, changed_caps}
use Rattle.picture.specs.Picture.{Wf}
use Rattle.checks.proofs.Opens.{wf_mesh}
use Rattle.mesh.specs.Edited.{Edited}
use Rattle.mesh.specs.Run as R
use Rattle.mesh.specs.Run.{Run}
use Rattle.map.specs.Morning.{read_from, Morning, in_turn, morning, told}
use Rattle.edits.specs.InTurn as T
use Rattle.edits.specs.InTurn.{made_of, one_more, InTurn, ListEdited}
use Rattle.edits.proofs.Wellformed.{turn_made, turn_refused, in_turn_size}
use Rattle.edits.proofs.Cut.{room_of, joined_inside, wf_joined, wf_cut, mesh_fits, head_room}

pub made_more : (r : Result ℕ Stopped) → made_of (one_more r) ≡ suc (made_of r)
made_more (Ok n) = refl
made_more (Err e) = refl

pub made_said : (r : Result ℕ Stopped) → made_of r ≡ first 0 (edits_says r).values
unfolding edits_says given first
made_said (Ok n) = refl
made_said (Err e) = refl

-- the edits that were made, one after another, in any memory
pub in_turn_run : {w w' : List ℕ} {es : List Edit} {last : ℕ} {r : Result ℕ Stopped} → InTurn w es last r w' → Run w (take (made_of r) es) w'
in_turn_run T.all = R.done
in_turn_run (T.none why) = R.done
in_turn_run {w} (T.refused why did) = rw (did.kept why refl) R.done
in_turn_run (T.made {r = r} did rest) = rw (made_more r) (R.then (Ok tt) did (in_turn_run rest))

-- an edit in the words of the room is one in all words
edit_joined : (x x' rest : List ℕ) (e : Edit) (v : Result ⊤ Refusal) (m : Map) → Wf x m → length x ≡ room_of m → Edited x e v x' → Edited (x ++ rest) e v (x' ++ rest)
edit_joined x x' rest e v m wf size did = record {
  refused = λ n. absurd (clash (wf_mesh (x ++ rest) m whole) n);
  kept = λ why q. ap (λ (l : List ℕ). l ++ rest) (did.kept why q);
  inside = subst (λ (k : ℕ). Only (λ i. i < k) (x ++ rest) (x' ++ rest)) (size ∙ sym (head_room (x ++ rest) m whole)) (joined_inside x x' rest did.inside.size);
  answers = λ n other.
      let same : room_of n ≡ length x = sym (head_room (x ++ rest) n other) ∙ (head_room (x ++ rest) m whole ∙ sym size) in
      let a = did.answers n (wf_cut x rest n other (omega arith)) in
      (a.0, wf_joined x' rest _ a.1);
}
  where
    whole : Wf (x ++ rest) m
    whole = wf_joined x rest m wf

pub in_turn_joined : {x x' : List ℕ} {es : List Edit} {last : ℕ} {r : Result ℕ Stopped} → InTurn x es last r x' → (m : Map) → Wf x m → length x ≡ room_of m → (rest : List ℕ)
    → InTurn (x ++ rest) es last r (x' ++ rest)
unfolding verdict_says given
in_turn_joined T.all m wf size rest = T.all
in_turn_joined (T.none why) m wf size rest = T.none why
in_turn_joined {x} {x'} (T.refused {e = e} why did) m wf size rest = T.refused why (edit_joined x x' rest e _ m wf size did)
in_turn_joined {x} {x'} (T.made {w₁ = x₁} {e = e} did more) m wf size rest =
    let q : (edit_answer m e).refusal ≡ 0 = sym (ap (λ (a : Answer). a.refusal) (did.answers m wf).0) in
    let wf₁ : Wf x₁ (changed m e) = subst (λ (k : Map). Wf x₁ k) (edited_changed m e q) (did.answers m wf).1 in
    T.made (edit_joined x x₁ rest e _ m wf size did)
    (in_turn_joined more (changed m e) wf₁ (did.inside.size ∙ (size ∙ (rw (changed_caps m e)))) rest)

-- the words beyond the room
drop_inside : (k : ℕ) (w w' : List ℕ) → Only (λ i. i < k) w w' → drop k w' ≡ drop k w
drop_inside k w w' o =
    ext_get_or 0 (drop k w') (drop k w) (length-drop k w' ∙ (ap (λ (n : ℕ). n - k) o.size ∙ sym (length-drop k w)))
    (λ i h. get_or-drop k w' i 0 ∙ (o.same (k + i) (λ less. omega arith) ∙ sym (get_or-drop k w i 0)))

-- the map that they leave is the history of those that were made
pub in_turn_history : (m : Map) (es : List Edit) (last : ℕ) → history m (take (in_turn m es last).made es) ≡ (in_turn m es last).map
unfolding history in_turn
in_turn_history m [] last = refl
in_turn_history m (e ∷ es) last = go (in_turn_history (changed m e) es last) (ℕ_discrete (edit_answer m e).refusal 0)
  where
    go : history (changed m e) (take (in_turn (changed m e) es last).made es) ≡ (in_turn (changed m e) es last).map
        → Dec ((edit_answer m e).refusal ≡ 0) → history m (take (in_turn m (e ∷ es) last).made (e ∷ es)) ≡ (in_turn m (e ∷ es) last).map
    go rest (yes q) =
        ap (λ (x : Morning). history m (take x.made (e ∷ es))) (turn_made m e es last q)
        ∙ (ap (λ (k : Map). history k (take (in_turn (changed m e) es last).made es)) (edited_changed m e q)
        ∙ (rest ∙ sym (ap (λ (x : Morning). x.map) (turn_made m e es last q))))
    go rest (no f) = rw (turn_refused m e es last (edit_answer m e).refusal refl f)

module _ {w list w' : List ℕ} {r : Result ℕ Stopped} (did : ListEdited w list r w') (m : Map) (wf : Wf w m) where
  -- on well-formed memory the list's edits are made in turn in all of it
  pub morning_turns : InTurn w (read_from 0 list).edits (read_from 0 list).last r w'
  morning_turns =
      let k = room_in w in
      let fits = mesh_fits w (wf_mesh w m wf) in
      let size : length (take k w) ≡ room_of m = length-take-le k w fits ∙ head_room w m wf in
      let cut : Wf (take k w) m = wf_cut (take k w) (drop k w) m (rw (take-append-drop k w) wf) (omega arith) in
      rw (take-append-drop k w, ← (drop_inside k w w' did.inside), take-append-drop k w') at (in_turn_joined (did.turns (wf_mesh w m wf)) m cut size (drop k w))

  pub morning_run : Run w (take (made_of r) (read_from 0 list).edits) w'
  morning_run = in_turn_run morning_turns

  pub morning_history : history m (take (made_of r) (read_from 0 list).edits) ≡ (morning m list).map
  unfolding morning told first
  morning_history =
      let e : made_of r ≡ (morning m list).made = made_said r ∙ ap (λ (a : Answer). first 0 a.values) (did.answers m wf).0 in
      rw e (in_turn_history m (read_from 0 list).edits (read_from 0 list).last)

-- none made: the words stay
in_turn_kept : {w w' : List ℕ} {es : List Edit} {last : ℕ} {r : Result ℕ Stopped} → InTurn w es last r w' → made_of r ≡ 0 → w' ≡ w
in_turn_kept T.all z = refl
in_turn_kept (T.none why) z = refl
in_turn_kept (T.refused why did) z = did.kept why refl
in_turn_kept (T.made {r = r} did rest) z = absurd (omega (arith, made_more r))

-- so a list of which no edit is made changes nothing, on any memory
pub edits_kept : {w list w' : List ℕ} {r : Result ℕ Stopped} → ListEdited w list r w' → made_of r ≡ 0 → w' ≡ w
edits_kept {w} {list} {w'} {r} did z = go (is_mesh w) refl
  where
    go : (b : Bool) → is_mesh w ≡ b → w' ≡ w
    go true e =
        let k = room_in w in
        sym (take-append-drop k w')
        ∙ (ap (λ (l : List ℕ). l ++ drop k w') (in_turn_kept (did.turns e) z)
        ∙ (ap (λ (l : List ℕ). take k w ++ l) (drop_inside k w w' did.inside) ∙ take-append-drop k w))
    go false e = (did.refused e).1
