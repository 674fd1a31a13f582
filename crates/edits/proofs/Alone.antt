-- Nothing else fits: on well-formed memory the promise of a list of edits leaves one answer and one memory, whatever the tally.
use mathlib.Core.Path.{◌≡◌, refl, sym, ap, ◌∙◌}
use mathlib.Core.List.{List}
use Prim.Native.Nat.{ℕ, ◌<◌}
use lib.ListN.{take}
use Rattle.words.specs.Words.{Only}
use Rattle.map.specs.Cells.{Map}
use Rattle.map.specs.Morning.{read_from, in_turn, morning}
use Rattle.map.specs.declared.Stopped.{Stopped}
use Rattle.std.specs.Prelude.{Result}
use Rattle.map.proofs.Says.{edits_one}
use Rattle.laws.proofs.Edits.{history_caps}
use Rattle.picture.specs.Picture.{Wf}
use Rattle.picture.proofs.Put.{wf_alone}
use Rattle.mesh.specs.Run.{Run}
use Rattle.mesh.proofs.Evening.{one_memory}
use Rattle.edits.specs.InTurn.{made_of, ListEdited}
use Rattle.edits.proofs.Cut.{room_of, head_room}
use Rattle.edits.proofs.Runs.{in_turn_history, morning_run}

-- a morning leaves the capacities
pub morning_caps : (m : Map) (list : List ℕ) → (morning m list).map.caps ≡ m.caps
unfolding morning
morning_caps m list =
    ap (λ (k : Map). k.caps) (sym (in_turn_history m (read_from 0 list).edits (read_from 0 list).last)) ∙ history_caps m _

module _ (w list : List ℕ) (m : Map) (wf : Wf w m) where
  inside : {r : Result ℕ Stopped} {w' : List ℕ} → ListEdited w list r w' → Only (λ i. i < room_of (morning m list).map) w w'
  inside did = rw (morning_caps m list, ← (head_room w m wf)) did.inside

  pub morning_one : {r s : Result ℕ Stopped} {a b : List ℕ} → ListEdited w list r a → ListEdited w list s b → (r ≡ s) × (a ≡ b)
  morning_one {r} {s} x y =
      let u = x.answers m wf in
      let v = y.answers m wf in
      (edits_one r s (u.0 ∙ sym v.0), wf_alone {w = w} u.1 v.1 (inside x) (inside y))

  -- "result and memory as if called one by one": any run of the edits that were made leaves the same words
  pub morning_memory : {r : Result ℕ Stopped} {a b : List ℕ} → ListEdited w list r a → Run w (take (made_of r) (read_from 0 list).edits) b → a ≡ b
  morning_memory x run = one_memory (morning_run x m wf) run m wf refl
