-- What memory is after many edits: it depends on the map that they leave, and not on the edits.
use mathlib.Core.Path.{◌≡◌, sym, ap, ◌∙◌}
use mathlib.Core.List.{List}
use Prim.Native.Nat.{ℕ, ◌<◌}
use Rattle.numbers.specs.Room.{room}
use Rattle.numbers.specs.declared.Caps.{Caps}
use Rattle.words.specs.Words.{Only}
use Rattle.words.proofs.Frame.{only_none, only_then}
use Rattle.map.specs.Cells.{Map}
use Rattle.map.specs.History.{Edit, edited, history}
use Rattle.map.specs.declared.Refusal.{Refusal}
use Rattle.std.specs.Prelude.{Result, ⊤}
use Rattle.map.proofs.Says.{verdict_one}
use Rattle.laws.proofs.Edits.{edited_caps, history_caps}
use Rattle.picture.specs.Picture.{Wf}
use Rattle.picture.proofs.Put.{wf_alone}
use Rattle.checks.proofs.Opens.{head_marks, head_cells}
use Rattle.mesh.specs.Edited.{Edited}
use Rattle.mesh.specs.Run.{Run, done, then}

-- an edit leaves the room
edited_room : (m : Map) (e : Edit) → room (edited m e).caps.marks (edited m e).caps.cells ≡ room m.caps.marks m.caps.cells
edited_room m e = ap (λ (caps : Caps). room caps.marks caps.cells) (edited_caps m e)

-- and so does a whole history
history_room : (m : Map) (es : List Edit) → room (history m es).caps.marks (history m es).caps.cells ≡ room m.caps.marks m.caps.cells
history_room m es = ap (λ (caps : Caps). room caps.marks caps.cells) (history_caps m es)

-- an edit changes nothing beyond the room
edit_inside : {w w' : List ℕ} {e : Edit} {r : Result ⊤ Refusal} → Edited w e r w' → (m : Map) → Wf w m
    → Only (λ i. i < room m.caps.marks m.caps.cells) w w'
edit_inside {w} x m wf = rw (head_marks w m wf, head_cells w m wf) at x.inside

-- well-formed memory stays so, and is that of the map's history
pub run_wf : {w w' : List ℕ} {es : List Edit} → Run w es w' → (m : Map) → Wf w m → Wf w' (history m es)
unfolding history
run_wf done m wf = wf
run_wf (then r e rest) m wf = run_wf rest (edited m _) (e.answers m wf).1

-- and many edits change nothing beyond it
pub run_inside : {w w' : List ℕ} {es : List Edit} → Run w es w' → (m : Map) → Wf w m → Only (λ i. i < room m.caps.marks m.caps.cells) w w'
run_inside done m wf = only_none
run_inside (then r e rest) m wf =
    only_then (edit_inside e m wf) (rw (edited_room m _) at (run_inside rest (edited m _) (e.answers m wf).1))

-- nothing else fits: on well-formed memory the promise of an edit leaves one answer and one memory
pub edit_one : {w a b : List ℕ} {e : Edit} {r s : Result ⊤ Refusal} → Edited w e r a → Edited w e s b → (m : Map) → Wf w m → (r ≡ s) × (a ≡ b)
edit_one {w} {e = e} {r} {s} x y m wf =
    let u = x.answers m wf in
    let v = y.answers m wf in (
      verdict_one r s (u.0 ∙ sym v.0),
      wf_alone {w = w} u.1 v.1 (rw (edited_room m e) (edit_inside x m wf)) (rw (edited_room m e) (edit_inside y m wf)),
    )

-- two runs from one memory that leave one map leave one memory, word for word, in the room and beyond
pub one_memory : {w a b : List ℕ} {es fs : List Edit} → Run w es a → Run w fs b → (m : Map) → Wf w m → history m es ≡ history m fs → a ≡ b
one_memory {w} {es = es} x y m wf same =
    wf_alone {w = w} (run_wf x m wf) (rw (← same) at (run_wf y m wf)) (rw (history_room m es) (run_inside x m wf)) (rw (history_room m es) (run_inside y m wf))

-- "the evening's lists the afternoon's": edits that leave the map as it was leave the memory as it was
pub evening : {w w' : List ℕ} {es : List Edit} → Run w es w' → (m : Map) → Wf w m → history m es ≡ m → w' ≡ w
unfolding history
evening x m wf same = one_memory x done m wf same
