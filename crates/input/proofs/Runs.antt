-- However the input is cut, what is written is the output of the whole.
use mathlib.Core.Path.{◌≡◌, sym, ap, ◌∙◌, subst}
use mathlib.Core.Bool.{false}
use mathlib.Core.List.{List, [], ◌∷◌, ◌++◌, append_assoc, append-nil}
use Prim.Native.Nat.{ℕ, ◌+◌, ◌<◌, ◌≤◌}
use native.Mathlib.Omega.{arith}
use borrow.Author.Tests.{eqb-false}
use lib.Dec.{eqb}
use lib.ListN.{length, take, drop}
use lib.Seq.{take_at}
use Rattle.lists.specs.Lists.{has}
use Rattle.lists.proofs.Counts.{neither}
use Rattle.map.specs.declared.Refusal.{Refusal}
use Rattle.std.specs.Prelude.{Result, ⊤, Ok}
use Rattle.frames.specs.Frames.{Journal, begun, Bad, reply_to, journal_after, written, output_from, output}
use Rattle.frames.proofs.Append.{append_fits}
use Rattle.frames.proofs.Steps.{output_more, output_line}
use Rattle.frames.proofs.Told.{frame_long}
use Rattle.journal_store.specs.Entries.{places_of}
use Rattle.reply.specs.Memory.{Memory, Inside}
use Rattle.reply.proofs.Begins.{within_none, inside_then}
use Rattle.input.specs.declared.Fed.{Fed}
use Rattle.input.specs.Standing.{Standing, Reached}
use Rattle.input.specs.Fed.{Started, Feeding, Finished}
use Rattle.input.specs.InPieces.{InPieces, done, then}
use Rattle.input.proofs.Going.{reached_none, reached_then}

-- the bytes of a feed are the first places of its output
pub fed_text : {w : Memory} {line : List ℕ} {w' : Memory} {line' piece o o' : List ℕ} {n : ℕ} {r : Fed} (f : Feeding w line n piece o r w' line' o') → take r.written o' ≡ f.text
fed_text {o = o} {r = r} f = ap (take r.written) f.out ∙ take_at f.text (drop (length f.text) o) r.written (sym f.written)

-- and so are the bytes of the end
pub end_text : {o o' : List ℕ} {n r : ℕ} (f : Finished n o r o') → 3 ≤ length o → take r o' ≡ f.text
end_text {o} {o'} {n} {r} f enough =
    let last = append_fits f.text f.appended (omega (arith, f.few)) in
    ap (take r) last.1 ∙ take_at f.text (drop (0 + length f.text) o) r (omega (arith, last.0))

-- a feed, and then what the rest comes to
run_more : {w : Memory} {line : List ℕ} {w' : Memory} {line' : List ℕ} {w'' : Memory} {line'' piece o o' input text : List ℕ} {n n'' : ℕ} {r : Fed} → Feeding w line n piece o r w' line' o'
    → ((m : Journal) (l : List ℕ) → Standing w' line' r.length m l → Reached m l input text w'' line'' n'')
    → (m : Journal) (l : List ℕ) → Standing w line n m l → Reached m l (take r.taken piece ++ input) (take r.written o' ++ text) w'' line'' n''
run_more {piece = piece} {input = input} {text = text} {r = r} f rest m l s =
    let a = (f.stands m l s).1 in
    subst (λ (t : List ℕ). Reached m l (take r.taken piece ++ input) (t ++ text) _ _ _) (sym (fed_text f))
    (reached_then a (rest a.journal a.sofar a.stands))

-- a run reaches what its input comes to, whatever the pieces and the outputs
pub run_reaches : {w : Memory} {line : List ℕ} {w' : Memory} {line' input text : List ℕ} {n n' : ℕ} → InPieces w line n input text w' line' n' → (m : Journal) (l : List ℕ) → Standing w line n m l
    → Reached m l input text w' line' n'
run_reaches done m l s = reached_none s
run_reaches (then piece r f rest) m l s = run_more f (λ k line t. run_reaches rest k line t) m l s

-- and no word beyond the room of 384 marks and 384 cells or behind the last edit that fits changes, on any memory
pub run_inside : {w : Memory} {line : List ℕ} {w' : Memory} {line' input text : List ℕ} {n n' : ℕ} → InPieces w line n input text w' line' n' → Inside w w'
run_inside done = within_none
run_inside (then piece r f rest) = inside_then f.inside (run_inside rest)

-- cut nowhere: from the start on, with a journal of 1,000 places, what the feeds wrote, then what `finish` wrote, is the output of all the bytes together
pub run_output : {w₀ w w' : Memory} {line line' input text o o' : List ℕ} {v : Result ⊤ Refusal} {n r : ℕ} → Started w₀ v w → v ≡ (Ok tt) → places_of (length w₀.journal) ≡ 1000 → 65 ≤ length line
    → InPieces w line 0 input text w' line' n → Finished n o r o' → 3 ≤ length o → text ++ take r o' ≡ output input
unfolding output
run_output {w' = w'} {line = line} {line' = line'} {input = input} {text = text} {o = o} {o' = o'} {n = n} {r = r} start ok places fits run end enough =
    go (run_reaches run (begun 1000 0 0) [] (rw places at (start.stands ok line fits)))
  where
    go : Reached (begun 1000 0 0) [] input text w' line' n → text ++ take r o' ≡ output_from (begun 1000 0 0) [] input
    go a =
        ap (λ (x : List ℕ). text ++ x) (end_text end enough ∙ end.ends w' line' a.journal a.sofar a.stands)
        ∙ (sym (a.output []) ∙ ap (output_from (begun 1000 0 0) []) (append-nil input))

-- bytes that end no line
output_along : (m : Journal) (line l rest : List ℕ) → has 10 l ≡ false → output_from m line (l ++ rest) ≡ output_from m (line ++ l) rest
unfolding has
output_along m line [] rest none = ap (λ (x : List ℕ). output_from m x rest) (sym (append-nil line))
output_along m line (b ∷ l) rest none =
    let q = neither (eqb b 10) (has 10 l) none in
    output_more m line b (l ++ rest) (eqb-false b 10 q.0)
    ∙ (output_along m (line ++ (b ∷ [])) l rest q.1 ∙ ap (λ (x : List ℕ). output_from m x rest) (append_assoc line (b ∷ []) l))

-- "more than 64 digits": a line that is too long, however long, is one 15, "and the next line is read as usual"
pub long_line : (m : Journal) (line rest : List ℕ) → has 10 line ≡ false → 64 < length line
    → output_from m [] (line ++ (10 ∷ rest)) ≡ written (reply_to m Bad) ++ output_from m [] rest
unfolding journal_after
long_line m line rest none h =
    output_along m [] line (10 ∷ rest) none
    ∙ (output_line m line rest ∙ ap (λ f. written (reply_to m f) ++ output_from (journal_after m f) [] rest) (frame_long line h))
