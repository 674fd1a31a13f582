-- The start and the end of the input.
use mathlib.Core.Path.{◌≡◌, refl, sym, ap, ◌∙◌}
use mathlib.Core.List.{List, [], ◌∷◌}
use Prim.Native.Nat.{ℕ, ◌+◌, ◌-◌, ◌<◌, ◌≤◌}
use native.Mathlib.Decide.{dec_lt}
use native.Mathlib.Omega.{arith}
use borrow.Author.Tests.{le-leb, lt-leb}
use lib.Dec.{leb}
use lib.ListN.{length, length-take}
use Rattle.map.specs.declared.Refusal.TheVariants.{BadFrame}
use Rattle.map.specs.declared.Refusal.{Refusal}
use Rattle.std.specs.Prelude.{Result, ⊤, Err}
use Rattle.map.specs.Says.{verdict_says}
use Rattle.frames.specs.Frames.{Journal, written, output_from}
use Rattle.frames.specs.Forms.{Appended}
use Rattle.frames.proofs.Append.{append_none}
use Rattle.frames.proofs.Replies.{reply_bad}
use Rattle.frames.proofs.Sizes.{verdict_length}
use Rattle.frames.proofs.Steps.{output_end, output_cut}
use Rattle.reply.specs.Memory.{Memory}
use Rattle.reply.specs.Replied.{FormattedBegun}
use Rattle.input.specs.Fed.{Started, Finished}
use Rattle.input.proofs.Lines.{line_none}

-- room for an answer behind a place
pub has_room_so : (room at : ℕ) → 775 ≤ room → leb at (room - 775) ≡ leb (at + 775) room
has_room_so room at h = go (dec_lt room (at + 775))
  where
    go : Dec (room < at + 775) → leb at (room - 775) ≡ leb (at + 775) room
    go (yes l) = lt-leb at (room - 775) (omega arith) ∙ sym (lt-leb (at + 775) room l)
    go (no f) = le-leb at (room - 775) (omega arith) ∙ sym (le-leb (at + 775) room (omega arith))

-- the start, whatever comes of it
pub start_so : (w w' : Memory) (v : Result ⊤ Refusal) (marks cells : ℕ) → marks ≡ 0 → cells ≡ 0 → FormattedBegun marks cells w v w' → Started w v w'
start_so w w' v marks cells em ec f = record {
  begins = zeros;
  stands = λ ok line fits. record { memory = zeros.keeps ok; lined = line_none line 0 fits refl };
}
  where
    zeros : FormattedBegun 0 0 w v w'
    zeros = rw (em, ec) at f

-- the end of the input
pub finish_none : (n z : ℕ) (o : List ℕ) → n ≡ 0 → z ≡ 0 → Finished n o z o
finish_none n z o e y = rw y (record {
  text = [];
  few = omega arith;
  appended = append_none o 0;
  ends = λ w line m l s. sym (go m l (omega (arith, s.lined.count, length-take 65 l)));
})
  where
    go : (m : Journal) (l : List ℕ) → length l ≡ 0 → output_from m l [] ≡ []
    go m [] h = output_end m
    go m (x ∷ xs) h = absurd (omega arith)

pub finish_cut : (n z r : ℕ) (o o' : List ℕ) → (n ≡ 0 → ⊥) → z ≡ 0 → Appended (written (verdict_says (Err BadFrame))) o z r o' → Finished n o r o'
finish_cut n z r o o' ne y a = record {
  text = written (verdict_says (Err BadFrame));
  few = omega (arith, verdict_length (Err BadFrame));
  appended = rw y at a;
  ends = λ w line m l s.
      let some : 0 < length l = omega (arith, s.lined.count, length-take 65 l) in
      ap written (sym (reply_bad m)) ∙ sym (output_cut m l some);
}
