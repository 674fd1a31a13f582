-- What the calls of one turn come to.
use mathlib.Core.Path.{◌≡◌, refl, sym, ap, ◌∙◌}
use mathlib.Core.Bool.{Bool, true, false, cond}
use mathlib.Core.List.{List, [], ◌++◌}
use Prim.Native.Nat.{ℕ, zero, suc, ◌+◌, ◌-◌, ◌<◌, ◌≤◌}
use native.Mathlib.Decide.{dec_lt}
use native.Mathlib.Omega.{arith}
use borrow.Author.Tests.{le-ltb, lt-ltb}
use lib.Dec.{leb}
use lib.ListN.{length, take, drop, length-take, length-append}
use Rattle.std.specs.Prelude.{not, Option, is_some, is_none}
use Rattle.std.specs.declared.io.Error.{Error}
use Rattle.words.specs.Words.{part_of}
use Rattle.words.proofs.Fits.{part_length}
use Rattle.frames.specs.Forms.{place_after}
use Rattle.frames.proofs.Append.{append_length}
use Rattle.reply.specs.Memory.{Memory}
use Rattle.input.specs.declared.Fed.{Fed}
use Rattle.input.specs.Fed.{Feeding, Finished}
use Rattle.desk.specs.declared.Turn.{Turn}
use Rattle.desk.specs.Turns.{rest, Answered, EndAnswered, Turned, read_in, begin, Turns, begun, turned}

-- a part has no more bytes than were asked for
pub part_most : (l : List ℕ) (at n : ℕ) → length (part_of l at n) ≤ n
unfolding part_of
part_most l at n = go (leb (at + n) (length l))
  where
    go : (b : Bool) → length (cond b (take n (drop at l)) []) ≤ n
    go true = omega (arith, length-take n (drop at l))
    go false = omega arith

-- the first n bytes are as many as they say
first_length : (o text : List ℕ) (n from bytes : ℕ) → n ≤ length o → text ≡ part_of o from (n - from) → from ≡ 0 → bytes ≡ length text → bytes ≡ n
first_length o text n from bytes h is z e =
    let k : n - from ≡ n = omega arith in
    let whole : text ≡ part_of o 0 n = is ∙ rw (k, z) in
    e ∙ (ap length whole ∙ part_length o 0 n (omega arith))

-- what the test of an error says
none_so : (failed : Option Error) (b : Bool) → is_some failed ≡ not b → b ≡ is_none failed
none_so failed true e = ap not (sym e)
none_so failed false e = ap not (sym e)

module _ (w : Memory) (line : List ℕ) (t : Turn) (piece o list : List ℕ) (fed : Fed) (w' : Memory) (line' o' : List ℕ) (f : Feeding w line t.length list o fed w' line' o') where
  written_within : fed.written ≤ length o'
  written_within = omega (arith, f.written, ap length f.out, length-append f.text (drop (length f.text) o))

  -- the place in the piece stays a number
  pub taken_within : (most : ℕ) → list ≡ part_of piece t.from (t.to - t.from) → t.from ≤ most → t.to ≤ most → t.from + fed.taken ≤ most
  taken_within most is a b = omega (arith, f.taken, ap length is, part_most piece t.from (t.to - t.from))

  pub answered_so : (text : List ℕ) (from bytes : ℕ) (on : Bool) (failed : Option Error) → list ≡ part_of piece t.from (t.to - t.from) → text ≡ part_of o' from (fed.written - from) → from ≡ 0
      → bytes ≡ length text → is_some failed ≡ not on
      → Answered w line t piece o (record { on = on; ended = false; length = fed.length; from = t.from + fed.taken; to = t.to; wrote = bytes; failed = failed }) w' line' o'
  unfolding rest
  answered_so text from bytes on failed is cut z e stops = record {
    fed = fed;
    feeding = rw is at f;
    kept = refl;
    from = refl;
    to = refl;
    wrote = first_length o' text fed.written from bytes written_within cut z e;
    goes = refl;
    stops = none_so failed on stops;
  }

-- the place after bytes written does not pass the room
place_within : (room at n : ℕ) → at ≤ room → place_after room at n ≤ room
unfolding place_after
place_within room at zero h = h
place_within room at (suc n) h = go (dec_lt at room) (λ less. place_within room (suc at) n less)
  where
    go : Dec (at < room) → (suc at ≤ room → place_after room (suc at) n ≤ room) → place_after room at (suc n) ≤ room
    go (yes less) next = rw (lt-ltb at room less) (next (omega arith))
    go (no f) next = rw (le-ltb at room (omega arith)) h

pub end_so : (n r : ℕ) (o o' text : List ℕ) (z bytes kept from to : ℕ) (failed : Option Error) → Finished n o r o' → to ≡ 0 → text ≡ part_of o' z (r - z) → z ≡ 0 → bytes ≡ length text
    → EndAnswered n o (record { on = false; ended = true; length = kept; from = from; to = to; wrote = bytes; failed = failed }) o'
end_so n r o o' text z bytes kept from to failed f left cut none e = record { finished = rw same f; ends = refl; stops = refl; nothing = left }
  where
    same : bytes ≡ r
    same =
        first_length o' text r z bytes
        (omega (arith, f.appended.place, place_within (length o) 0 (length f.text) (omega arith), append_length f.text f.appended))
        cut none e

-- some turns, and how many are left
pub record Serving (w₀ : Memory) (line₀ : List ℕ) (w : Memory) (line piece : List ℕ) (t : Turn) (left : ℕ) : Type 0 where
  pub count : ℕ
  pub read : List ℕ
  pub wrote : List ℕ
  pub turns : Turns count w₀ line₀ w line piece t read wrote
  pub counted : count + left ≡ 18446744073709551615

pub serving_none : (w : Memory) (line piece : List ℕ) (t : Turn) (left : ℕ) → t ≡ begin → left ≡ 18446744073709551615 → Serving w line w line piece t left
serving_none w line piece t left e all = record { count = 0; read = []; wrote = []; turns = rw e begun; counted = omega arith }

pub serving_more : (w₀ : Memory) (line₀ : List ℕ) (w : Memory) (line piece o : List ℕ) (t : Turn) (left : ℕ) (w' : Memory) (line' piece' o' : List ℕ) (r : Turn) (less : ℕ) → Serving w₀ line₀ w line piece t left
    → t.on ≡ true → 775 ≤ length o → Turned w line t piece o r w' line' piece' o' → less + 1 ≡ left → Serving w₀ line₀ w' line' piece' r less
serving_more w₀ line₀ w line piece o t left w' line' piece' o' r less s on h a e = record {
  count = suc s.count;
  read = s.read ++ read_in t r piece';
  wrote = s.wrote ++ take r.wrote o';
  turns = turned s.turns on h a;
  counted = omega (arith, s.counted);
}
