-- What the turns write is the output of what they read.
use mathlib.Core.Path.{◌≡◌, refl, sym, ap, ◌∙◌}
use mathlib.Core.Bool.{Bool, true, false, cond}
use mathlib.Core.List.{List, [], ◌++◌, append_assoc, append-nil}
use Prim.Native.Nat.{ℕ, zero, suc, ◌+◌, ◌-◌, ◌<◌, ◌≤◌}
use native.Mathlib.Decide.{dec_lt}
use native.Mathlib.Omega.{arith}
use borrow.Author.Tests.{le-ltb, lt-ltb}
use lib.Dec.{leb}
use lib.ListN.{length, take, drop}
use lib.Seq.{take-take, drop-drop, take-add}
use Rattle.std.specs.Prelude.{None, is_none, Result, Ok, Err, ⊤}
use Rattle.std.specs.declared.io.Error.{Error}
use Rattle.numbers.specs.Room.{room}
use Rattle.words.specs.Words.{part_of}
use Rattle.words.proofs.Fits.{part_fits, part_none}
use Rattle.map.specs.declared.Refusal.{Refusal}
use Rattle.map.specs.Answers.{answer, ◌when◌}
use Rattle.map.specs.Says.{given, verdict_says}
use Rattle.map.proofs.Says.{verdict_one}
use Rattle.journal_store.specs.Entries.{places_of}
use Rattle.frames.specs.Frames as Frames
use Rattle.frames.specs.Frames.{Journal, output_from, output}
use Rattle.reply.specs.Memory.{Memory, memory}
use Rattle.reply.specs.Replied.{format_answer}
use Rattle.input.specs.Standing.{Standing, Reached}
use Rattle.input.specs.Fed.{Started}
use Rattle.input.proofs.Going.{reached_then}
use Rattle.input.proofs.Runs.{fed_text, end_text}
use Rattle.desk.specs.declared.Turn.{Turn}
use Rattle.desk.specs.Turns.{rest, Answered, EndAnswered, counted, AfterRead, read_in, begin, Turns, begun, turned, Served, Ran}
use Rattle.desk.proofs.Turning.{part_most}

clash : {b : Bool} → b ≡ true → b ≡ false → ⊥
clash {b} t f = let z : ◌≡◌ {A = ℕ} 1 0 = ap (λ (x : Bool). cond x 1 0) (sym t ∙ f) in omega arith

-- nothing is left where the places meet
none_left : (l : List ℕ) (from n : ℕ) → n ≡ 0 → part_of l from n ≡ []
unfolding part_of
none_left l from n z = rw z (go (leb (from + 0) (length l)))
  where
    go : (b : Bool) → cond b (take 0 (drop from l)) [] ≡ []
    go true = refl
    go false = refl

-- what is left, cut after k bytes
left_cut : (l : List ℕ) (from to k : ℕ) → from < to → k ≤ length (part_of l from (to - from))
    → part_of l from (to - from) ≡ take k (part_of l from (to - from)) ++ part_of l (from + k) (to - (from + k))
left_cut l from to k h few = go (dec_lt (length l) to)
  where
    most : k ≤ to - from
    most = omega (arith, part_most l from (to - from))

    go : Dec (length l < to) → part_of l from (to - from) ≡ take k (part_of l from (to - from)) ++ part_of l (from + k) (to - (from + k))
    go (yes long) =
        let none : part_of l from (to - from) ≡ [] = part_none l from (to - from) (omega arith) in
        let zero : k ≡ 0 = omega (arith, ap length none) in
        rw zero (rw none (sym (part_none l (from + 0) (to - (from + 0)) (omega arith))))
    go (no f) =
        let whole : part_of l from (to - from) ≡ take (to - from) (drop from l) = part_fits l from (to - from) (omega arith) in
        let later : part_of l (from + k) (to - (from + k)) ≡ take (to - (from + k)) (drop (from + k) l) = part_fits l (from + k) (to - (from + k)) (omega (arith, most)) in
        let sum : to - from ≡ k + (to - (from + k)) = omega (arith, most) in
        whole
        ∙ (ap (λ (n : ℕ). take n (drop from l)) sum
        ∙ (take-add k (to - (from + k)) (drop from l)
        ∙ (ap (λ (x : List ℕ). x ++ take (to - (from + k)) (drop k (drop from l))) (sym (take-take k (to - from) (drop from l) most) ∙ ap (take k) (sym whole))
        ∙ ap (λ (x : List ℕ). take k (part_of l from (to - from)) ++ x) (ap (take (to - (from + k))) (drop-drop k from l) ∙ sym later))))

counted_most : (got : Result ℕ Error) (most : ℕ) → counted got most ≤ most
counted_most (Ok k) most = omega arith
counted_most (Err e) most = omega arith

-- what has been read is what was taken and what is left, and what was written is the output of what was taken
record Reads (m : Journal) (w : Memory) (line piece : List ℕ) (t : Turn) (read wrote : List ℕ) : Type 0 where
  taken : List ℕ
  all : read ≡ taken ++ rest piece t
  reached : Reached m [] taken wrote w line t.length

module _ (m : Journal) {w : Memory} {line piece read wrote o : List ℕ} {w' : Memory} {line' piece' o' : List ℕ} {t r : Turn} (p : Reads m w line piece t read wrote) (enough : 775 ≤ length o) where
  reads_answered : t.from < t.to → Answered w line t piece o r w' line' o' → piece' ≡ piece
      → Reads m w' line' piece' r (read ++ read_in t r piece') (wrote ++ take r.wrote o')
  unfolding rest read_in
  reads_answered h a same =
      let f = a.feeding in
      let q = (f.stands p.reached.journal p.reached.sofar p.reached.stands).1 in
      let text : take r.wrote o' ≡ f.text = ap (λ (n : ℕ). take n o') a.wrote ∙ fed_text f in
      record {
        taken = p.taken ++ take a.fed.taken (rest piece t);
        all =
            rw (lt-ltb t.from t.to h, same, a.from, a.to)
            (append-nil read
            ∙ (p.all
            ∙ (ap (λ (x : List ℕ). p.taken ++ x) (left_cut piece t.from t.to a.fed.taken h f.taken)
            ∙ sym (append_assoc p.taken (take a.fed.taken (rest piece t)) (part_of piece (t.from + a.fed.taken) (t.to - (t.from + a.fed.taken)))))));
        reached = rw (text, a.kept) (reached_then p.reached q);
      }

  reads_more : (got : Result ℕ Error) → t.to ≤ t.from → AfterRead got t.length piece' o r o' → (got ≡ Ok 0 → ⊥) → w' ≡ w → line' ≡ line
      → Reads m w' line' piece' r (read ++ read_in t r piece') (wrote ++ take r.wrote o')
  unfolding rest read_in
  reads_more got h a ne mesh same =
      let q = a.more ne in
      let fits : r.to ≤ length piece' = omega (arith, q.3, counted_most got (length piece')) in
      let size : r.to - 0 ≡ r.to = omega arith in
      let left : rest piece' r ≡ take r.to piece' = rw (q.2, size) (part_fits piece' 0 r.to (omega (arith, fits))) in
      let nothing : rest piece t ≡ [] = none_left piece t.from (t.to - t.from) (omega arith) in
      record {
        taken = p.taken;
        all =
            rw (le-ltb t.from t.to h)
            (ap (λ (x : List ℕ). x ++ take r.to piece') (p.all ∙ (ap (λ (x : List ℕ). p.taken ++ x) nothing ∙ append-nil p.taken))
            ∙ ap (λ (x : List ℕ). p.taken ++ x) (sym left));
        reached = rw (mesh, same, q.1, q.4, append-nil wrote) p.reached;
      }

-- a read answers 0 bytes, or something else
zero_or : (got : Result ℕ Error) → Dec (got ≡ Ok 0)
zero_or (Ok zero) = yes refl
zero_or (Ok (suc k)) = no (λ e. let z : suc k ≡ 0 = cc in omega arith)
zero_or (Err e) = no (λ z. cc)

-- a turn that goes on has not ended
on_goes : {n : ℕ} {w₀ : Memory} {line₀ : List ℕ} {w : Memory} {line piece : List ℕ} {t : Turn} {read wrote : List ℕ} → Turns n w₀ line₀ w line piece t read wrote → t.on ≡ true → t.ended ≡ false
unfolding begin
on_goes begun on = refl
on_goes (turned {t = t} {r = r} turns before h a) on = go (dec_lt t.from t.to)
  where
    go : Dec (t.from < t.to) → r.ended ≡ false
    go (yes less) = (a.answers less).0.goes
    go (no f) =
        let q = a.reads (omega arith) in
        elim (zero_or q.0) [ yes e ↦ absurd (clash on (q.1.end e).stops) | no ne ↦ (q.1.more ne).0 ]

-- a turn that stops without a failure has ended
stops_ended : {n : ℕ} {w₀ : Memory} {line₀ : List ℕ} {w : Memory} {line piece : List ℕ} {t : Turn} {read wrote : List ℕ} → Turns n w₀ line₀ w line piece t read wrote → t.on ≡ false → t.failed ≡ None
    → t.ended ≡ true
unfolding begin
stops_ended begun off none = absurd (clash refl off)
stops_ended (turned {t = t} {r = r} turns before h a) off none = go (dec_lt t.from t.to)
  where
    goes : r.on ≡ is_none r.failed → ⊥
    goes e = clash (e ∙ ap is_none none) off

    go : Dec (t.from < t.to) → r.ended ≡ true
    go (yes less) = absurd (goes (a.answers less).0.stops)
    go (no f) =
        let q = a.reads (omega arith) in
        elim (zero_or q.0) [ yes e ↦ (q.1.end e).ends | no ne ↦ absurd (goes (q.1.stops ne).0) ]

module _ (m : Journal) where
  -- while the input has not ended
  served_so_far : {n : ℕ} {w₀ : Memory} {line₀ : List ℕ} {w : Memory} {line piece : List ℕ} {t : Turn} {read wrote : List ℕ} → Standing w₀ line₀ 0 m [] → Turns n w₀ line₀ w line piece t read wrote → t.ended ≡ false
      → Reads m w line piece t read wrote
  unfolding begin rest
  served_so_far {piece = piece} s begun goes = record { taken = []; all = sym (none_left piece 0 (0 - 0) refl); reached = record { journal = m; sofar = []; stands = s; output = λ _. refl } }
  served_so_far s (turned {w = w} {line = line} {piece = piece} {read = read} {wrote = wrote} {w' = w'} {line' = line'} {piece' = piece'} {o' = o'} {t = t} {r = r} turns on h a) goes =
      go (dec_lt t.from t.to) (served_so_far s turns (on_goes turns on))
    where
      go : Dec (t.from < t.to) → Reads m w line piece t read wrote → Reads m w' line' piece' r (read ++ read_in t r piece') (wrote ++ take r.wrote o')
      go (yes less) p = let q = a.answers less in reads_answered m p h less q.0 q.1
      go (no f) p =
          let q = a.reads (omega arith) in
          reads_more m p h q.0 (omega arith) q.1 (λ e. clash (q.1.end e).ends goes) q.2 q.3

  -- at its end
  pub served_output : {n : ℕ} {w₀ : Memory} {line₀ : List ℕ} {w : Memory} {line piece : List ℕ} {t : Turn} {read wrote : List ℕ} → Standing w₀ line₀ 0 m [] → Turns n w₀ line₀ w line piece t read wrote → t.ended ≡ true
      → wrote ≡ output_from m [] read
  unfolding begin rest read_in
  served_output s begun ends = absurd (clash ends refl)
  served_output s (turned {w = w} {line = line} {piece = piece} {read = read} {wrote = wrote} {o = o} {piece' = piece'} {o' = o'} {t = t} {r = r} turns on h a) ends =
      go (dec_lt t.from t.to) (served_so_far s turns (on_goes turns on))
    where
      last : t.to ≤ t.from → Reads m w line piece t read wrote → EndAnswered t.length o r o' → wrote ++ take r.wrote o' ≡ output_from m [] (read ++ read_in t r piece')
      last none p e =
          let nothing : rest piece t ≡ [] = none_left piece t.from (t.to - t.from) (omega arith) in
          let all : read ≡ p.taken ++ [] = p.all ∙ ap (λ (x : List ℕ). p.taken ++ x) nothing in
          let text : take r.wrote o' ≡ output_from p.reached.journal p.reached.sofar [] = end_text e.finished (omega arith) ∙ e.finished.ends _ _ p.reached.journal p.reached.sofar p.reached.stands in
          ap (λ (x : List ℕ). wrote ++ x) text
          ∙ (sym (p.reached.output [])
          ∙ ap (output_from m []) (sym all ∙ rw (le-ltb t.from t.to none, e.nothing, append-nil read)))

      go : Dec (t.from < t.to) → Reads m w line piece t read wrote → wrote ++ take r.wrote o' ≡ output_from m [] (read ++ read_in t r piece')
      go (yes less) p = absurd (clash ends (a.answers less).0.goes)
      go (no f) p =
          let q = a.reads (omega arith) in
          elim (zero_or q.0) [ yes e ↦ last (omega arith) p (q.1.end e) | no ne ↦ absurd (clash ends (q.1.more ne).0) ]

-- "The program's journal holds 1,000 edits."
thousand : (words : ℕ) → words ≡ 16016 → places_of words ≡ 1000
unfolding places_of
thousand words e = ap places_of e

-- from the start on, which is never refused
pub program_output : (w j s line : List ℕ) (w₀ w' : Memory) (line' : List ℕ) (v : Result ⊤ Refusal) (r : Turn) → 15376 ≤ length w → length j ≡ 16016 → 15376 ≤ length s → 65 ≤ length line
    → Started (memory w j s) v w₀ → Served w₀ line r w' line' → Ran r
unfolding output room answer ◌when◌ format_answer verdict_says given
program_output w j s line w₀ w' line' v r hw hj hs fits started served = record {
  memory = w₀;
  line = line;
  memory' = w';
  line' = line';
  served = served;
  answers = λ ends. served_output (Frames.begun 1000 0 0) (rw (thousand (length j) hj) at (started.stands accepted line fits)) served.turns ends;
  ends = stops_ended served.turns;
}
  where
    accepted : v ≡ (Ok tt)
    accepted = verdict_one v (Ok tt) (started.begins.says ∙ rw (le-ltb (length w) 15376 hw, le-ltb (length j) 16 (omega arith), le-ltb (length s) 15376 hs))
