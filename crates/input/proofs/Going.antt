-- The bytes taken so far, one more, and the end of a piece.
use mathlib.Core.Path.{◌≡◌, refl, sym, ap, ◌∙◌}
use mathlib.Core.Bool.{true, false}
use mathlib.Core.List.{List, [], ◌∷◌, ◌++◌, append_assoc}
use Prim.Native.Nat.{ℕ, suc, ◌+◌, ◌-◌, ◌<◌, ◌≤◌}
use native.Mathlib.Nat.{zero-add}
use native.Mathlib.Decide.{dec_lt, ℕ_discrete}
use native.Mathlib.Numerals.{add-one}
use native.Mathlib.Omega.{arith}
use borrow.Author.Tests.{leb-true, leb-false, le-ltb, lt-ltb, ne_eqb}
use lib.Dec.{leb}
use lib.ListN.{length, get_or, take, drop, length-append}
use lib.Seq.{take-suc, drop-cons, drop-length}
use Rattle.words.specs.Words.{Only, part_of}
use Rattle.words.proofs.Frame.{only_none, only_then, only_wider}
use Rattle.frames.specs.Frames.{frame_of, Journal, reply_to, journal_after, written, output_from}
use Rattle.frames.specs.Forms.{Appended}
use Rattle.frames.proofs.Append.{append_none, append_more, append_fits, append_length}
use Rattle.frames.proofs.Steps.{output_more, output_line}
use Rattle.reply.specs.Memory.{Memory, Inside}
use Rattle.reply.specs.Replied.{Replied}
use Rattle.reply.proofs.Begins.{within_none, inside_then}
use Rattle.input.specs.declared.Places.{Places}
use Rattle.input.specs.Standing.{Standing, Reached}
use Rattle.input.specs.Fed.{KeptByte, Taken, lent, OneByOne, none, more, taken_from, Feeding}
use Rattle.input.proofs.Lines.{line_none, line_frame, kept_place}

-- no byte
pub reached_none : {m : Journal} {l : List ℕ} {w : Memory} {line : List ℕ} {n : ℕ} → Standing w line n m l → Reached m l [] [] w line n
reached_none {m} {l} s = record { journal = m; sofar = l; stands = s; output = λ rest. refl }

-- some bytes and then others
pub reached_then : {m : Journal} {l a b t u : List ℕ} {w : Memory} {line : List ℕ} {w' : Memory} {line' : List ℕ} {n n' : ℕ} (f : Reached m l a t w line n)
    → Reached f.journal f.sofar b u w' line' n' → Reached m l (a ++ b) (t ++ u) w' line' n'
reached_then {m} {l} {a} {b} {t} {u} f g = record {
  journal = g.journal;
  sofar = g.sofar;
  stands = g.stands;
  output = λ rest.
      ap (output_from m l) (append_assoc a b rest)
      ∙ (f.output (b ++ rest) ∙ (ap (λ (x : List ℕ). t ++ x) (g.output rest) ∙ sym (append_assoc t u (output_from g.journal g.sofar rest))));
}

-- the same bytes, named otherwise
reached_as : {m : Journal} {l a b t : List ℕ} {w : Memory} {line : List ℕ} {n : ℕ} → b ≡ a → Reached m l a t w line n → Reached m l b t w line n
reached_as e f = record { journal = f.journal; sofar = f.sofar; stands = f.stands; output = λ rest. rw e (f.output rest) }

-- how many bytes are taken, byte by byte
module _ (m : Journal) (line : List ℕ) (room : ℕ) where
  taken_none : taken_from room m line [] ≡ 0
  unfolding taken_from
  taken_none = refl

  taken_stops : (rest : List ℕ) → room < 775 → taken_from room m line rest ≡ 0
  unfolding taken_from
  taken_stops [] h = refl
  taken_stops (b ∷ rest) h = rw (lt-ltb room 775 h, taken_from) refl

  taken_ends : (rest : List ℕ) → 775 ≤ room
      → taken_from room m line (10 ∷ rest) ≡ suc (taken_from (room - length (written (reply_to m (frame_of line)))) (journal_after m (frame_of line)) [] rest)
  unfolding taken_from
  taken_ends rest h = rw (le-ltb room 775 h, taken_from)

  taken_goes : (b : ℕ) (rest : List ℕ) → (b ≡ 10 → ⊥) → 775 ≤ room → taken_from room m line (b ∷ rest) ≡ suc (taken_from room m (line ++ (b ∷ [])) rest)
  unfolding taken_from
  taken_goes b rest ne h = rw (le-ltb room 775 h, taken_from) (rw (ne_eqb b 10 ne))

-- what comes of one byte
record Byte (w : Memory) (line : List ℕ) (n b : ℕ) (o : List ℕ) (at : ℕ) (r : Places) (w' : Memory) (line' o' : List ℕ) : Type 0 where
  text : List ℕ
  few : length text ≤ 775
  appended : Appended text o at r.out o'
  inside : Inside w w'
  in_line : Only (λ i. (i < 65) × (i ≡ n)) line line'
  along : r.line ≤ n + 1
  stands : (m : Journal) (l : List ℕ) → Standing w line n m l
      → (f : Reached m l (b ∷ []) text w' line' r.line)
      × ((room : ℕ) (rest : List ℕ) → 775 ≤ room → taken_from room m l (b ∷ rest) ≡ suc (taken_from (room - length text) f.journal f.sofar rest))

module _ (w : Memory) (line : List ℕ) (n b : ℕ) (o : List ℕ) (at : ℕ) where
  -- a byte that ends the line
  pub taken_line : (part : List ℕ) (w' : Memory) (o' : List ℕ) (r z : ℕ) → b ≡ 10 → z ≡ 0 → part ≡ part_of line z (n - z) → Replied (frame_of part) w o at r w' o'
      → Taken w line n b o at (record { line = z; out = r }) w' line o'
  taken_line part w' o' r z e zero is p = record {
    ends = λ _. (rw whole at p, refl, zero);
    goes = λ ne. absurd (ne e);
  }
    where
      whole : part ≡ part_of line 0 n
      whole = let k : n - z ≡ n = omega arith in is ∙ rw (k, zero)

  -- a byte of the line
  pub taken_more : (line' : List ℕ) (r : ℕ) → (b ≡ 10 → ⊥) → KeptByte line n b r line' → Taken w line n b o at (record { line = r; out = at }) w line' o
  taken_more line' r ne k = record {
    ends = λ e. absurd (ne e);
    goes = λ _. (k, refl, refl, refl);
  }

  module _ (r : Places) (w' : Memory) (line' o' : List ℕ) where
    byte_ends : b ≡ 10 → Replied (frame_of (part_of line 0 n)) w o at r.out w' o' → line' ≡ line → r.line ≡ 0 → Byte w line n b o at r w' line' o'
    byte_ends e p same zero = record {
      text = written p.answered.says;
      few = p.answered.few;
      appended = p.answered.appended;
      inside = p.inside;
      in_line = rw same only_none;
      along = omega (arith, zero);
      stands = λ m l s.
          let frame : frame_of (part_of line 0 n) ≡ frame_of l = line_frame line n l s.lined in
          let q = p.answered.answers m s.memory in
          let says : reply_to m (frame_of l) ≡ p.answered.says = sym (rw frame at q.0) in (
            record {
              journal = journal_after m (frame_of l);
              sofar = [];
              stands = record { memory = rw frame at q.1; lined = rw same (line_none line r.line s.lined.fits zero) };
              output = λ rest.
                  ap (λ (x : ℕ). output_from m l (x ∷ rest)) e
                  ∙ (output_line m l rest
                  ∙ ap (λ a. written a ++ output_from (journal_after m (frame_of l)) [] rest) says);
            },
            λ room rest h.
                ap (λ (x : ℕ). taken_from room m l (x ∷ rest)) e
                ∙ (taken_ends m l room rest h
                ∙ ap (λ a. suc (taken_from (room - length (written a)) (journal_after m (frame_of l)) [] rest)) says),
          );
    }

    byte_goes : (b ≡ 10 → ⊥) → KeptByte line n b r.line line' → w' ≡ w → o' ≡ o → r.out ≡ at → Byte w line n b o at r w' line' o'
    byte_goes ne k mesh out place = record {
      text = [];
      few = omega arith;
      appended = rw (out, place) (append_none o at);
      inside = rw mesh within_none;
      in_line = (kept_place line n b k).1;
      along = (kept_place line n b k).0;
      stands = λ m l s. (
        record {
          journal = m;
          sofar = l ++ (b ∷ []);
          stands = record { memory = rw mesh s.memory; lined = k.more l s.lined };
          output = λ rest. output_more m l b rest ne;
        },
        λ room rest h. rw (nothing room) (taken_goes m l room b rest ne h),
      );
    }
      where
        nothing : (room : ℕ) → room - 0 ≡ room
        nothing room = omega arith

    byte_taken : Taken w line n b o at r w' line' o' → Byte w line n b o at r w' line' o'
    byte_taken t = go (ℕ_discrete b 10)
      where
        go : Dec (b ≡ 10) → Byte w line n b o at r w' line' o'
        go (yes e) = let q = t.ends e in byte_ends e q.0 q.1 q.2
        go (no ne) = let q = t.goes ne in byte_goes ne q.0 q.1 q.2 q.3

-- the first i bytes of a piece taken
pub record Going (w₀ : Memory) (line₀ : List ℕ) (n₀ : ℕ) (piece o₀ : List ℕ) (w : Memory) (line o : List ℕ) (n i at : ℕ) : Type 0 where
  pub bytes : OneByOne (lent w₀ line₀ n₀ o₀ 0) (take i piece) (lent w line n o at)
  pub text : List ℕ
  pub fits : length text ≤ length o₀
  pub appended : Appended text o₀ 0 at o
  pub taken : i ≤ length piece
  pub begins : i ≡ 0 → length text ≡ 0
  pub along : n ≤ n₀ + i
  pub inside : Inside w₀ w
  pub in_line : Only (λ k. (k < 65) × (k < n₀ + i)) line₀ line
  pub stands : (m : Journal) (l : List ℕ) → Standing w₀ line₀ n₀ m l
      → (f : Reached m l (take i piece) text w line n)
      × (taken_from (length o₀) m l piece ≡ i + taken_from (length o₀ - length text) f.journal f.sofar (drop i piece))

module _ (w₀ : Memory) (line₀ : List ℕ) (n₀ : ℕ) (piece o₀ : List ℕ) where
  pub going_start : (i at : ℕ) → i ≡ 0 → at ≡ 0 → Going w₀ line₀ n₀ piece o₀ w₀ line₀ o₀ n₀ i at
  unfolding reached_none
  going_start i at z y = rw (z, y) (record {
    bytes = none;
    text = [];
    fits = omega arith;
    appended = append_none o₀ 0;
    taken = omega arith;
    begins = λ _. refl;
    along = omega arith;
    inside = within_none;
    in_line = only_none;
    stands = λ m l s. (
      reached_none s,
      ap (λ (k : ℕ). taken_from k m l piece) (omega arith) ∙ sym (zero-add (taken_from (length o₀ - 0) m l piece)),
    );
  })

  module _ (w : Memory) (line o : List ℕ) (n i at : ℕ) (g : Going w₀ line₀ n₀ piece o₀ w line o n i at) where
    pub going_length : length o ≡ length o₀
    going_length = append_length g.text g.appended

    -- the place in the output is behind the bytes written
    going_place : at ≡ length g.text
    going_place = (append_fits g.text g.appended (omega (arith, g.fits))).0 ∙ zero-add (length g.text)

    pub going_more : (b : ℕ) (r : Places) (w' : Memory) (line' o' : List ℕ) (k : ℕ) → i < length piece → b ≡ get_or piece i 0 → leb (at + 775) (length o₀) ≡ true
        → Taken w line n b o at r w' line' o' → k ≡ i + 1 → Going w₀ line₀ n₀ piece o₀ w' line' o' r.line k r.out
    unfolding reached_as reached_then
    going_more b r w' line' o' k less e enough taken next = record {
      bytes = rw bytes (more b r g.bytes (omega (arith, room_enough, going_length)) taken);
      text = g.text ++ t.text;
      fits = omega (arith, length-append g.text t.text, t.few, going_place, room_enough);
      appended = append_more g.text t.text g.appended t.appended;
      taken = omega arith;
      begins = λ z. absurd (omega arith);
      along = omega (arith, t.along, g.along);
      inside = inside_then g.inside t.inside;
      in_line =
          only_then (only_wider (λ j p. (p.0, omega (arith, p.1))) g.in_line)
          (only_wider (λ j p. (p.0, omega (arith, p.1, g.along))) t.in_line);
      stands = λ m l s.
          let f = g.stands m l s in
          let h = t.stands f.0.journal f.0.sofar f.0.stands in (
            reached_as bytes (reached_then f.0 h.0),
            f.1
                ∙ (ap (λ (x : List ℕ). i + taken_from (length o₀ - length g.text) f.0.journal f.0.sofar x) (rw (next, add-one i, e) (drop-cons piece i 0 less))
                ∙ (ap (λ (x : ℕ). i + x) (h.1 (length o₀ - length g.text) (drop k piece) (omega (arith, going_place, room_enough)))
                ∙ counted (taken_from (length o₀ - length g.text - length t.text) h.0.journal h.0.sofar (drop k piece))
                ∙ ap (λ (x : ℕ). k + taken_from x h.0.journal h.0.sofar (drop k piece)) (omega (arith, length-append g.text t.text)))),
          );
    }
      where
        t : Byte w line n b o at r w' line' o'
        t = byte_taken w line n b o at r w' line' o' taken

        room_enough : at + 775 ≤ length o₀
        room_enough = leb-true (at + 775) (length o₀) enough

        bytes : take k piece ≡ take i piece ++ (b ∷ [])
        bytes = rw (next, add-one i, e) (take-suc piece i 0 less)

        counted : (x : ℕ) → i + suc x ≡ k + x
        counted x = omega arith

    fed_so : (0 < length piece → 775 ≤ length o₀ → 0 < i) → (i < length piece → length o₀ < at + 775)
        → ((m : Journal) (l : List ℕ) → taken_from (length o₀ - length g.text) m l (drop i piece) ≡ 0)
        → Feeding w₀ line₀ n₀ piece o₀ (record { taken = i; length = n; written = at }) w line o
    fed_so goes stops ends = record {
      bytes = g.bytes;
      text = g.text;
      written = going_place;
      fits = g.fits;
      out = rw (zero-add (length g.text)) at (append_fits g.text g.appended (omega (arith, g.fits))).1;
      taken = g.taken;
      goes = goes;
      stops = stops;
      inside = g.inside;
      in_line = g.in_line;
      stands = λ m l s.
          let f = g.stands m l s in
          (omega (arith, f.1, ends f.0.journal f.0.sofar), f.0);
    }

    -- the piece is used up
    pub fed_all : length piece ≤ i → Feeding w₀ line₀ n₀ piece o₀ (record { taken = i; length = n; written = at }) w line o
    fed_all h = fed_so (λ some _. omega arith) (λ less. absurd (omega arith)) (λ m l. rw nothing (taken_none m l (length o₀ - length g.text)))
      where
        nothing : drop i piece ≡ []
        nothing = let e : i ≡ length piece = omega (arith, g.taken) in rw e (drop-length piece)

    -- then as many bytes are taken as it has
    pub fed_whole : (k : ℕ) → k ≡ length piece → length piece ≤ i → Feeding w₀ line₀ n₀ piece o₀ (record { taken = k; length = n; written = at }) w line o
    fed_whole k e h = let same : k ≡ i = omega (arith, g.taken) in rw same (fed_all h)

    -- or there is no room for an answer
    pub fed_full : leb (at + 775) (length o₀) ≡ false → Feeding w₀ line₀ n₀ piece o₀ (record { taken = i; length = n; written = at }) w line o
    fed_full h =
        fed_so (λ _ room. go room (dec_lt 0 i)) (λ _. leb-false _ _ h)
        (λ m l. taken_stops m l (length o₀ - length g.text) (drop i piece) (omega (arith, going_place, leb-false (at + 775) (length o₀) h)))
      where
        go : 775 ≤ length o₀ → Dec (0 < i) → 0 < i
        go room (yes p) = p
        go room (no f) = absurd (let z : i ≡ 0 = omega arith in omega (arith, going_place, g.begins z, leb-false (at + 775) (length o₀) h))
