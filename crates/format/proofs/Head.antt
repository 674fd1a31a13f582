-- The head, written on cleared words, and each answer of a format.
use mathlib.Core.Path.{◌≡◌, refl, sym, ◌∙◌}
use mathlib.Core.Bool.{true, false}
use mathlib.Core.List.{List, []}
use Prim.Native.Nat.{ℕ, ◌<◌, ◌≤◌}
use native.Mathlib.Omega.{arith}
use borrow.Author.Tests.{lt-ltb, le-ltb}
use lib.ListN.{length}
use Rattle.words.specs.Words.{Only}
use Rattle.words.proofs.Frame.{only_none, only_then, only_wider}
use Rattle.numbers.specs.declared.Caps.{Caps}
use Rattle.numbers.specs.Sizes.{most_capacity}
use Rattle.numbers.specs.Editions.{is_edition}
use Rattle.store.specs.Layout.{head_words, room}
use Rattle.store.specs.Fields.{Magic, MarkCap, CellCap, Edition, Count, HeadRest}
use Rattle.store.specs.Slots.{Slot, InHead, InMark, InCell, address, Within, read}
use Rattle.store.specs.Open.{headed}
use Rattle.store.proofs.Slots.{slot_below}
use Rattle.store.proofs.Heads.{head_number, head_only, head_kept, head_magic, head_marks, head_cells, head_edition}
use Rattle.map.specs.Answers.{◌when◌, answer, format_checks}
use Rattle.map.specs.History.{empty}
use Rattle.map.specs.Cells.{map_of}
use Rattle.map.specs.Says.{given, refused, verdict_says}
use Rattle.map.specs.declared.Refusal.{Refusal}
use Rattle.map.specs.declared.Refusal.TheVariants.{CapacityAbove, MemoryShort, TypeUnknown}
use Rattle.std.specs.Prelude.{Ok, Err}
use Rattle.laws.proofs.Edits.{sound_empty}
use Rattle.laws.proofs.Solids.{two_empty}
use Rattle.picture.specs.State.{state_of}
use Rattle.picture.specs.Picture.{head_word, word_of}
use Rattle.format.specs.Cleared.{Cleared}
use Rattle.format.specs.Formatted.{Formatted}
use Rattle.format.proofs.Emptied.{empty_word}

module _ (w w' : List ℕ) (caps : Caps) (clear : Cleared (room caps.marks caps.cells) w w') where
  -- the room holds the head
  some : head_words ≤ room caps.marks caps.cells
  unfolding room
  some = omega arith

  -- each slot is that of the empty map
  pub head_word_lem : room caps.marks caps.cells ≤ length w → (x : Slot) → Within caps.marks caps.cells x
      → read (headed w' caps) caps x ≡ word_of caps (state_of (empty caps)) x
  unfolding read head_number word_of head_word
  head_word_lem long x h = go x h
    where
      long' : head_words ≤ length w'
      long' = omega (arith, some, clear.size)

      rest : (x : Slot) → Within caps.marks caps.cells x → head_number x ≡ 0 → read (headed w' caps) caps x ≡ word_of caps (state_of (empty caps)) x
      rest x h n =
          head_kept w' caps x h n
          ∙ (clear.zero (address caps.marks caps.cells x) (slot_below caps.marks caps.cells x h) ∙ sym (empty_word caps x h n))

      go : (x : Slot) → Within caps.marks caps.cells x → read (headed w' caps) caps x ≡ word_of caps (state_of (empty caps)) x
      go (InHead Magic) h = head_magic w' caps long'
      go (InHead MarkCap) h = head_marks w' caps long'
      go (InHead CellCap) h = head_cells w' caps long'
      go (InHead Edition) h = head_edition w' caps long'
      go (InHead (Count t)) h = rest (InHead (Count t)) h refl
      go (InHead (HeadRest k)) h = rest (InHead (HeadRest k)) h refl
      go (InMark v f) h = rest (InMark v f) h refl
      go (InCell c f) h = rest (InCell c f) h refl

  -- and nothing beyond the room changes
  pub head_inside : Only (λ i. i < room caps.marks caps.cells) w (headed w' caps)
  head_inside =
      only_then (record { size = clear.size; same = λ i f. clear.same i (omega arith) }) (only_wider (λ i h. omega (arith, some)) (head_only w' caps))

module _ (w : List ℕ) (caps : Caps) where
  -- a refusal of a format
  format_refused : (why : Refusal) → refused why ≡ answer (format_checks (length w) caps) [] → Formatted w caps (Err why) w
  unfolding verdict_says
  format_refused why e = record {
    says = e;
    kept = λ why e. refl;
    inside = only_none;
    wf = λ e. let z : ◌≡◌ {A = ℕ} 0 1 = cc in absurd (omega arith);
  }

  -- each answer, check by check
  pub format_edition : is_edition caps.edition ≡ false → Formatted w caps (Err TypeUnknown) w
  unfolding format_checks ◌when◌ answer refused
  format_edition e = format_refused TypeUnknown (rw e)

  module _ (edition : is_edition caps.edition ≡ true) where
    pub format_marks : most_capacity < caps.marks → Formatted w caps (Err CapacityAbove) w
    unfolding format_checks ◌when◌ answer refused
    format_marks h = format_refused CapacityAbove (rw (edition, lt-ltb most_capacity caps.marks h))

    module _ (fewMarks : caps.marks ≤ most_capacity) where
      pub format_cells : most_capacity < caps.cells → Formatted w caps (Err CapacityAbove) w
      unfolding format_checks ◌when◌ answer refused
      format_cells h = format_refused CapacityAbove (rw (edition, le-ltb most_capacity caps.marks fewMarks, lt-ltb most_capacity caps.cells h))

      module _ (fewCells : caps.cells ≤ most_capacity) where
        pub format_short : length w < room caps.marks caps.cells → Formatted w caps (Err MemoryShort) w
        unfolding format_checks ◌when◌ answer refused
        format_short h =
            format_refused MemoryShort (rw (edition, le-ltb most_capacity caps.marks fewMarks, le-ltb most_capacity caps.cells fewCells, lt-ltb (length w) (room caps.marks caps.cells) h))

        module _ (fits : room caps.marks caps.cells ≤ length w) where
          format_says : verdict_says (Ok tt) ≡ answer (format_checks (length w) caps) []
          unfolding format_checks ◌when◌ answer verdict_says given
          format_says = rw (edition, le-ltb most_capacity caps.marks fewMarks, le-ltb most_capacity caps.cells fewCells, le-ltb (length w) (room caps.marks caps.cells) fits)

          -- a format that is accepted
          pub format_made : (w₁ w₂ : List ℕ) (n : ℕ) → Cleared n w w₁ → n ≡ room caps.marks caps.cells → w₂ ≡ headed w₁ caps → Formatted w caps (Ok tt) w₂
          unfolding map_of empty
          format_made w₁ w₂ n clear all e = rw e (record {
            says = format_says;
            kept = λ why e. let z : ◌≡◌ {A = ℕ} 0 1 = cc in absurd (omega arith);
            inside = head_inside w w₁ caps (rw all at clear);
            wf = λ e. record {
              sound = sound_empty caps;
              two = two_empty caps;
              picture = record {
                marks = fewMarks;
                cells = fewCells;
                edition = edition;
                fits = omega (arith, (head_inside w w₁ caps (rw all at clear)).size);
                words = head_word_lem w w₁ caps (rw all at clear) fits;
              };
            };
          })
