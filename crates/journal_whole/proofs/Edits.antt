-- Whether the words of an entry are those of an edit.
use mathlib.Core.Path.{◌≡◌, refl, sym, ap, ◌∙◌, subst}
use mathlib.Core.Bool.{Bool, true, false, cond}
use mathlib.Core.List.{List, [], ◌∷◌, ◌++◌}
use Prim.Native.Nat.{ℕ, zero, suc, ◌+◌, ◌-◌, ◌<◌, ◌≤◌}
use native.Mathlib.Decide.{dec_lt}
use native.Mathlib.Omega.{arith}
use borrow.Author.Tests.{eq-eqb, ne_eqb}
use lib.Dec.{eqb}
use lib.ListN.{length, get_or, get_or-eq_default}
use lib.Seq.{get_or-append-add}
use Rattle.lists.proofs.Bools.{clash}
use Rattle.words.specs.Words.{part_of}
use Rattle.words.proofs.Fits.{part_length, part_word}
use Rattle.shapes.specs.Shapes.{shape}
use Rattle.shapes.proofs.Facts.{facts}
use Rattle.map.specs.Cells.{Body, licensed_body}
use Rattle.map.specs.History.{Edit, Insert, Remove}
use Rattle.journal_store.specs.Days.{Dated, dated, Fits}
use Rattle.journal_store.specs.Entries.{entry_words, entry_at, insert_kind, remove_kind, edit_words, words_of}
use Rattle.journal_store.specs.Journals.{day_in, type_in, licence_in, edit_in}
use Rattle.journal_whole.specs.Checks.{Zeros, entry_in, Entry, EntryGood}

module _ (j : List ℕ) (k : ℕ) where
  -- the words of a place are these
  abbrev Has : ℕ → Edit → Type 0
  Has day x = (f : ℕ) → f < entry_words → get_or j (entry_at k + f) 0 ≡ get_or (edit_words day x) f 0

  -- no edit has such words
  never : (r : Bool) → r ≡ false → ((day : ℕ) (x : Edit) → Has day x → Fits x → ⊥) → EntryGood j k r
  never r er f = record { yes = λ q. absurd (clash q er); no = λ q e en. f e.day e.edit en.words en.fit }

  module _ (kind t at : ℕ) (ek : kind ≡ get_or j (entry_at k + 1) 0) (et : t ≡ type_in j k) (ea : at ≡ entry_at k + 5) where
    pub good_other : (kind ≡ insert_kind → ⊥) → (kind ≡ remove_kind → ⊥) → EntryGood j k false
    unfolding edit_words
    good_other f g = never false refl go
      where
        go : (day : ℕ) (x : Edit) → Has day x → Fits x → ⊥
        go day (Insert c b) has fit = f (ek ∙ has 1 (omega arith))
        go day (Remove c) has fit = g (ek ∙ has 1 (omega arith))

    pub good_type : kind ≡ remove_kind → (t ≡ 0 → ⊥) → EntryGood j k false
    unfolding edit_words
    good_type er f = never false refl go
      where
        go : (day : ℕ) (x : Edit) → Has day x → Fits x → ⊥
        go day (Insert c b) has fit = omega (arith, ek, has 1 (omega arith))
        go day (Remove c) has fit = f (et ∙ has 3 (omega arith))

    -- a removal has no licence
    pub good_licence : kind ≡ remove_kind → (licence : ℕ) → licence ≡ licence_in j k → (licence ≡ 0 → ⊥) → EntryGood j k false
    unfolding edit_words
    good_licence er licence el f = never false refl go
      where
        go : (day : ℕ) (x : Edit) → Has day x → Fits x → ⊥
        go day (Insert c b) has fit = omega (arith, ek, has 1 (omega arith))
        go day (Remove c) has fit = f (el ∙ has 4 (omega arith))

    marks : List ℕ
    marks = part_of j (entry_at k + 5) (shape (type_in j k)).marks

    few : (shape (type_in j k)).marks ≤ 8
    few = (facts (type_in j k)).marks

    read_insert : kind ≡ insert_kind → edit_in j k ≡ Insert (get_or j (entry_at k + 2) 0) (licensed_body (type_in j k) (licence_in j k) marks)
    unfolding edit_in marks
    read_insert e = let q : get_or j (entry_at k + 1) 0 ≡ insert_kind = sym ek ∙ e in rw q

    read_remove : kind ≡ remove_kind → edit_in j k ≡ Remove (get_or j (entry_at k + 2) 0)
    unfolding edit_in
    read_remove e = let q : get_or j (entry_at k + 1) 0 ≡ remove_kind = sym ek ∙ e in rw q

    day_word : get_or j (entry_at k + 0) 0 ≡ day_in j k
    day_word = let e : entry_at k + 0 ≡ entry_at k = omega arith in ap (λ (i : ℕ). get_or j i 0) e

    module _ (isInsert : kind ≡ insert_kind) (n p q : ℕ) (en : n ≡ (shape t).marks) (ep : p ≡ at + n) (eq : q ≡ 11 - n) (r : Bool) (z : Zeros j p q r) where
      count : n ≡ (shape (type_in j k)).marks
      count = en ∙ ap (λ (x : ℕ). (shape x).marks) et

      insert_words : r ≡ true → entry_at k + entry_words ≤ length j → Has (day_in j k) (Insert (get_or j (entry_at k + 2) 0) (licensed_body (type_in j k) (licence_in j k) marks))
      unfolding edit_words marks
      insert_words er room zero h = day_word
      insert_words er room (suc zero) h = sym ek ∙ isInsert
      insert_words er room (suc (suc zero)) h = refl
      insert_words er room (suc (suc (suc zero))) h = refl
      insert_words er room (suc (suc (suc (suc zero)))) h = refl
      insert_words er room (suc (suc (suc (suc (suc i))))) h = go (dec_lt i n)
        where
          go : Dec (i < n) → get_or j (entry_at k + suc (suc (suc (suc (suc i))))) 0 ≡ get_or (part_of j (entry_at k + 5) (shape (type_in j k)).marks) i 0
          go (yes less) =
              let e : entry_at k + suc (suc (suc (suc (suc i)))) ≡ entry_at k + 5 + i = omega arith in
              ap (λ (x : ℕ). get_or j x 0) e ∙ sym (part_word j (entry_at k + 5) (shape (type_in j k)).marks i (omega (arith, few)) (omega (arith, count)))
          go (no f) =
              let e : entry_at k + suc (suc (suc (suc (suc i)))) ≡ p + (i - n) = omega (arith, count, few) in
              ap (λ (x : ℕ). get_or j x 0) e
              ∙ (z.yes er (i - n) (omega (arith, count, few))
              ∙ sym (get_or-eq_default (part_of j (entry_at k + 5) (shape (type_in j k)).marks) 0 {n = i} (omega (arith, count, few, part_length j (entry_at k + 5) (shape (type_in j k)).marks (omega (arith, few))))))

      not_insert : r ≡ false → (day : ℕ) (x : Edit) → Has day x → Fits x → ⊥
      unfolding edit_words
      not_insert er day (Insert c b) has fit =
          let code : t ≡ b.code = et ∙ has 3 (omega arith) in
          let size : n ≡ length b.marks = en ∙ (ap (λ (x : ℕ). (shape x).marks) code ∙ sym fit) in
          z.no er (λ i h.
          let e : p + i ≡ entry_at k + (5 + (n + i)) = omega arith in
          ap (λ (x : ℕ). get_or j x 0) e
          ∙ (has (5 + (n + i)) (omega arith)
          ∙ (get_or-append-add (day ∷ insert_kind ∷ c ∷ b.code ∷ b.licence ∷ []) b.marks (n + i) 0 ∙ get_or-eq_default b.marks 0 {n = n + i} (omega arith))))
      not_insert er day (Remove c) has fit = omega (arith, ek, has 1 (omega arith))

      pub good_insert : EntryGood j k r
      unfolding marks
      good_insert = record {
        yes = λ er room. record {
          words = rw (read_insert isInsert) (insert_words er room);
          fit = rw (read_insert isInsert) (part_length j (entry_at k + 5) (shape (type_in j k)).marks (omega (arith, few)));
        };
        no = λ er e en. not_insert er e.day e.edit en.words en.fit;
      }

    module _ (isRemove : kind ≡ remove_kind) (none : t ≡ 0) (licence : licence_in j k ≡ 0) (q : ℕ) (eq : q ≡ 11) (r : Bool) (z : Zeros j at q r) where
      remove_words : r ≡ true → Has (day_in j k) (Remove (get_or j (entry_at k + 2) 0))
      unfolding edit_words
      remove_words er zero h = day_word
      remove_words er (suc zero) h = sym ek ∙ isRemove
      remove_words er (suc (suc zero)) h = refl
      remove_words er (suc (suc (suc zero))) h = sym et ∙ none
      remove_words er (suc (suc (suc (suc zero)))) h = licence
      remove_words er (suc (suc (suc (suc (suc i))))) h =
          let e : entry_at k + suc (suc (suc (suc (suc i)))) ≡ at + i = omega arith in
          ap (λ (x : ℕ). get_or j x 0) e ∙ z.yes er i (omega arith)

      not_remove : r ≡ false → (day : ℕ) (x : Edit) → Has day x → Fits x → ⊥
      unfolding edit_words
      not_remove er day (Insert c b) has fit = omega (arith, ek, has 1 (omega arith))
      not_remove er day (Remove c) has fit =
          z.no er (λ i h.
          let e : at + i ≡ entry_at k + (5 + i) = omega arith in
          ap (λ (x : ℕ). get_or j x 0) e ∙ (has (5 + i) (omega arith) ∙ get_or-append-add (day ∷ remove_kind ∷ c ∷ 0 ∷ 0 ∷ []) [] i 0))

      pub good_remove : EntryGood j k r
      good_remove = record {
        yes = λ er room. record { words = rw (read_remove isRemove) (remove_words er); fit = rw (read_remove isRemove) (omega arith) };
        no = λ er e en. not_remove er e.day e.edit en.words en.fit;
      }
