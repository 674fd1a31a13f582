-- One edit at its turn, and the edits that words hold.
use mathlib.Core.Path.{◌≡◌, refl, sym, ap, ◌∙◌}
use mathlib.Core.List.{List, [], ◌∷◌}
use Prim.Native.Nat.{ℕ, zero, suc, ◌+◌, ◌-◌, ◌<◌, ◌≤◌, min}
use native.Mathlib.Decide.{dec_lt}
use native.Mathlib.Omega.{arith}
use borrow.Author.Tests.{ne_eqb}
use lib.ListN.{length, get_or, take, drop, drop_of_length-le}
use Rattle.shapes.specs.Shapes.{shape}
use Rattle.map.specs.Cells.{licensed_body}
use Rattle.map.specs.History.{Edit, Insert, Remove}
use Rattle.map.specs.Says.{number_of}
use Rattle.map.specs.declared.Refusal.{Refusal}
use Rattle.map.specs.declared.Refusal.TheVariants.{TypeUnknown, CountWrong}
use Rattle.std.specs.Prelude.{Result, ⊤, Ok, Err}
use Rattle.mesh.specs.Edited.{Edited}
use Rattle.build.specs.Recorded.{width, between, Recorded}
use Rattle.build.proofs.Records.{marks_taken}
use Rattle.map.specs.Morning.{Is, Not, insert_turn, remove_turn, turn, before, read_from}
use Rattle.edits.specs.InTurn.{step_of, Turned, none, refused, made}

-- what a verdict says of an edit
pub step_refused : (v : Result ⊤ Refusal) (n : ℕ) (why : Refusal) → v ≡ Err why → Err why ≡ step_of v n
unfolding step_of
step_refused v n why e = rw e

pub step_made : (v : Result ⊤ Refusal) (n : ℕ) → v ≡ (Ok tt) → Ok n ≡ step_of v n
unfolding step_of
step_made v n e = rw e

-- reading on behind so many words
pub read_behind : (n : ℕ) (words : List ℕ) → read_from n words ≡ read_from 0 (drop n words)
unfolding read_from
read_behind zero words = refl
read_behind (suc n) [] = refl
read_behind (suc n) (x ∷ words) = read_behind n words

module _ (kind : ℕ) (words : List ℕ) where
  -- at a turn that is no edit the reading ends
  pub read_none : (n : ℕ) → turn kind words ≡ Not n → read_from 0 (kind ∷ words) ≡ record { edits = []; last = n }
  unfolding read_from
  read_none n e = rw (e, read_from)

  -- and behind an edit it goes on
  pub read_on : (e : Edit) (n : ℕ) → turn kind words ≡ Is e n → read_from 0 (kind ∷ words) ≡ before e (read_from n words)
  unfolding read_from
  read_on e n q = rw (q, read_from)

  pub read_edit : (e : Edit) (n : ℕ) → turn kind words ≡ Is e n → read_from 0 (kind ∷ words) ≡ before e (read_from 0 (drop n words))
  read_edit e n q = read_on e n q ∙ ap (before e) (read_behind n words)

  module _ (insert : kind ≡ 1) where
    insert_short : length words < 3 → turn kind words ≡ Not 7
    unfolding turn insert_turn
    insert_short h = rw insert (go words h)
      where
        go : (l : List ℕ) → length l < 3 → insert_turn l ≡ Not 7
        go [] h = refl
        go (c ∷ []) h = refl
        go (c ∷ t ∷ []) h = refl
        go (c ∷ t ∷ licence ∷ rest) h = absurd (omega arith)

    insert_long : 3 ≤ length words
        → turn kind words
        ≡ Is (Insert (get_or words 0 0) (licensed_body (get_or words 1 0) (get_or words 2 0) (take (shape (get_or words 1 0)).marks (drop 3 words)))) (3 + (shape (get_or words 1 0)).marks)
    unfolding turn insert_turn
    insert_long h = rw insert (go words h)
      where
        go : (l : List ℕ) → 3 ≤ length l
            → insert_turn l ≡ Is (Insert (get_or l 0 0) (licensed_body (get_or l 1 0) (get_or l 2 0) (take (shape (get_or l 1 0)).marks (drop 3 l)))) (3 + (shape (get_or l 1 0)).marks)
        go [] h = absurd (omega arith)
        go (c ∷ []) h = absurd (omega arith)
        go (c ∷ t ∷ []) h = absurd (omega arith)
        go (c ∷ t ∷ licence ∷ rest) h = refl

    -- a record inserted, as long as it is
    module _ (w : List ℕ) (end : ℕ) (ends : end ≡ min (0 + width words 0) (length words)) (v : Result ⊤ Refusal) (w' : List ℕ) (did : Recorded w words 0 end v w') where
      short : end < 3 → length words < 3
      unfolding width
      short h = omega arith

      whole : 3 ≤ end → Edited w (Insert (get_or words 0 0) (licensed_body (get_or words 1 0) (get_or words 2 0) (take (shape (get_or words 1 0)).marks (drop 3 words)))) v w'
      unfolding between
      whole h = rw (marks_taken words 0 end ends h) at (did.whole h)

      long : 3 ≤ end → 3 ≤ length words
      long h = omega arith

      insert_refused : (why : Refusal) → v ≡ Err why → Turned w kind words (Err why) w'
      insert_refused why q = go (dec_lt end 3)
        where
          go : Dec (end < 3) → Turned w kind words (Err why) w'
          go (yes l) =
              let same : why ≡ CountWrong = cc (did.short l).0 in
              rw (same, (did.short l).1) (none CountWrong (insert_short (short l)))
          go (no f) = refused why (insert_long (long (omega arith))) (rw q at (whole (omega arith)))

      insert_made : v ≡ (Ok tt) → Turned w kind words (Ok end) w'
      unfolding width
      insert_made q = go (dec_lt end 3)
        where
          behind : Dec (length words < 3 + (shape (get_or words 1 0)).marks) → drop end words ≡ drop (3 + (shape (get_or words 1 0)).marks) words
          behind (yes h) =
              drop_of_length-le words {i = end} (omega arith)
              ∙ sym (drop_of_length-le words {i = 3 + (shape (get_or words 1 0)).marks} (omega arith))
          behind (no f) =
              let e : end ≡ 3 + (shape (get_or words 1 0)).marks = omega arith in
              rw e

          go : Dec (end < 3) → Turned w kind words (Ok end) w'
          go (yes l) = let z : ◌≡◌ {A = ℕ} 0 1 = cc (did.short l).0 in absurd (omega arith)
          go (no f) =
              made end (insert_long (long (omega arith))) (omega arith) (behind (dec_lt (length words) (3 + (shape (get_or words 1 0)).marks))) (rw q at (whole (omega arith)))

      pub insert_turned : (s : Result ℕ Refusal) → s ≡ step_of v end → Turned w kind words s w'
      unfolding step_of
      insert_turned s e = rw e (go v refl)
        where
          go : (u : Result ⊤ Refusal) → v ≡ u → Turned w kind words (step_of u end) w'
          go (Ok tt) q = insert_made q
          go (Err why) q = insert_refused why q

  module _ (remove : kind ≡ 2) (w : List ℕ) where
    pub remove_short : length words ≡ 0 → Turned w kind words (Err CountWrong) w
    unfolding turn remove_turn
    remove_short h = none CountWrong (rw remove (go words h))
      where
        go : (l : List ℕ) → length l ≡ 0 → remove_turn l ≡ Not 7
        go [] h = refl
        go (c ∷ rest) h = absurd (omega arith)

    module _ (some : length words ≡ 0 → ⊥) where
      remove_turn_lem : turn kind words ≡ Is (Remove (get_or words 0 0)) 1
      unfolding turn remove_turn
      remove_turn_lem = rw remove (go words some)
        where
          go : (l : List ℕ) → (length l ≡ 0 → ⊥) → remove_turn l ≡ Is (Remove (get_or l 0 0)) 1
          go [] h = absurd (h refl)
          go (c ∷ rest) h = refl

      module _ (c : ℕ) (first : c ≡ get_or words 0 0) (v : Result ⊤ Refusal) (w' : List ℕ) (did : Edited w (Remove c) v w') where
        pub remove_turned : (s : Result ℕ Refusal) → s ≡ step_of v 1 → Turned w kind words s w'
        unfolding step_of
        remove_turned s e = rw e (go v refl)
          where
            go : (u : Result ⊤ Refusal) → v ≡ u → Turned w kind words (step_of u 1) w'
            go (Ok tt) q = made 1 remove_turn_lem (omega arith) refl (rw (first, q) at did)
            go (Err why) q = refused why remove_turn_lem (rw (first, q) at did)

  -- "6 for a kind neither insert nor remove"
  pub kind_unknown : (kind ≡ 1 → ⊥) → (kind ≡ 2 → ⊥) → (w : List ℕ) → Turned w kind words (Err TypeUnknown) w
  unfolding turn
  kind_unknown f g w = none TypeUnknown (rw (ne_eqb kind 1 f, ne_eqb kind 2 g))
