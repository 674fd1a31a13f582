-- The records of a wanted list, one after another: the set of cells that stand, and the words of the other insertions.
use mathlib.Core.Path.{◌≡◌, refl, sym, ap, ◌∙◌}
use mathlib.Core.Bool.{Bool, true, false, cond, ◌&&◌, ◌||◌}
use mathlib.Core.List.{List, [], ◌∷◌, ◌++◌, append_assoc, append-nil, map}
use Prim.Native.Nat.{ℕ, suc, ◌+◌, ◌-◌, ◌*◌, ◌<◌, ◌≤◌, min}
use native.Mathlib.Omega.{arith}
use lib.Dec.{eqb}
use lib.ListN.{length, get_or, set, take, drop, length-set, length-append, drop_of_length-le}
use Rattle.lists.specs.Lists.{any}
use Rattle.numbers.specs.declared.Caps.{Caps}
use Rattle.shapes.specs.Shapes.{shape}
use Rattle.words.specs.Words.{part_of}
use Rattle.words.proofs.Fits.{part_fits, part_length}
use Rattle.map.specs.Cells.{Live}
use Rattle.map.specs.History.{Insert}
use Rattle.frames.specs.Forms.{Appended}
use Rattle.frames.proofs.Append.{append_none, append_more}
use Rattle.build.specs.Recorded.{width}
use Rattle.build.proofs.Records.{three_words, end_more}
use Rattle.cell_set.specs.CellSet.{in_set}
use Rattle.cell_set.proofs.Sets.{put_in}
use Rattle.wanted.specs.Wanted.{Wanted, before, wanted_of}
use Rattle.wanted.specs.Records.{refusal_at, cell_at, stands_in}
use Rattle.wanted.proofs.Reading.{wanted_end, no_refusal, whole_head, whole_end, record_at}
use Rattle.planner.specs.Plan.{others, edit_words}
use Rattle.planner.specs.InMemory.{insertion_words, marked_in, MarkedRecord, Marked, Inserted}

-- the words of an insertion
abbrev pub insertion_of : Live → List ℕ
insertion_of x = 1 ∷ x.number ∷ x.body.code ∷ x.body.licence ∷ x.body.marks

-- of a list: of its first cell, unless it passes, then of the others
pub insertions_first : (p : Live → Bool) (x : Live) (xs : List Live) → insertion_words p (x ∷ xs) ≡ cond (p x) [] (insertion_of x) ++ insertion_words p xs
unfolding others edit_words
insertions_first p x xs = go (p x)
  where
    go : (b : Bool)
        → edit_words (map (λ (y : Live). Insert y.number y.body) (cond b (others p xs) (x ∷ others p xs)))
        ≡ cond b [] (insertion_of x) ++ insertion_words p xs
    go true = refl
    go false = refl

-- what is in the set afterwards
pub marked_in_lem : (p : Live → Bool) (xs : List Live) (s : List ℕ) → ((x : Live) → p x ≡ true → x.number < length s) → (c : ℕ)
    → in_set (marked_in p s xs) c ≡ any (λ (x : Live). eqb x.number c && p x) xs || in_set s c
unfolding marked_in any
marked_in_lem p [] s below c = refl
marked_in_lem p (x ∷ xs) s below c = go (λ s' h. marked_in_lem p xs s' h c) (p x) refl
  where
    swap : (a b d : Bool) → b || (a || d) ≡ ((a && true) || b) || d
    swap true true d = refl
    swap true false d = refl
    swap false true d = refl
    swap false false d = refl

    plain : (a b d : Bool) → b || d ≡ ((a && false) || b) || d
    plain true b d = refl
    plain false b d = refl

    go : ((s' : List ℕ) → ((y : Live) → p y ≡ true → y.number < length s')
        → in_set (marked_in p s' xs) c ≡ any (λ (y : Live). eqb y.number c && p y) xs || in_set s' c)
        → (b : Bool) → p x ≡ b
        → in_set (marked_in p (cond b (set s x.number 1) s) xs) c
        ≡ ((eqb x.number c && p x) || any (λ (y : Live). eqb y.number c && p y) xs) || in_set s c
    go on true e =
        on (set s x.number 1) (λ y q. omega (arith, below y q, length-set s x.number 1))
        ∙ (rw (put_in s x.number (below x e) c, e) (swap (eqb x.number c) (any (λ (y : Live). eqb y.number c && p y) xs) (in_set s c)))
    go on false e = on s below ∙ (rw e (plain (eqb x.number c) (any (λ (y : Live). eqb y.number c && p y) xs) (in_set s c)))

-- the record at a place that is not refused
module _ (words : List ℕ) (at end : ℕ) (ok : refusal_at words at ≡ 0) (ends : end ≡ min (at + width words at) (length words)) where
  abbrev size : ℕ
  size = (shape (get_or words (at + 1) 0)).marks

  inside : at + 3 + size ≤ length words
  inside = omega (arith, whole_end words at ok end ends)

  cell_marks : length (cell_at words at).body.marks ≡ size
  unfolding cell_at
  cell_marks = part_length words (at + 3) size inside

  -- its words are those of its cell
  pub record_words : (n : ℕ) → n ≡ end - at → 1 ∷ part_of words at n ≡ insertion_of (cell_at words at)
  unfolding cell_at
  record_words n e =
      let q : n ≡ suc (suc (suc size)) = omega (arith, whole_end words at ok end ends) in
      let marks : take size (drop (at + 3) words) ≡ part_of words (at + 3) size = sym (part_fits words (at + 3) size inside) in
      ap (λ (l : List ℕ). 1 ∷ l) (part_fits words at n (omega (arith, inside)) ∙ rw (q, three_words words at (whole_head words at ok), marks))

  pub record_size : (n : ℕ) → n ≡ 1 + (end - at) → n ≡ length (insertion_of (cell_at words at))
  record_size n e = omega (arith, cell_marks, whole_end words at ok end ends)

-- the set stays as long
pub marked_size : {b : Bool} {c n : ℕ} {s : List ℕ} {r : ℕ} {s' : List ℕ} → MarkedRecord b c n s r s' → length s' ≡ length s
marked_size {b} {c} {n} {s} did = ap length did.marks ∙ go b
  where
    go : (t : Bool) → length (cond t (set s c 1) s) ≡ length s
    go true = length-set s c 1
    go false = refl

-- one record, by whether its cell stands
module _ (w : List ℕ) (caps : Caps) (words : List ℕ) (at : ℕ) where
  cell_number_lem : (cell_at words at).number ≡ get_or words at 0
  unfolding cell_at
  cell_number_lem = refl

  module _ (b : Bool) (e : b ≡ stands_in w caps (cell_at words at)) where
    pub mark_yes : b ≡ true → (n c : ℕ) → c ≡ get_or words at 0 → (s s' : List ℕ) → s' ≡ set s c 1
        → MarkedRecord (stands_in w caps (cell_at words at)) (cell_at words at).number n s 0 s'
    mark_yes q n c ec s s' es =
        let here : stands_in w caps (cell_at words at) ≡ true = sym e ∙ q in
        rw here (record { count = refl; marks = es ∙ ap (λ (k : ℕ). set s k 1) (ec ∙ sym cell_number_lem) })

    pub mark_no : b ≡ false → (n : ℕ) (s : List ℕ) → MarkedRecord (stands_in w caps (cell_at words at)) (cell_at words at).number n s n s
    mark_no q n s =
        let here : stands_in w caps (cell_at words at) ≡ false = sym e ∙ q in
        rw here (record { count = refl; marks = refl })

    -- its insertion written, or none
    pub insertion_none : b ≡ true → (n : ℕ) (o : List ℕ) (i : ℕ) → Appended (cond (stands_in w caps (cell_at words at)) [] (1 ∷ part_of words at n)) o i i o
    insertion_none q n o i = let here : stands_in w caps (cell_at words at) ≡ true = sym e ∙ q in rw here (append_none o i)

    pub insertion_one : b ≡ false → (n : ℕ) (l : List ℕ) → l ≡ part_of words at n → {o o₁ o₂ : List ℕ} {i j k : ℕ} → Appended (1 ∷ []) o i j o₁
        → Appended l o₁ j k o₂
        → Appended (cond (stands_in w caps (cell_at words at)) [] (1 ∷ part_of words at n)) o i k o₂
    insertion_one q n l el f g =
        let here : stands_in w caps (cell_at words at) ≡ false = sym e ∙ q in
        rw (here, ← el) (append_more (1 ∷ []) l f g)

-- the records up to a place
pub record Marking (w : List ℕ) (caps : Caps) (words s₀ : List ℕ) (at n : ℕ) (s : List ℕ) : Type 0 where
  pub few : n ≤ 2 * at
  pub short : at ≤ length words
  pub size : length s ≡ length s₀
  pub all : (wanted_of words).refusal ≡ 0
      → ((wanted_of (drop at words)).refusal ≡ 0)
      × (n + length (insertion_words (stands_in w caps) (wanted_of (drop at words)).cells) ≡ length (insertion_words (stands_in w caps) (wanted_of words).cells))
      × (marked_in (stands_in w caps) s (wanted_of (drop at words)).cells ≡ marked_in (stands_in w caps) s₀ (wanted_of words).cells)

pub marking_start : (w : List ℕ) (caps : Caps) (words s : List ℕ) (at n : ℕ) → at ≡ 0 → n ≡ 0 → Marking w caps words s at n s
marking_start w caps words s at n a z =
    rw (a, z) (record { few = omega arith; short = omega arith; size = refl; all = λ ok. (ok, omega arith, refl) })

none_left : (p : Live → Bool) → insertion_words p [] ≡ []
unfolding others edit_words
none_left p = refl

none_marked : (p : Live → Bool) (s : List ℕ) → marked_in p s [] ≡ s
unfolding marked_in
none_marked p s = refl

module _ (w : List ℕ) (caps : Caps) (words s₀ : List ℕ) (at n : ℕ) (s : List ℕ) (g : Marking w caps words s₀ at n s) where
  -- no words left
  pub marking_done : length words ≤ at → Marked w caps words s₀ n s
  marking_done h =
      let rest : (wanted_of (drop at words)).cells ≡ [] =
      ap (λ (l : List ℕ). (wanted_of l).cells) (drop_of_length-le words {i = at} h) ∙ ap (λ (x : Wanted). x.cells) wanted_end in
      record {
        few = omega (arith, g.few, g.short);
        size = g.size;
        all = λ ok.
            let r = g.all ok in (
              omega (arith, r.1, ap length (ap (insertion_words (stands_in w caps)) rest ∙ none_left (stands_in w caps))),
              sym (ap (marked_in (stands_in w caps) s) rest ∙ none_marked (stands_in w caps) s) ∙ r.2,
            );
      }

  module _ (more : at < length words) (end : ℕ) (ends : end ≡ min (at + width words at) (length words)) where
    pub marking_few : (k r : ℕ) (s' : List ℕ) → k ≡ 1 + (end - at) → MarkedRecord (stands_in w caps (cell_at words at)) (cell_at words at).number k s r s'
        → (n + r ≤ 2 * end) × (end ≤ length words)
    marking_few k r s' e did = (omega (arith, g.few, end_more words at end ends more, least (stands_in w caps (cell_at words at)) did.count), omega arith)
      where
        least : (b : Bool) → r ≡ cond b 0 k → r ≤ k
        least true q = omega arith
        least false q = omega arith

    pub marking_next : (k r : ℕ) (s' : List ℕ) → k ≡ 1 + (end - at) → MarkedRecord (stands_in w caps (cell_at words at)) (cell_at words at).number k s r s'
        → (n' : ℕ) → n' ≡ n + r → Marking w caps words s₀ end n' s'
    unfolding marked_in
    marking_next k r s' e did n' en = record {
      few = omega (arith, (marking_few k r s' e did).0);
      short = (marking_few k r s' e did).1;
      size = marked_size did ∙ g.size;
      all = λ ok.
          let old = g.all ok in
          let whole : refusal_at words at ≡ 0 = no_refusal words at more old.0 in
          let here : wanted_of (drop at words) ≡ before (cell_at words at) (wanted_of (drop end words)) = record_at words at whole end ends in
          let cells : (wanted_of (drop at words)).cells ≡ cell_at words at ∷ (wanted_of (drop end words)).cells = ap (λ (x : Wanted). x.cells) here in (
            sym (ap (λ (x : Wanted). x.refusal) here) ∙ old.0,
            omega (
              arith,
              old.1,
              counted (stands_in w caps (cell_at words at)) did.count (record_size words at end whole ends k e),
              ap (λ (l : List Live). length (insertion_words (stands_in w caps) l)) cells,
              ap length (insertions_first (stands_in w caps) (cell_at words at) (wanted_of (drop end words)).cells),
              length-append (cond (stands_in w caps (cell_at words at)) [] (insertion_of (cell_at words at)))
                  (insertion_words (stands_in w caps) (wanted_of (drop end words)).cells),
            ),
            ap (λ (l : List ℕ). marked_in (stands_in w caps) l (wanted_of (drop end words)).cells) did.marks
                ∙ (sym (ap (marked_in (stands_in w caps) s) cells) ∙ old.2),
          );
    }
      where
        counted : (b : Bool) → r ≡ cond b 0 k → k ≡ length (insertion_of (cell_at words at)) → r ≡ length (cond b [] (insertion_of (cell_at words at)))
        counted true q z = q
        counted false q z = q ∙ z

-- the insertions of the records up to a place, written
pub record Inserting (w : List ℕ) (caps : Caps) (words o : List ℕ) (at from next : ℕ) (out : List ℕ) : Type 0 where
  pub list : List ℕ
  pub appended : Appended list o at next out
  pub all : (wanted_of words).refusal ≡ 0
      → ((wanted_of (drop from words)).refusal ≡ 0)
      × (list ++ insertion_words (stands_in w caps) (wanted_of (drop from words)).cells ≡ insertion_words (stands_in w caps) (wanted_of words).cells)

pub inserting_start : (w : List ℕ) (caps : Caps) (words o : List ℕ) (at from : ℕ) → from ≡ 0 → Inserting w caps words o at from at o
inserting_start w caps words o at from z = rw z (record { list = []; appended = append_none o at; all = λ ok. (ok, refl) })

module _ (w : List ℕ) (caps : Caps) (words o : List ℕ) (at from next : ℕ) (out : List ℕ) (g : Inserting w caps words o at from next out) where
  pub inserting_done : length words ≤ from → Inserted w caps words o at next out
  inserting_done h =
      let rest : (wanted_of (drop from words)).cells ≡ [] =
      ap (λ (l : List ℕ). (wanted_of l).cells) (drop_of_length-le words {i = from} h) ∙ ap (λ (x : Wanted). x.cells) wanted_end in
      record {
        words = g.list;
        appended = g.appended;
        all = λ ok.
            sym (append-nil g.list)
            ∙ (sym (ap (λ (l : List ℕ). g.list ++ l) (ap (insertion_words (stands_in w caps)) rest ∙ none_left (stands_in w caps))) ∙ (g.all ok).1);
      }

  pub inserting_next : from < length words → (end : ℕ) → end ≡ min (from + width words from) (length words) → (n : ℕ) → n ≡ end - from
      → (r : ℕ) (out' : List ℕ) → Appended (cond (stands_in w caps (cell_at words from)) [] (1 ∷ part_of words from n)) out next r out'
      → Inserting w caps words o at end r out'
  inserting_next more end ends n e r out' did =
      let b : Bool = stands_in w caps (cell_at words from) in
      let piece : List ℕ = cond (stands_in w caps (cell_at words from)) [] (1 ∷ part_of words from n) in
      record {
        list = g.list ++ piece;
        appended = append_more g.list piece g.appended did;
        all = λ ok.
            let old = g.all ok in
            let whole : refusal_at words from ≡ 0 = no_refusal words from more old.0 in
            let here : wanted_of (drop from words) ≡ before (cell_at words from) (wanted_of (drop end words)) = record_at words from whole end ends in
            let cells : (wanted_of (drop from words)).cells ≡ cell_at words from ∷ (wanted_of (drop end words)).cells = ap (λ (x : Wanted). x.cells) here in
            let rest : List ℕ = insertion_words (stands_in w caps) (wanted_of (drop end words)).cells in
            let same : piece ≡ cond b [] (insertion_of (cell_at words from)) = ap (λ (l : List ℕ). cond b [] l) (record_words words from end whole ends n e) in (
              sym (ap (λ (x : Wanted). x.refusal) here) ∙ old.0,
              append_assoc g.list piece rest
                  ∙ (ap (λ (l : List ℕ). g.list ++ (l ++ rest)) same
                  ∙ (sym (ap (λ (l : List ℕ). g.list ++ l)
                  (ap (insertion_words (stands_in w caps)) cells ∙ insertions_first (stands_in w caps) (cell_at words from) (wanted_of (drop end words)).cells))
                  ∙ old.1)),
            );
      }
