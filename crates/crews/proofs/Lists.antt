-- Two lists of edits of two crews, each made in turn up to its first refusal: in either order they are answered alike and leave one map.
use mathlib.Core.Path.{◌≡◌, refl, sym, ap, ap₂, ◌∙◌}
use mathlib.Core.Bool.{true, false}
use mathlib.Core.List.{List, [], ◌∷◌, ◌++◌, append-nil}
use Prim.Native.Nat.{ℕ}
use native.Mathlib.Decide.{ℕ_discrete}
use borrow.Author.Tests.{eq-eqb, eqb-true, eqb-false}
use lib.Dec.{eqb}
use Rattle.lists.specs.Lists.{has}
use Rattle.lists.proofs.Bools.{clash, not_true_false, or_left, or_right}
use Rattle.lists.proofs.Counts.{neither}
use Rattle.lists.proofs.Members.{has_append, has_one}
use Rattle.map.specs.Cells.{Map}
use Rattle.map.specs.Answers.{Answer}
use Rattle.map.specs.History.{Edit, Insert, Remove, cell_of, edit_answer, changed, edited}
use Rattle.map.specs.Morning.{Morning, one_more, in_turn}
use Rattle.map.specs.Sound.{Sound}
use Rattle.laws.proofs.Edits.{edited_changed}
use Rattle.laws.proofs.Histories.{sound_edited}
use Rattle.edits.proofs.Wellformed.{turn_made, turn_refused}
use Rattle.crews.specs.Crews.{crew_marks, TwoCrews, numbers_of, list_marks, TwoLists}
use Rattle.crews.proofs.Answered.{answer_kept}
use Rattle.crews.proofs.Swapped.{crews_swap, edited_other, edited_swap}

-- the marks of an edit's cell are the same after an edit of the other crew
marks_kept : (m : Map) → Sound m → (a b : Edit) → TwoCrews m a b → crew_marks (edited m b) a ≡ crew_marks m a
unfolding crew_marks
marks_kept m s (Insert c x) b crews = refl
marks_kept m s (Remove c) b crews = rw (answer_kept m s (Remove c) b crews, edited_other m b c (λ z. crews.numbers (sym z)))

-- each edit of the list is of another crew than f
record Beside (m : Map) (es : List Edit) (f : Edit) : Type 0 where
  number : has (cell_of f) (numbers_of es) ≡ false
  marks : (v : ℕ) → has v (list_marks m es) ≡ true → has v (crew_marks m f) ≡ false

module _ (m : Map) (s : Sound m) (e : Edit) (es : List Edit) (f : Edit) (b : Beside m (e ∷ es) f) where
  -- so the first
  beside_first : TwoCrews m e f
  unfolding list_marks has
  beside_first = record {
    numbers = eqb-false _ _ (neither (eqb (cell_of e) (cell_of f)) _ b.number).0;
    marks = λ v h. b.marks v (has_append v (crew_marks m e) (list_marks (edited m e) es) ∙ or_left _ _ h);
  }

  -- and behind it the rest
  beside_rest : Beside (edited m e) es f
  unfolding list_marks has
  beside_rest = record {
    number = (neither (eqb (cell_of e) (cell_of f)) _ b.number).1;
    marks = λ v h.
        ap (has v) (marks_kept m s f e (crews_swap beside_first))
        ∙ b.marks v (has_append v (crew_marks m e) (list_marks (edited m e) es) ∙ or_right (has v (crew_marks m e)) _ h);
  }

-- the marks of the list's cells are the same behind f
list_kept : (m : Map) → Sound m → (es : List Edit) (f : Edit) → Beside m es f → list_marks (edited m f) es ≡ list_marks m es
unfolding list_marks
list_kept m s [] f b = refl
list_kept m s (e ∷ es) f b =
    let crews = beside_first m s e es f b in
    ap₂ ◌++◌ (marks_kept m s e f crews)
    (ap (λ (k : Map). list_marks k es) (sym (edited_swap m s e f crews)) ∙ list_kept (edited m e) (sound_edited m s e) es f (beside_rest m s e es f b))

-- a morning, and f behind it
abbrev then_edit : Morning → Edit → Morning
then_edit x f = record { made = x.made; refusal = x.refusal; map = edited x.map f }

-- an accepted edit of a list, as `edited`
turn_edited : (m : Map) (e : Edit) (es : List Edit) (last : ℕ) → (edit_answer m e).refusal ≡ 0 → in_turn m (e ∷ es) last ≡ one_more (in_turn (edited m e) es last)
turn_edited m e es last ok = turn_made m e es last ok ∙ ap (λ (k : Map). one_more (in_turn k es last)) (sym (edited_changed m e ok))

-- a refused one
turn_stopped : (m : Map) (e : Edit) (es : List Edit) (last : ℕ) → ((edit_answer m e).refusal ≡ 0 → ⊥)
    → in_turn m (e ∷ es) last ≡ record { made = 0; refusal = (edit_answer m e).refusal; map = m }
turn_stopped m e es last f = turn_refused m e es last (edit_answer m e).refusal refl f

module _ (last : ℕ) where
  -- f is answered alike before and after the list
  answer_past : (m : Map) → Sound m → (es : List Edit) (f : Edit) → Beside m es f → edit_answer (in_turn m es last).map f ≡ edit_answer m f
  unfolding in_turn
  answer_past m s [] f b = refl
  answer_past m s (e ∷ es) f b =
      go (answer_past (edited m e) (sound_edited m s e) es f (beside_rest m s e es f b)) (ℕ_discrete (edit_answer m e).refusal 0)
    where
      go : edit_answer (in_turn (edited m e) es last).map f ≡ edit_answer (edited m e) f → Dec ((edit_answer m e).refusal ≡ 0)
          → edit_answer (in_turn m (e ∷ es) last).map f ≡ edit_answer m f
      go rest (yes ok) =
          ap (λ (x : Morning). edit_answer x.map f) (turn_edited m e es last ok)
          ∙ (rest ∙ answer_kept m s f e (crews_swap (beside_first m s e es f b)))
      go rest (no why) = ap (λ (x : Morning). edit_answer x.map f) (turn_stopped m e es last why)

  -- behind f the list is answered as before it, and leaves the map that f leaves behind the list
  turns_past : (m : Map) → Sound m → (es : List Edit) (f : Edit) → Beside m es f → in_turn (edited m f) es last ≡ then_edit (in_turn m es last) f
  unfolding in_turn
  turns_past m s [] f b = refl
  turns_past m s (e ∷ es) f b =
      go (turns_past (edited m e) (sound_edited m s e) es f (beside_rest m s e es f b)) (ℕ_discrete (edit_answer m e).refusal 0)
    where
      crews : TwoCrews m e f
      crews = beside_first m s e es f b

      same : (edit_answer (edited m f) e).refusal ≡ (edit_answer m e).refusal
      same = ap (λ (a : Answer). a.refusal) (answer_kept m s e f crews)

      go : in_turn (edited (edited m e) f) es last ≡ then_edit (in_turn (edited m e) es last) f → Dec ((edit_answer m e).refusal ≡ 0)
          → in_turn (edited m f) (e ∷ es) last ≡ then_edit (in_turn m (e ∷ es) last) f
      go rest (yes ok) =
          turn_edited (edited m f) e es last (same ∙ ok)
          ∙ (ap (λ (k : Map). one_more (in_turn k es last)) (sym (edited_swap m s e f crews))
          ∙ (ap one_more rest
          ∙ sym (ap (λ (x : Morning). then_edit x f) (turn_edited m e es last ok))))
      go rest (no why) =
          turn_stopped (edited m f) e es last (λ z. why (sym same ∙ z))
          ∙ (ap (λ (n : ℕ). record { made = 0; refusal = n; map = edited m f }) same ∙ sym (ap (λ (x : Morning). then_edit x f) (turn_stopped m e es last why)))

module _ (m : Map) (s : Sound m) (es : List Edit) (f : Edit) (fs : List Edit) (t : TwoLists m es (f ∷ fs)) where
  -- the first list is of another crew than each of the second
  lists_first : Beside m es f
  unfolding list_marks has
  lists_first = record {
    number = not_true_false _ (λ h. clash (or_left _ _ (eq-eqb (cell_of f) (cell_of f) refl)) (t.numbers (cell_of f) h));
    marks = λ v h. (neither (has v (crew_marks m f)) _ (sym (has_append v (crew_marks m f) (list_marks (edited m f) fs)) ∙ t.marks v h)).0;
  }

  -- and behind f than the rest
  lists_rest : TwoLists (edited m f) es fs
  unfolding list_marks has
  lists_rest = record {
    numbers = λ c h. (neither (eqb (cell_of f) c) _ (t.numbers c h)).1;
    marks = λ v h.
        (neither (has v (crew_marks m f)) _
        (sym (has_append v (crew_marks m f) (list_marks (edited m f) fs)) ∙ t.marks v (ap (has v) (sym (list_kept m s es f lists_first)) ∙ h))).1;
  }

-- a morning with another map left
abbrev pub leaving : Morning → Map → Morning
leaving x m = record { made = x.made; refusal = x.refusal; map = m }

module _ (last last' : ℕ) where
  -- behind the second list the first is answered as before it, and leaves the map that the second leaves behind the first
  pub lists_past : (m : Map) → Sound m → (es fs : List Edit) → TwoLists m es fs
      → in_turn (in_turn m fs last').map es last ≡ leaving (in_turn m es last) (in_turn (in_turn m es last).map fs last').map
  unfolding in_turn
  lists_past m s es [] t = refl
  lists_past m s es (f ∷ fs) t =
      go (lists_past (edited m f) (sound_edited m s f) es fs (lists_rest m s es f fs t)) (ℕ_discrete (edit_answer m f).refusal 0)
    where
      b : Beside m es f
      b = lists_first m s es f fs t

      left : Map
      left = (in_turn m es last).map

      same : (edit_answer left f).refusal ≡ (edit_answer m f).refusal
      same = ap (λ (a : Answer). a.refusal) (answer_past last m s es f b)

      go : in_turn (in_turn (edited m f) fs last').map es last
          ≡ leaving (in_turn (edited m f) es last) (in_turn (in_turn (edited m f) es last).map fs last').map
          → Dec ((edit_answer m f).refusal ≡ 0)
          → in_turn (in_turn m (f ∷ fs) last').map es last ≡ leaving (in_turn m es last) (in_turn left (f ∷ fs) last').map
      go rest (yes ok) =
          ap (λ (x : Morning). in_turn x.map es last) (turn_edited m f fs last' ok)
          ∙ (rest
          ∙ (ap (λ (x : Morning). leaving x (in_turn x.map fs last').map) (turns_past last m s es f b)
          ∙ sym (ap (λ (x : Morning). leaving (in_turn m es last) x.map) (turn_edited left f fs last' (same ∙ ok)))))
      go rest (no why) =
          ap (λ (x : Morning). in_turn x.map es last) (turn_stopped m f fs last' why)
          ∙ sym (ap (λ (x : Morning). leaving (in_turn m es last) x.map) (turn_stopped left f fs last' (λ z. why (sym same ∙ z))))

-- the lists are those of two crews either way round
pub lists_swap : {m : Map} {es fs : List Edit} → TwoLists m es fs → TwoLists m fs es
lists_swap t = record {
  numbers = λ c h. not_true_false _ (λ z. clash h (t.numbers c z));
  marks = λ v h. not_true_false _ (λ z. clash h (t.marks v z));
}

-- an edit of one crew and one of the other, each as a list
pub lists_of_one : {m : Map} {a b : Edit} → TwoCrews m a b → TwoLists m (a ∷ []) (b ∷ [])
unfolding list_marks has
lists_of_one {m} {a} {b} crews = record {
  numbers = λ c h. not_true_false _ (λ z. crews.numbers (here (cell_of a) c h ∙ sym (here (cell_of b) c z)));
  marks = λ v h. ap (has v) (append-nil (crew_marks m b)) ∙ crews.marks v (sym (ap (has v) (append-nil (crew_marks m a))) ∙ h);
}
  where
    here : (k c : ℕ) → has c (k ∷ []) ≡ true → k ≡ c
    here k c h = eqb-true k c (sym (has_one c k) ∙ h)
