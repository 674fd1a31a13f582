-- Each query from its checks and the word that it reads.
use mathlib.Core.Path.{◌≡◌, refl, sym, ap, ◌∙◌}
use mathlib.Core.Bool.{Bool, true, false, cond}
use lib.Dec.{eqb}
use borrow.Author.Tests.{eqb-true, eqb-false}
use mathlib.Core.List.{List, [], ◌∷◌}
use Prim.Native.Nat.{ℕ, suc, ◌-◌, ◌/◌, ◌%◌, ◌<◌}
use native.Mathlib.Omega.{arith}
use lib.ListN.{length, take}
use Rattle.lists.proofs.Bools.{not_true_false}
use Rattle.numbers.specs.declared.Half.{Half}
use Rattle.numbers.specs.Half.{cut, half_of}
use Rattle.numbers.specs.declared.Caps.{Caps}
use Rattle.std.specs.Prelude.{Result, ⊤, Ok, Err, Some, None}
use Rattle.store.specs.Fields.{Count, Anchor}
use Rattle.store.specs.Slots.{InHead, InMark, read, code_in, licence_in, sibling_in, way_in}
use Rattle.store.specs.Open.{opened}
use Rattle.map.specs.Cells.{Map, cells_of}
use Rattle.map.specs.Siblings.{sibling, border}
use Rattle.map.specs.declared.Way.{Way}
use Rattle.map.specs.Ways.{way_number, way}
use Rattle.map.specs.Stars.{anchors}
use Rattle.map.specs.Answers.{answer, cell_checks, half_checks, star_checks, type_checks, type_answer, licence_answer, sibling_answer, border_answer, first_anchor_answer, count_answer, edition_answer, step_answer}
use Rattle.map.specs.Free.{capacities_answer}
use Rattle.map.specs.Says.{given, value_says, pair_says, half_says, truth_says, found_says}
use Rattle.map.specs.declared.Refusal.{Refusal}
use Rattle.map.specs.declared.Refusal.TheVariants.{NotMesh}
use Rattle.laws.proofs.Cycles.{border_self, self_border}
use Rattle.picture.specs.State.{next}
use Rattle.picture.specs.Picture.{Wf}
use Rattle.checks.specs.Checked.{Checked}
use Rattle.checks.specs.Opening.{Opens}
use Rattle.checks.proofs.Rows.{cells_of_lem, code_of, licence_of}
use Rattle.checks.proofs.Passed.{cell_numbered, half_numbered, star_numbered, type_numbered, cell_passed, half_passed, star_passed, type_passed}
use Rattle.ask.specs.Asked.{Asked}
use Rattle.ask.specs.Steps.{step_says}
use Rattle.ask.specs.Refusals.{no_value, no_pair, no_half, no_truth, no_found, no_step}
use Rattle.ask.proofs.Asks.{asked_refused, asked_given, mesh_given}
use Rattle.ask.proofs.Words.{half_is, uncut_is, sibling_is, way_is, anchor_is, count_is}

-- a first as number + 1
next_none : (l : List ℕ) → next l ≡ 0 → take 1 l ≡ []
unfolding next
next_none [] e = refl
next_none (x ∷ xs) e = absurd (omega arith)

next_some : (l : List ℕ) (h : ℕ) → next l ≡ suc h → take 1 l ≡ h ∷ []
unfolding next
next_some [] h e = absurd (omega arith)
next_some (x ∷ xs) h e = let q : x ≡ h = omega arith in rw q

-- refused by what opens the query
module _ (w : List ℕ) (c : ℕ) where
  pub type_refused : (opening : Result Caps Refusal) → Opens w (λ m. cell_checks m c) opening → (why : Refusal) → opening ≡ Err why
      → Asked value_says no_value w (λ m. type_answer m c) (Err why)
  unfolding type_answer value_says
  type_refused = asked_refused value_says w (λ m. cell_checks m c) (λ m. (m.at c).code ∷ []) Err (λ why. refl)

  pub licence_refused : (opening : Result Caps Refusal) → Opens w (λ m. cell_checks m c) opening → (why : Refusal) → opening ≡ Err why
      → Asked value_says no_value w (λ m. licence_answer m c) (Err why)
  unfolding licence_answer value_says
  licence_refused = asked_refused value_says w (λ m. cell_checks m c) (λ m. (m.at c).licence ∷ []) Err (λ why. refl)

module _ (w : List ℕ) (c f : ℕ) where
  pub sibling_refused : (opening : Result Caps Refusal) → Opens w (λ m. half_checks m c f) opening → (why : Refusal) → opening ≡ Err why
      → Asked half_says no_half w (λ m. sibling_answer m c f) (Err why)
  unfolding sibling_answer half_says
  sibling_refused = asked_refused half_says w (λ m. half_checks m c f) (λ m. sibling m (half_of c f) ∷ way_number (way m (half_of c f)) ∷ []) Err (λ why. refl)

  pub border_refused : (opening : Result Caps Refusal) → Opens w (λ m. half_checks m c f) opening → (why : Refusal) → opening ≡ Err why
      → Asked truth_says no_truth w (λ m. border_answer m c f) (Err why)
  unfolding border_answer truth_says
  border_refused = asked_refused truth_says w (λ m. half_checks m c f) (λ m. cond (border m (half_of c f)) 1 0 ∷ []) Err (λ why. refl)

module _ (w : List ℕ) (d v : ℕ) where
  pub anchor_refused : (opening : Result Caps Refusal) → Opens w (λ m. star_checks m d v) opening → (why : Refusal) → opening ≡ Err why
      → Asked found_says no_found w (λ m. first_anchor_answer m d v) (Err why)
  unfolding first_anchor_answer found_says
  anchor_refused = asked_refused found_says w (λ m. star_checks m d v) (λ m. take 1 (anchors m d v)) Err (λ why. refl)

module _ (w : List ℕ) (t : ℕ) where
  pub count_refused : (opening : Result Caps Refusal) → Opens w (λ m. type_checks t) opening → (why : Refusal) → opening ≡ Err why
      → Asked value_says no_value w (λ m. count_answer m t) (Err why)
  unfolding count_answer value_says
  count_refused = asked_refused value_says w (λ m. type_checks t) (λ m. length (cells_of m t) ∷ []) Err (λ why. refl)

-- the edition and the capacities: what the head gives
module _ (w : List ℕ) where
  pub edition_given : (caps : Caps) → Ok caps ≡ opened w → Asked value_says no_value w edition_answer (Ok caps.edition)
  unfolding edition_answer answer value_says given
  edition_given caps opens =
      mesh_given value_says no_value w edition_answer caps opens (Ok caps.edition) (λ m e wf. ap (λ (c : Caps). given (c.edition ∷ [])) (sym e))

  pub capacities_given : (caps : Caps) → Ok caps ≡ opened w → Asked pair_says no_pair w capacities_answer (Ok (caps.marks, caps.cells))
  unfolding capacities_answer answer pair_says given
  capacities_given caps opens =
      mesh_given pair_says no_pair w capacities_answer caps opens (Ok (caps.marks, caps.cells))
      (λ m e wf. ap (λ (c : Caps). given (c.marks ∷ c.cells ∷ [])) (sym e))

module _ (w : List ℕ) (caps : Caps) (opens : Ok caps ≡ opened w) (verdict : Result ⊤ Refusal) where
  module _ (c : ℕ) (checked : Checked w caps (λ m. cell_checks m c) verdict) where
    pub type_given : verdict ≡ (Ok tt) → (t : ℕ) → t ≡ code_in w caps c → Asked value_says no_value w (λ m. type_answer m c) (Ok t)
    unfolding type_answer value_says
    type_given v t word =
        asked_given value_says w (λ m. cell_checks m c) (λ m. (m.at c).code ∷ []) no_value caps opens (Ok t) verdict checked v (λ m. cell_numbered m c)
        (λ m e wf.
        let below : c < caps.cells = omega (arith, (cell_passed w caps verdict v m e wf c checked).0, cells_of_lem caps m e) in
        ap (λ (n : ℕ). given (n ∷ [])) (word ∙ code_of caps m e w wf c below))

    pub licence_given : verdict ≡ (Ok tt) → (x : ℕ) → x ≡ licence_in w caps c → Asked value_says no_value w (λ m. licence_answer m c) (Ok x)
    unfolding licence_answer value_says
    licence_given v x word =
        asked_given value_says w (λ m. cell_checks m c) (λ m. (m.at c).licence ∷ []) no_value caps opens (Ok x) verdict checked v (λ m. cell_numbered m c)
        (λ m e wf.
        let below : c < caps.cells = omega (arith, (cell_passed w caps verdict v m e wf c checked).0, cells_of_lem caps m e) in
        ap (λ (n : ℕ). given (n ∷ [])) (word ∙ licence_of caps m e w wf c below))

  module _ (c f : ℕ) (checked : Checked w caps (λ m. half_checks m c f) verdict) where
    module _ (v : verdict ≡ (Ok tt)) (y : ℕ) (half : y ≡ half_of (cut c) (f % 8)) (h : Half) (word : h.0 ≡ sibling_in w caps y) where
      -- the half-facet that was asked for
      place : (m : Map) (e : m.caps ≡ caps) (wf : Wf w m) → y ≡ half_of c f
      place m e wf =
          let p = half_passed w caps verdict v m e wf c f checked in
          half ∙ uncut_is w caps m e wf c f p.0 p.2

      led : (m : Map) (e : m.caps ≡ caps) (wf : Wf w m) → h.0 ≡ sibling m (half_of c f)
      led m e wf =
          let p = half_passed w caps verdict v m e wf c f checked in
          word ∙ (ap (sibling_in w caps) (place m e wf) ∙ sibling_is w caps m e wf c f p.0 p.2)

      pub sibling_given : (x : Way) → x ≡ way_in w caps y → Asked half_says no_half w (λ m. sibling_answer m c f) (Ok (h, x))
      unfolding sibling_answer half_says
      sibling_given x told =
          asked_given half_says w (λ m. half_checks m c f) (λ m. sibling m (half_of c f) ∷ way_number (way m (half_of c f)) ∷ []) no_half caps opens
          (Ok (h, x)) verdict checked v (λ m. half_numbered m c f)
          (λ m e wf.
          let p = half_passed w caps verdict v m e wf c f checked in
          let ran : x ≡ way m (half_of c f) = told ∙ (ap (way_in w caps) (place m e wf) ∙ way_is w caps m e wf c f p.0 p.2) in
          rw (led m e wf, ran))

      -- its own sibling: a border
      pub border_yes : h.0 ≡ y → Asked truth_says no_truth w (λ m. border_answer m c f) (Ok true)
      unfolding border_answer truth_says
      border_yes same =
          asked_given truth_says w (λ m. half_checks m c f) (λ m. cond (border m (half_of c f)) 1 0 ∷ []) no_truth caps opens (Ok true) verdict checked v
          (λ m. half_numbered m c f)
          (λ m e wf.
          let p = half_passed w caps verdict v m e wf c f checked in
          let own : sibling m (half_of c f) ≡ half_of c f = sym (led m e wf) ∙ (same ∙ place m e wf) in
          rw (self_border m (half_of c f) (half_is w caps m e wf c f p.0 p.2) own))

      pub border_no : (h.0 ≡ y → ⊥) → Asked truth_says no_truth w (λ m. border_answer m c f) (Ok false)
      unfolding border_answer truth_says
      border_no other =
          asked_given truth_says w (λ m. half_checks m c f) (λ m. cond (border m (half_of c f)) 1 0 ∷ []) no_truth caps opens (Ok false) verdict checked v
          (λ m. half_numbered m c f)
          (λ m e wf.
          let p = half_passed w caps verdict v m e wf c f checked in
          let none : border m (half_of c f) ≡ false = not_true_false (border m (half_of c f)) (λ b.
          other (led m e wf ∙ (border_self m (half_of c f) (half_is w caps m e wf c f p.0 p.2) b ∙ sym (place m e wf)))) in
          rw none)

      pub border_given : Asked truth_says no_truth w (λ m. border_answer m c f) (Ok (eqb h.0 y))
      border_given = go (eqb h.0 y) refl
        where
          go : (b : Bool) → eqb h.0 y ≡ b → Asked truth_says no_truth w (λ m. border_answer m c f) (Ok b)
          go true e = border_yes (eqb-true h.0 y e)
          go false e = border_no (eqb-false h.0 y e)

  module _ (d v : ℕ) (checked : Checked w caps (λ m. star_checks m d v) verdict) where
    module _ (ok : verdict ≡ (Ok tt)) (x : ℕ) (word : x ≡ read w caps (InMark v (Anchor d))) where
      first_word : (m : Map) (e : m.caps ≡ caps) (wf : Wf w m) → x ≡ next (anchors m d v)
      first_word m e wf =
          let p = star_passed w caps verdict ok m e wf d v checked in
          word ∙ anchor_is w caps m e wf d v p.0 p.1 p.2

      pub anchor_none : x ≡ 0 → Asked found_says no_found w (λ m. first_anchor_answer m d v) (Ok None)
      unfolding first_anchor_answer found_says
      anchor_none z =
          asked_given found_says w (λ m. star_checks m d v) (λ m. take 1 (anchors m d v)) no_found caps opens (Ok None) verdict checked ok
          (λ m. star_numbered m d v) (λ m e wf. ap given (sym (next_none (anchors m d v) (sym (first_word m e wf) ∙ z))))

      pub anchor_found : (x ≡ 0 → ⊥) → (h : Half) → h.0 ≡ x - 1 → Asked found_says no_found w (λ m. first_anchor_answer m d v) (Ok (Some h))
      unfolding first_anchor_answer found_says
      anchor_found some h q =
          asked_given found_says w (λ m. star_checks m d v) (λ m. take 1 (anchors m d v)) no_found caps opens (Ok (Some h)) verdict checked ok
          (λ m. star_numbered m d v)
          (λ m e wf. ap given (sym (next_some (anchors m d v) h.0 (sym (first_word m e wf) ∙ omega arith))))

  module _ (t : ℕ) (checked : Checked w caps (λ m. type_checks t) verdict) where
    pub count_given : verdict ≡ (Ok tt) → (x : ℕ) → x ≡ read w caps (InHead (Count t)) → Asked value_says no_value w (λ m. count_answer m t) (Ok x)
    unfolding count_answer value_says
    count_given ok x word =
        asked_given value_says w (λ m. type_checks t) (λ m. length (cells_of m t) ∷ []) no_value caps opens (Ok x) verdict checked ok
        (λ m. type_numbered t)
        (λ m e wf. ap (λ (n : ℕ). given (n ∷ [])) (word ∙ count_is w caps m e wf t (type_passed w caps verdict ok m e wf t checked)))

-- a walker's step is the sibling of its place
module _ (w : List ℕ) (h c f : ℕ) (r : Result (Half × Way) Refusal) (cell : c ≡ h / 8) (facet : f ≡ h % 8)
    (asked : Asked half_says no_half w (λ m. sibling_answer m c f) r) where
  same_place : (m : Map) → sibling_answer m c f ≡ step_answer m h
  unfolding step_answer
  same_place m = rw (cell, facet)

  pub step_refused : (why : Refusal) → r ≡ Err why → Asked step_says no_step w (λ m. step_answer m h) (Err why)
  unfolding step_says half_says
  step_refused why q = record {
    refused = λ no. let same : Err why ≡ Err NotMesh = sym q ∙ asked.refused no in cc;
    answers = λ m wf. ap half_says (sym q) ∙ (asked.answers m wf ∙ same_place m);
  }

  pub step_next : (k : Half) (x : Way) → r ≡ Ok (k, x) → Asked step_says no_step w (λ m. step_answer m h) (Ok ((record { 0 = k }), x))
  unfolding step_says half_says
  step_next k x q = record {
    refused = λ no. absurd (never k x (sym q ∙ asked.refused no));
    answers = λ m wf. ap half_says (sym q) ∙ (asked.answers m wf ∙ same_place m);
  }
    where
      never : (k : Half) (x : Way) → ◌≡◌ {A = Result (Half × Way) Refusal} (Ok (k, x)) (Err NotMesh) → ⊥
      never k x e = let z : ◌≡◌ {A = ℕ} 0 1 = cc in omega arith
