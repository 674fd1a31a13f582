-- A removal, step by step.
use mathlib.Core.Path.{◌≡◌, refl, sym, ap, ◌∙◌, subst}
use mathlib.Core.List.{List, []}
use mathlib.Core.Bool.{Bool, true, false}
use Prim.Native.Nat.{ℕ, suc, ◌+◌, ◌-◌, ◌<◌, ◌≤◌}
use native.Mathlib.Omega.{arith}
use lib.Dec.{ltb}
use lib.ListN.{get_or, length, take}
use lib.Seq.{take_all}
use Rattle.lists.specs.Filled.{Filled}
use Rattle.lists.specs.Lists.{list_of}
use Rattle.lists.proofs.Fill.{filled_take, list_of_take}
use Rattle.lists.proofs.Bools.{clash}
use Rattle.words.specs.Words.{part_of}
use Rattle.words.proofs.Fits.{part_fits}
use Rattle.words.proofs.Frame.{only_none, only_then}
use Rattle.shapes.specs.Shapes.{shape}
use Rattle.shapes.specs.Table.{table}
use Rattle.numbers.specs.declared.Caps.{Caps}
use Rattle.store.specs.Fields.{Count}
use Rattle.store.specs.Slots.{InHead, read, code_in}
use Rattle.shapes.specs.Sizes.{most_marks, most_code}
use Rattle.shapes.proofs.Facts.{facts}
use Rattle.map.specs.Cells.{body_of, Map, no_cell, cells_of}
use Rattle.map.specs.Answers.{answer, cell_checks}
use Rattle.map.specs.History.{Edit, Remove, edit_answer, changed}
use Rattle.laws.proofs.Edits.{MayRemove, may_remove}
use Rattle.laws.proofs.Counted.{count_remove}
use Rattle.picture.specs.State.{State, state_of}
use Rattle.picture.specs.Picture.{Pic, Wf}
use Rattle.picture.specs.Changes.{with_body, with_count}
use Rattle.picture.specs.Writes.{MayWrite}
use Rattle.picture.specs.Step.{Step}
use Rattle.picture.proofs.Settles.{wf_pic}
use Rattle.chain.specs.Chain.{Inside}
use Rattle.chain.proofs.Inner.{wf_inside}
use Rattle.facet.specs.Facet.{marks_in}
use Rattle.facet.proofs.Read.{marks_is}
use Rattle.checks.proofs.Rows.{cells_of_lem, code_of}
use Rattle.mend.specs.Settle.{MaySettle, settled}
use Rattle.edit.specs.Edit.{with_links, MayLinks, Made}
use Rattle.edit.specs.Cleared.{cleared}
use Rattle.edit.proofs.Removes.{may_links, may_write, may_settle, may_count, removed}
use Rattle.mesh.specs.Edited.{TakenOut}
use Rattle.mesh.proofs.Inserting.{type_count}
use Rattle.store.specs.Layout.{near_marks}

-- the answer of a removal is that of its checks
pub remove_says : (m : Map) (c : ℕ) → edit_answer m (Remove c) ≡ answer (cell_checks m c) []
unfolding edit_answer
remove_says m c = refl

module _ (caps : Caps) (c t : ℕ) (marks : List ℕ) (rows : List (List (List ℕ))) (types : rows ≡ table) (w : List ℕ) (count : ℕ) (word : count ≡ read w caps (InHead (Count t))) where
  -- no live cell of the type: then the cell is none
  pub remove_none : count ≡ 0 → TakenOut caps w w c t marks
  remove_none z = record {
    inside = only_none;
    wf = λ m e wf ok q h.
        let r = may_remove m c ok in
        let a = may_count m wf.sound c r in
        let n = (type_count w caps m e wf (m.at c).code a.0 a.1).0 in
        let same : read w caps (InHead (Count t)) ≡ read w caps (InHead (Count (m.at c).code)) = ap (λ (k : ℕ). read w caps (InHead (Count k))) q in
        absurd (omega (arith, n, same, count_remove m wf.sound c r));
  }

  -- chains, record, siblings, what is around, count
  pub remove_made : (none : List ℕ) (far : Bool) (w₁ w₂ w₃ w₄ w₅ : List ℕ) → none ≡ part_of marks 0 0 → far ≡ ltb near_marks (length marks)
      → Step caps w w₁ (MayLinks caps c marks false) (λ s. with_links s c marks false)
      → Step caps w₁ w₂ (MayWrite caps c none far) (λ s. with_body s c (body_of 0 none))
      → Step caps w₂ w₃ (λ s. c < caps.cells) (λ s. cleared s c)
      → Step caps w₃ w₄ (MaySettle caps rows t marks) (settled caps)
      → Step caps w₄ w₅ (λ s. (1 ≤ t) × (t ≤ most_code)) (λ s. with_count s t (count - 1))
      → TakenOut caps w w₅ c t marks
  unfolding no_cell
  remove_made none far w₁ w₂ w₃ w₄ w₅ empty ef p₁ p₂ p₃ p₄ p₅ = record {
    inside = only_then p₁.inside (only_then p₂.inside (only_then p₃.inside (only_then p₄.inside p₅.inside)));
    wf = λ m e wf ok q h. made m e wf (may_remove m c ok) q h;
  }
    where
      nothing : none ≡ []
      nothing = empty ∙ part_fits marks 0 0 (omega arith)

      made : (m : Map) → m.caps ≡ caps → Wf w m → MayRemove m c → t ≡ (m.at c).code → marks ≡ (m.at c).marks → Wf w₅ (changed m (Remove c))
      made m e wf r q h =
          let a = may_count m wf.sound c r in
          let n : count ≡ length (cells_of m t) = word ∙ (type_count w caps m e wf t (omega (arith, a.0, q)) (omega (arith, a.1, q))).0 in
          let q₁ = (rw (sym e) at p₁).state (state_of m) wf.picture (rw h (may_links m wf.sound c r)) in
          let q₂ = (rw (sym e, nothing, ef) at p₂).state _ q₁ (rw h (may_write m wf.sound c r)) in
          let q₃ = (rw (sym e) at p₃).state _ q₂ r.number in
          let q₄ = (rw (sym e) at p₄).state _ q₃ (rw (types, h, q) (may_settle m wf.sound c r)) in
          let q₅ = (rw (sym e) at p₅).state _ q₄ (omega (arith, a.0, q), omega (arith, a.1, q)) in
          removed m wf.sound c r wf.two w₅ (rw (n, h, q) at q₅)

-- the marks of the record are the cell's marks
module _ (w : List ℕ) (caps : Caps) (c : ℕ) (zeros held : List ℕ) (filled : Filled (marks_in w caps c) zeros held) (room : length zeros ≡ most_marks) where
  held_marks : (m : Map) → m.caps ≡ caps → Wf w m → c < caps.cells → part_of held 0 (length (m.at c).marks) ≡ (m.at c).marks
  unfolding state_of
  held_marks m e wf below =
      let few : length (m.at c).marks ≤ most_marks = omega (arith, wf.sound.fitting c, (facts (m.at c).code).marks) in
      let same : marks_in w caps c ≡ (m.at c).marks = marks_is w caps (state_of m) (wf_pic w caps m e wf) c below (wf.sound.fitting c) in
      let whole : Filled (m.at c).marks zeros held = rw same at filled in
      part_fits held 0 (length (m.at c).marks) (omega (arith, filled.size)) ∙ filled_take (m.at c).marks zeros held whole (omega arith)

  pub remove_by_record : (t n : ℕ) (marks w' : List ℕ) → t ≡ code_in w caps c → n ≡ (shape t).marks → marks ≡ part_of held 0 n
      → TakenOut caps w w' c t marks → Made caps w w' (Remove c)
  remove_by_record t n marks w' word size part out = record {
    inside = out.inside;
    wf = λ m e wf ok.
        let below : c < caps.cells = omega (arith, (may_remove m c ok).number, cells_of_lem caps m e) in
        let code : t ≡ (m.at c).code = word ∙ code_of caps m e w wf c below in
        let count : n ≡ length (m.at c).marks = size ∙ (ap (λ (k : ℕ). (shape k).marks) code ∙ sym (wf.sound.fitting c)) in
        out.wf m e wf ok code (part ∙ (ap (part_of held 0) count ∙ held_marks m e wf below));
  }

-- where a chain leads out memory is no mesh, and nothing is made
pub made_none : (caps : Caps) (w : List ℕ) (e : Edit) (r : Bool) → Inside w caps r → r ≡ true → Made caps w w e
made_none caps w e r i t = record { inside = only_none; wf = λ m q wf ok. absurd (clash t (wf_inside w caps r i m q wf)) }

-- the copy of a whole list
pub copied_all : (l l' o o' : List ℕ) (k : ℕ) → l ≡ l' → Filled (list_of k (λ i. get_or l i 0)) o o' → k ≤ length l → length l ≤ k → Filled l' o o'
copied_all l l' o o' k e f a b =
    let all : k ≡ length l = omega arith in
    let same : list_of (length l) (λ i. get_or l i 0) ≡ l = list_of_take l (length l) (omega arith) ∙ take_all (length l) l (omega arith) in
    rw (← e) (rw (all, same) at f)
