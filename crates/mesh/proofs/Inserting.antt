-- An insertion, step by step.
use mathlib.Core.Path.{◌≡◌, refl, sym, ap, ◌∙◌, subst}
use mathlib.Core.List.{List, [], ◌∷◌}
use mathlib.Core.Bool.{Bool, true}
use Prim.Native.Nat.{ℕ, suc, ◌+◌, ◌<◌, ◌≤◌}
use native.Mathlib.Numerals.{add-one}
use native.Mathlib.Omega.{arith}
use lib.Dec.{eqb, ltb}
use lib.ListN.{length}
use Rattle.lists.proofs.Select.{select_size}
use Rattle.words.proofs.Frame.{only_none, only_then}
use Rattle.shapes.specs.Table.{table}
use Rattle.numbers.specs.declared.Caps.{Caps}
use Rattle.numbers.specs.Sizes.{most_capacity}
use Rattle.shapes.specs.Sizes.{most_code}
use Rattle.store.specs.Fields.{Count}
use Rattle.store.specs.Slots.{InHead, read}
use Rattle.map.specs.Cells.{Body, body_of, licensed_body, Map, cells_of}
use Rattle.map.specs.Answers.{Check, answer, insert_checks}
use Rattle.map.specs.Sound.{Sound}
use Rattle.map.specs.History.{Edit, Insert, Remove, edit_answer, changed}
use Rattle.laws.proofs.Edits.{MayInsert, may_insert, licence_unseen}
use Rattle.picture.specs.State.{State, state_of}
use Rattle.picture.specs.Picture.{Pic, Wf}
use Rattle.picture.specs.Changes.{with_body, with_count}
use Rattle.picture.specs.Writes.{MayWrite}
use Rattle.picture.specs.Step.{Step}
use Rattle.picture.proofs.Record.{count_read}
use Rattle.picture.proofs.Settles.{wf_pic}
use Rattle.mend.specs.Settle.{MaySettle, settled}
use Rattle.edit.specs.Edit.{with_links, MayLinks, Made}
use Rattle.edit.proofs.Inserts.{may_write, may_links, may_settle, may_count, inserted}
use Rattle.store.specs.Layout.{near_marks}

-- the stored count of a type is its count, at most the capacity
pub type_count : (w : List ℕ) (caps : Caps) (m : Map) → m.caps ≡ caps → Wf w m → (t : ℕ) → 1 ≤ t → t ≤ most_code
    → (read w caps (InHead (Count t)) ≡ length (cells_of m t)) × (read w caps (InHead (Count t)) ≤ most_capacity)
unfolding state_of cells_of
type_count w caps m e wf t a b =
    let word : read w caps (InHead (Count t)) ≡ length (cells_of m t) = count_read w caps (state_of m) (wf_pic w caps m e wf) t a b in
    (word, omega (arith, word, select_size (λ c. eqb (m.at c).code t) m.caps.cells, wf.picture.cells))

module _ (caps : Caps) (c : ℕ) (x : Body) (rows : List (List (List ℕ))) (types : rows ≡ table) (w : List ℕ) (count : ℕ) (word : count ≡ read w caps (InHead (Count x.code))) where
  -- a count that no mesh has
  pub insert_none : most_capacity < count → Made caps w w (Insert c x)
  insert_none h = record {
    inside = only_none;
    wf = λ m e wf ok.
        let r = may_count m wf.sound c x (may_insert m c x ok) in
        absurd (omega (arith, (type_count w caps m e wf x.code r.0 r.1).1));
  }

  -- record, chains, what is around, count
  pub insert_made : (far : Bool) (w₁ w₂ w₃ w₄ : List ℕ) → far ≡ ltb near_marks (length x.marks)
      → Step caps w w₁ (MayWrite caps c x.marks far) (λ s. with_body s c x)
      → Step caps w₁ w₂ (MayLinks caps c x.marks true) (λ s. with_links s c x.marks true)
      → Step caps w₂ w₃ (MaySettle caps rows x.code x.marks) (settled caps)
      → Step caps w₃ w₄ (λ s. (1 ≤ x.code) × (x.code ≤ most_code)) (λ s. with_count s x.code (count + 1))
      → Made caps w w₄ (Insert c x)
  insert_made far w₁ w₂ w₃ w₄ ef p₁ p₂ p₃ p₄ = record {
    inside = only_then p₁.inside (only_then p₂.inside (only_then p₃.inside p₄.inside));
    wf = λ m e wf ok. made m e wf (may_insert m c x ok);
  }
    where
      made : (m : Map) → m.caps ≡ caps → Wf w m → MayInsert m c x → Wf w₄ (changed m (Insert c x))
      made m e wf r =
          let a = may_count m wf.sound c x r in
          let n : count + 1 ≡ suc (length (cells_of m x.code)) = add-one count ∙ ap suc (word ∙ (type_count w caps m e wf x.code a.0 a.1).0) in
          let q₁ = (rw (sym e, ef) at p₁).state (state_of m) wf.picture (may_write m wf.sound c x r) in
          let q₂ = (rw (sym e) at p₂).state _ q₁ (may_links m wf.sound c x r) in
          let q₃ = (rw (sym e) at p₃).state _ q₂ (rw types (may_settle m wf.sound c x r)) in
          let q₄ = (rw (sym e) at p₄).state _ q₃ a in
          inserted m wf.sound c x r wf.two w₄ (rw n at q₄)

-- the answer of an insertion is that of its checks, which look at no licence
pub insert_says : (m : Map) (c t licence : ℕ) (marks : List ℕ)
    → edit_answer m (Insert c (licensed_body t licence marks)) ≡ answer (insert_checks m c (body_of t marks)) []
unfolding edit_answer
insert_says m c t licence marks = ap (λ (checks : List Check). answer checks []) (licence_unseen m c t licence marks)
