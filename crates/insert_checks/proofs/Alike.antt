-- A cell of the same type and set, looked for along the chain of a mark.
use mathlib.Core.Path.{◌≡◌, sym, ap, ◌∙◌}
use mathlib.Core.Bool.{Bool, true, false}
use mathlib.Core.List.{List}
use Prim.Native.Nat.{ℕ, ◌<◌, ◌≤◌}
use native.Mathlib.Omega.{arith}
use borrow.Author.Tests.{eq-eqb, ne_eqb, eqb-true, le-leb, lt-leb}
use lib.Dec.{eqb}
use lib.ListN.{get_or, length, drop}
use lib.Seq.{take-append_seam}
use Rattle.lists.specs.Lists.{any, same_set, list_of}
use Rattle.lists.proofs.Bools.{and_left, same_test}
use Rattle.lists.proofs.Members.{any_has, has_any, at_has}
use Rattle.lists.proofs.Sets.{same_has}
use Rattle.lists.proofs.Select.{select_in, select_out}
use Rattle.lists.proofs.Fill.{list_of_take}
use Rattle.shapes.specs.Shapes.{shape}
use Rattle.numbers.specs.declared.Caps.{Caps}
use Rattle.numbers.specs.Sizes.{most_around}
use Rattle.store.specs.Fields.{Held}
use Rattle.store.specs.Slots.{InMark, read, code_in}
use Rattle.map.specs.Cells.{Map, holds, cells_of}
use Rattle.map.specs.Stars.{holders}
use Rattle.picture.specs.State.{state_of}
use Rattle.picture.specs.Picture.{chain_of, Wf}
use Rattle.picture.proofs.Settles.{wf_pic, wf_settled, wf_map}
use Rattle.chain.specs.Chain.{Gathered}
use Rattle.shapes.proofs.Types.{type_marks}
use Rattle.chain.proofs.Readied.{chain_holders, ready_linked}
use Rattle.facet.specs.Facet.{marks_in}
use Rattle.checks.proofs.Rows.{cells_of_lem, code_of, marks_in_lem}
use Rattle.insert_checks.specs.Admit.{same_in, full_in, Same}

module _ (w : List ℕ) (caps : Caps) (t : ℕ) (marks : List ℕ) (c k : ℕ) (word : k ≡ code_in w caps c) where
  pub record_other : (k ≡ t → ⊥) → false ≡ same_in w caps t marks c
  unfolding same_in
  record_other ne = rw (← word, ne_eqb k t ne)

  pub record_same : k ≡ t → (r : Bool) (l : List ℕ) → l ≡ marks_in w caps c → r ≡ same_set l marks → r ≡ same_in w caps t marks c
  unfolding same_in
  record_same e r l p q = rw (← word, eq-eqb k t e, ← p) q

-- what is gathered is the holders of the mark
pub gathered_holders : (w : List ℕ) (caps : Caps) (v : ℕ) (zeros cells : List ℕ) (n : ℕ) → Gathered w caps v zeros n cells → length zeros ≡ most_around
    → (m : Map) → m.caps ≡ caps → Wf w m → v < caps.marks → list_of n (λ i. get_or cells i 0) ≡ holders m v
gathered_holders w caps v zeros cells n g room m e wf mark =
    let ready = (wf_settled w caps m e wf).ready in
    let l = g.list (state_of m) (wf_pic w caps m e wf) (ready_linked caps (state_of m) ready) mark in
    list_of_take cells n (omega (arith, g.few, g.size))
    ∙ (rw (l.1 (omega (arith, g.few)), l.0) (take-append_seam (chain_of caps (state_of m) v) (drop (length (chain_of caps (state_of m) v)) zeros))
    ∙ (chain_holders caps (state_of m) ready v ∙ ap (λ (k : Map). holders k v) (wf_map w caps m e wf)))

module _ (w : List ℕ) (caps : Caps) (t : ℕ) (marks : List ℕ) (m : Map) (e : m.caps ≡ caps) (wf : Wf w m) (kind : 0 < (shape t).dimension)
    (count : length marks ≡ (shape t).marks) where
  -- the record of a cell of the type is its set
  record_is : (k : ℕ) → k < m.caps.cells → (m.at k).code ≡ t → same_in w caps t marks k ≡ same_set (m.at k).marks marks
  unfolding same_in marks_in
  record_is k h code =
      let below : k < caps.cells = omega (arith, cells_of_lem caps m e) in
      rw (eq-eqb (code_in w caps k) t (code_of caps m e w wf k below ∙ code)) (ap (λ (l : List ℕ). same_set l marks) (marks_in_lem caps m e w wf k below))

  -- a record that is the same is of the type
  record_code : (k : ℕ) → k < m.caps.cells → same_in w caps t marks k ≡ true → (m.at k).code ≡ t
  unfolding same_in
  record_code k h q =
      sym (code_of caps m e w wf k (omega (arith, cells_of_lem caps m e)))
      ∙ eqb-true (code_in w caps k) t (and_left (eqb (code_in w caps k) t) (same_set (marks_in w caps k) marks) q)

  some_mark : 0 < length marks
  some_mark = omega (arith, type_marks t kind)

  along_first : any (same_in w caps t marks) (holders m (get_or marks 0 0)) ≡ any (λ k. same_set (m.at k).marks marks) (cells_of m t)
  unfolding holders cells_of holds
  along_first =
      same_test (any (same_in w caps t marks) (holders m (get_or marks 0 0))) (any (λ k. same_set (m.at k).marks marks) (cells_of m t))
      (λ q.
      let r = any_has (same_in w caps t marks) (holders m (get_or marks 0 0)) q in
      let below = (select_out (holds m (get_or marks 0 0)) m.caps.cells r.0 r.1).0 in
      let code = record_code r.0 below r.2 in
      has_any (λ k. same_set (m.at k).marks marks) (cells_of m t) r.0
      (select_in (λ c. eqb (m.at c).code t) m.caps.cells r.0 below (eq-eqb (m.at r.0).code t code))
      (sym (record_is r.0 below code) ∙ r.2))
      (λ q.
      let r = any_has (λ k. same_set (m.at k).marks marks) (cells_of m t) q in
      let o = select_out (λ c. eqb (m.at c).code t) m.caps.cells r.0 r.1 in
      let code = eqb-true (m.at r.0).code t o.1 in
      has_any (same_in w caps t marks) (holders m (get_or marks 0 0)) r.0
      (select_in (holds m (get_or marks 0 0)) m.caps.cells r.0 o.0
      (same_has (m.at r.0).marks marks r.2 (get_or marks 0 0) ∙ at_has marks 0 some_mark))
      (record_is r.0 o.0 code ∙ r.2))

module _ (w : List ℕ) (caps : Caps) (t : ℕ) (marks : List ℕ) where
  -- among the holders of one of the marks are all cells of that set
  pub same_found : (v : ℕ) → v ≡ get_or marks 0 0 → (zeros cells : List ℕ) (n : ℕ) → Gathered w caps v zeros n cells → length zeros ≡ most_around
      → (r : Bool) → r ≡ any (same_in w caps t marks) (list_of n (λ i. get_or cells i 0)) → Same w caps t marks r
  same_found v first zeros cells n g room r q = record { tells = λ m e wf kind count mark. q ∙ found m e wf kind count mark }
    where
      found : (m : Map) → m.caps ≡ caps → Wf w m → 0 < (shape t).dimension → length marks ≡ (shape t).marks → get_or marks 0 0 < caps.marks
          → any (same_in w caps t marks) (list_of n (λ i. get_or cells i 0)) ≡ any (λ k. same_set (m.at k).marks marks) (cells_of m t)
      found m e wf kind count mark =
          ap (any (same_in w caps t marks)) (gathered_holders w caps v zeros cells n g room m e wf (rw first mark))
          ∙ (ap (λ (u : ℕ). any (same_in w caps t marks) (holders m u)) first ∙ along_first w caps t marks m e wf kind count)

-- a mark's count is full, or not
module _ (w : List ℕ) (caps : Caps) (v x : ℕ) (word : x ≡ read w caps (InMark v Held)) where
  pub full_yes : most_around ≤ x → full_in w caps v ≡ true
  unfolding full_in
  full_yes h = rw (← word) (le-leb most_around x h)

  pub full_no : x < most_around → full_in w caps v ≡ false
  unfolding full_in
  full_no h = rw (← word) (lt-leb most_around x h)
