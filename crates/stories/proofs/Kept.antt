-- An accepted edit leaves the record of every mark that the edited cell has not, and of every cell that shares no mark with it.
use mathlib.Core.Path.{◌≡◌, refl, sym, ap, ◌∙◌}
use mathlib.Core.Bool.{Bool, true, false, cond, ◌&&◌}
use mathlib.Core.List.{List}
use Prim.Native.Nat.{ℕ, zero, suc, ◌+◌, ◌*◌, ◌/◌, ◌<◌}
use native.Mathlib.Omega.{arith}
use borrow.Author.Tests.{ltb-true}
use lib.Dec.{ltb}
use lib.ListN.{get_or, length}
use Rattle.lists.specs.Lists.{has, place, same_set}
use Rattle.lists.proofs.Sets.{same_has}
use Rattle.lists.proofs.Members.{at_has}
use Rattle.numbers.specs.declared.Caps.{Caps}
use Rattle.store.specs.Fields.{MarkField, First, Held, Anchor, MarkRest, CellField, Code, Licence, Near, Sib, Link, Far, CellRest, CellFits}
use Rattle.store.specs.Slots.{Slot, InMark, InCell, Within, read}
use Rattle.map.specs.Cells.{Body, Map, holds}
use Rattle.map.specs.Siblings.{is_half, marks_of, sibling}
use Rattle.map.specs.declared.Way.TheVariants.{Lone}
use Rattle.map.specs.Ways.{way_number, way}
use Rattle.map.specs.Stars.{holders}
use Rattle.map.specs.Answers.{Answer}
use Rattle.map.specs.History.{Edit, cell_of, edit_body, edit_answer, changed}
use Rattle.map.specs.Sound.{Sound}
use Rattle.map.specs.Says.{verdict_says, given}
use Rattle.std.specs.Prelude.{Ok}
use Rattle.laws.proofs.Edits.{edited_changed}
use Rattle.laws.proofs.Local.{Apart, Free, half_other, holds_other, holders_free, half_inside, facets_lack, sibling_free, anchors_free, apart_changed}
use Rattle.laws.proofs.FreeChanged.{free_changed}
use Rattle.laws.proofs.Halves.{half_live}
use Rattle.laws.proofs.SiblingWays.{way_other}
use Rattle.picture.specs.State.{state_of}
use Rattle.picture.specs.Picture.{chain_of, ahead, link_to, link, corner, link_word, mark_word, sib_word, cell_word, word_of, Wf}
use Rattle.picture.proofs.Bodies.{ahead_there}
use Rattle.mesh.specs.Edited.{Edited}
use Rattle.stories.specs.Records.{SameMark, SameCell}
use Rattle.stories.proofs.Halves.{half_mark}
use Rattle.stories.proofs.Words.{same_mark, same_cell}
use Rattle.store.specs.Layout.{near_marks}

module _ (m m' : Map) (c : ℕ) (a : Apart m m' c) where
  -- the chain of a mark that the cell holds in neither map is the same
  chain_kept : (v : ℕ) → Free m m' c v → chain_of m'.caps (state_of m') v ≡ chain_of m.caps (state_of m) v
  unfolding chain_of state_of holders
  chain_kept v free = holders_free m m' c a v free

  -- so the first cell of it from a number on
  ahead_kept : (v lo : ℕ) → Free m m' c v → ahead m'.caps (state_of m') v lo ≡ ahead m.caps (state_of m) v lo
  unfolding ahead
  ahead_kept v lo free = rw (chain_kept v free)

  -- and the link there: the cell that it leads to holds the mark, so it is another one, with the mark at the same corner
  link_kept : (v lo : ℕ) → Free m m' c v → link m'.caps (state_of m') v lo ≡ link m.caps (state_of m) v lo
  unfolding link link_to state_of
  link_kept v lo free = ap (link_to m'.at v) (ahead_kept v lo free) ∙ go (ahead m.caps (state_of m) v lo) refl
    where
      go : (x : ℕ) → ahead m.caps (state_of m) v lo ≡ x → link_to m'.at v x ≡ link_to m.at v x
      go zero e = refl
      go (suc d) e =
          ap (λ (y : Body). suc (8 * d + place v y.marks))
          (a.other d (holds_other m m' c a v free d (ahead_there m.caps (state_of m) v lo d e).1))

  -- its first anchors are the same
  anc_kept : (d v : ℕ) → Free m m' c v → (state_of m').anc d v ≡ (state_of m).anc d v
  unfolding state_of
  anc_kept d v free = rw (anchors_free m m' c a v free d)

  -- so each field of its record is the same
  mark_kept : (v : ℕ) → Free m m' c v → (f : MarkField) → mark_word m'.caps (state_of m') v f ≡ mark_word m.caps (state_of m) v f
  unfolding mark_word
  mark_kept v free First = link_kept v 0 free
  mark_kept v free Held = ap length (chain_kept v free)
  mark_kept v free (Anchor d) = anc_kept d v free
  mark_kept v free (MarkRest k) = refl

  module _ (s : Sound m) (x : ℕ) (n : x ≡ c → ⊥) (free : (v : ℕ) → holds m v x ≡ true → Free m m' c v) where
    -- another cell that shares no mark with the cell is the same
    at_kept : (state_of m').at x ≡ (state_of m).at x
    unfolding state_of
    at_kept = a.other x n

    -- each of its half-facets has the same sibling, which runs the same way
    sib_kept : (h : ℕ) → h / 8 ≡ x → sib_word (state_of m') h ≡ sib_word (state_of m) h
    unfolding state_of
    sib_kept h z = rw (half_other m m' c a h (λ q. n (sym z ∙ q))).0 (go (is_half m h) refl)
      where
        go : (b : Bool) → is_half m h ≡ b
            → 4 * cond b (sibling m' h) 0 + way_number (cond b (way m' h) Lone) ≡ 4 * cond b (sibling m h) 0 + way_number (cond b (way m h) Lone)
        go true e =
            let v : ℕ = get_or (marks_of m h) 0 0 in
            let here : has v (marks_of m h) ≡ true = half_mark m s h e in
            let held : holds m v x ≡ true = rw z at (half_inside m a.fitting h v here) in
            let only : (set : List ℕ) → same_set (marks_of m h) set ≡ true → has v set ≡ true = λ set same. sym (same_has (marks_of m h) set same v) ∙ here in
            let ran : way m' h ≡ way m h =
            way_other m m' c a h (λ q. n (sym z ∙ q)) (half_live m s h e) (facets_lack m c (a.fitting c) v (free v held).0 (same_set (marks_of m h)) only)
            (facets_lack m' c (a.fitting' c) v (free v held).1 (same_set (marks_of m h)) only) in
            rw ((sibling_free m m' c a v (free v held) h here).0, ran)
        go false e = refl

    -- and each of its corners the same link
    links_kept : (k : ℕ) → link_word m'.caps (state_of m') x k ≡ link_word m.caps (state_of m) x k
    unfolding link_word corner state_of holds
    links_kept k = rw (a.other x n) (go (ltb k (length (m.at x).marks)) refl)
      where
        v : ℕ
        v = get_or (m.at x).marks k 0

        go : (b : Bool) → ltb k (length (m.at x).marks) ≡ b
            → cond (b && has v (m.at x).marks) (link m'.caps (state_of m') v (suc x)) 0
            ≡ cond (b && has v (m.at x).marks) (link m.caps (state_of m) v (suc x)) 0
        go true e = rw (link_kept v (suc x) (free v (at_has (m.at x).marks k (ltb-true _ _ e))))
        go false e = refl

    -- so each field of its record is the same
    cell_kept : (f : CellField) → CellFits f → cell_word m'.caps (state_of m') x f ≡ cell_word m.caps (state_of m) x f
    unfolding cell_word corner
    cell_kept Code h = ap (λ (y : Body). y.code) at_kept
    cell_kept Licence h = ap (λ (y : Body). y.licence) at_kept
    cell_kept (Near k) h = ap (λ (y : Body). get_or y.marks k 0) at_kept
    cell_kept (Sib f) h = sib_kept (8 * x + f) (omega arith)
    cell_kept (Link k) h = links_kept k
    cell_kept (Far k) h = ap (λ (y : Body). cond (ltb near_marks (length y.marks)) (get_or y.marks k 0) 0) at_kept
    cell_kept (CellRest p) h = refl

-- a word that is the same in two maps of the same capacities is the same in their memories
word_kept : {w w' : List ℕ} {m m' : Map} → Wf w m → Wf w' m' → m'.caps ≡ m.caps
    → (x : Slot) → Within m.caps.marks m.caps.cells x → word_of m'.caps (state_of m') x ≡ word_of m.caps (state_of m) x
    → read w' m.caps x ≡ read w m.caps x
word_kept {w} {w'} {m} {m'} p q caps x h e =
    ap (λ (k : Caps). read w' k x) (sym caps) ∙ (q.picture.words x (rw caps h) ∙ (e ∙ sym (p.picture.words x h)))

module _ {w w' : List ℕ} {m : Map} {e : Edit} (wf : Wf w m) (edit : Edited w e (Ok tt) w') where
  -- the definition accepts the edit too
  accepted : (edit_answer m e).refusal ≡ 0
  unfolding verdict_says given
  accepted = ap (λ (a : Answer). a.refusal) (sym (edit.answers m wf).0)

  -- what is left is the well-formed memory of the changed map
  edited_wf : Wf w' (changed m e)
  edited_wf = rw (edited_changed m e accepted) at (edit.answers m wf).1

  -- which differs under the number of the edited cell only
  apart : Apart m (changed m e) (cell_of e)
  apart = apart_changed m wf.sound e accepted

  -- so memory keeps the words that the map keeps
  kept : (x : Slot) → Within m.caps.marks m.caps.cells x
      → word_of (changed m e).caps (state_of (changed m e)) x ≡ word_of m.caps (state_of m) x
      → read w' m.caps x ≡ read w m.caps x
  kept = word_kept wf edited_wf apart.caps

  -- the record of a mark that is not in the edited cell: every field, all 8 words
  pub mark_record : (v : ℕ) → v < m.caps.marks → has v (edit_body m e).marks ≡ false → SameMark m.caps v w w'
  unfolding word_of
  mark_record v below out =
      let free : Free m (changed m e) (cell_of e) v = free_changed m wf.sound e accepted v out in
      same_mark m.caps w w' v (λ f h. kept (InMark v f) (below, h) (mark_kept m _ _ apart v free f))

  -- the record of another cell that shares no mark with the edited one: every field, all 16 words of its first part and all 16 of its second
  pub cell_record : (c : ℕ) → c < m.caps.cells → (c ≡ cell_of e → ⊥) → ((v : ℕ) → holds m v c ≡ true → has v (edit_body m e).marks ≡ false)
      → SameCell m.caps c w w'
  unfolding word_of
  cell_record c below other out =
      let free : (v : ℕ) → holds m v c ≡ true → Free m (changed m e) (cell_of e) v = λ v i. free_changed m wf.sound e accepted v (out v i) in
      same_cell m.caps w w' c (λ f h. kept (InCell c f) (below, h) (cell_kept m _ _ apart wf.sound c other free f h))
