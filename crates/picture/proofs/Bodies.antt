-- A cell that stands in no chain, written: which words differ, and the picture of the state with its new body.
use mathlib.Core.Path.{◌≡◌, refl, sym, ap, ◌∙◌, subst}
use mathlib.Core.Bool.{Bool, true, false, cond, ◌&&◌}
use mathlib.Core.List.{List, [], ◌∷◌}
use mathlib.Core.Logic.{⊎_elim}
use Prim.Native.Nat.{ℕ, zero, suc, ◌+◌, ◌*◌, ◌<◌, ◌≤◌}
use native.Mathlib.Decide.{ℕ_discrete}
use native.Mathlib.Omega.{arith}
use borrow.Author.Tests.{eq-eqb, ne_eqb, lt-ltb, le-ltb}
use lib.Dec.{eqb, leb, ltb}
use lib.ListN.{get_or, length}
use Rattle.lists.specs.Lists.{has, select, place}
use Rattle.lists.proofs.Bools.{clash, not_true_false, or_left}
use Rattle.lists.proofs.Keep.{keep_out}
use Rattle.lists.proofs.Select.{select_out}
use Rattle.words.proofs.Frame.{only_then, only_none}
use Rattle.numbers.specs.declared.Caps.{Caps}
use Rattle.store.specs.Layout.{near_marks, room}
use Rattle.store.specs.Fields.{InNear, CellField, Code, Licence, Near, Sib, Link, Far, CellRest, MarkField, First, Held, Anchor, MarkRest}
use Rattle.store.specs.Slots.{Slot, InHead, InMark, InCell, Within, cell_open, read, written}
use Rattle.store.proofs.Writes.{write_only}
use Rattle.map.specs.Cells.{Body, licensed_body}
use Rattle.picture.specs.State.{State, next}
use Rattle.picture.specs.Picture.{chain_of, ahead, link_to, link, corner, link_word, mark_word, cell_word, word_of, Pic}
use Rattle.picture.specs.Changes.{with_body}
use Rattle.picture.specs.Step.{Step}
use Rattle.picture.specs.Writes.{MayWrite, Fills, Fars}
use Rattle.picture.proofs.Fills.{written_here, written_other}
use Rattle.shapes.specs.Sizes.{most_marks}

-- the body that was put
pub body_here : (s : State) (c : ℕ) (b : Body) → (with_body s c b).at c ≡ b
unfolding with_body
body_here s c b = rw (eq-eqb c c refl)

pub body_other : (s : State) (c : ℕ) (b : Body) (k : ℕ) → (k ≡ c → ⊥) → (with_body s c b).at k ≡ s.at k
unfolding with_body
body_other s c b k ne = rw (ne_eqb c k (λ e. ne (sym e)))

-- a link leads to a cell of the chain
next_has : (l : List ℕ) (d : ℕ) → next l ≡ suc d → has d l ≡ true
unfolding next has
next_has [] d e = absurd (omega (arith, e))
next_has (x ∷ xs) d e = let same : x ≡ d = omega (arith, e) in or_left (eqb x d) (has d xs) (eq-eqb x d same)

pub ahead_there : (caps : Caps) (s : State) (v lo d : ℕ) → ahead caps s v lo ≡ suc d → (d < caps.cells) × (s.chain v d ≡ true)
unfolding ahead chain_of
ahead_there caps s v lo d e =
    select_out (s.chain v) caps.cells d (keep_out (leb lo) (select (s.chain v) caps.cells) d (next_has _ d e)).1

and_none : (p q : Bool) (x : ℕ) → q ≡ false → cond (p && q) x 0 ≡ 0
and_none true q x e = rw e
and_none false q x e = refl

module _ (caps : Caps) (s : State) (c : ℕ) (loose : (v : ℕ) → s.chain v c ≡ false) (b : Body) where
  -- no link leads to a loose cell
  link_loose : (v lo : ℕ) → link caps (with_body s c b) v lo ≡ link caps s v lo
  unfolding link ahead chain_of with_body link_to
  link_loose v lo = go (ahead caps s v lo) refl
    where
      go : (x : ℕ) → ahead caps s v lo ≡ x → link_to (with_body s c b).at v x ≡ link_to s.at v x
      go zero e = refl
      go (suc d) e =
          ap (λ (y : Body). suc (8 * d + place v y.marks))
          (body_other s c b d (λ q. clash (ahead_there caps s v lo d e).1 (ap (s.chain v) q ∙ loose v)))

  -- and it has none
  link_none : (k : ℕ) → link_word caps s c k ≡ 0
  unfolding link_word
  link_none k = and_none (ltb k (length (s.at c).marks)) (s.chain (corner s c k) c) (link caps s (corner s c k) (suc c)) (loose (corner s c k))

  -- of another cell nothing differs
  cell_other : (e : ℕ) (f : CellField) → (e ≡ c → ⊥) → cell_word caps (with_body s c b) e f ≡ cell_word caps s e f
  unfolding cell_word corner link_word with_body
  cell_other e Code ne = ap (λ (y : Body). y.code) (body_other s c b e ne)
  cell_other e Licence ne = ap (λ (y : Body). y.licence) (body_other s c b e ne)
  cell_other e (Near k) ne = ap (λ (y : Body). get_or y.marks k 0) (body_other s c b e ne)
  cell_other e (Sib f) ne = refl
  cell_other e (Link k) ne =
      ap (λ (y : Body). cond (ltb k (length y.marks) && s.chain (get_or y.marks k 0) e) (link caps (with_body s c b) (get_or y.marks k 0) (suc e)) 0)
      (body_other s c b e ne)
      ∙ ap (λ (n : ℕ). cond (ltb k (length (s.at e).marks) && s.chain (get_or (s.at e).marks k 0) e) n 0) (link_loose (get_or (s.at e).marks k 0) (suc e))
  cell_other e (Far k) ne = ap (λ (y : Body). cond (ltb near_marks (length y.marks)) (get_or y.marks k 0) 0) (body_other s c b e ne)
  cell_other e (CellRest p) ne = refl

  mark_same : (v : ℕ) (f : MarkField) → mark_word caps (with_body s c b) v f ≡ mark_word caps s v f
  unfolding mark_word chain_of with_body
  mark_same v First = link_loose v 0
  mark_same v Held = refl
  mark_same v (Anchor d) = refl
  mark_same v (MarkRest k) = refl

code_number : CellField → ℕ
code_number Code = 0
code_number (Near k) = 1
code_number (Sib f) = 2
code_number (Link k) = 3
code_number (Far k) = 4
code_number (CellRest p) = 5
code_number Licence = 6

cell_of : Slot → ℕ
cell_of (InHead f) = 0
cell_of (InMark v f) = 0
cell_of (InCell d f) = suc d

-- the fields that a body is written to; the second part where it holds marks
Written : Bool → CellField → Type 0
Written far Code = true ≡ true
Written far Licence = true ≡ true
Written far (Near k) = true ≡ true
Written far (Sib f) = true ≡ false
Written far (Link k) = true ≡ false
Written far (Far k) = far ≡ true
Written far (CellRest p) = true ≡ false

module _ (caps : Caps) (s : State) (c t licence : ℕ) (marks : List ℕ) (far : Bool) (may : MayWrite caps c marks far s) where
  after : State
  after = with_body s c (licensed_body t licence marks)

  short : (l : List ℕ) (k : ℕ) → length l ≤ near_marks → cond (ltb near_marks (length l)) (get_or l k 0) 0 ≡ 0
  short l k h = rw (le-ltb near_marks (length l) h)

  -- no other word differs
  own_same : (f : CellField) → (Written far f → ⊥) → cell_word caps after c f ≡ cell_word caps s c f
  unfolding after Written cell_word corner with_body
  own_same Code n = absurd (n refl)
  own_same Licence n = absurd (n refl)
  own_same (Near k) n = absurd (n refl)
  own_same (Sib f) n = refl
  own_same (Link k) n = link_none caps after c may.loose (licensed_body t licence marks) k ∙ sym (link_none caps s c may.loose (licensed_body t licence marks) k)
  own_same (Far k) n =
      let small = may.near (not_true_false far n) in
      ap (λ (y : Body). cond (ltb near_marks (length y.marks)) (get_or y.marks k 0) 0) (body_here s c (licensed_body t licence marks))
      ∙ (short marks k small.1 ∙ sym (short (s.at c).marks k small.0))
  own_same (CellRest p) n = refl

  -- what stands in the fields that are written
  own_code : cell_word caps after c Code ≡ t
  unfolding after cell_word
  own_code = ap (λ (y : Body). y.code) (body_here s c (licensed_body t licence marks))

  own_licence : cell_word caps after c Licence ≡ licence
  unfolding after cell_word
  own_licence = ap (λ (y : Body). y.licence) (body_here s c (licensed_body t licence marks))

  own_near : (k : ℕ) → cell_word caps after c (Near k) ≡ get_or marks k 0
  unfolding after cell_word corner
  own_near k = ap (λ (y : Body). get_or y.marks k 0) (body_here s c (licensed_body t licence marks))

  own_far : far ≡ true → (k : ℕ) → cell_word caps after c (Far k) ≡ get_or marks k 0
  unfolding after cell_word corner
  own_far e k =
      ap (λ (y : Body). cond (ltb near_marks (length y.marks)) (get_or y.marks k 0) 0) (body_here s c (licensed_body t licence marks))
      ∙ ⊎_elim (λ (h : near_marks < length marks). rw (lt-ltb near_marks (length marks) h)) (λ (z : marks ≡ []). none z) (may.all e)
    where
      none : marks ≡ [] → cond (ltb near_marks (length marks)) (get_or marks k 0) 0 ≡ get_or marks k 0
      none z = rw z refl

  -- the writes of the code: the first four marks, all marks where the second part holds any, the licence, the type
  module _
      (w w₁ w₂ w₃ w₄ : List ℕ) (p : Pic w caps s) (near : Fills Near caps c marks w near_marks w₁) (two : Fars far caps c marks w₁ w₂)
      (l : w₃ ≡ written w₂ caps (InCell c Licence) licence) (e : w₄ ≡ written w₃ caps (InCell c Code) t)
    where
      size : room caps.marks caps.cells ≤ length w₂
      size = omega (arith, p.fits, near.inside.size, two.inside.size)

      size_licensed : room caps.marks caps.cells ≤ length w₃
      size_licensed = rw l (omega (arith, size, (write_only w₂ caps licence (InCell c Licence)).size))

      -- a slot that is not written
      untouched : (z : Slot) → Within caps.marks caps.cells z → ((f : CellField) → z ≡ InCell c f → Written far f → ⊥)
          → word_of caps after z ≡ word_of caps s z → read w₄ caps z ≡ word_of caps after z
      unfolding cell_open Written
      untouched z i ne same =
          ap (λ (m : List ℕ). read m caps z) e
          ∙ (written_other w₃ caps c Code t refl z i (omega arith) (λ q. ne Code q refl)
          ∙ (ap (λ (m : List ℕ). read m caps z) l
          ∙ (written_other w₂ caps c Licence licence refl z i (omega arith) (λ q. ne Licence q refl)
          ∙ (two.kept z i (λ far-yes k h q. ne (Far k) q far-yes)
          ∙ (near.kept z i (λ k h q. ne (Near k) q refl) ∙ (p.words z i ∙ sym same))))))

      -- a field of the cell itself
      field_of : Slot → CellField
      field_of (InHead f) = CellRest (InNear 0)
      field_of (InMark v f) = CellRest (InNear 0)
      field_of (InCell d f) = f

      rest : (f : CellField) → Within caps.marks caps.cells (InCell c f) → (Written far f → ⊥) → read w₄ caps (InCell c f) ≡ word_of caps after (InCell c f)
      unfolding word_of field_of
      rest f i n = untouched (InCell c f) i (λ g q y. n (subst (Written far) (sym (ap field_of q)) y)) (own_same f n)

      -- a written field that no later write touches
      licensed : (f : CellField) → Within caps.marks caps.cells (InCell c f) → (f ≡ Code → ⊥) → read w₄ caps (InCell c f) ≡ read w₃ caps (InCell c f)
      unfolding cell_open field_of
      licensed f i n = ap (λ (m : List ℕ). read m caps (InCell c f)) e ∙ written_other w₃ caps c Code t refl (InCell c f) i (omega arith) (λ q. n (ap field_of q))

      still : (f : CellField) → Within caps.marks caps.cells (InCell c f) → (f ≡ Code → ⊥) → (f ≡ Licence → ⊥)
          → read w₄ caps (InCell c f) ≡ read w₂ caps (InCell c f)
      unfolding cell_open field_of
      still f i n o =
          licensed f i n
          ∙ (ap (λ (m : List ℕ). read m caps (InCell c f)) l ∙ written_other w₂ caps c Licence licence refl (InCell c f) i (omega arith) (λ q. o (ap field_of q)))

      own : (f : CellField) → Within caps.marks caps.cells (InCell c f) → read w₄ caps (InCell c f) ≡ word_of caps after (InCell c f)
      unfolding word_of cell_open Written field_of code_number
      own Code i =
          ap (λ (m : List ℕ). read m caps (InCell c Code)) e ∙ (written_here w₃ caps c Code t refl i.0 (omega arith) size_licensed ∙ sym own_code)
      own Licence i =
          licensed Licence i (λ q. absurd (omega (arith, ap code_number q)))
          ∙ (ap (λ (m : List ℕ). read m caps (InCell c Licence)) l ∙ (written_here w₂ caps c Licence licence refl i.0 (omega arith) size ∙ sym own_licence))
      own (Near k) i =
          still (Near k) i (λ q. absurd (omega (arith, ap code_number q))) (λ q. absurd (omega (arith, ap code_number q)))
          ∙ (two.kept (InCell c (Near k)) i (λ y j h q. absurd (omega (arith, ap code_number (ap field_of q))))
          ∙ (near.wrote i.0 p.fits k i.1 ∙ sym (own_near k)))
      own (Sib f) i = rest (Sib f) i (λ y. clash refl y)
      own (Link k) i = rest (Link k) i (λ y. clash refl y)
      own (Far k) i = go far refl
        where
          go : (b : Bool) → far ≡ b → read w₄ caps (InCell c (Far k)) ≡ cell_word caps after c (Far k)
          go true y =
              still (Far k) i (λ q. absurd (omega (arith, ap code_number q))) (λ q. absurd (omega (arith, ap code_number q)))
              ∙ (two.wrote y i.0 (omega (arith, p.fits, near.inside.size)) k i.1 ∙ sym (own_far y k))
          go false n = rest (Far k) i (λ y. clash y n)
      own (CellRest q) i = rest (CellRest q) i (λ y. clash refl y)

      body_pic : Pic w₄ caps after
      unfolding cell_of word_of after with_body
      body_pic = record {
        marks = p.marks;
        cells = p.cells;
        edition = p.edition;
        fits = rw e (omega (arith, size_licensed, (write_only w₃ caps t (InCell c Code)).size));
        words = at;
      }
        where
          cell : (d : ℕ) (f : CellField) → Within caps.marks caps.cells (InCell d f) → Dec (d ≡ c)
              → read w₄ caps (InCell d f) ≡ word_of caps after (InCell d f)
          cell d f i (yes q) = rw q (own f (subst (λ (k : ℕ). Within caps.marks caps.cells (InCell k f)) q i))
          cell d f i (no n) =
              untouched (InCell d f) i (λ g q y. n (omega (arith, ap cell_of q))) (cell_other caps s c may.loose (licensed_body t licence marks) d f n)

          at : (z : Slot) → Within caps.marks caps.cells z → read w₄ caps z ≡ word_of caps after z
          at (InHead f) i = untouched (InHead f) i (λ g q y. absurd (omega (arith, ap cell_of q))) refl
          at (InMark v f) i =
              untouched (InMark v f) i (λ g q y. absurd (omega (arith, ap cell_of q))) (mark_same caps s c may.loose (licensed_body t licence marks) v f)
          at (InCell d f) i = cell d f i (ℕ_discrete d c)

pub body_step : (caps : Caps) (c t licence : ℕ) (marks : List ℕ) (far : Bool) (w w₁ w₂ w₃ w₄ : List ℕ) → Fills Near caps c marks w near_marks w₁ → Fars far caps c marks w₁ w₂
    → w₃ ≡ written w₂ caps (InCell c Licence) licence → w₄ ≡ written w₃ caps (InCell c Code) t → Step caps w w₄ (MayWrite caps c marks far) (λ s. with_body s c (licensed_body t licence marks))
unfolding after
body_step caps c t licence marks far w w₁ w₂ w₃ w₄ near two l e = record {
  inside = only_then near.inside
      (only_then two.inside (only_then {m' = w₃} (rw l (write_only w₂ caps licence (InCell c Licence))) (rw e (write_only w₃ caps t (InCell c Code)))));
  state = λ s p may. body_pic caps s c t licence marks far may w w₁ w₂ w₃ w₄ p near two l e;
}

-- the second part, as the code goes
pub fars_yes : (far : Bool) (caps : Caps) (c : ℕ) (marks w w' : List ℕ) → Fills Far caps c marks w most_marks w' → far ≡ true → Fars far caps c marks w w'
fars_yes far caps c marks w w' a y = record { inside = a.inside; wrote = λ _. a.wrote; kept = λ z i ne. a.kept z i (ne y) }

pub fars_no : (far : Bool) (caps : Caps) (c : ℕ) (marks w : List ℕ) → far ≡ false → Fars far caps c marks w w
fars_no far caps c marks w n = record { inside = only_none; wrote = λ y. absurd (clash y n); kept = λ z i ne. refl }
