-- The cells that go, one after another.
use mathlib.Core.Path.{◌≡◌, refl, sym, ap, ◌∙◌}
use mathlib.Core.Bool.{Bool, true, false, cond, not}
use mathlib.Core.List.{List, [], ◌∷◌, ◌++◌, append_assoc, append-nil}
use Prim.Native.Nat.{ℕ, suc, ◌+◌, ◌*◌, ◌<◌, ◌≤◌}
use native.Mathlib.Numerals.{add-one}
use native.Mathlib.Omega.{arith}
use borrow.Author.Tests.{eq-eqb, ne_eqb}
use lib.ListN.{length, get_or, take, length-append}
use lib.Seq.{take-suc, take_all}
use Rattle.lists.specs.Lists.{select}
use Rattle.numbers.specs.declared.Caps.{Caps}
use Rattle.store.specs.Slots.{code_in}
use Rattle.map.specs.History.{Edit, Insert, Remove}
use Rattle.frames.specs.Forms.{Appended}
use Rattle.frames.proofs.Append.{append_none, append_more, append_same}
use Rattle.cell_set.specs.CellSet.{in_set}
use Rattle.planner.specs.Plan.{edit_words}
use Rattle.planner.specs.InMemory.{removal_words, goes_in, removal_in}

-- the words of edits one after another
pub words_then : (a b : List Edit) → edit_words (a ++ b) ≡ edit_words a ++ edit_words b
unfolding edit_words
words_then [] b = refl
words_then (Insert c x ∷ a) b =
    ap (λ (l : List ℕ). 1 ∷ c ∷ x.code ∷ x.licence ∷ l)
    (ap (λ (l : List ℕ). x.marks ++ l) (words_then a b) ∙ sym (append_assoc x.marks (edit_words a) (edit_words b)))
words_then (Remove c ∷ a) b = ap (λ (l : List ℕ). 2 ∷ c ∷ l) (words_then a b)

-- two words a removal
pub removals_size : (l : List ℕ) → length (removal_words l) ≡ 2 * length l
unfolding edit_words
removals_size [] = refl
removals_size (c ∷ l) = omega (arith, removals_size l)

removals_last : (l : List ℕ) (c : ℕ) → removal_words (l ++ (c ∷ [])) ≡ removal_words l ++ (2 ∷ c ∷ [])
unfolding edit_words
removals_last [] c = refl
removals_last (x ∷ l) c = ap (λ (k : List ℕ). 2 ∷ x ∷ k) (removals_last l c)

-- whether a cell goes
module _ (w : List ℕ) (caps : Caps) (s : List ℕ) (c t : ℕ) (code : t ≡ code_in w caps c) where
  pub goes_dead : t ≡ 0 → false ≡ goes_in w caps s c
  unfolding goes_in
  goes_dead z = rw (← code, eq-eqb t 0 z)

  module _ (f : t ≡ 0 → ⊥) (b : Bool) (e : b ≡ in_set s c) where
    pub goes_standing : b ≡ true → false ≡ goes_in w caps s c
    unfolding goes_in
    goes_standing q = let here : in_set s c ≡ true = sym e ∙ q in rw (← code, ne_eqb t 0 f, here)

    pub goes_other : b ≡ false → true ≡ goes_in w caps s c
    unfolding goes_in
    goes_other q = let here : in_set s c ≡ false = sym e ∙ q in rw (← code, ne_eqb t 0 f, here)

    pub goes_live : not b ≡ goes_in w caps s c
    unfolding goes_in
    goes_live = rw (← code, ne_eqb t 0 f, e)

module _ (w : List ℕ) (caps : Caps) (s : List ℕ) where
  abbrev p : ℕ → Bool
  p = goes_in w caps s

  -- counted
  pub count_none : 0 ≡ length (select p 0)
  unfolding select
  count_none = refl

  module _ (c n : ℕ) (so : n ≡ length (select p c)) (b : Bool) (e : b ≡ goes_in w caps s c) where
    pub count_yes : b ≡ true → n + 1 ≡ length (select p (c + 1))
    unfolding select
    count_yes q = let here : p c ≡ true = sym e ∙ q in rw (add-one c, here, length-append) (omega arith)

    pub count_no : b ≡ false → n ≡ length (select p (c + 1))
    unfolding select
    count_no q = let here : p c ≡ false = sym e ∙ q in rw (add-one c, here) so

  pub count_all : (c n : ℕ) → n ≡ length (select p c) → c ≤ caps.cells → caps.cells ≤ c → n ≡ length (select p caps.cells)
  count_all c n e a b = let q : c ≡ caps.cells = omega arith in rw q at e

  -- one removal written, or none
  pub removal_none : (c : ℕ) (o : List ℕ) (at : ℕ) (b : Bool) → b ≡ goes_in w caps s c → b ≡ false → Appended (removal_in w caps s c) o at at o
  unfolding removal_in
  removal_none c o at b e q = let here : goes_in w caps s c ≡ false = sym e ∙ q in rw here (append_none o at)

  pub removal_one : (c : ℕ) {o o₁ o₂ : List ℕ} {at i j : ℕ} (b : Bool) → b ≡ goes_in w caps s c → b ≡ true
      → Appended (2 ∷ []) o at i o₁ → Appended (c ∷ []) o₁ i j o₂ → Appended (removal_in w caps s c) o at j o₂
  unfolding removal_in
  removal_one c b e q f g = let here : goes_in w caps s c ≡ true = sym e ∙ q in rw here (append_more (2 ∷ []) (c ∷ []) f g)

  -- the removals of the cells below one
  removals_next : (c : ℕ) → removal_words (select p (suc c)) ≡ removal_words (select p c) ++ removal_in w caps s c
  unfolding select removal_in
  removals_next c = go (goes_in w caps s c)
    where
      go : (b : Bool) → removal_words (cond b (select p c ++ (c ∷ [])) (select p c)) ≡ removal_words (select p c) ++ cond b (2 ∷ c ∷ []) []
      go true = removals_last (select p c) c
      go false = sym (append-nil (removal_words (select p c)))

  pub removals_none : (o : List ℕ) (at : ℕ) → Appended (removal_words (select p 0)) o at at o
  unfolding select edit_words
  removals_none o at = append_none o at

  pub removals_more : {o o₁ o₂ : List ℕ} {at i j : ℕ} (c : ℕ) → Appended (removal_words (select p c)) o at i o₁ → Appended (removal_in w caps s c) o₁ i j o₂
      → Appended (removal_words (select p (c + 1))) o at j o₂
  removals_more c f g =
      append_same (sym (ap (λ (k : ℕ). removal_words (select p k)) (add-one c) ∙ removals_next c))
      (append_more (removal_words (select p c)) (removal_in w caps s c) f g)

  pub removals_all : {o o' : List ℕ} {at i : ℕ} (c : ℕ) → c ≤ caps.cells → caps.cells ≤ c → Appended (removal_words (select p c)) o at i o'
      → Appended (removal_words (select p caps.cells)) o at i o'
  removals_all c h k f = let e : c ≡ caps.cells = omega arith in append_same (ap (λ (i : ℕ). removal_words (select p i)) e) f

-- the first words of a list
unfoldable pub front : ℕ → List ℕ → List ℕ
front k l = take k l

module _ (l : List ℕ) where
  pub front_none : (o : List ℕ) (at : ℕ) → Appended (front 0 l) o at at o
  unfolding front
  front_none o at = append_none o at

  pub front_more : (k : ℕ) {o o₁ o₂ : List ℕ} {at i j : ℕ} → Appended (front k l) o at i o₁ → k < length l → (x : ℕ) → x ≡ get_or l k 0
      → Appended (x ∷ []) o₁ i j o₂ → Appended (front (k + 1) l) o at j o₂
  unfolding front
  front_more k f h x e g =
      append_same (ap (λ (y : ℕ). take k l ++ (y ∷ [])) e ∙ sym (ap (λ (n : ℕ). take n l) (add-one k) ∙ take-suc l k 0 h)) (append_more (take k l) (x ∷ []) f g)

  pub front_all : (k : ℕ) {o o' : List ℕ} {at i : ℕ} → Appended (front k l) o at i o' → length l ≤ k → Appended l o at i o'
  unfolding front
  front_all k f h = append_same (take_all k l h) f
