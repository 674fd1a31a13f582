-- The siblings of a set mended one after another.
use mathlib.Core.Path.{◌≡◌, refl, sym, ap, ◌∙◌, fun_ext}
use mathlib.Core.Bool.{Bool, true, false, cond, ◌||◌}
use mathlib.Core.List.{List, [], ◌∷◌, ◌++◌}
use mathlib.Core.Logic.{◌⊎◌, inl, inr}
use Prim.Native.Nat.{ℕ, suc, ◌+◌, ◌/◌, ◌%◌, ◌<◌, ◌≤◌}
use native.Mathlib.Numerals.{add-one}
use native.Mathlib.Omega.{arith}
use borrow.Author.Tests.{ltb-true, eqb-true}
use lib.Dec.{eqb}
use lib.ListN.{get_or, length, take, drop, get_or-append}
use lib.Seq.{take-suc, take_all, get_or-append-add}
use Rattle.shapes.specs.Shapes.{shape}
use Rattle.shapes.specs.Table.{table}
use Rattle.shapes.proofs.Facts.{facts}
use Rattle.lists.specs.Lists.{has, after}
use Rattle.lists.specs.Ascending.{Ascending}
use Rattle.lists.specs.Filled.{Copied}
use Rattle.lists.proofs.Members.{at_has, has_append, has_one}
use Rattle.lists.proofs.Cyclic.{after_at}
use Rattle.words.proofs.Frame.{only_none, only_then}
use Rattle.numbers.specs.declared.Caps.{Caps}
use Rattle.map.specs.declared.Way.{Way}
use Rattle.map.specs.declared.Way.TheVariants.{Lone}
use Rattle.map.specs.Cells.{Map, facets_at}
use Rattle.map.specs.Siblings.{is_half, marks_of, sharers, siblings, sibling}
use Rattle.map.specs.Ways.{between, way}
use Rattle.laws.proofs.Sharers.{sharers_has, sharers_ascend, sharers_same}
use Rattle.laws.proofs.SiblingWays.{way_by}
use Rattle.picture.specs.State.{State, map_with}
use Rattle.picture.specs.Picture.{Pic}
use Rattle.picture.specs.Changes.{with_sib}
use Rattle.picture.specs.Step.{Step}
use Rattle.picture.proofs.Alike.{state_same}
use Rattle.store.specs.Layout.{past_halves}
use Rattle.facet.proofs.Read.{facet_read}
use Rattle.sibling.specs.Shared.{Shared, MayMend, mended}
use Rattle.sibling.specs.Ways.{facing_in}
use Rattle.laws.proofs.Facets.{facets_count}
use Rattle.numbers.specs.Sizes.{most_around, most_capacity}
use Rattle.shapes.specs.Sizes.{most_facets}

-- the first i half-facets of a list lead to the next of it, and say which way that runs
unfoldable pub led_to : Map → List ℕ → ℕ → State → State
led_to m l i s = record {
  at = s.at;
  chain = s.chain;
  sib = λ h. cond (has h (take i l)) (after h l) (s.sib h);
  way = λ h. cond (has h (take i l)) (way m h) (s.way h);
  anc = s.anc;
  count = s.count;
}

led_none : (m : Map) (l : List ℕ) (s : State) → led_to m l 0 s ≡ s
unfolding led_to has
led_none m l s = refl

led_more : (m : Map) (l : List ℕ) (i : ℕ) (s : State) → i < length l
    → with_sib (led_to m l i s) (get_or l i 0) (after (get_or l i 0) l) (way m (get_or l i 0)) ≡ led_to m l (i + 1) s
unfolding led_to with_sib
led_more m l i s h =
    state_same (with_sib (led_to m l i s) x (after x l) (way m x)) (led_to m l (i + 1) s) refl refl (fun_ext (λ k. more (λ h. after h l) s.sib k))
    (fun_ext (λ k. more (way m) s.way k)) refl refl
  where
    x : ℕ
    x = get_or l i 0

    go : {A : Type 0} (f was : ℕ → A) (k : ℕ) (b : Bool) → eqb x k ≡ b → (c : Bool) → cond b (f x) (cond c (f k) (was k)) ≡ cond (c || b) (f k) (was k)
    go f was k true e true = ap f (eqb-true _ _ e)
    go f was k true e false = ap f (eqb-true _ _ e)
    go f was k false e true = refl
    go f was k false e false = refl

    more : {A : Type 0} (f was : ℕ → A) (k : ℕ)
        → cond (eqb x k) (f x) (cond (has k (take i l)) (f k) (was k)) ≡ cond (has k (take (i + 1) l)) (f k) (was k)
    more f was k =
        rw (add-one i, take-suc l i 0 h, has_append k (take i l) (x ∷ []), has_one k x) (go f was k (eqb x k) refl (has k (take i l)))

-- the place of the next: the next place, and for the last the first
abbrev pub NextAt : ℕ → ℕ → ℕ → Type 0
NextAt n i to = ((i + 1 < n) × (to ≡ i + 1)) ⊎ ((n ≤ i + 1) × (to ≡ 0))

next_below : (n i to : ℕ) → i < n → NextAt n i to → to < n
next_below n i to h (inl a) = omega (arith, a.0, a.1)
next_below n i to h (inr b) = omega (arith, b.1)

pub next_at : (l : List ℕ) → Ascending l → (n i to : ℕ) → n ≡ length l → i < n → NextAt n i to → get_or l to 0 ≡ after (get_or l i 0) l
next_at l a n i to e h place = go place ∙ sym (after_at l a i (omega arith))
  where
    go : NextAt n i to → get_or l to 0 ≡ get_or (l ++ l) (suc i) 0
    go (inl k) = rw (k.1, add-one i) (sym (get_or-append l l 0 (suc i) (omega (arith, k.0))))
    go (inr k) =
        let end : suc i ≡ length l + 0 = omega (arith, k.0) in
        rw (k.1, end) (sym (get_or-append-add l l 0 0))

-- what was listed stands in the first places
listed_at : (l o : List ℕ) (n : ℕ) (o' : List ℕ) → Copied l o n o' → n ≤ length o → (i : ℕ) → i < n → get_or o' i 0 ≡ get_or l i 0
listed_at l o n o' c h i k =
    rw (c.filled.wrote (omega (arith, c.count))) (get_or-append l (drop (length l) o) 0 i (omega (arith, c.count)))

-- a half-facet that shares the set has a sibling's word
pub sharer_word : (caps : Caps) (s : State) (set : List ℕ) (h : ℕ) → has h (sharers (map_with caps s) set) ≡ true
    → (h / 8 < caps.cells) × (h % 8 < most_facets)
unfolding map_with is_half
sharer_word caps s set h e =
    let x = sharers_has (map_with caps s) set h e in (
      omega (arith, x.0.below),
      omega
          (arith, ltb-true (h % 8) (length (facets_at (map_with caps s) (h / 8))) x.0.facet, facets_count (map_with caps s) (h / 8), (facts ((map_with caps s).at (h / 8)).code).facets),
    )

-- and its number is one that is stored whole
sharer_whole : (caps : Caps) (s : State) (set : List ℕ) (h : ℕ) → caps.cells ≤ most_capacity → has h (sharers (map_with caps s) set) ≡ true → h < past_halves
unfolding map_with
sharer_whole caps s set h few e = omega (arith, few, (sharers_has (map_with caps s) set h e).0.below)

-- which way a half-facet runs beside another, read on the picture of a state
module _ (w : List ℕ) (caps : Caps) (s : State) (p : Pic w caps s) (fits : (c : ℕ) → length (s.at c).marks ≡ (shape (s.at c).code).marks) where
  pub facing_read : (h x : ℕ) → h / 8 < caps.cells → x / 8 < caps.cells → facing_in w caps table h x ≡ cond (eqb h x) Lone (between (map_with caps s) h x)
  unfolding facing_in between marks_of
  facing_read h x hc xc = rw (facet_read w caps s p (h / 8) hc (fits (h / 8)) (h % 8), facet_read w caps s p (x / 8) xc (fits (x / 8)) (x % 8))

-- so of a half-facet and the next in its set, which is its sibling
next_sibling : (m : Map) (set : List ℕ) (h : ℕ) → has h (sharers m set) ≡ true → after h (sharers m set) ≡ sibling m h
unfolding sibling siblings
next_sibling m set h e = ap (after h) (sharers_same m set (marks_of m h) (sharers_has m set h e).1)

-- the sharers of a set, the first i of them mended
abbrev pub mended_to : Caps → List ℕ → ℕ → State → State
mended_to caps set i s = led_to (map_with caps s) (sharers (map_with caps s) set) i s

module _ (caps : Caps) (rows : List (List (List ℕ))) (set w : List ℕ) where
  pub mend_start : Step caps w w (MayMend caps rows set) (mended_to caps set 0)
  mend_start = record { inside = only_none; state = λ s p ok. rw led_none p }

  pub mend_more : (o halves : List ℕ) (n i to h x : ℕ) (y : Way) (w' w'' : List ℕ) → Shared w caps rows set o n halves → length o ≡ most_around
      → Step caps w w' (MayMend caps rows set) (mended_to caps set i) → i < n → NextAt n i to → h ≡ get_or halves i 0 → x ≡ get_or halves to 0
      → y ≡ facing_in w' caps rows h x
      → Step caps w' w'' (λ s. (h / 8 < caps.cells) × (h % 8 < most_facets) × (x < past_halves)) (λ s. with_sib s h x y)
      → Step caps w w'' (MayMend caps rows set) (mended_to caps set (i + 1))
  unfolding map_with led_to
  mend_more o halves n i to h x y w' w'' shared size was less place eh ex ey put = record {
    inside = only_then was.inside put.inside;
    state = λ s p ok.
        let m = map_with caps s in
        let l = sharers m set in
        let c = shared.list s p ok.ready ok.asked in
        let room : n ≤ length o = omega (arith, shared.few) in
        let below : i < length l = omega (arith, c.count) in
        let half : h ≡ get_or l i 0 = eh ∙ listed_at l o n halves c room i less in
        let there : has h l ≡ true = rw half (at_has l i below) in
        let low : to < n = next_below n i to less place in
        let other : x ≡ get_or l to 0 = ex ∙ listed_at l o n halves c room to low in
        let behind : has x l ≡ true = rw other (at_has l to (omega (arith, c.count))) in
        let next : x ≡ after (get_or l i 0) l = other ∙ next_at l (sharers_ascend m set) n i to c.count less place in
        let pic : Pic w' caps (mended_to caps set i s) = was.state s p ok in
        let word = sharer_word caps s set h there in
        let beside = sharer_word caps s set x behind in
        let onward : x ≡ sibling m h = next ∙ (rw (sym half) (next_sibling m set h there)) in
        let read : y ≡ cond (eqb h x) Lone (between m h x) =
        ey
        ∙ (ap (λ (r : List (List (List ℕ))). facing_in w' caps r h x) ok.asked.types
        ∙ facing_read w' caps (mended_to caps set i s) pic ok.ready.sound.fitting h x word.0 beside.0) in
        let runs : y ≡ way m h = read ∙ way_by m h (sharers_has m set h there).0 x onward in
        let more : with_sib (mended_to caps set i s) h x y ≡ mended_to caps set (i + 1) s = rw (runs, half, next) (led_more m l i s below) in
        rw more at (put.state (mended_to caps set i s) pic (word.0, word.1, sharer_whole caps s set x p.cells behind));
  }

  pub mend_end : (n i : ℕ) (o halves w' : List ℕ) → Shared w caps rows set o n halves
      → Step caps w w' (MayMend caps rows set) (mended_to caps set i) → n ≤ i → Step caps w w' (MayMend caps rows set) (mended caps set)
  unfolding mended led_to
  mend_end n i o halves w' shared was h = record {
    inside = was.inside;
    state = λ s p ok.
        let l = sharers (map_with caps s) set in
        let all : take i l ≡ l = take_all i l (omega (arith, (shared.list s p ok.ready ok.asked).count)) in
        rw all at (was.state s p ok);
  }
