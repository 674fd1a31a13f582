-- The edits of two crews by `edits`, a list each, of one edit or more: the same answers, memory and tally in either order.
use mathlib.Core.Path.{◌≡◌, refl, sym, ap, ap₂, ◌∙◌}
use mathlib.Core.Bool.{Bool, true, false, cond}
use mathlib.Core.List.{List, [], ◌∷◌}
use Prim.Native.Nat.{ℕ, ◌+◌, ◌<◌, ◌≤◌}
use native.Mathlib.Omega.{arith}
use lib.Dec.{eqb}
use lib.ListN.{length, take, drop, drop_of_length-le}
use lib.Seq.{take_all}
use Rattle.lists.specs.Lists.{first}
use Rattle.words.specs.Words.{Only}
use Rattle.words.proofs.Frame.{only_then}
use Rattle.shapes.specs.Shapes.{shape}
use Rattle.map.specs.Cells.{licensed_body, Map}
use Rattle.map.specs.Answers.{Answer}
use Rattle.map.specs.Says.{edits_says}
use Rattle.map.specs.History.{Edit, Insert, Remove}
use Rattle.map.specs.Morning.{insert_turn, remove_turn, turn, Reading, before, read_from, Morning, morning, told}
use Rattle.map.specs.declared.Stopped.{Stopped}
use Rattle.std.specs.Prelude.{Result}
use Rattle.map.proofs.Says.{edits_one}
use Rattle.map.specs.Sound.{Sound}
use Rattle.picture.specs.Picture.{Wf}
use Rattle.picture.proofs.Put.{wf_alone}
use Rattle.edits.specs.Counts.{counted, tally_after}
use Rattle.edits.specs.InTurn.{ListEdited}
use Rattle.edits.specs.declared.Tally.{Tally}
use Rattle.edits.proofs.Cut.{room_of, head_room}
use Rattle.edits.proofs.Turns.{read_edit}
use Rattle.edits.proofs.Alone.{morning_caps}
use Rattle.crews.specs.Crews.{TwoCrews, TwoLists, edits_in, Tallied}
use Rattle.crews.proofs.Lists.{leaving, lists_past, lists_swap, lists_of_one}

-- a count that stays at its largest number is raised by two numbers in either order
counted_swap : (had i j : ℕ) → counted (counted had i) j ≡ counted (counted had j) i
unfolding counted
counted_swap had i j = omega arith

-- so a tally goes by two answers in either order
pub tally_swap : (t : Tally) (p q : Answer) → tally_after (tally_after t p) q ≡ tally_after (tally_after t q) p
unfolding tally_after
tally_swap t p q =
    ap₂ (λ (x y : ℕ). record { accepted = x; refused = y }) (counted_swap t.accepted (first 0 p.values) (first 0 q.values))
    (go (eqb p.refusal 0) (eqb q.refusal 0))
  where
    one : Bool → ℕ → ℕ
    one ok had = cond ok had (counted had 1)

    go : (x y : Bool) → one y (one x t.refused) ≡ one x (one y t.refused)
    go true true = refl
    go true false = refl
    go false true = refl
    go false false = refl

-- the words of one edit: 2 and a cell's number; 1, a cell's number, a type's code, a licence, and no more marks than the type has
pub remove_words : (c : ℕ) → edits_in (2 ∷ c ∷ []) ≡ Remove c ∷ []
unfolding read_from turn remove_turn
remove_words c = refl

pub insert_words : (c t licence : ℕ) (marks : List ℕ) → length marks ≤ (shape t).marks
    → edits_in (1 ∷ c ∷ t ∷ licence ∷ marks) ≡ Insert c (licensed_body t licence marks) ∷ []
unfolding read_from turn insert_turn
insert_words c t licence marks size =
    let all : take (shape t).marks marks ≡ marks = take_all (shape t).marks marks size in
    let none : drop (3 + (shape t).marks) (c ∷ t ∷ licence ∷ marks) ≡ [] = drop_of_length-le (c ∷ t ∷ licence ∷ marks) {i = 3 + (shape t).marks} (omega arith) in
    let reads : read_from 0 (1 ∷ c ∷ t ∷ licence ∷ marks) ≡ before (Insert c (licensed_body t licence marks)) (read_from 0 []) =
    read_edit 1 (c ∷ t ∷ licence ∷ marks) (Insert c (licensed_body t licence (take (shape t).marks marks))) (3 + (shape t).marks) refl ∙ rw (none, all) in
    ap (λ (x : Reading). x.edits) reads

-- an edit of one crew and one of the other, as two lists
pub one_each : {m : Map} {a b : Edit} (x y : List ℕ) → TwoCrews m a b → edits_in x ≡ a ∷ [] → edits_in y ≡ b ∷ [] → TwoLists m (edits_in x) (edits_in y)
one_each x y crews p q = rw (p, q) (lists_of_one crews)

-- behind the other list one is answered as before it, and leaves the map that the other leaves behind it
morning_past : (m : Map) → Sound m → (x y : List ℕ) → TwoLists m (edits_in x) (edits_in y)
    → morning (morning m y).map x ≡ leaving (morning m x) (morning (morning m x).map y).map
unfolding morning
morning_past m s x y lists = lists_past (read_from 0 x).last (read_from 0 y).last m s (edits_in x) (edits_in y) lists

module _ {w x y : List ℕ} {m : Map} (wf : Wf w m) {r s : Result ℕ Stopped} {w' w'' : List ℕ} (first : ListEdited w x r w') (second : ListEdited w' y s w'') where
  -- after both lists memory is well-formed, of the map that they leave in turn
  after_both : Wf w'' (morning (morning m x).map y).map
  after_both = (second.answers (morning m x).map (first.answers m wf).1).1

  -- nothing beyond the room has changed
  both_inside : Only (λ i. i < room_of (morning (morning m x).map y).map) w w''
  both_inside =
      let one = morning_caps m x in
      let both = morning_caps (morning m x).map y in
      rw (both, one)
      (only_then (rw (head_room w m wf) at first.inside) (rw (head_room w' (morning m x).map (first.answers m wf).1, one) at second.inside))

  -- the second list gets the answer that it gets without the first
  second_told : TwoLists m (edits_in y) (edits_in x) → {s' : Result ℕ Stopped} {v : List ℕ} → ListEdited w y s' v → s ≡ s'
  unfolding told
  second_told lists {s'} without =
      edits_one s s'
      ((second.answers (morning m x).map (first.answers m wf).1).0
      ∙ (ap told (morning_past m wf.sound y x lists) ∙ sym (without.answers m wf).0))

module _ {w x y : List ℕ} {m : Map} (wf : Wf w m) (lists : TwoLists m (edits_in x) (edits_in y))
    {rx ry rx' ry' : Result ℕ Stopped} {w₁ w₂ w₁' w₂' : List ℕ} {t t₁ t₂ t₁' t₂' : Tally}
    (first : Tallied w x t rx w₁ t₁) (second : Tallied w₁ y t₁ ry w₂ t₂)
    (first' : Tallied w y t ry' w₁' t₁') (second' : Tallied w₁' x t₁' rx' w₂' t₂') where
  -- each list gets the same answer both times
  pub same_told : (rx ≡ rx') × (ry ≡ ry')
  same_told =
      (sym (second_told wf first'.made second'.made lists first.made), second_told wf first.made second.made (lists_swap lists) first'.made)

  -- both orders leave one map
  one_map : (morning (morning m y).map x).map ≡ (morning (morning m x).map y).map
  one_map = ap (λ (k : Morning). k.map) (morning_past m wf.sound x y lists)

  -- memory at the end is well-formed, of that map
  pub one_left : Wf w₂ (morning (morning m x).map y).map × Wf w₂' (morning (morning m x).map y).map
  one_left = (after_both wf first.made second.made, rw one_map at (after_both wf first'.made second'.made))

  -- and the same, word for word, in the room and beyond: so every query answers alike
  pub same_left : w₂ ≡ w₂'
  same_left =
      wf_alone {w = w} one_left.0 one_left.1 (both_inside wf first.made second.made)
      (rw one_map at (both_inside wf first'.made second'.made))

  -- "Live counts and the request 2 tally are equal as well."
  pub same_tally : t₂ ≡ t₂'
  same_tally =
      let p = edits_says rx in
      let q = edits_says ry in
      let here : t₂ ≡ tally_after (tally_after t p) q = second.tally ∙ ap (λ (k : Tally). tally_after k q) first.tally in
      let there : t₂' ≡ tally_after (tally_after t q) p =
      second'.tally
      ∙ ap₂ tally_after (first'.tally ∙ ap (λ (r : Result ℕ Stopped). tally_after t (edits_says r)) (sym same_told.1)) (ap edits_says (sym same_told.0)) in
      here ∙ (tally_swap t p q ∙ sym there)
