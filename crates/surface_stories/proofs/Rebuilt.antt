-- A build of the faces of a map, numbered 0, 1, 2 and so on, is accepted and leaves the renumbered map.
use mathlib.Core.Path.{◌≡◌, refl, sym, ap, subst, ◌∙◌}
use mathlib.Core.Bool.{Bool, true, false, cond, not}
use mathlib.Core.List.{List, [], ◌∷◌, ◌++◌, append_assoc, append-nil, map}
use mathlib.Core.Logic.{⊎_elim}
use Prim.Native.Nat.{ℕ, zero, suc, ◌+◌, ◌-◌, ◌<◌, ◌≤◌}
use native.Mathlib.Omega.{arith}
use borrow.Author.Tests.{eq-eqb, eqb-true}
use lib.Dec.{eqb}
use lib.ListN.{length, get_or, take, length-map, length-take, get_or-map}
use lib.Seq.{take-suc, take_all}
use Rattle.lists.specs.Lists.{any, has, select}
use Rattle.lists.proofs.Bools.{either, clash, or_cases, or_left, or_right}
use Rattle.lists.proofs.Members.{has_at, at_any}
use Rattle.numbers.specs.Sizes.{most_capacity, capacities}
use Rattle.numbers.specs.declared.Caps.{Caps}
use Rattle.shapes.specs.Shapes.{shape, shapes}
use Rattle.map.specs.Cells.{Body, body_of, Map, Live, no_cell, live, live_at, live_cells, holds}
use Rattle.map.specs.History.{Outcome, build}
use Rattle.map.specs.Afresh.{build_words}
use Rattle.map.specs.Sound.{Sound}
use Rattle.laws.proofs.Orders.{shuffled_self}
use Rattle.laws.proofs.Builds.{afresh_built}
use Rattle.off.specs.Reading.{face_code}
use Rattle.off.specs.Writing.{records_from}
use Rattle.off.proofs.Meant.{Each, none, more}
use Rattle.off.proofs.Round.{Face}
use Rattle.surfaces_out.specs.WritesOff.{is_face, other_cell, faces_of}
use Rattle.surfaces_out.proofs.Listed.{map_last, map_fused}
use Rattle.surface_stories.specs.Renumbered.{unlicensed, renumbered}
use Rattle.surface_stories.proofs.Made.{face_body, MadeOf, made_list}
use Rattle.surface_stories.proofs.Numbered.{get_d_any, alive, old, live_count_lem, cells_count, behind_none, at_old, live_inside, two_renumbered, sound_renumbered}

-- the records of one face more, and the words of a build of one cell more
records_last : (c : ℕ) (a : List (List ℕ)) (x : List ℕ)
    → records_from c (a ++ (x ∷ [])) ≡ records_from c a ++ ((c + length a) ∷ face_code (length x) ∷ 0 ∷ x)
unfolding records_from
records_last c [] x =
    let e : c ≡ c + 0 = omega arith in
    ap (λ (l : List ℕ). c ∷ face_code (length x) ∷ 0 ∷ l) (append-nil x) ∙ ap (λ (k : ℕ). k ∷ face_code (length x) ∷ 0 ∷ x) e
records_last c (y ∷ a) x =
    let e : suc c + length a ≡ c + suc (length a) = omega arith in
    ap (λ (l : List ℕ). (c ∷ face_code (length y) ∷ 0 ∷ y) ++ l) (records_last (suc c) a x)
    ∙ (sym (append_assoc (c ∷ face_code (length y) ∷ 0 ∷ y) (records_from (suc c) a) ((suc c + length a) ∷ face_code (length x) ∷ 0 ∷ x))
    ∙ ap (λ (k : ℕ). ((c ∷ face_code (length y) ∷ 0 ∷ y) ++ records_from (suc c) a) ++ (k ∷ face_code (length x) ∷ 0 ∷ x)) e)

words_last : (a : List Live) (x : Live) → build_words (a ++ (x ∷ [])) ≡ build_words a ++ (x.number ∷ x.body.code ∷ x.body.licence ∷ x.body.marks)
unfolding build_words
words_last [] x = ap (λ (l : List ℕ). x.number ∷ x.body.code ∷ x.body.licence ∷ l) (append-nil x.body.marks)
words_last (y ∷ a) x =
    ap (λ (l : List ℕ). y.number ∷ y.body.code ∷ y.body.licence ∷ (y.body.marks ++ l)) (words_last a x)
    ∙ ap (λ (l : List ℕ). y.number ∷ y.body.code ∷ y.body.licence ∷ l)
    (sym (append_assoc y.body.marks (build_words a) (x.number ∷ x.body.code ∷ x.body.licence ∷ x.body.marks)))

-- where the faces stand under 0, 1, 2 and so on, the words of a build are their records
faces_words : (r : Map) (fs : List (List ℕ)) (n : ℕ) → n ≤ length fs → ((k : ℕ) → k < n → live r k ≡ true)
    → ((k : ℕ) → k < n → r.at k ≡ face_body (get_or fs k []))
    → build_words (map (live_at r) (select (live r) n)) ≡ records_from 0 (take n fs)
unfolding select build_words records_from
faces_words r fs zero h t e = refl
faces_words r fs (suc n) h t e =
    let x : List ℕ = get_or fs n [] in
    let size : 0 + length (take n fs) ≡ n = omega (arith, length-take n fs) in
    ap (λ (b : Bool). build_words (map (live_at r) (cond b (select (live r) n ++ (n ∷ [])) (select (live r) n)))) (t n (omega arith))
    ∙ (ap build_words (map_last (live_at r) (select (live r) n) n)
    ∙ (words_last (map (live_at r) (select (live r) n)) (live_at r n)
    ∙ (ap (λ (l : List ℕ). l ++ (n ∷ (r.at n).code ∷ (r.at n).licence ∷ (r.at n).marks))
    (faces_words r fs n (omega arith) (λ k i. t k (omega arith)) (λ k i. e k (omega arith)))
    ∙ (ap (λ (b : Body). records_from 0 (take n fs) ++ (n ∷ b.code ∷ b.licence ∷ b.marks)) (e n (omega arith))
    ∙ (ap (λ (k : ℕ). records_from 0 (take n fs) ++ (k ∷ face_code (length x) ∷ 0 ∷ x)) (sym size)
    ∙ (sym (records_last 0 (take n fs) x) ∙ ap (records_from 0) (sym (take-suc fs n [] (omega arith)))))))))

-- a triangle has 3 marks and a quad 4
record Sized (t : ℕ) : Type 0 where
  marks : (shape t).marks ≡ suc t
  least : 2 ≤ t
  most : t ≤ 3

face_sized : (t : ℕ) → is_face t ≡ true → Sized t
unfolding is_face shape shapes
face_sized t e =
    ⊎_elim (λ z. subst Sized (sym (eqb-true t 2 z)) two) (λ z. subst Sized (sym (eqb-true t 3 z)) three) (or_cases (eqb t 2) (eqb t 3) e)
  where
    two : Sized 2
    two = record { marks = refl; least = omega arith; most = omega arith }

    three : Sized 3
    three = record { marks = refl; least = omega arith; most = omega arith }

each_has : (P : ℕ → Type 0) (l : List ℕ) → ((v : ℕ) → has v l ≡ true → P v) → Each P l
unfolding has
each_has P [] f = none
each_has P (x ∷ xs) f = more (f x (or_left _ _ (eq-eqb x x refl))) (each_has P xs (λ v h. f v (or_right (eqb x v) _ h)))

each_map : {A : Type 0} (P : A → Type 0) (f : ℕ → A) (l : List ℕ) → Each (λ k. P (f k)) l → Each P (map f l)
each_map P f [] none = none
each_map P f (x ∷ xs) (more p ps) = more p (each_map P f xs ps)

module _ (m : Map) (s : Sound m) (faces : other_cell m ≡ false) where
  faces_alive : faces_of m ≡ map (λ k. (m.at k).marks) (alive m)
  unfolding faces_of live_cells
  faces_alive = map_fused (live_at m) (λ (x : Live). x.body.marks) (alive m)

  pub faces_count : length (faces_of m) ≡ length (live_cells m)
  unfolding faces_of
  faces_count = length-map (live_cells m) (λ (x : Live). x.body.marks)

  -- each live cell is a face
  listed : (k : ℕ) → get_or (live_cells m) k (live_at m m.caps.cells) ≡ live_at m (old m k)
  unfolding live_cells
  listed k = get_or-map (live_at m) (alive m) k m.caps.cells

  pub is_face_lem : (k : ℕ) → k < length (alive m) → is_face (m.at (old m k)).code ≡ true
  unfolding other_cell
  is_face_lem k h = ⊎_elim (λ t. t) (λ f. absurd (clash (other f) faces)) (either (is_face (m.at (old m k)).code))
    where
      other : is_face (m.at (old m k)).code ≡ false → any (λ (x : Live). not (is_face x.body.code)) (live_cells m) ≡ true
      other f =
          at_any (λ (x : Live). not (is_face x.body.code)) (live_cells m) (live_at m m.caps.cells) k (omega (arith, live_count_lem m))
          (ap (λ (x : Live). not (is_face x.body.code)) (listed k) ∙ ap not f)

  face_body_lem : (c : ℕ) → is_face (m.at c).code ≡ true → unlicensed (m.at c) ≡ face_body (m.at c).marks
  unfolding face_code
  face_body_lem c f =
      let t = face_sized (m.at c).code f in
      let e : (m.at c).code ≡ length (m.at c).marks - 1 = omega (arith, s.fitting c, t.marks) in
      ap (λ (k : ℕ). body_of k (m.at c).marks) e

  face_form : m.caps.marks ≤ most_capacity → (c : ℕ) → is_face (m.at c).code ≡ true → Face (m.at c).marks
  unfolding holds
  face_form few c f =
      let t = face_sized (m.at c).code f in
      record {
        least = omega (arith, s.fitting c, t.marks, t.least);
        most = omega (arith, s.fitting c, t.marks, t.most);
        marks = each_has (λ v. v < 1000000) (m.at c).marks (λ v h. omega (arith, s.inside v c h, few));
      }

  pub each_face : m.caps.marks ≤ most_capacity → Each Face (faces_of m)
  each_face few =
      subst (Each Face) (sym faces_alive)
      (each_map Face (λ k. (m.at k).marks) (alive m)
      (each_has (λ k. Face (m.at k).marks) (alive m)
      (λ v h.
      let at = has_at v (alive m) h in
      let e : old m at.0 ≡ v = get_d_any (alive m) at.0 m.caps.cells 0 at.1 ∙ at.2 in
      face_form few v (subst (λ (k : ℕ). is_face (m.at k).code ≡ true) e (is_face_lem at.0 at.1)))))

  -- the renumbered map has the faces under 0, 1, 2 and so on
  face_at : (k : ℕ) → k < length (alive m) → (renumbered m).at k ≡ face_body (get_or (faces_of m) k [])
  unfolding no_cell
  face_at k h =
      let dead : (m.at m.caps.cells).marks ≡ [] = ap (λ (b : Body). b.marks) (behind_none m s) in
      let marks : get_or (faces_of m) k [] ≡ (m.at (old m k)).marks =
      ap (λ (l : List (List ℕ)). get_or l k []) faces_alive
      ∙ (ap (get_or (map (λ c. (m.at c).marks) (alive m)) k) (sym dead) ∙ get_or-map (λ c. (m.at c).marks) (alive m) k m.caps.cells) in
      at_old m s k ∙ (face_body_lem (old m k) (is_face_lem k h) ∙ ap face_body (sym marks))

  words_are : build_words (live_cells (renumbered m)) ≡ records_from 0 (faces_of m)
  unfolding live_cells
  words_are =
      let count : length (faces_of m) ≡ length (alive m) = faces_count ∙ live_count_lem m in
      ap (λ (n : ℕ). build_words (map (live_at (renumbered m)) (select (live (renumbered m)) n))) (cells_count m ∙ sym count)
      ∙ (faces_words (renumbered m) (faces_of m) (length (faces_of m)) (omega arith)
      (λ k h. live_inside m s k (omega (arith, count))) (λ k h. face_at k (omega (arith, count)))
      ∙ ap (records_from 0) (take_all (length (faces_of m)) (faces_of m) (omega arith)))

  caps_are : (renumbered m).caps ≡ capacities m.caps.marks (length (faces_of m))
  unfolding renumbered
  caps_are = ap (capacities m.caps.marks) (sym faces_count)

  pub rebuilt : ((build (capacities m.caps.marks (length (faces_of m))) (records_from 0 (faces_of m))).refusal ≡ 0)
      × ((build (capacities m.caps.marks (length (faces_of m))) (records_from 0 (faces_of m))).map ≡ renumbered m)
  rebuilt =
      let n : Map = renumbered m in
      let r = afresh_built n (sound_renumbered m s) (two_renumbered m) (live_cells n) (shuffled_self (live_cells n)) in
      let same : build n.caps (build_words (live_cells n)) ≡ build (capacities m.caps.marks (length (faces_of m))) (records_from 0 (faces_of m)) =
      ap (build n.caps) words_are ∙ ap (λ (c : Caps). build c (records_from 0 (faces_of m))) caps_are in
      (ap (λ (o : Outcome). o.refusal) (sym same) ∙ r.0, ap (λ (o : Outcome). o.map) (sym same) ∙ r.1)

  -- and has the same faces
  pub faces_renumbered : m.caps.marks ≤ most_capacity → faces_of (renumbered m) ≡ faces_of m
  faces_renumbered few =
      let count : length (faces_of m) ≡ length (alive m) = faces_count ∙ live_count_lem m in
      let there : MadeOf (renumbered m) 0 (faces_of m) (renumbered m) =
      record {
        caps = refl;
        here = λ k h. let e : 0 + k ≡ k = omega arith in ap (renumbered m).at e ∙ face_at k (omega (arith, count));
        below = λ k h. refl;
      } in
      made_list (renumbered m) (renumbered m) (faces_of m) (each_face few) there (cells_count m ∙ sym count)
