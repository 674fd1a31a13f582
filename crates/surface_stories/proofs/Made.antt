-- The map that a build of faces leaves, and its faces.
use mathlib.Core.Path.{◌≡◌, refl, sym, ap, subst, ◌∙◌}
use mathlib.Core.Bool.{Bool, true, cond, not}
use mathlib.Core.List.{List, [], ◌∷◌, ◌++◌, map}
use Prim.Native.Nat.{ℕ, zero, suc, ◌+◌, ◌-◌, ◌<◌, ◌≤◌}
use native.Mathlib.Decide.{ℕ_discrete}
use native.Mathlib.Omega.{arith}
use borrow.Author.Tests.{eq-eqb, ne_eqb}
use lib.Dec.{eqb}
use lib.ListN.{length, get_or, take, drop, length-append}
use lib.Seq.{take_at, drop_at, take-suc, take_all}
use Rattle.lists.specs.Lists.{select}
use Rattle.shapes.specs.Shapes.{shape}
use Rattle.map.specs.Cells.{Body, body_of, Map, Live, live, live_at, live_cells}
use Rattle.map.specs.History.{Insert, edit_answer, put, changed, Outcome, build_from}
use Rattle.build.proofs.Turns.{turn_end, turn_made}
use Rattle.off.specs.Reading.{face_code}
use Rattle.off.specs.Writing.{records_from}
use Rattle.off.proofs.Meant.{Each, none, more}
use Rattle.off.proofs.Round.{Face}
use Rattle.surfaces.proofs.Facing.{face_marks}
use Rattle.surfaces_out.specs.WritesOff.{faces_of}
use Rattle.surfaces_out.proofs.Listed.{map_last, map_fused}

-- the cell of a face
abbrev pub face_body : List ℕ → Body
face_body x = body_of (face_code (length x)) x

-- the faces stand under the numbers from c on, and under those below nothing changed
pub record MadeOf (m : Map) (c : ℕ) (fs : List (List ℕ)) (m' : Map) : Type 0 where
  pub caps : m'.caps ≡ m.caps
  pub here : (k : ℕ) → k < length fs → m'.at (c + k) ≡ face_body (get_or fs k [])
  pub below : (k : ℕ) → k < c → m'.at k ≡ m.at k

turn_not : (place : ℕ) (m : Map) (c t : ℕ) (rest : List ℕ) (n : ℕ) → 1 ≤ n
    → ((edit_answer m (Insert c (body_of t (take (shape t).marks rest)))).refusal ≡ 0 → ⊥)
    → (build_from n place m (c ∷ t ∷ 0 ∷ rest)).refusal ≡ (edit_answer m (Insert c (body_of t (take (shape t).marks rest)))).refusal
unfolding build_from
turn_not place m c t rest zero h f = absurd (omega arith)
turn_not place m c t rest (suc n) h f = rw (build_from, ne_eqb (edit_answer m (Insert c (body_of t (take (shape t).marks rest)))).refusal 0 f)

put_here : (m : Map) (c : ℕ) (x : Body) → (changed m (Insert c x)).at c ≡ x
unfolding changed put
put_here m c x = rw (eq-eqb c c refl)

put_other : (m : Map) (c : ℕ) (x : Body) (k : ℕ) → k < c → (changed m (Insert c x)).at k ≡ m.at k
unfolding changed put
put_other m c x k h = rw (ne_eqb c k (λ (e : c ≡ k). omega arith))

put_caps : (m : Map) (c : ℕ) (x : Body) → (changed m (Insert c x)).caps ≡ m.caps
unfolding changed put
put_caps m c x = refl

-- a face more before the others
made_more : (m : Map) (c : ℕ) (x : List ℕ) (fs : List (List ℕ)) (m' : Map) → MadeOf (changed m (Insert c (face_body x))) (suc c) fs m' → MadeOf m c (x ∷ fs) m'
made_more m c x fs m' r = record {
  caps = r.caps ∙ put_caps m c (face_body x);
  here = each;
  below = λ k h. r.below k (omega arith) ∙ put_other m c (face_body x) k h;
}
  where
    each : (k : ℕ) → k < length (x ∷ fs) → m'.at (c + k) ≡ face_body (get_or (x ∷ fs) k [])
    each zero h = let e : c + 0 ≡ c = omega arith in ap m'.at e ∙ (r.below c (omega arith) ∙ put_here m c (face_body x))
    each (suc k) h = let e : c + suc k ≡ suc c + k = omega arith in ap m'.at e ∙ r.here k (omega arith)

-- an accepted build goes on behind a face
module _ (x others : List ℕ) (c fuel place : ℕ) (m : Map) (f : Face x) (some : 1 ≤ fuel) where
  abbrev t : ℕ
  t = face_code (length x)

  abbrev rest : List ℕ
  rest = x ++ others

  count : (shape t).marks ≡ length x
  count = face_marks (length x) f.least f.most

  named : take (shape t).marks rest ≡ x
  named = take_at x others (shape t).marks (sym count)

  left : drop (shape t).marks rest ≡ others
  left = drop_at x others (shape t).marks (sym count)

  face_turn : (build_from fuel place m (c ∷ t ∷ 0 ∷ rest)).refusal ≡ 0
      → build_from fuel place m (c ∷ t ∷ 0 ∷ rest) ≡ build_from (fuel - 1) (place + 1) (changed m (Insert c (face_body x))) others
  face_turn e = go (ℕ_discrete (edit_answer m (Insert c (body_of t (take (shape t).marks rest)))).refusal 0)
    where
      go : Dec ((edit_answer m (Insert c (body_of t (take (shape t).marks rest)))).refusal ≡ 0)
          → build_from fuel place m (c ∷ t ∷ 0 ∷ rest) ≡ build_from (fuel - 1) (place + 1) (changed m (Insert c (face_body x))) others
      go (no n) = absurd (n (sym (turn_not place m c t rest fuel some n) ∙ e))
      go (yes ok) =
          turn_made place m c t 0 rest fuel some ok
          ∙ (ap (λ (l : List ℕ). build_from (fuel - 1) (place + 1) (changed m (Insert c (body_of t l))) (drop (shape t).marks rest)) named
          ∙ ap (build_from (fuel - 1) (place + 1) (changed m (Insert c (face_body x)))) left)

pub made_faces : (fs : List (List ℕ)) (c fuel place : ℕ) (m : Map) → Each Face fs → length (records_from c fs) ≤ fuel
    → (build_from fuel place m (records_from c fs)).refusal ≡ 0 → MadeOf m c fs (build_from fuel place m (records_from c fs)).map
unfolding records_from
made_faces [] c fuel place m none h e =
    rw (turn_end place m fuel) (record { caps = refl; here = λ k l. absurd (omega arith); below = λ k l. refl })
made_faces (x ∷ fs) c fuel place m (more f each) h e =
    let some : 1 ≤ fuel = omega (arith, h) in
    let turn = face_turn x (records_from (suc c) fs) c fuel place m f some e in
    let shorter : length (records_from (suc c) fs) ≤ fuel - 1 = omega (arith, h, length-append x (records_from (suc c) fs)) in
    let fine : (build_from (fuel - 1) (place + 1) (changed m (Insert c (face_body x))) (records_from (suc c) fs)).refusal ≡ 0 = ap (λ (o : Outcome). o.refusal) (sym turn) ∙ e in
    subst (λ (o : Outcome). MadeOf m c (x ∷ fs) o.map) (sym turn)
    (made_more m c x fs _ (made_faces fs (suc c) (fuel - 1) (place + 1) (changed m (Insert c (face_body x))) each shorter fine))

-- all numbers pass
selected : {A : Type 0} (d : A) (f : ℕ → A) (p : ℕ → Bool) (l : List A) (n : ℕ) → n ≤ length l → ((k : ℕ) → k < n → p k ≡ true) → ((k : ℕ) → k < n → f k ≡ get_or l k d)
    → map f (select p n) ≡ take n l
unfolding select
selected d f p l zero h t e = refl
selected d f p l (suc n) h t e =
    ap (λ (b : Bool). map f (cond b (select p n ++ (n ∷ [])) (select p n))) (t n (omega arith))
    ∙ (map_last f (select p n) n
    ∙ (ap (λ (k : List _). k ++ (f n ∷ [])) (selected d f p l n (omega arith) (λ k i. t k (omega arith)) (λ k i. e k (omega arith)))
    ∙ (ap (λ (x : _). take n l ++ (x ∷ [])) (e n (omega arith)) ∙ sym (take-suc l n d (omega arith)))))

pub each_at : (P : List ℕ → Type 0) (fs : List (List ℕ)) → Each P fs → (k : ℕ) → k < length fs → P (get_or fs k [])
each_at P [] none k h = absurd (omega arith)
each_at P (x ∷ fs) (more p ps) zero h = p
each_at P (x ∷ fs) (more p ps) (suc k) h = each_at P fs ps k (omega arith)

pub face_live : (x : List ℕ) → Face x → not (eqb (face_body x).code 0) ≡ true
unfolding face_code
face_live x f = rw (ne_eqb (length x - 1) 0 (λ (e : length x - 1 ≡ 0). omega (arith, f.least)))

-- the faces of that map
pub made_list : (m m' : Map) (fs : List (List ℕ)) → Each Face fs → MadeOf m 0 fs m' → m'.caps.cells ≡ length fs → faces_of m' ≡ fs
unfolding faces_of live_cells live
made_list m m' fs each r e =
    map_fused (live_at m') (λ (x : Live). x.body.marks) (select (live m') m'.caps.cells)
    ∙ (ap (λ (n : ℕ). map (λ k. (m'.at k).marks) (select (live m') n)) e
    ∙ (selected [] (λ k. (m'.at k).marks) (live m') fs (length fs) (omega arith) alive marks ∙ take_all (length fs) fs (omega arith)))
  where
    at : (k : ℕ) → k < length fs → m'.at k ≡ face_body (get_or fs k [])
    at k h = let z : 0 + k ≡ k = omega arith in ap m'.at (sym z) ∙ r.here k h

    alive : (k : ℕ) → k < length fs → not (eqb (m'.at k).code 0) ≡ true
    alive k h = ap (λ (b : Body). not (eqb b.code 0)) (at k h) ∙ face_live (get_or fs k []) (each_at Face fs each k h)

    marks : (k : ℕ) → k < length fs → (m'.at k).marks ≡ get_or fs k []
    marks k h = ap (λ (b : Body). b.marks) (at k h)
