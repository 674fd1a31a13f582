-- A build of the live cells, in any order, is accepted and leaves the same map.
use mathlib.Core.Path.{◌≡◌, refl, ap, ◌∙◌}
use mathlib.Core.List.{List, [], ◌∷◌, ◌++◌}
use Prim.Native.Nat.{ℕ, zero, suc, ◌≤◌}
use native.Mathlib.Omega.{arith}
use lib.ListN.{length, take, length-append}
use lib.Seq.{take_at, drop_at}
use Rattle.shapes.specs.Shapes.{shape}
use Rattle.map.specs.Cells.{Body, licensed_body, Live, Map, live_cells}
use Rattle.map.specs.History.{empty, Insert, edit_answer, changed, edited, history, Outcome, build, build_from}
use Rattle.map.specs.Afresh.{Shuffled, build_words}
use Rattle.map.specs.Sound.{Sound, TwoSolids}
use Rattle.laws.proofs.Edits.{edited_changed, may_insert}
use Rattle.laws.proofs.Rebuild.{AllAccepted, next, inserts, insertion, afresh}

-- a record that is accepted is made, and the build goes on behind it
build_next : (n place : ℕ) (m : Map) (c : ℕ) (x : Body) (words : List ℕ) → (edit_answer m (Insert c x)).refusal ≡ 0
    → build_from (suc n) place m (c ∷ x.code ∷ x.licence ∷ (x.marks ++ words)) ≡ build_from n (suc place) (changed m (Insert c x)) words
unfolding build_from
build_next n place m c x words a =
    let t : ℕ = x.code in
    let count = (may_insert m c x a).count in
    let front : take (shape t).marks (x.marks ++ words) ≡ x.marks = take_at x.marks words _ count in
    let ok : (edit_answer m (Insert c (licensed_body t x.licence (take (shape t).marks (x.marks ++ words))))).refusal ≡ 0 = rw front a in
    rw (ok, build_from) (rw (front, drop_at x.marks words _ count))

-- a build of cells that are each accepted in turn makes their insertions
pub build_inserts : (list : List Live) (n place : ℕ) (m : Map) → AllAccepted m (inserts list) → length (build_words list) ≤ n
    → build_from n place m (build_words list) ≡ record { refusal = 0; place = 0; map = history m (inserts list) }
unfolding build_from build_words history edited
build_inserts [] zero place m a l = refl
build_inserts [] (suc n) place m a l = refl
build_inserts (x ∷ xs) zero place m a l = absurd (omega arith)
build_inserts (x ∷ xs) (suc n) place m (next a more) l =
    let rest = rw (edited_changed m (insertion x) a) at more in
    let room : length (build_words xs) ≤ n = omega (arith, length-append x.body.marks (build_words xs)) in
    build_next n place m x.number x.body (build_words xs) a
    ∙ rw (a, history) (build_inserts xs n (suc place) (changed m (insertion x)) rest room)

-- a build of the live cells of a map, in any order, is accepted and leaves that map
pub afresh_built : (m : Map) → Sound m → TwoSolids m → (other : List Live) → Shuffled (live_cells m) other
    → ((build m.caps (build_words other)).refusal ≡ 0) × ((build m.caps (build_words other)).map ≡ m)
unfolding build
afresh_built m s t other o =
    let r = afresh m s t other o in
    let b = build_inserts other (length (build_words other)) 0 (empty m.caps) r.0 (omega arith) in
    (ap (λ (k : Outcome). k.refusal) b, ap (λ (k : Outcome). k.map) b ∙ r.1)
