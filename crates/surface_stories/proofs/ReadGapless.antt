-- After a read the renumbered map is the map.
use mathlib.Core.Path.{◌≡◌, ap, ◌∙◌}
use mathlib.Core.Bool.{true, not}
use mathlib.Core.List.{List, []}
use Prim.Native.Nat.{ℕ, ◌+◌, ◌<◌}
use native.Mathlib.Omega.{arith}
use lib.Dec.{eqb}
use lib.ListN.{length, get_or}
use lib.IntN.{ℤ}
use Rattle.std.specs.Prelude.{Ok}
use Rattle.numbers.specs.declared.Caps.{Caps}
use Rattle.map.specs.Cells.{Body, live}
use Rattle.off.specs.Words.{Word}
use Rattle.off.specs.Reading.{Got, Surface, reading}
use Rattle.off.proofs.Round.{Face}
use Rattle.surfaces.specs.ReadsOff.{caps_of, outcome, ReadsOff}
use Rattle.surface_stories.specs.Renumbered.{renumbered}
use Rattle.surface_stories.proofs.Made.{face_body, each_at, face_live}
use Rattle.surface_stories.proofs.Again.{told, made, outcome_caps}
use Rattle.surface_stories.proofs.Turned.{accepted}
use Rattle.surface_stories.proofs.Gapless.{renumbered_same}

-- after a read: "exactly the same where the surface was itself read from OFF", for its faces have licence 0
pub read_gapless : (w : List ℕ) (positions : List ℤ) (text w' : List ℕ) (positions' : List ℤ)
    → ReadsOff w positions text (Ok tt) w' positions'
    → (s : Surface) × (us : List Word) × (reading text ≡ Got s us) × (renumbered (outcome s).map ≡ (outcome s).map)
unfolding live
read_gapless w positions text w' positions' r =
    let a = accepted w positions text w' positions' r in
    let s = a.surface in
    let m = (outcome s).map in
    let left = r.left s a.behind a.reads a.room in
    let caps : m.caps ≡ caps_of s = outcome_caps text s a.behind a.reads a.built in
    let t = told text s a.behind a.reads a.built in
    let d = made text s a.behind a.reads a.built in
    let inside : (k : ℕ) → k < m.caps.cells → k < length t.list = λ k h. omega (arith, t.count, ap (λ (c : Caps). c.cells) caps, h) in
    let at : (k : ℕ) → k < m.caps.cells → m.at k ≡ face_body (get_or t.list k []) =
    λ k h. let from : k ≡ 0 + k = omega arith in ap m.at from ∙ d.here k (inside k h) in
    let all : (k : ℕ) → k < m.caps.cells → not (eqb (m.at k).code 0) ≡ true =
    λ k h.
    ap (λ (b : Body). not (eqb b.code 0)) (at k h)
    ∙ face_live (get_or t.list k []) (each_at Face t.list t.each k (inside k h)) in
    let none : (k : ℕ) → k < m.caps.cells → (m.at k).licence ≡ 0 = λ k h. ap (λ (b : Body). b.licence) (at k h) in
    (s, a.behind, a.reads, renumbered_same m left.wf.sound (ap (λ (c : Caps). c.edition) caps) all none)
