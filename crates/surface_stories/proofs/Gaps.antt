-- Two calls: a surface written, then read. Its cells come back in their order, under the numbers 0, 1, 2 and so on, with licence 0 and the same
-- positions.
use mathlib.Core.Path.{◌≡◌, refl, sym, ap, subst, ◌∙◌}
use mathlib.Core.Bool.{Bool, true, false}
use mathlib.Core.List.{List, [], ◌++◌}
use Prim.Native.Nat.{ℕ, ◌*◌, ◌<◌, ◌≤◌}
use native.Mathlib.Omega.{arith}
use borrow.Author.Tests.{ltb-false}
use lib.Dec.{ltb}
use lib.ListN.{length, take, drop, length-take}
use lib.Seq.{take_at}
use lib.IntN.{ℤ}
use mir.Syntax.{w16}
use mir.Val.{SFits}
use Rattle.std.specs.Prelude.{Result, Ok, Err}
use Rattle.lists.proofs.Select.{select_size}
use Rattle.numbers.specs.Room.{room}
use Rattle.numbers.specs.Sizes.{most_capacity}
use Rattle.words.specs.Words.{Only}
use Rattle.map.specs.Cells.{Map, live, live_cells}
use Rattle.map.specs.Answers.{Answer, ◌when◌, answer, list_answer}
use Rattle.map.specs.Says.{given, verdict_says}
use Rattle.map.proofs.Refusals.{number_back}
use Rattle.picture.specs.Picture.{Wf}
use Rattle.build.specs.Builds.{placed}
use Rattle.off.specs.Reading.{Got, Surface, reading}
use Rattle.off.specs.Writing.{records_from}
use Rattle.off.proofs.Meant.{Each}
use Rattle.off.proofs.Round.{round_trip}
use Rattle.surfaces.specs.ReadsOff.{broken, surfaced_says, room_refusal, outcome, surface_answer, read_answer, positions_left, SurfaceLeft, ReadsOff}
use Rattle.surfaces.specs.declared.NotRead.{NotRead}
use Rattle.surfaces.specs.declared.NotRead.TheVariants as NotRead'
use Rattle.surfaces.proofs.Answering.{room_enough}
use Rattle.surfaces_out.specs.WritesOff.{other_cell, faces_of, off_text, write_checks, write_answer, text_left, WritesOff}
use Rattle.surface_stories.specs.Renumbered.{renumbered, ReadRenumbered}
use Rattle.surface_stories.proofs.Turned.{checked, written}
use Rattle.surface_stories.proofs.Numbered.{live_count_lem}
use Rattle.surface_stories.proofs.Rebuilt.{faces_count, each_face, rebuilt}

-- an accepted read answers nothing else
accepted_only : (r : Result (Unit {0}) NotRead) → (surfaced_says r).refusal ≡ 0 → r ≡ Ok tt
unfolding surfaced_says broken
accepted_only (Ok _) e = refl
accepted_only (Err (NotRead'.Broken place)) e = absurd (omega (arith, e))
accepted_only (Err (NotRead'.Refused why place)) e = absurd (omega (arith, e, (number_back why).1))

-- a write that is accepted: there are positions enough, and every live cell is a face
checks_pass : (a b c : Bool) (k : ℕ) → (checked a b c k).refusal ≡ 0 → (a ≡ false) × (b ≡ false)
unfolding answer ◌when◌
checks_pass true b c k e = absurd (omega (arith, e))
checks_pass false true c k e = absurd (omega (arith, e))
checks_pass false false c k e = (refl, refl)

passed : (m : Map) (positions : List ℤ) (places : ℕ) → (write_answer m positions places).refusal ≡ 0
    → (3 * m.caps.marks ≤ length positions) × (other_cell m ≡ false)
unfolding write_answer list_answer write_checks
passed m positions places e =
    let text : List ℕ = off_text m positions in
    let p = checks_pass (ltb (length positions) (3 * m.caps.marks)) (other_cell m) (ltb places (length text)) (length text) e in
    (ltb-false (length positions) (3 * m.caps.marks) p.0, p.1)

-- the surface that the text of a map says
abbrev surface_of : Map → List ℤ → Surface
surface_of m positions =
    let faces : List (List ℕ) = faces_of m in
    record { marks = m.caps.marks; cells = length faces; positions = take (3 * m.caps.marks) positions; records = records_from 0 faces }

module _ (w : List ℕ) (m : Map) (wf : Wf w m) where
  few_cells : length (live_cells m) ≤ most_capacity
  few_cells = omega (arith, live_count_lem m, select_size (live m) m.caps.cells, wf.picture.cells)

  module _ (positions : List ℤ) (o o' : List ℕ) (n : ℕ) (q : WritesOff w positions o (Ok n) o') where
    done : ((write_answer m positions (length o)).refusal ≡ 0) × (n ≡ length (off_text m positions))
    done = written m positions o n (q.answers m wf).0

    pub enough : 3 * m.caps.marks ≤ length positions
    enough = (passed m positions (length o) done.0).0

    pub all_faces : other_cell m ≡ false
    all_faces = (passed m positions (length o) done.0).1

    pub text_is : take n o' ≡ off_text m positions
    unfolding text_left
    text_is =
        let text : List ℕ = off_text m positions in
        let wrote : o' ≡ text ++ drop (length text) o = (q.answers m wf).1 ∙ rw done.0 in
        ap (take n) wrote ∙ take_at text (drop (length text) o) n (sym done.1)

    -- the text that is written says the faces, numbered 0, 1, 2 and so on
    pub says_faces : Each (SFits w16) (take (3 * m.caps.marks) positions) → reading (take n o') ≡ Got (surface_of m positions) []
    unfolding off_text
    says_faces fit =
        let few : length (faces_of m) < 1000000 = omega (arith, faces_count m wf.sound all_faces, few_cells) in
        ap reading text_is
        ∙ round_trip m.caps.marks positions (faces_of m) (omega (arith, wf.picture.marks)) few enough fit
        (each_face m wf.sound all_faces wf.picture.marks)

    build_is : ((outcome (surface_of m positions)).refusal ≡ 0) × ((outcome (surface_of m positions)).map ≡ renumbered m)
    unfolding outcome
    build_is = rebuilt m wf.sound all_faces

    -- with room for the count of live cells, a read of that text is accepted and leaves the renumbered map
    module _ (fit : Each (SFits w16) (take (3 * m.caps.marks) positions)) (v : List ℕ) (metres : List ℤ)
        (room-there : room m.caps.marks (length (live_cells m)) ≤ length v) (numbers-there : 3 * m.caps.marks ≤ length metres) where
      fits : room_refusal (length v) (length metres) (surface_of m positions) ≡ 0
      unfolding room_refusal verdict_says given
      fits =
          let count = faces_count m wf.sound all_faces in
          ap (λ (a : Answer). a.refusal)
          (sym (room_enough (length v) (length metres) m.caps.marks (length (faces_of m)) wf.picture.marks (omega (arith, count, few_cells))
          (subst (λ (k : ℕ). room m.caps.marks k ≤ length v) (sym count) room-there) numbers-there))

      module _ (r : Result (Unit {0}) NotRead) (v' : List ℕ) (metres' : List ℤ) (x : ReadsOff v metres (take n o') r v' metres') where
        says_none : (surfaced_says r).refusal ≡ 0
        unfolding read_answer surface_answer placed
        says_none = ap (λ (a : Answer). a.refusal) x.says ∙ rw (says_faces fit, fits, build_is.0)

        left : SurfaceLeft (surface_of m positions) v metres v' metres'
        left = x.left (surface_of m positions) [] (says_faces fit) fits

        read_renumbered : ReadRenumbered m positions v metres r v' metres'
        unfolding positions_left
        read_renumbered =
            let count = faces_count m wf.sound all_faces in
            let size : length (take (3 * m.caps.marks) positions) ≡ 3 * m.caps.marks =
            omega (arith, length-take (3 * m.caps.marks) positions, enough) in
            let kept : positions_left (surface_of m positions) metres
            ≡ take (3 * m.caps.marks) positions ++ drop (length (take (3 * m.caps.marks) positions)) metres = rw build_is.0 in
            record {
              answered = accepted_only r says_none;
              wf = subst (Wf v') build_is.1 left.wf;
              inside = subst (λ (k : ℕ). Only (λ i. i < room m.caps.marks k) v v') count left.inside;
              metres = left.metres ∙ (kept ∙ ap (λ (k : ℕ). take (3 * m.caps.marks) positions ++ drop k metres) size);
            }

-- Reading what we write gives back the same cells and positions, renumbered 0, 1, 2 where numbers had gaps and without licences: of any well-formed
-- memory and any positions of 16 bits, the text that an accepted write leaves, read into memory and positions with room for it, is accepted and
-- leaves the renumbered map
pub gaps_closed : (w : List ℕ) (m : Map) → Wf w m → (positions : List ℤ) → Each (SFits w16) (take (3 * m.caps.marks) positions)
    → (o o' : List ℕ) (n : ℕ) → WritesOff w positions o (Ok n) o'
    → (v : List ℕ) (metres : List ℤ) → room m.caps.marks (length (live_cells m)) ≤ length v → 3 * m.caps.marks ≤ length metres
    → (r : Result (Unit {0}) NotRead) (v' : List ℕ) (metres' : List ℤ) → ReadsOff v metres (take n o') r v' metres' → ReadRenumbered m positions v metres r v' metres'
gaps_closed w m wf positions fit o o' n q v metres there numbers r v' metres' x =
    read_renumbered w m wf positions o o' n q fit v metres there numbers r v' metres' x
