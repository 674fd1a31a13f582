-- What reading a surface answers, step by step.
use mathlib.Core.Path.{◌≡◌, refl, sym, ap, ◌∙◌}
use mathlib.Core.Bool.{Bool, true, false}
use mathlib.Core.List.{List, [], ◌∷◌}
use Rattle.std.specs.Prelude.{Result, Ok, Err, ⊤}
use Prim.Native.Nat.{ℕ, ◌+◌, ◌*◌, ◌<◌, ◌≤◌}
use native.Mathlib.Omega.{arith}
use borrow.Author.Tests.{lt-ltb, le-ltb, ne_eqb, ltb-false}
use lib.ListN.{length}
use lib.Seq.{sets-eq}
use lib.IntN.{ℤ}
use Rattle.numbers.specs.Room.{room}
use Rattle.numbers.specs.Sizes.{most_capacity, capacities}
use Rattle.numbers.specs.Editions.{is_edition}
use Rattle.numbers.specs.declared.Caps.{Caps}
use Rattle.map.specs.Answers.{Answer, ◌when◌, answer, format_checks}
use Rattle.map.specs.Says.{number_of, given, refused, verdict_says, built_says, RefusedAt}
use Rattle.map.specs.declared.Refusal.{Refusal}
use Rattle.map.specs.declared.Refusal.TheVariants.{CapacityAbove, MemoryShort, PositionsShort}
use Rattle.map.specs.declared.Unbuilt.{Unbuilt}
use Rattle.map.proofs.Refusals.{number_some}
use Rattle.build.specs.Builds.{placed, format_refusal, build_answer, Builds}
use Rattle.off.specs.Words.{Word}
use Rattle.off.specs.Numbers.{coordinate_of}
use Rattle.off.specs.Reading.{Got, Stop, Surface, reading}
use Rattle.off_form.specs.Took.{left}
use Rattle.off_form.specs.Formed.{Stands, Formed}
use Rattle.off_form.specs.declared.Form.{Form}
use Rattle.off_form.specs.declared.Broken.{Broken}
use Rattle.surfaces.specs.Passes.{PositionsRead}
use Rattle.surfaces.specs.ReadsOff.{surfaced_says, caps_of, room_checks, room_refusal, outcome, surface_answer, read_answer, positions_left, ReadsOff}
use Rattle.surfaces.specs.declared.NotRead.{NotRead}
use Rattle.surfaces.specs.declared.NotRead.TheVariants as NotRead'
use Rattle.surfaces.proofs.Facing.{many_length}

-- the room: 1, 2, then 16
module _ (words numbers marks cells : ℕ) where
  pub room_marks : most_capacity < marks → verdict_says (Err CapacityAbove) ≡ answer (room_checks words numbers (capacities marks cells)) []
  unfolding room_checks format_checks ◌when◌ answer verdict_says refused is_edition
  room_marks h = rw (lt-ltb most_capacity marks h)

  module _ (few : marks ≤ most_capacity) where
    pub room_cells : most_capacity < cells → verdict_says (Err CapacityAbove) ≡ answer (room_checks words numbers (capacities marks cells)) []
    unfolding room_checks format_checks ◌when◌ answer verdict_says refused is_edition
    room_cells h = rw (le-ltb most_capacity marks few, lt-ltb most_capacity cells h)

    module _ (fewCells : cells ≤ most_capacity) where
      pub room_words : words < room marks cells → verdict_says (Err MemoryShort) ≡ answer (room_checks words numbers (capacities marks cells)) []
      unfolding room_checks format_checks ◌when◌ answer verdict_says refused is_edition
      room_words h = rw (le-ltb most_capacity marks few, le-ltb most_capacity cells fewCells, lt-ltb words (room marks cells) h)

      module _ (fits : room marks cells ≤ words) where
        pub room_numbers : numbers < 3 * marks → verdict_says (Err PositionsShort) ≡ answer (room_checks words numbers (capacities marks cells)) []
        unfolding room_checks format_checks ◌when◌ answer verdict_says refused is_edition
        room_numbers h = rw (le-ltb most_capacity marks few, le-ltb most_capacity cells fewCells, le-ltb words (room marks cells) fits, lt-ltb numbers (3 * marks) h)

        pub room_enough : 3 * marks ≤ numbers → verdict_says (Ok tt) ≡ answer (room_checks words numbers (capacities marks cells)) []
        unfolding room_checks format_checks ◌when◌ answer verdict_says given is_edition
        room_enough h = rw (le-ltb most_capacity marks few, le-ltb most_capacity cells fewCells, le-ltb words (room marks cells) fits, le-ltb numbers (3 * marks) h)

-- where all of them pass
passes : (a b c d : Bool) → (answer ((6 when a) ∷ (1 when b) ∷ (2 when c) ∷ (16 when d) ∷ []) []).refusal ≡ 0
    → ((answer ((6 when a) ∷ (1 when b) ∷ (2 when c) ∷ []) []).refusal ≡ 0) × (d ≡ false)
unfolding answer ◌when◌
passes true b c d e = absurd (omega arith)
passes false true c d e = absurd (omega arith)
passes false false true d e = absurd (omega arith)
passes false false false true e = absurd (omega arith)
passes false false false false e = (refl, refl)

room_format : (words numbers : ℕ) (s : Surface) → room_refusal words numbers s ≡ 0 → (format_refusal words (caps_of s) ≡ 0) × (3 * s.marks ≤ numbers)
unfolding room_refusal room_checks format_refusal format_checks
room_format words numbers s e = let p = passes _ _ _ _ e in (p.0, ltb-false numbers (3 * s.marks) p.1)

module _ (w : List ℕ) (positions : List ℤ) (text : List ℕ) where
  -- the form is broken
  pub read_broken : (r : Result Form Broken) → Formed text r → (p : Broken) → r ≡ Err p → ReadsOff w positions text (Err (NotRead'.Broken p.place)) w positions
  unfolding surfaced_says read_answer
  read_broken r f p e = record {
    says = rw (f.stops p e);
    broke = λ place q. (refl, refl);
    kept = λ s ws q n. (refl, refl);
    left = λ s ws q n.
        let z : Stop p.place ≡ Got s ws = sym (f.stops p e) ∙ q in
        let o : ◌≡◌ {A = ℕ} 0 1 = cc in absurd (omega arith);
  }

  -- a text of the form
  module _ (f : Form) (s : Surface) (stands : Stands text f s) (v : Result ⊤ Refusal)
      (checked : verdict_says v ≡ answer (room_checks (length w) (length positions) (capacities f.marks f.cells)) []) where
    same_caps : capacities f.marks f.cells ≡ caps_of s
    same_caps = rw (stands.marks, stands.cells)

    number : room_refusal (length w) (length positions) s ≡ (verdict_says v).refusal
    unfolding room_refusal
    number =
        ap (λ (caps : Caps). (answer (room_checks (length w) (length positions) caps) []).refusal) (sym same_caps)
        ∙ ap (λ (a : Answer). a.refusal) (sym checked)

    one_surface : (t : Surface) (ws : List Word) → reading text ≡ Got t ws → t ≡ s
    one_surface t ws e = let z : Got t ws ≡ Got s [] = sym e ∙ stands.reads in cc

    never_broke : {A : Type 0} (place : ℕ) → reading text ≡ Stop place → A
    never_broke place e = let z : Stop place ≡ Got s [] = sym e ∙ stands.reads in let o : ◌≡◌ {A = ℕ} 0 1 = cc in absurd (omega arith)

    -- no room
    pub read_refused : (why : Refusal) → v ≡ Err why → (p : ℕ) → p ≡ 0 → ReadsOff w positions text (Err (NotRead'.Refused why p)) w positions
    unfolding surfaced_says read_answer surface_answer placed verdict_says refused
    read_refused why e p z =
        let n : room_refusal (length w) (length positions) s ≡ number_of why = number ∙ ap (λ (k : Result ⊤ Refusal). (verdict_says k).refusal) e in
        let some : number_of why ≡ 0 → ⊥ = λ q. omega (arith, number_some why) in
        record {
          says = rw (stands.reads, n, ne_eqb (number_of why) 0 some, z);
          broke = λ place q. never_broke place q;
          kept = λ t ws q k. (refl, refl);
          left = λ t ws q k.
              absurd (some (sym n ∙ (ap (room_refusal (length w) (length positions)) (sym (one_surface t ws q)) ∙ k)));
        }

    module _ (ok : v ≡ (Ok tt)) (r : Result ⊤ Unbuilt) (w' : List ℕ) (built : Builds w (capacities f.marks f.cells) s.records r w') where
      fits : room_refusal (length w) (length positions) s ≡ 0
      unfolding verdict_says given
      fits = number ∙ ap (λ (k : Result ⊤ Refusal). (verdict_says k).refusal) ok

      formatted : format_refusal (length w) (caps_of s) ≡ 0
      formatted = (room_format (length w) (length positions) s fits).0

      builds : Builds w (caps_of s) s.records r w'
      builds = rw same_caps at built

      says : built_says r ≡ surface_answer (length w) (length positions) s
      unfolding surface_answer build_answer outcome
      says = builds.says ∙ rw (fits, formatted)

      number_built : (built_says r).refusal ≡ (outcome s).refusal
      unfolding build_answer placed outcome
      number_built = ap (λ (a : Answer). a.refusal) builds.says ∙ rw formatted

      reads : (positions' : List ℤ) → positions' ≡ positions_left s positions → (answered : Result (Unit {0}) NotRead) → surfaced_says answered ≡ built_says r
          → ReadsOff w positions text answered w' positions'
      unfolding read_answer outcome
      reads positions' q answered a = record {
        says = a ∙ (says ∙ rw stands.reads);
        broke = λ place z. never_broke place z;
        kept = λ t ws z k. absurd (k (ap (room_refusal (length w) (length positions)) (one_surface t ws z) ∙ fits));
        left = λ t ws z k. rw (one_surface t ws z) (record { inside = builds.inside; wf = builds.wf formatted; metres = q });
      }

      -- a face is refused
      pub read_stopped : (why : Refusal) (place : ℕ) → r ≡ RefusedAt why place → ReadsOff w positions text (Err (NotRead'.Refused why place)) w' positions
      unfolding surfaced_says built_says positions_left
      read_stopped why place e =
          let n : (outcome s).refusal ≡ number_of why = sym number_built ∙ ap (λ (k : Result ⊤ Unbuilt). (built_says k).refusal) e in
          reads positions (rw (n, ne_eqb (number_of why) 0 (λ z. omega (arith, number_some why)))) (Err (NotRead'.Refused why place)) (sym (ap built_says e))

      -- the surface is read
      pub read_made : r ≡ (Ok tt) → (positions' : List ℤ) → PositionsRead text f.vertices.at (3 * f.marks) positions positions'
          → ReadsOff w positions text (Ok tt) w' positions'
      unfolding surfaced_says built_says positions_left given
      read_made e positions' wrote =
          let n : (outcome s).refusal ≡ 0 = sym number_built ∙ ap (λ (k : Result ⊤ Unbuilt). (built_says k).refusal) e in
          let size = many_length coordinate_of (length text) (3 * f.marks) s.positions (left text f.vertices.at) (left text f.faces.at) stands.vertices in
          let enough = (room_format (length w) (length positions) s fits).1 in
          let room : 0 + length s.positions ≤ length positions = omega (arith, size, enough, stands.marks) in
          let zero : 0 + length s.positions ≡ length s.positions = omega arith in
          reads positions' (wrote s.positions (left text f.faces.at) stands.vertices ∙ (sets-eq s.positions positions 0 room ∙ rw (n, zero))) (Ok tt) (sym (ap built_says e))
