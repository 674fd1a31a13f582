-- A mesh formatted and its journal begun, both or neither.
use mathlib.Core.Path.{◌≡◌, refl, sym, ap, ◌∙◌}
use mathlib.Core.Bool.{true, ◌||◌}
use mathlib.Core.List.{List, []}
use Prim.Native.Nat.{ℕ, ◌<◌, ◌≤◌, min}
use native.Mathlib.Omega.{arith}
use borrow.Author.Tests.{le-ltb, lt-ltb}
use lib.Dec.{ltb}
use lib.ListN.{length}
use Rattle.lists.proofs.Bools.{or_left, or_right}
use Rattle.numbers.specs.Editions.{is_edition}
use Rattle.numbers.specs.Room.{room}
use Rattle.numbers.specs.Sizes.{most_capacity, capacities}
use Rattle.numbers.specs.declared.Caps.{Caps}
use Rattle.words.proofs.Frame.{only_none, only_then, only_wider}
use Rattle.store.specs.Open.{room_in, caps_in}
use Rattle.map.specs.declared.Refusal.{Refusal}
use Rattle.map.specs.declared.Refusal.TheVariants.{CapacityAbove, MemoryShort}
use Rattle.std.specs.Prelude.{Result, ⊤, Ok, Err}
use Rattle.map.specs.Cells.{map_of}
use Rattle.map.specs.Answers.{answer, format_checks, ◌when◌}
use Rattle.map.specs.History.{empty}
use Rattle.map.specs.Says.{given, refused, verdict_says}
use Rattle.map.proofs.Says.{verdict_one}
use Rattle.picture.specs.Picture.{Wf}
use Rattle.format.specs.Formatted.{Formatted}
use Rattle.journal_store.specs.Days.{begin_answer}
use Rattle.journal_store.specs.Entries.{places_of, used_of}
use Rattle.journal.specs.Kept.{Kept}
use Rattle.journal.specs.Calls.{Begun}
use Rattle.journal.proofs.Both.{wf_head}
use Rattle.frames.specs.Frames.{Format, begun}
use Rattle.reply.specs.Memory.{Memory, memory, Keeps, Reach, Within, reach, Inside}
use Rattle.reply.specs.Replied.{format_answer, FormattedBegun}

pub memory_same : {w w' j j' s s' : List ℕ} → w' ≡ w → j' ≡ j → s' ≡ s → memory w' j' s' ≡ memory w j s
memory_same a b c = rw (a, b, c)

pub within_none : {r : Reach} {w : Memory} → Within r w w
within_none = record { mesh = only_none; journal = only_none; start = only_none }

-- what stays inside stays so, however often
pub inside_then : {w w' w'' : Memory} → Inside w w' → Inside w' w'' → Inside w w''
inside_then {w} {w'} a b =
    let same : used_of (length w'.journal) ≡ used_of (length w.journal) = ap used_of a.journal.size in
    record {
      mesh = only_then a.mesh b.mesh;
      journal = only_then a.journal (rw same at b.journal);
      start = only_then a.start b.start;
    }

clash_verdicts : (why : Refusal) → ◌≡◌ {A = Result ⊤ Refusal} (Err why) (Ok tt) → ⊥
clash_verdicts why e = let z : ◌≡◌ {A = ℕ} 0 1 = cc in omega arith

module _ (marks cells : ℕ) (w : Memory) where
  begin_refused : (why : Refusal) → refused why ≡ format_answer marks cells w → FormattedBegun marks cells w (Err why) w
  unfolding verdict_says
  begin_refused why e = record {
    says = e;
    kept = λ _ _. refl;
    within = within_none;
    keeps = λ ok. absurd (clash_verdicts why ok);
  }

  above : ltb 384 marks || ltb 384 cells ≡ true → FormattedBegun marks cells w (Err CapacityAbove) w
  unfolding format_answer answer ◌when◌ refused
  above e = begin_refused CapacityAbove (rw e)

  pub marks_above : 384 < marks → FormattedBegun marks cells w (Err CapacityAbove) w
  marks_above h = above (or_left (ltb 384 marks) (ltb 384 cells) (lt-ltb 384 marks h))

  pub cells_above : 384 < cells → FormattedBegun marks cells w (Err CapacityAbove) w
  cells_above h = above (or_right (ltb 384 marks) (ltb 384 cells) (lt-ltb 384 cells h))

  module _ (a : marks ≤ 384) (b : cells ≤ 384) where
    pub mesh_short : length w.mesh < 15376 → FormattedBegun marks cells w (Err MemoryShort) w
    unfolding format_answer answer ◌when◌ refused room
    mesh_short h =
        begin_refused MemoryShort (rw (le-ltb 384 marks a, le-ltb 384 cells b, lt-ltb (length w.mesh) 15376 h))

    module _ (m : 15376 ≤ length w.mesh) where
      pub journal_short : length w.journal < 16 → FormattedBegun marks cells w (Err MemoryShort) w
      unfolding format_answer answer ◌when◌ refused room
      journal_short h =
          begin_refused MemoryShort
          (rw (le-ltb 384 marks a, le-ltb 384 cells b, le-ltb (length w.mesh) 15376 m, lt-ltb (length w.journal) 16 h))

      pub start_short : 16 ≤ length w.journal → length w.start < 15376 → FormattedBegun marks cells w (Err MemoryShort) w
      unfolding format_answer answer ◌when◌ refused room
      start_short j h =
          begin_refused MemoryShort
          (rw (le-ltb 384 marks a, le-ltb 384 cells b, le-ltb (length w.mesh) 15376 m, le-ltb (length w.journal) 16 j, lt-ltb (length w.start) 15376 h))

format_accepts : (words marks cells : ℕ) (v : Result ⊤ Refusal) → marks ≤ 384 → cells ≤ 384 → 15376 ≤ words → verdict_says v ≡ answer (format_checks words (capacities marks cells)) [] → v ≡ (Ok tt)
unfolding answer format_checks ◌when◌ is_edition verdict_says given room
format_accepts words marks cells v a b h e =
    verdict_one v (Ok tt)
    (e ∙ rw (le-ltb most_capacity marks (omega arith), le-ltb most_capacity cells (omega arith), le-ltb words (room marks cells) (omega arith)))

begin_accepts : (marks cells j s : ℕ) (v : Result ⊤ Refusal) → marks ≤ 384 → cells ≤ 384 → 16 ≤ j → 15376 ≤ s → verdict_says v ≡ begin_answer (room marks cells) j s → v ≡ (Ok tt)
unfolding answer begin_answer ◌when◌ verdict_says given room
begin_accepts marks cells j s v a b h k e =
    verdict_one v (Ok tt) (e ∙ rw (le-ltb j 16 h, le-ltb s (room marks cells) (omega arith)))

-- where there is room for the largest map, both are accepted
pub begin_made : (marks cells : ℕ) (w j s w' j' s' : List ℕ) (v r : Result ⊤ Refusal) → marks ≤ 384 → cells ≤ 384 → 15376 ≤ length w → 16 ≤ length j → 15376 ≤ length s
    → Formatted w (capacities marks cells) v w' → Begun w' j s r j' s' → FormattedBegun marks cells (memory w j s) r (memory w' j' s')
unfolding format_answer answer ◌when◌ verdict_says given room reach map_of empty begun caps_in
begin_made marks cells w j s w' j' s' v r a b hw hj hs f n = record {
  says = ap verdict_says accepted ∙ rw (le-ltb 384 marks a, le-ltb 384 cells b, le-ltb (length w) 15376 hw, le-ltb (length j) 16 hj, le-ltb (length s) 15376 hs);
  kept = λ why e. absurd (clash_verdicts why (sym e ∙ accepted));
  within = record {
    mesh = only_wider (λ i h. omega arith) f.inside;
    journal = n.within;
    start = only_wider (λ i h. omega (arith, ap (λ (c : Caps). c.marks) head, ap (λ (c : Caps). c.cells) head)) n.inside;
  };
  keeps = λ _. record {
    kept = answers.1 accepted;
    places = ap places_of (sym n.within.size);
    fits = omega (arith, f.inside.size);
    starts = omega (arith, n.inside.size);
    marks = a;
    cells = b;
  };
}
  where
    wf : Wf w' (empty (capacities marks cells))
    wf = f.wf (format_accepts (length w) marks cells v a b hw f.says)

    head : caps_in w' ≡ capacities marks cells
    head = wf_head w' (empty (capacities marks cells)) wf

    answers : (verdict_says r ≡ begin_answer (room marks cells) (length j) (length s)) × (r ≡ (Ok tt) → Kept (empty (capacities marks cells)) [] 0 w' j' s')
    answers = n.answers (empty (capacities marks cells)) wf

    accepted : r ≡ (Ok tt)
    accepted = begin_accepts marks cells (length j) (length s) r a b hj hs answers.0
