-- From what a call promises to the answer of its frame.
use mathlib.Core.Path.{◌≡◌, refl, sym, ap, ◌∙◌}
use mathlib.Core.Bool.{Bool, true, false, cond, ◌||◌}
use mathlib.Core.List.{List, [], ◌∷◌, ◌++◌}
use Prim.Native.Nat.{ℕ, ◌+◌, ◌<◌, ◌≤◌}
use native.Mathlib.Omega.{arith}
use borrow.Author.Tests.{le-ltb}
use lib.Dec.{leb, ltb}
use lib.ListN.{length, take, drop, length-take, length-append}
use lib.Seq.{take-append_seam}
use Rattle.numbers.specs.Sizes.{most_around}
use Rattle.numbers.specs.Room.{room}
use Rattle.words.specs.Words.{part_of}
use Rattle.words.proofs.Fits.{part_fits}
use Rattle.words.proofs.Frame.{only_none}
use Rattle.map.specs.declared.Refusal.{Refusal}
use Rattle.map.specs.declared.Refusal.TheVariants.{CapacityAbove, BadFrame}
use Rattle.std.specs.Prelude.{Result, ⊤, Ok, Err}
use Rattle.numbers.specs.declared.Half.{Half}
use Rattle.map.specs.declared.Way.{Way}
use Rattle.map.specs.Cells.{Map}
use Rattle.map.specs.Ways.{way_number}
use Rattle.map.specs.Sound.{Sound}
use Rattle.map.specs.Stars.{star, anchors}
use Rattle.map.specs.Answers.{Check, Answer, answer, list_answer, star_checks, sibling_answer, ◌when◌}
use Rattle.map.specs.History.{Edit}
use Rattle.map.specs.Says.{given, refused, verdict_says, value_says, half_says}
use Rattle.map.proofs.Says.{verdict_one}
use Rattle.picture.specs.Picture.{Wf}
use Rattle.journal_store.specs.Days.{dated}
use Rattle.journal_store.specs.Entries.{places_of}
use Rattle.journal.specs.Calls.{Entered}
use Rattle.ask.specs.Asked.{Asked}
use Rattle.listing.specs.Listing.{Listing, listed}
use Rattle.frames.specs.Frames.{Frame, Format, Change, Star, Anchors, Sibling, Bad, two_bytes, counted, cell_and_facet, sibling_bytes, Journal, today, reply_to, journal_after, written}
use Rattle.frames.specs.Forms.{Appended}
use Rattle.frames.proofs.Replies.{journal_above, journal_format, list_given, list_refused, reply_sibling, reply_sibling_refused, reply_bad}
use Rattle.frames.proofs.Sizes.{verdict_length, half_length, cells_room, halves_room}
use Rattle.reply.specs.Memory.{Memory, memory, Keeps, Within, reach}
use Rattle.reply.specs.Replied.{format_answer, FormattedBegun, FrameAnswered, QuestionAnswered}
use Rattle.reply.proofs.Begins.{memory_same, within_none}
use Rattle.reply.proofs.Few.{star_few, anchors_few}

-- a list that was given out stands in the first places
list_part : (checks : List Check) (l zeros out : List ℕ) (n : ℕ) → length l ≤ length zeros → given (n ∷ []) ≡ list_answer checks l (length zeros)
    → out ≡ listed (list_answer checks l (length zeros)) l zeros → n ≡ length l → part_of out 0 n ≡ l
unfolding given listed
list_part checks l zeros out n h e o c =
    let ok : (list_answer checks l (length zeros)).refusal ≡ 0 = sym (ap (λ (a : Answer). a.refusal) e) in
    let is : out ≡ l ++ drop (length l) zeros = rw ok at o in
    rw c
    (part_fits out 0 (length l) (omega (arith, ap length is, length-append l (drop (length l) zeros)))
    ∙ (ap (take (length l)) is ∙ take-append_seam l (drop (length l) zeros)))

-- a part is no longer than the whole
pub part_few : (l : List ℕ) (n k : ℕ) → length l ≤ k → length (part_of l 0 n) ≤ k
unfolding part_of
part_few l n k h = go (leb (0 + n) (length l))
  where
    go : (b : Bool) → length (cond b (take n (drop 0 l)) []) ≤ k
    go true = omega (arith, length-take n l)
    go false = omega arith

-- a question that a list answers: what it lists, how each number of the list is written, and that there is room for it
pub record Lists (f : Frame) (checks : Map → List Check) (list : Map → List ℕ) (item : ℕ → List ℕ) : Type 0 where
  replies : (g : Journal) → reply_to g f ≡ answer (checks (today g)) (counted item (list (today g)))
  leaves : (g : Journal) → journal_after g f ≡ g
  few : (m : Map) → Sound m → length (list m) ≤ most_around
  fits : (l : List ℕ) → length l ≤ most_around → length (written (given (counted item l))) ≤ 775

pub star_lists : (d v : ℕ) → Lists (Star d v) (λ m. star_checks m d v) (λ m. star m d v) two_bytes
unfolding reply_to journal_after
star_lists d v = record { replies = λ g. refl; leaves = λ g. refl; few = λ m s. star_few m s d v; fits = cells_room }

pub anchors_lists : (d v : ℕ) → Lists (Anchors d v) (λ m. star_checks m d v) (λ m. anchors m d v) cell_and_facet
unfolding reply_to journal_after
anchors_lists d v = record { replies = λ g. refl; leaves = λ g. refl; few = λ m s. anchors_few m s d v; fits = halves_room }

-- the mesh is that of the map today
keeps_wf : {w : Memory} {g : Journal} → Keeps w g → Wf w.mesh (today g)
unfolding today
keeps_wf k = k.kept.today

module _ (o : List ℕ) (at r : ℕ) (o' : List ℕ) where
  -- a verdict written
  module _ (f : Frame) (w w' : Memory) (v : Result ⊤ Refusal) (a : Appended (written (verdict_says v)) o at r o') where
    verdict_kept : (v : Result ⊤ Refusal) → ((why : Refusal) → v ≡ Err why → w' ≡ w) → ((verdict_says v).refusal ≡ 0 → ⊥) → w' ≡ w
    unfolding verdict_says given
    verdict_kept (Ok tt) k ne = absurd (ne refl)
    verdict_kept (Err why) k ne = k why refl

    replied_so : ((why : Refusal) → v ≡ Err why → w' ≡ w) → Within (reach f w) w w'
        → ((g : Journal) → Keeps w g → (reply_to g f ≡ verdict_says v) × Keeps w' (journal_after g f)) → FrameAnswered f w o at r w' o'
    replied_so k i g = record {
      says = verdict_says v;
      few = omega (arith, verdict_length v);
      appended = a;
      kept = verdict_kept v k;
      within = i;
      answers = λ m k. let q = g m k in (sym q.0, q.1);
    }

  -- a refusal written, and nothing else done
  refused_so : (f : Frame) (w : Memory) (why : Refusal) → Appended (written (verdict_says (Err why))) o at r o'
      → ((g : Journal) → Keeps w g → (reply_to g f ≡ verdict_says (Err why)) × (journal_after g f ≡ g)) → FrameAnswered f w o at r w o'
  refused_so f w why a g =
      replied_so f w w (Err why) a (λ _ _. refl) within_none (λ m k. let q = g m k in (q.0, rw q.1 k))

  -- "In the frame program its start and each accepted f0 begin one"
  module _ (marks cells : ℕ) (w w' : Memory) (v : Result ⊤ Refusal) (f : FormattedBegun marks cells w v w') where
    format_says : (g : Journal) → Keeps w g → reply_to g (Format marks cells) ≡ format_answer marks cells w
    unfolding reply_to format_answer answer ◌when◌ room
    format_says g k =
        rw (le-ltb (length w.mesh) 15376 k.fits, le-ltb (length w.journal) 16 k.kept.filed.journal.long, le-ltb (length w.start) 15376 k.starts)

    format_keeps : (g : Journal) → Keeps w g → (t : Bool) → ltb 384 marks || ltb 384 cells ≡ t → Keeps w' (journal_after g (Format marks cells))
    unfolding reply_to answer ◌when◌ verdict_says given refused
    format_keeps g k true e =
        let says : verdict_says v ≡ refused CapacityAbove = f.says ∙ (sym (format_says g k) ∙ rw e) in
        rw (journal_above g marks cells e, f.kept CapacityAbove (verdict_one v (Err CapacityAbove) says)) k
    format_keeps g k false e =
        let says : verdict_says v ≡ given [] = f.says ∙ (sym (format_says g k) ∙ rw e) in
        rw (journal_format g marks cells e, k.places) (f.keeps (verdict_one v (Ok tt) says))

    pub format_replied : Appended (written (verdict_says v)) o at r o' → FrameAnswered (Format marks cells) w o at r w' o'
    format_replied p =
        replied_so (Format marks cells) w w' v p f.kept f.within (λ g k. (
          format_says g k ∙ sym f.says,
          format_keeps g k (ltb 384 marks || ltb 384 cells) refl,
        ))

  pub edit_replied : (day : ℕ) (e : Edit) (v : Result ⊤ Refusal) (w j s w' j' : List ℕ) → Entered w j (dated day e) v w' j' → Appended (written (verdict_says v)) o at r o'
      → FrameAnswered (Change day e) (memory w j s) o at r (memory w' j' s) o'
  unfolding reply_to journal_after reach
  edit_replied day e v w j s w' j' d p =
      replied_so (Change day e) (memory w j s) (memory w' j' s) v p (λ why is. let q = d.kept why is in memory_same q.0 q.1 refl)
      (record { mesh = d.inside; journal = d.within; start = only_none })
      (λ g k.
      let q = d.answers g.began g.past 0 s k.kept in (
        rw k.places (sym q.0),
        record {
          kept = rw k.places q.1;
          places = k.places ∙ ap places_of (sym d.within.size);
          fits = omega (arith, k.fits, d.inside.size);
          starts = k.starts;
          marks = k.marks;
          cells = k.cells;
        },
      ))

  pub bad_replied : (w : Memory) → Appended (written (verdict_says (Err BadFrame))) o at r o' → FrameAnswered Bad w o at r w o'
  unfolding journal_after
  bad_replied w a = refused_so Bad w BadFrame a (λ g k. (reply_bad g, refl))

  -- a question leaves the words
  module _ (f : Frame) (checks : Map → List Check) (list : Map → List ℕ) (item : ℕ → List ℕ) (lists : Lists f checks list item)
      (w zeros out : List ℕ) (value : Result ℕ Refusal) (size : length zeros ≡ most_around) (l : Listing w checks list zeros value out) where
    few_places : {j s : List ℕ} (g : Journal) → Keeps (memory w j s) g → length (list (today g)) ≤ length zeros
    few_places g k = omega (arith, lists.few (today g) (keeps_wf k).sound)

    pub listing_refused : (why : Refusal) → value ≡ Err why → Appended (written (verdict_says (Err why))) o at r o'
        → QuestionAnswered f w o at r o'
    unfolding verdict_says value_says
    listing_refused why e a j s = refused_so f (memory w j s) why a (λ g k. (
      lists.replies g
          ∙ list_refused (checks (today g)) (list (today g)) (counted item (list (today g))) (length zeros) (few_places g k) why (ap value_says (sym e) ∙ (l.answers (today g) (keeps_wf k)).0),
      lists.leaves g,
    ))

    pub listing_replied : (n : ℕ) → value ≡ Ok n → (given_out : List ℕ) (from : ℕ) → from ≡ 0 → given_out ≡ part_of out from n → length out ≤ most_around
        → Appended (written (given (counted item given_out))) o at r o' → QuestionAnswered f w o at r o'
    unfolding given value_says
    listing_replied n e given_out from first q few a j s = record {
      says = given (counted item given_out);
      few = lists.fits given_out (rw p (part_few out n most_around few));
      appended = a;
      kept = λ _. refl;
      within = within_none;
      answers = λ g k.
          let says : given (n ∷ []) ≡ list_answer (checks (today g)) (list (today g)) (length zeros) = ap value_says (sym e) ∙ (l.answers (today g) (keeps_wf k)).0 in
          let t = list_given (checks (today g)) (list (today g)) (counted item (list (today g))) (length zeros) (few_places g k) n says in
          let is : given_out ≡ list (today g) = p ∙ list_part (checks (today g)) (list (today g)) zeros out n (few_places g k) says (l.answers (today g) (keeps_wf k)).1 t.0 in
          (ap (λ (x : List ℕ). given (counted item x)) is ∙ (sym t.1 ∙ sym (lists.replies g)), rw (lists.leaves g) k);
    }
      where
        p : given_out ≡ part_of out 0 n
        p = rw first at q

  module _ (w : List ℕ) (c f : ℕ) (value none : Result (Half × Way) Refusal) (asked : Asked half_says none w (λ m. sibling_answer m c f) value) where
    pub sibling_refused : (why : Refusal) → value ≡ Err why → Appended (written (verdict_says (Err why))) o at r o'
        → QuestionAnswered (Sibling c f) w o at r o'
    unfolding journal_after verdict_says half_says
    sibling_refused why e a j s = refused_so (Sibling c f) (memory w j s) why a (λ g k. (
      reply_sibling_refused g c f why (ap half_says (sym e) ∙ asked.answers (today g) (keeps_wf k)),
      refl,
    ))

    pub sibling_replied : (h : Half) (x : Way) → value ≡ Ok (h, x) → Appended (written (given (sibling_bytes h.0 (way_number x)))) o at r o'
        → QuestionAnswered (Sibling c f) w o at r o'
    unfolding journal_after half_says
    sibling_replied h x e a j s = record {
      says = given (sibling_bytes h.0 (way_number x));
      few = omega (arith, half_length h.0 (way_number x));
      appended = a;
      kept = λ _. refl;
      within = within_none;
      answers = λ g k. (sym (reply_sibling g c f h.0 (way_number x) (ap half_says (sym e) ∙ asked.answers (today g) (keeps_wf k))), k);
    }
