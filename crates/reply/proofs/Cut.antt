-- Words that are cut behind the room stand for the same map.
use mathlib.Core.Path.{◌≡◌, refl, sym, ap, ◌∙◌}
use mathlib.Core.List.{List, ◌++◌}
use Prim.Native.Nat.{ℕ, ◌+◌, ◌-◌, ◌<◌, ◌≤◌, min}
use native.Mathlib.Decide.{dec_lt}
use native.Mathlib.Omega.{arith}
use lib.ListN.{length, get_or, take, drop, take-append-drop, get_or-eq_default}
use lib.Seq.{get_or-take, get_or-drop, length-take-le, length_front, take_at, drop_at}
use Rattle.numbers.specs.Room.{room}
use Rattle.store.specs.Slots.{address, read}
use Rattle.store.specs.Fields.{head_place}
use Rattle.store.specs.Open.{head_in}
use Rattle.store.proofs.Slots.{slot_below}
use Rattle.numbers.specs.declared.Caps.{Caps}
use Rattle.words.specs.Words.{Only}
use Rattle.words.proofs.Frame.{only_wider}
use Rattle.map.specs.Cells.{Map}
use Rattle.journal_store.specs.Days.{map_after}
use Rattle.journal_store.specs.Entries.{used_of}
use Rattle.journal.proofs.Both.{after_caps}
use Rattle.frames.specs.Frames.{Frame, Format, Change, Star, Anchors, Sibling, Bad, Journal}
use Rattle.reply.specs.Memory.{Memory, memory, Keeps, Within, reach, Inside}
use Rattle.reply.specs.Replied.{FrameAnswered, Replied}
use Rattle.reply.proofs.Begins.{memory_same}

-- words that agree in the room
keeps_alike : (a b j s : List ℕ) (g : Journal) → Keeps (memory a j s) g → room 384 384 ≤ length b → ((i : ℕ) → i < room 384 384 → get_or b i 0 ≡ get_or a i 0) → Keeps (memory b j s) g
unfolding room read
keeps_alike a b j s g k h same = record {
  kept = record {
    filed = k.kept.filed;
    accepted = k.kept.accepted;
    today = record {
      sound = k.kept.today.sound;
      two = k.kept.today.two;
      picture = record {
        marks = k.kept.today.picture.marks;
        cells = k.kept.today.picture.cells;
        edition = k.kept.today.picture.edition;
        fits = omega (arith, marks, cells);
        words = λ x e.
            same (address m.caps.marks m.caps.cells x) (omega (arith, marks, cells, slot_below m.caps.marks m.caps.cells x e))
            ∙ k.kept.today.picture.words x e;
      };
    };
  };
  places = k.places;
  fits = h;
  starts = k.starts;
  marks = k.marks;
  cells = k.cells;
}
  where
    m : Map
    m = map_after g.began g.past

    marks : m.caps.marks ≤ 384
    marks = omega (arith, k.marks, ap (λ (c : Caps). c.marks) (after_caps g.began g.past))

    cells : m.caps.cells ≤ 384
    cells = omega (arith, k.cells, ap (λ (c : Caps). c.cells) (after_caps g.began g.past))

-- no frame reaches behind the last edit that fits, nor in the starting map behind the largest room
reach_most : (f : Frame) (w : Memory) → ((reach f w).journal ≤ used_of (length w.journal)) × ((reach f w).start ≤ room 384 384)
unfolding reach room
reach_most (Format marks cells) w = (omega arith, omega arith)
reach_most (Change day e) w = (omega arith, omega arith)
reach_most (Star d v) w = (omega arith, omega arith)
reach_most (Anchors d v) w = (omega arith, omega arith)
reach_most (Sibling c f) w = (omega arith, omega arith)
reach_most Bad w = (omega arith, omega arith)

within_inside : (f : Frame) (w w' : Memory) → Within (reach f w) w w' → Only (λ i. i < room 384 384) w.mesh w'.mesh → Inside w w'
within_inside f w w' h mesh = record {
  mesh = mesh;
  journal = only_wider (λ i less. omega (arith, (reach_most f w).0)) h.journal;
  start = only_wider (λ i less. omega (arith, (reach_most f w).1)) h.start;
}

-- no word of the mesh lies beyond
pub replied_whole : (f : Frame) (w j s o : List ℕ) (at r : ℕ) (w' j' s' o' : List ℕ) → length w ≤ 15376 → FrameAnswered f (memory w j s) o at r (memory w' j' s') o'
    → Replied f (memory w j s) o at r (memory w' j' s') o'
unfolding room
replied_whole f w j s o at r w' j' s' o' h a = record {
  answered = a;
  inside = within_inside f (memory w j s) (memory w' j' s') a.within (record {
    size = a.within.mesh.size;
    same = λ i ne. get_or-eq_default w' 0 {n = i} (omega (arith, a.within.mesh.size)) ∙ sym (get_or-eq_default w 0 {n = i} (omega arith));
  });
}

-- words cut behind the room, answered, and put back
module _ (k : ℕ) (w w' : List ℕ) (long : k ≤ length w) (size : length w' ≡ k) where
  joined_length : length (w' ++ drop k w) ≡ length w
  joined_length = length_front w w' k (size ∙ sym (length-take-le k w (omega arith)))

  joined_below : (i : ℕ) → i < k → get_or (w' ++ drop k w) i 0 ≡ get_or w' i 0
  joined_below i h =
      sym (get_or-take k (w' ++ drop k w) i 0 h) ∙ ap (λ (l : List ℕ). get_or l i 0) (take_at w' (drop k w) k size)

  joined_beyond : (i : ℕ) → k ≤ i → get_or (w' ++ drop k w) i 0 ≡ get_or w i 0
  joined_beyond i h =
      let e : k + (i - k) ≡ i = omega arith in
      rw (← e)
      (sym (get_or-drop k (w' ++ drop k w) (i - k) 0)
      ∙ (ap (λ (l : List ℕ). get_or l (i - k) 0) (drop_at w' (drop k w) k size) ∙ get_or-drop k w (i - k) 0))

  -- a word that is the same in the cut words
  joined_same : (i : ℕ) → (i < k → get_or w' i 0 ≡ get_or (take k w) i 0) → get_or (w' ++ drop k w) i 0 ≡ get_or w i 0
  joined_same i same = go (dec_lt i k)
    where
      go : Dec (i < k) → get_or (w' ++ drop k w) i 0 ≡ get_or w i 0
      go (yes less) = joined_below i less ∙ (same less ∙ get_or-take k w i 0 less)
      go (no f) = joined_beyond i (omega arith)

-- words that are cut behind the head have the same reach
reach_cut : (f : Frame) (w j s : List ℕ) (k : ℕ) → 16 ≤ k → reach f (memory (take k w) j s) ≡ reach f (memory w j s)
unfolding reach head_in head_place
reach_cut (Format marks cells) w j s k h = refl
reach_cut (Change day e) w j s k h =
    rw (get_or-take k w 1 0 (omega arith), get_or-take k w 2 0 (omega arith))
reach_cut (Star d v) w j s k h = refl
reach_cut (Anchors d v) w j s k h = refl
reach_cut (Sibling c f) w j s k h = refl
reach_cut Bad w j s k h = refl

pub replied_cut : (f : Frame) (w j s o : List ℕ) (at r : ℕ) (w' j' s' o' : List ℕ) → 15376 ≤ length w
    → FrameAnswered f (memory (take 15376 w) j s) o at r (memory w' j' s') o' → Replied f (memory w j s) o at r (memory (w' ++ drop 15376 w) j' s') o'
unfolding room
replied_cut f w j s o at r w' j' s' o' h a = record {
  answered = record {
    says = a.says;
    few = a.few;
    appended = a.appended;
    kept = λ ne.
        let q = a.kept ne in
        memory_same (ap (λ (l : Memory). l.mesh ++ drop 15376 w) q ∙ take-append-drop 15376 w) (ap (λ (l : Memory). l.journal) q) (ap (λ (l : Memory). l.start) q);
    within = within;
    answers = λ g k.
        let q = a.answers g (keeps_alike w (take 15376 w) j s g k (omega (arith, length-take-le 15376 w (omega arith))) (λ i less. get_or-take 15376 w i 0 less)) in (
          q.0,
          keeps_alike w' (w' ++ drop 15376 w) j' s' _ q.1 (omega (arith, joined_length 15376 w w' h size)) (λ i less. joined_below 15376 w w' h size i less),
        );
  };
  inside = within_inside f (memory w j s) (memory (w' ++ drop 15376 w) j' s') within (record {
    size = joined_length 15376 w w' h size;
    same = λ i ne. joined_beyond 15376 w w' h size i (omega arith);
  });
}
  where
    size : length w' ≡ 15376
    size = a.within.mesh.size ∙ length-take-le 15376 w (omega arith)

    cut : Within (reach f (memory w j s)) (memory (take 15376 w) j s) (memory w' j' s')
    cut = rw (reach_cut f w j s 15376 (omega arith)) at a.within

    within : Within (reach f (memory w j s)) (memory w j s) (memory (w' ++ drop 15376 w) j' s')
    within = record {
      mesh = record {
        size = joined_length 15376 w w' h size;
        same = λ i ne. joined_same 15376 w w' h size i (λ less. cut.mesh.same i ne);
      };
      journal = cut.journal;
      start = cut.start;
    }
