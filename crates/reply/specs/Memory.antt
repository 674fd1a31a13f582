-- The memory that the program lends: a mesh, its journal and the starting map.
use Rattle.std.specs.Prelude.{◌≡◌, List, ℕ, ◌<◌, ◌≤◌, min, length}
use Rattle.numbers.specs.Room.{room}
use Rattle.words.specs.Words.{Only}
use Rattle.store.specs.Open.{room_in}
use Rattle.journal_store.specs.Entries.{places_of, used_of}
use Rattle.journal.specs.Kept.{Kept}
use Rattle.frames.specs.Frames.{Frame, Format, Change, Star, Anchors, Sibling, Bad, Journal}

pub record Memory : Type 0 where
  pub mesh : List ℕ
  pub journal : List ℕ
  pub start : List ℕ

abbrev pub memory : List ℕ → List ℕ → List ℕ → Memory
memory w j s = record { mesh = w; journal = j; start = s }

-- "The program keeps at most 384 marks and 384 cells": the words of such a journal, with room for any other
pub record Keeps (w : Memory) (g : Journal) : Type 0 where
  pub kept : Kept g.began g.past 0 w.mesh w.journal w.start
  pub places : g.places ≡ places_of (length w.journal)
  pub fits : room 384 384 ≤ length w.mesh
  pub starts : room 384 384 ≤ length w.start
  pub marks : g.began.caps.marks ≤ 384
  pub cells : g.began.caps.cells ≤ 384

-- so many words of each
pub record Reach : Type 0 where
  pub mesh : ℕ
  pub journal : ℕ
  pub start : ℕ

abbrev pub reaching : ℕ → ℕ → ℕ → Reach
reaching w j s = record { mesh = w; journal = j; start = s }

-- no word behind them changes
pub record Within (r : Reach) (w w' : Memory) : Type 0 where
  pub mesh : Only (λ i. i < r.mesh) w.mesh w'.mesh
  pub journal : Only (λ i. i < r.journal) w.journal w'.journal
  pub start : Only (λ i. i < r.start) w.start w'.start

-- how far a frame may change words: a format to the end of the new room, in the mesh and in the starting map; an edit to that of the mesh's own;
-- both to the last edit that fits; all else not at all
unfoldable pub reach : Frame → Memory → Reach
reach (Format marks cells) w = reaching (room (min marks 384) (min cells 384)) (used_of (length w.journal)) (room (min marks 384) (min cells 384))
reach (Change day e) w = reaching (room_in w.mesh) (used_of (length w.journal)) 0
reach (Star d v) w = reaching 0 0 0
reach (Anchors d v) w = reaching 0 0 0
reach (Sibling c f) w = reaching 0 0 0
reach Bad w = reaching 0 0 0

-- no frame changes a word beyond the room of 384 marks and 384 cells, nor behind the last edit that fits
abbrev pub Inside : Memory → Memory → Type 0
Inside w w' = Within (reaching (room 384 384) (used_of (length w.journal)) (room 384 384)) w w'
