-- "An OFF surface read, written as OFF by us and read again gives the same cells and positions."
use mathlib.Core.Path.{◌≡◌, refl, sym, ap, ◌∙◌}
use mathlib.Core.List.{List, [], ◌∷◌}
use Prim.Native.Nat.{ℕ, ◌*◌, ◌≤◌}
use native.Mathlib.Omega.{arith}
use lib.ListN.{length, get_or, take}
use lib.IntN.{ℤ}
use Rattle.numbers.specs.Sizes.{most_capacity}
use Rattle.map.specs.Cells.{map_of}
use Rattle.map.specs.History.{empty, Outcome, build_from, build}
use Rattle.off.specs.Words.{Word, words_from}
use Rattle.off.specs.Numbers.{number_of, coordinate_of, title_of}
use Rattle.off.specs.Reading.{Read, Got, Stop, ◌then◌, one, many, faces, Surface, ended, read_words, reading}
use Rattle.off.specs.Writing.{records_from}
use Rattle.off.proofs.Round.{round_trip}
use Rattle.surfaces.specs.ReadsOff.{caps_of, outcome}
use Rattle.surfaces_out.specs.WritesOff.{faces_of, off_text}
use Rattle.surface_stories.proofs.Told.{coordinates_told, Told, faces_told}
use Rattle.surface_stories.proofs.Made.{MadeOf, made_faces, made_list}

-- the parts of what was read
then_got : {A B : Type 0} (r : Read A) (f : A → List Word → Read B) (b : B) (us : List Word) → (r then f) ≡ Got b us
    → (a : A) × (vs : List Word) × (r ≡ Got a vs) × (f a vs ≡ Got b us)
unfolding ◌then◌
then_got (Got a vs) f b us e = (a, vs, refl, e)
then_got (Stop p) f b us e = let z : ◌≡◌ {A = ℕ} 0 1 = cc in absurd (omega arith)

ended_same : (s t : Surface) (ws us : List Word) → ended s ws ≡ Got t us → s ≡ t
unfolding ended
ended_same s t [] us e = cc
ended_same s t (w ∷ ws) us e = let z : ◌≡◌ {A = ℕ} 0 1 = cc in absurd (omega arith)

-- where the positions and the faces of a text stand
pub record Standing (end : ℕ) (s : Surface) : Type 0 where
  pub before : List Word
  pub between : List Word
  pub behind : List Word
  pub vertices : many coordinate_of end (3 * s.marks) before ≡ Got s.positions between
  pub faces : faces end s.cells 0 between ≡ Got s.records behind

pub standing : (end : ℕ) (ws : List Word) (s : Surface) (us : List Word) → read_words end ws ≡ Got s us → Standing end s
unfolding read_words
standing end ws s us e =
    let title = then_got (one title_of end ws) _ s us e in
    let counts = then_got (many number_of end 3 title.1) _ s us title.3 in
    let positions = then_got (many coordinate_of end (3 * get_or counts.0 0 0) counts.1) _ s us counts.3 in
    let records = then_got (faces end (get_or counts.0 1 0) 0 positions.1) _ s us positions.3 in
    let same = ended_same (record { marks = get_or counts.0 0 0; cells = get_or counts.0 1 0; positions = positions.0; records = records.0 }) s records.1 us records.3 in
    rw (← same) (record { before = counts.1; between = positions.1; behind = records.1; vertices = positions.2; faces = records.2 })

module _ (text : List ℕ) (s : Surface) (us : List Word) (e : reading text ≡ Got s us) (ok : (outcome s).refusal ≡ 0) where
  pub stands : Standing (length text) s
  unfolding reading
  stands = standing (length text) (words_from 0 text) s us e

  pub told : Told 0 s.cells s.records
  told = faces_told (length text) s.cells 0 s.records stands.between stands.behind stands.faces

  -- the build as it goes along the faces
  built : outcome s ≡ build_from (length s.records) 0 (empty (caps_of s)) (records_from 0 told.list)
  unfolding outcome build
  built = ap (build_from (length s.records) 0 (empty (caps_of s))) told.records

  pub made : MadeOf (empty (caps_of s)) 0 told.list (outcome s).map
  made =
      let m = made_faces told.list 0 (length s.records) 0 (empty (caps_of s)) told.each (omega (arith, ap length told.records)) (ap (λ (o : Outcome). o.refusal) (sym built) ∙ ok) in
      rw built m

  empty_caps : (empty (caps_of s)).caps ≡ caps_of s
  unfolding empty map_of
  empty_caps = refl

  pub outcome_caps : (outcome s).map.caps ≡ caps_of s
  outcome_caps = made.caps ∙ empty_caps

  -- the faces that are written are those that were read
  pub faces_again : faces_of (outcome s).map ≡ told.list
  faces_again = made_list (empty (caps_of s)) (outcome s).map told.list told.each made (rw outcome_caps (sym told.count))

  -- the text that is written says what the text that was read says
  pub read_again : s.marks ≤ most_capacity → s.cells ≤ most_capacity → (positions : List ℤ) → take (3 * s.marks) positions ≡ s.positions → 3 * s.marks ≤ length positions
      → reading (off_text (outcome s).map positions) ≡ Got s []
  unfolding off_text
  read_again few fewCells positions same enough =
      rw (faces_again, outcome_caps)
      (round_trip s.marks positions told.list (omega arith) (omega (arith, told.count)) enough
      (rw same (coordinates_told (length text) (3 * s.marks) s.positions stands.before stands.between stands.vertices)) told.each
      ∙ rw (told.count, same, ← told.records))
