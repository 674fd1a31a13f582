-- What a list of edits promises, told by numbers: memory that is no mesh is refused with 14 and none made; where none is made nothing changes;
-- nothing beyond the room changes; on well-formed memory the answer and the map are those of the morning; the tally's two words are those of
-- the tally after this answer, and nothing else depends on them.
use Rattle.std.specs.Prelude.{◌≡◌, false, List, [], ◌∷◌, ℕ, ◌<◌, get_or, set}
use Rattle.words.specs.Words.{Only}
use Rattle.store.specs.Open.{room_in, is_mesh}
use Rattle.map.specs.Answers.{Answer}
use Rattle.map.specs.Cells.{Map}
use Rattle.map.specs.Morning.{morning}
use Rattle.picture.specs.Picture.{Wf}
use Rattle.edits.specs.Counts.{tally_after}
use Rattle.edits.specs.declared.Tally.{Tally}

-- the tally that two words hold, accepted and then refused, and the words that hold a tally
unfoldable pub tally_in : List ℕ → Tally
tally_in t = record { accepted = get_or t 0 0; refused = get_or t 1 0 }

unfoldable pub holding : List ℕ → Tally → List ℕ
holding t x = set (set t 0 x.accepted) 1 x.refused

-- the number made, told on every return
abbrev pub answered : ℕ → ℕ → Answer
answered r made = record { refusal = r; values = made ∷ [] }

pub record EditsTold (w list t : List ℕ) (r : ℕ) (w' t' : List ℕ) (made : ℕ) : Type 0 where
  pub refused : is_mesh w ≡ false → (r ≡ 14) × (made ≡ 0)
  pub kept : made ≡ 0 → w' ≡ w
  pub inside : Only (λ i. i < room_in w) w w'
  pub answers : (m : Map) → Wf w m → (r ≡ (morning m list).refusal) × (made ≡ (morning m list).made) × Wf w' (morning m list).map
  pub tally : t' ≡ holding t (tally_after (tally_in t) (answered r made))
