-- A map with gaps and licences and the renumbered one, worked by hand.
use mathlib.Core.Path.{◌≡◌, refl}
use mathlib.Core.List.{[], ◌∷◌}
use Rattle.lists.specs.Lists.{select}
use Rattle.numbers.specs.Editions.{second_edition}
use Rattle.numbers.specs.Sizes.{capacities, caps_under}
use Rattle.map.specs.Cells.{body_of, licensed_body, Map, no_cell, body_in, map_of, live, live_cells}
use Rattle.surface_stories.specs.Renumbered.{renumbered}

-- cells 1 and 3 of 5, with licences 12 and 31, under edition 2
unfoldable pub gapped : Map
gapped =
    map_of (caps_under second_edition 6 5)
    (record { number = 3; body = licensed_body 2 31 (0 ∷ 1 ∷ 2 ∷ []) } ∷ record { number = 1; body = licensed_body 3 12 (2 ∷ 1 ∷ 4 ∷ 5 ∷ []) } ∷ [])

pub closed : ((renumbered gapped).caps ≡ capacities 6 2)
    × (live_cells (renumbered gapped)
    ≡ record { number = 0; body = body_of 3 (2 ∷ 1 ∷ 4 ∷ 5 ∷ []) } ∷ record { number = 1; body = body_of 2 (0 ∷ 1 ∷ 2 ∷ []) } ∷ [])
unfolding renumbered live_cells live select map_of body_in no_cell gapped
closed = (refl, refl)
