-- The state of a map is settled, and its map is that map.
use mathlib.Core.Path.{◌≡◌, refl, subst}
use mathlib.Core.List.{List}
use Prim.Native.Nat.{ℕ}
use Rattle.numbers.specs.declared.Caps.{Caps}
use Rattle.map.specs.Cells.{Map, holds}
use Rattle.map.specs.Sound.{Sound}
use Rattle.picture.specs.State.{map_with, state_of}
use Rattle.picture.specs.Picture.{Pic, Wf}
use Rattle.picture.specs.Ready.{Settled}

pub map_of : (m : Map) → map_with m.caps (state_of m) ≡ m
unfolding map_with state_of
map_of m = refl

pub map_settled : (m : Map) → Sound m → Settled m.caps (state_of m)
unfolding map_with state_of holds
map_settled m s = record { ready = record { sound = s; chains = λ v c. refl }; siblings = λ h e. rw e; ways = λ h e. rw e }

-- well-formed memory is the picture of a settled state
module _ (w : List ℕ) (caps : Caps) (m : Map) (e : m.caps ≡ caps) (wf : Wf w m) where
  pub wf_pic : Pic w caps (state_of m)
  wf_pic = subst (λ (k : Caps). Pic w k (state_of m)) e wf.picture

  pub wf_settled : Settled caps (state_of m)
  wf_settled = subst (λ (k : Caps). Settled k (state_of m)) e (map_settled m wf.sound)

  pub wf_map : map_with caps (state_of m) ≡ m
  wf_map = subst (λ (k : Caps). map_with k (state_of m) ≡ m) e (map_of m)
