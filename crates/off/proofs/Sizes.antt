-- The size of a face, and the word OFF.
use mathlib.Core.Path.{◌≡◌, refl, ap, ◌∙◌}
use mathlib.Core.Bool.{Bool, true, false, ◌&&◌, ◌||◌}
use mathlib.Core.List.{List, [], ◌∷◌}
use Rattle.std.specs.Prelude.{Option, Some, None, MatchOption}
use Rattle.std.specs.Bool.{then_some}
use Prim.Native.Nat.{ℕ}
use lib.Dec.{eqb}
use lib.Pointwise.{pointwise}
use Rattle.lists.proofs.Tested.{pointwise_same}
use Rattle.lists.specs.Lists.{same}
use Rattle.off.specs.Numbers.{Is, Breaks, number_of, three_or_four, size_of, title}
use Rattle.off.specs.Forms.{said}
use Rattle.off.proofs.Values.{said_none, said_some}

-- the number of a word, where it is 3 or 4
three_or_four_some : (v : ℕ) (t : Bool) → (eqb v 3 || eqb v 4) ≡ t → then_some t v ≡ said (three_or_four (Is v))
unfolding three_or_four said
three_or_four_some v true q = rw q
three_or_four_some v false q = rw q

three_or_four_none : None ≡ said (three_or_four Breaks)
unfolding three_or_four said
three_or_four_none = refl

pub size_kept : (w : List ℕ) (n : Option ℕ) → n ≡ said (number_of w) → (r : Option ℕ)
    → MatchOption n (r ≡ None) (λ v. r ≡ then_some (eqb v 3 || eqb v 4) v) → r ≡ said (size_of w)
unfolding size_of
size_kept w None e r h = rw (said_none (number_of w) e) (h ∙ three_or_four_none)
size_kept w (Some v) e r h = rw (said_some (number_of w) v e) (h ∙ three_or_four_some v (eqb v 3 || eqb v 4) refl)

-- the word OFF: two lists are alike where all their bytes are
pub title_alike : (w l : List ℕ) (r : Bool) → r ≡ pointwise eqb w l → l ≡ 79 ∷ 70 ∷ 70 ∷ [] → r ≡ same w title
unfolding title
title_alike w l r e f = e ∙ (pointwise_same w l ∙ ap (same w) f)
