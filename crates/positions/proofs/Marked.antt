-- The corners of a live cell on well-formed memory: as many as its type has, with the map's marks.
use mathlib.Core.Path.{◌≡◌, refl, sym, ap, ◌∙◌}
use mathlib.Core.List.{List}
use Prim.Native.Nat.{ℕ, zero, suc, ◌<◌, ◌≤◌}
use native.Mathlib.Omega.{arith}
use lib.ListN.{get_or, length}
use lib.Seq.{take_all}
use Rattle.lists.specs.Lists.{list_of}
use Rattle.lists.proofs.Fill.{list_of_take}
use Rattle.shapes.specs.Shapes.{shape}
use Rattle.shapes.specs.Sizes.{most_marks}
use Rattle.shapes.proofs.Facts.{facts}
use Rattle.numbers.specs.declared.Caps.{Caps}
use Rattle.store.specs.Slots.{code_in, corner_in}
use Rattle.map.specs.Cells.{Map}
use Rattle.picture.specs.State.{state_of}
use Rattle.picture.specs.Picture.{Wf}
use Rattle.picture.proofs.Record.{corner_read}
use Rattle.picture.proofs.Settles.{wf_pic}
use Rattle.checks.proofs.Rows.{code_of}

list_same : (n : ℕ) (f g : ℕ → ℕ) → ((i : ℕ) → i < n → f i ≡ g i) → list_of n f ≡ list_of n g
unfolding list_of
list_same zero f g h = refl
list_same (suc n) f g h = rw (list_same n f g (λ i l. h i (omega arith)), h n (omega arith))

-- no type has more than eight
pub few_marks : (t n : ℕ) → n ≡ (shape t).marks → n ≤ most_marks
few_marks t n e = omega (arith, (facts t).marks)

module _ (w : List ℕ) (caps : Caps) (m : Map) (e : m.caps ≡ caps) (wf : Wf w m) (c : ℕ) (h : c < caps.cells) where
  pub corner_is : (k : ℕ) → k < most_marks → corner_in w caps c k ≡ get_or (m.at c).marks k 0
  unfolding state_of
  corner_is = corner_read w caps (state_of m) (wf_pic w caps m e wf) c h

  module _ (n : ℕ) (count : n ≡ (shape (code_in w caps c)).marks) where
    pub count_is : n ≡ length (m.at c).marks
    count_is = count ∙ (ap (λ (t : ℕ). (shape t).marks) (code_of caps m e w wf c h) ∙ sym (wf.sound.fitting c))

    pub corners_are : list_of n (corner_in w caps c) ≡ (m.at c).marks
    corners_are =
        list_same n (corner_in w caps c) (λ i. get_or (m.at c).marks i 0) (λ i l. corner_is i (omega (arith, few_marks (code_in w caps c) n count)))
        ∙ (list_of_take (m.at c).marks n (omega (arith, count_is)) ∙ take_all n (m.at c).marks (omega (arith, count_is)))
