-- Where the marks of a cell stand.
use mathlib.Core.Path.{◌≡◌, refl, sym, ap, ap₂, ◌∙◌}
use mathlib.Core.Bool.{Bool, true, false, cond, not}
use mathlib.Core.List.{List, [], ◌∷◌}
use Prim.Native.Nat.{ℕ, ◌+◌, ◌<◌, ◌≤◌}
use native.Mathlib.Decide.{dec_lt}
use native.Mathlib.Omega.{arith}
use borrow.Author.Tests.{leb-false}
use lib.Dec.{leb}
use lib.ListN.{get_or, length}
use Rattle.words.specs.Words.{part_of}
use Rattle.shapes.specs.Shapes.{shape}
use Rattle.shapes.proofs.Facts.{facts}
use Rattle.numbers.specs.declared.Caps.{Caps}
use Rattle.std.specs.Prelude.{Result, Ok, Err}
use Rattle.store.specs.Layout.{near_at, far_at, room}
use Rattle.store.specs.Slots.{marks_at}
use Rattle.store.proofs.Marks.{marks_fit}
use Rattle.shapes.specs.Sizes.{most_marks}
use Rattle.numbers.specs.Sizes.{most_capacity}
use Rattle.store.specs.Open.{is_mesh, opened}
use Rattle.map.specs.Cells.{Map, live}
use Rattle.map.specs.Answers.{Answer, ◌when◌, answer, cell_checks, type_answer}
use Rattle.map.specs.Says.{number_of, given, refused, value_says}
use Rattle.map.specs.declared.Refusal.{Refusal}
use Rattle.map.specs.declared.Refusal.TheVariants.{NotMesh}
use Rattle.picture.specs.State.{state_of}
use Rattle.picture.specs.Picture.{Wf}
use Rattle.picture.proofs.Record.{marks_read}
use Rattle.map.proofs.Refusals.{number_some}
use Rattle.lists.proofs.Bools.{clash}
use Rattle.checks.proofs.Opens.{nothing_opened, mesh_opened, wf_mesh, wf_caps}
use Rattle.ask.specs.Asked.{Asked}
use Rattle.ask.specs.Refusals.{no_value}
use Rattle.mesh_c.specs.Answered.{MarksTold}

-- a room has fewer words than a word can count
room_small : (caps : Caps) → caps.marks ≤ most_capacity → caps.cells ≤ most_capacity → room caps.marks caps.cells < 4294967296
unfolding room
room_small caps a b = omega arith

-- a given type is that of a live cell
module _ (m : Map) (c t : ℕ) where
  typed : given (t ∷ []) ≡ type_answer m c → (c < m.caps.cells) × (t ≡ (m.at c).code)
  unfolding type_answer cell_checks ◌when◌ answer given
  typed e = go (leb m.caps.cells c) refl (not (live m c)) e
    where
      go : (b : Bool) → leb m.caps.cells c ≡ b → (d : Bool)
          → given (t ∷ []) ≡ cond b (record { refusal = 3; values = [] }) (cond d (record { refusal = 5; values = [] }) (given ((m.at c).code ∷ [])))
          → (c < m.caps.cells) × (t ≡ (m.at c).code)
      go true l d e = absurd (omega (arith, ap (λ (a : Answer). a.refusal) e))
      go false l true e = absurd (omega (arith, ap (λ (a : Answer). a.refusal) e))
      go false l false e = (leb-false m.caps.cells c l, ap (λ (a : Answer). get_or a.values 0 0) e)

-- memory that is no mesh
pub marks_none : (w : List ℕ) → (Err NotMesh) ≡ opened w → (c at n r : ℕ) → r ≡ number_of NotMesh → MarksTold w c at n r at n
marks_none w none c at n r e = record {
  refused = λ _. e;
  kept = λ _. (refl, refl);
  inside = λ z. absurd (omega arith);
  answers = λ m wf. absurd (clash (wf_mesh w m wf) (nothing_opened w none));
  place = λ m wf z. absurd (omega arith);
  marks = λ m wf z. absurd (omega arith);
}

module _ (w : List ℕ) (c : ℕ) (a : Result ℕ Refusal) (asked : Asked value_says no_value w (λ m. type_answer m c) a) (at n : ℕ) where
  pub marks_refused : (why : Refusal) → a ≡ Err why → (r : ℕ) → r ≡ number_of why → MarksTold w c at n r at n
  unfolding value_says refused
  marks_refused why v r e = record {
    refused = λ none. e ∙ ap (λ (u : Result ℕ Refusal). (value_says u).refusal) (sym v ∙ asked.refused none);
    kept = λ _. (refl, refl);
    inside = λ z. absurd (some z);
    answers = λ m wf. e ∙ (ap (λ (u : Result ℕ Refusal). (value_says u).refusal) (sym v) ∙ ap (λ (b : Answer). b.refusal) (asked.answers m wf));
    place = λ m wf z. absurd (some z);
    marks = λ m wf z. absurd (some z);
  }
    where
      some : r ≡ 0 → ⊥
      some z = omega (arith, number_some why)

  module _ (caps : Caps) (opens : Ok caps ≡ opened w) (t : ℕ) (v : a ≡ Ok t) (k p : ℕ) (q : k ≡ (shape t).marks) (at_place : p ≡ marks_at caps c k) where
    type_given : (m : Map) → Wf w m → given (t ∷ []) ≡ type_answer m c
    unfolding value_says
    type_given m wf = ap value_says (sym v) ∙ asked.answers m wf

    mesh : is_mesh w ≡ false → ⊥
    mesh none = clash (mesh_opened w caps opens).0 none

    module _ (m : Map) (wf : Wf w m) where
      below : c < m.caps.cells
      below = (typed m c t (type_given m wf)).0

      size : k ≡ length (m.at c).marks
      size = q ∙ (ap (λ (u : ℕ). (shape u).marks) (typed m c t (type_given m wf)).1 ∙ sym (wf.sound.fitting c))

      few : length (m.at c).marks ≤ most_marks
      few = omega (arith, wf.sound.fitting c, (facts (m.at c).code).marks)

      here : p ≡ marks_at m.caps c (length (m.at c).marks)
      here = at_place ∙ ap₂ (λ (x : Caps) (n : ℕ). marks_at x c n) (sym (wf_caps w m wf caps opens)) size

      fits : (p + k ≤ length w) × (p < 4294967296)
      fits =
          let r = marks_fit m.caps c (length (m.at c).marks) below few in
          (omega (arith, here, size, r, wf.picture.fits), omega (arith, here, r, room_small m.caps wf.picture.marks wf.picture.cells))

      part_marks : part_of w (marks_at m.caps c (length (m.at c).marks)) (length (m.at c).marks) ≡ (m.at c).marks
      unfolding state_of
      part_marks = marks_read w m.caps (state_of m) wf.picture c below few

    -- memory too short for them is that of no map
    pub marks_outside : length w < p + k → (r : ℕ) → r ≡ number_of NotMesh → MarksTold w c at n r at n
    marks_outside short r e = record {
      refused = λ _. e;
      kept = λ _. (refl, refl);
      inside = λ z. absurd (omega arith);
      answers = λ m wf. absurd (omega (arith, (fits m wf).0));
      place = λ m wf z. absurd (omega (arith, (fits m wf).0));
      marks = λ m wf z. absurd (omega (arith, (fits m wf).0));
    }

    -- a place below 2^32 is told as it is
    pub marks_given : p + k ≤ length w → (at' n' : ℕ) → at' ≤ p → (p < 4294967296 → at' ≡ p) → n' ≡ k → MarksTold w c at n 0 at' n'
    unfolding given
    marks_given enough at' n' low uncut same = record {
      refused = λ none. absurd (mesh none);
      kept = λ some. absurd (some refl);
      inside = λ _. omega arith;
      answers = λ m wf. ap (λ (b : Answer). b.refusal) (type_given m wf);
      place = λ m wf _. told m wf;
      marks = λ m wf _. (same ∙ size m wf, rw (told m wf, same ∙ size m wf) (part_marks m wf));
    }
      where
        told : (m : Map) → Wf w m → at' ≡ marks_at m.caps c (length (m.at c).marks)
        told m wf = uncut (fits m wf).1 ∙ here m wf
