-- The faces of a new cell: how many half-facets each has, face by face.
use mathlib.Core.Path.{◌≡◌, refl, sym, ap, ◌∙◌}
use mathlib.Core.Bool.{Bool, true, false, ◌&&◌}
use mathlib.Core.List.{List, []}
use mathlib.Core.Logic.{⊎_elim}
use Prim.Native.Nat.{ℕ, ◌+◌, ◌<◌, ◌≤◌}
use native.Mathlib.Nat.{eq-or-lt_of_le}
use native.Mathlib.Omega.{arith}
use borrow.Author.Tests.{eq-eqb, ne_eqb, leb-false}
use lib.Dec.{leb}
use lib.ListN.{get_or, length, length-map}
use Rattle.lists.specs.Lists.{has, any}
use Rattle.lists.proofs.Bools.{clash, not_true_false}
use Rattle.lists.proofs.Counts.{none_has}
use Rattle.lists.proofs.Members.{any_at, at_any}
use Rattle.shapes.specs.Shapes.{shape, facet_count}
use Rattle.shapes.specs.Table.{table}
use Rattle.numbers.specs.declared.Caps.{Caps}
use Rattle.numbers.specs.Editions.{second_edition}
use Rattle.map.specs.Cells.{body_of, Map, sets_of}
use Rattle.map.specs.Siblings.{sharers}
use Rattle.map.specs.Answers.{third}
use Rattle.picture.specs.State.{map_with, state_of}
use Rattle.picture.specs.Picture.{Wf}
use Rattle.picture.proofs.Settles.{wf_pic, wf_settled, wf_map}
use Rattle.facet.specs.Facet.{set_in}
use Rattle.facet.proofs.Sets.{set_is, set_first}
use Rattle.sibling.specs.Shared.{Shared}
use Rattle.insert_checks.specs.Admit.{Known, full_face, Tells}

-- a mark of the cell is one of the mesh
known_inside : (caps : Caps) (t : ℕ) (marks : List ℕ) → Known caps t marks → (v : ℕ) → has v marks ≡ true → v < caps.marks
known_inside caps t marks k v h = leb-false caps.marks v (none_has (leb caps.marks) marks k.inside v h)

module _ (w : List ℕ) (caps : Caps) (t : ℕ) (marks : List ℕ) where
  module _ (rows : List (List (List ℕ))) where
    -- one face, by the sharers of its set
    pub face_told : (f n : ℕ) (set o o' : List ℕ) → set ≡ set_in rows t f marks → Shared w caps rows set o n o'
        → Tells w caps ((Known caps t marks × (rows ≡ table)) × (f < facet_count t)) (λ m. full_face m (get_or (sets_of t marks) f [])) (leb 2 n)
    unfolding full_face
    face_told f n set o o' e shared = record { tells = at }
      where
        at : (m : Map) → m.caps ≡ caps → Wf w m → (Known caps t marks × (rows ≡ table)) × (f < facet_count t)
            → leb 2 n ≡ leb 2 (length (sharers m (get_or (sets_of t marks) f [])))
        at m same wf k =
            let types = k.0.1 in
            let named : set_in rows t f marks ≡ get_or (sets_of t marks) f [] = rw types (set_is t f marks) in
            let first = rw (sym types) at (set_first t f marks k.1 k.0.0.count) in
            let copied = shared.list (state_of m) (wf_pic w caps m same wf) (wf_settled w caps m same wf).ready
            (record { types = types; some = rw e first.0; mark = rw e (known_inside caps t marks k.0.0 _ first.1) }) in
            let counted : length (sharers (map_with caps (state_of m)) set) ≡ length (sharers m (get_or (sets_of t marks) f [])) =
            rw (wf_map w caps m same wf, e, named) in
            ap (leb 2) (copied.count ∙ counted)

    -- the first f faces are not full
    abbrev pub NoneTo : ℕ → Type 0
    NoneTo f = (m : Map) → m.caps ≡ caps → Wf w m → Known caps t marks × (rows ≡ table) → (k : ℕ) → k < f → full_face m (get_or (sets_of t marks) k []) ≡ false

    pub none_start : NoneTo 0
    none_start m e wf known k h = absurd (omega arith)

    faces_count : length (sets_of t marks) ≡ facet_count t
    unfolding facet_count
    faces_count = length-map (shape t).facets _

    module _ (f : ℕ) (h : f < facet_count t) (r : Bool)
        (told : Tells w caps ((Known caps t marks × (rows ≡ table)) × (f < facet_count t)) (λ m. full_face m (get_or (sets_of t marks) f [])) r) where
      pub none_more : NoneTo f → r ≡ false → NoneTo (f + 1)
      none_more before e m same wf known k l =
          ⊎_elim (λ (z : k ≡ f). rw z (sym (told.tells m same wf (known, h)) ∙ e)) (λ (b : k < f). before m same wf known k b)
          (eq-or-lt_of_le {n = k} {m = f} (omega arith))

      pub one_there : r ≡ true → Tells w caps (Known caps t marks × (rows ≡ table)) (λ m. any (full_face m) (sets_of t marks)) true
      one_there e = record {
        tells = λ m same wf known. sym (at_any (full_face m) (sets_of t marks) [] f (omega (arith, faces_count)) (sym (told.tells m same wf (known, h)) ∙ e));
      }

    pub none_there : (f : ℕ) → NoneTo f → facet_count t ≤ f
        → Tells w caps (Known caps t marks × (rows ≡ table)) (λ m. any (full_face m) (sets_of t marks)) false
    none_there f before h = record {
      tells = λ m same wf known.
          sym (not_true_false _ (λ q. let r = any_at (full_face m) (sets_of t marks) [] q in
          clash r.2 (before m same wf known r.0 (omega (arith, r.1, faces_count)))));
    }

    -- under edition 2 a solid is looked at
    pub third_looked : caps.edition ≡ second_edition → (d : ℕ) → d ≡ (shape t).dimension → d ≡ 3 → rows ≡ table → (r : Bool)
        → Tells w caps (Known caps t marks × (rows ≡ table)) (λ m. any (full_face m) (sets_of t marks)) r
        → Tells w caps (Known caps t marks) (λ m. third m (body_of t marks)) r
    unfolding third full_face
    third_looked second d dimension solid types r told = record {
      tells = λ m same wf known.
          rw (
            eq-eqb m.caps.edition second_edition (ap (λ (c : Caps). c.edition) same ∙ second),
            eq-eqb (shape t).dimension 3 (sym dimension ∙ solid),
          ) (told.tells m same wf (known, types));
    }

  -- under edition 1 nothing is, nor what is no solid
  pub third_first : (caps.edition ≡ second_edition → ⊥) → Tells w caps (Known caps t marks) (λ m. third m (body_of t marks)) false
  unfolding third
  third_first other = record {
    tells = λ m same wf known. rw (ne_eqb m.caps.edition second_edition (λ e. other (sym (ap (λ (c : Caps). c.edition) same) ∙ e)));
  }

  pub third_flat : caps.edition ≡ second_edition → (d : ℕ) → d ≡ (shape t).dimension → (d ≡ 3 → ⊥)
      → Tells w caps (Known caps t marks) (λ m. third m (body_of t marks)) false
  unfolding third
  third_flat second d dimension flat = record {
    tells = λ m same wf known.
        rw (
          eq-eqb m.caps.edition second_edition (ap (λ (c : Caps). c.edition) same ∙ second),
          ne_eqb (shape t).dimension 3 (λ e. flat (dimension ∙ e)),
        );
  }
