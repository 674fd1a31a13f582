-- The whole check from its parts: what each refusal shows, and that memory which passes them all is well-formed.
use mathlib.Core.Path.{◌≡◌, refl, sym, ap, ◌∙◌}
use mathlib.Core.Bool.{Bool, true, false, ◌&&◌}
use mathlib.Core.List.{List}
use Prim.Native.Nat.{ℕ, zero, suc, ◌+◌, ◌*◌, ◌/◌, ◌%◌, ◌<◌, ◌≤◌}
use native.Mathlib.Decide.{dec_lt}
use native.Mathlib.Omega.{arith}
use borrow.Author.Tests.{eqb-true, leb-true, ltb-false}
use lib.Dec.{eqb, leb, ltb}
use lib.ListN.{get_or, length}
use Rattle.lists.specs.Lists.{every}
use Rattle.lists.proofs.Bools.{clash, and_left, and_right}
use Rattle.shapes.specs.Shapes.{shape, facet_count}
use Rattle.shapes.specs.Table.{table}
use Rattle.numbers.specs.declared.Caps.{Caps}
use Rattle.numbers.specs.Sizes.{most_capacity}
use Rattle.numbers.specs.Editions.{is_edition}
use Rattle.map.specs.declared.Refusal.TheVariants.{NotMesh}
use Rattle.std.specs.Prelude.{Ok, Err}
use Rattle.shapes.specs.Sizes.{most_facets, most_code}
use Rattle.store.specs.Layout.{head_words, magic, room}
use Rattle.store.specs.Fields.{Magic, MarkCap, CellCap, Edition, Count, Sib}
use Rattle.store.specs.Slots.{InHead, InCell, read, code_in}
use Rattle.store.proofs.Ways.{word_packed}
use Rattle.store.specs.Open.{head_in, caps_in, is_mesh, opened}
use Rattle.map.specs.Cells.{Map, facets_at, cells_of}
use Rattle.map.specs.Siblings.{is_half}
use Rattle.map.specs.Sound.{TwoSolids}
use Rattle.map.specs.Stars.{anchors}
use Rattle.picture.specs.State.{State, next, map_with, state_of}
use Rattle.picture.specs.Picture.{Pic, Wf, sib_word}
use Rattle.picture.specs.Ready.{Ready, Settled}
use Rattle.picture.proofs.Settles.{wf_pic, wf_settled, wf_map}
use Rattle.laws.proofs.Facets.{facets_count}
use Rattle.picture.proofs.Record.{code_read, count_read}
use Rattle.checks.proofs.Opens.{nothing_opened, mesh_opened, wf_mesh, wf_caps}
use Rattle.record_checks.specs.Laid.{laid_in}
use Rattle.record_checks.specs.Upright.{Upright}
use Rattle.record_checks.proofs.Records.{Headed, behind_facets}
use Rattle.record_checks.proofs.Seen.{seen, seen_pic}
use Rattle.record_checks.proofs.Uprights.{upright_ready, ready_upright, seen_upright}
use Rattle.record_checks.proofs.Right.{wf_laid}
use Rattle.whole.specs.Whole.{Whole}
use Rattle.whole.specs.SecondHalf.{Sees, Readied, SettledBy, lone_of, facets_right, ancs_right, count_right}
use Rattle.whole.proofs.Settling.{settled_wf}
use Rattle.whole.proofs.Deciding.{lone_alone, ready_lone, ancs_right_lem, right_ancs, sibs_settled, sibs_two, settled_sibs, facets_read, counts_right, right_counts}

-- a refusal: there is no map
not_whole : (w : List ℕ) → ((m : Map) → Wf w m → ⊥) → Whole w false
not_whole w f = record { yes = λ e. absurd (clash e refl); no = λ e. f }

pub no_mesh : (w : List ℕ) → (Err NotMesh) ≡ opened w → Whole w false
no_mesh w e = not_whole w (λ m wf. clash (wf_mesh w m wf) (nothing_opened w e))

module _ (w : List ℕ) (caps : Caps) (opens : Ok caps ≡ opened w) where
  headed : Headed w caps
  unfolding is_mesh caps_in head_in
  headed =
      let o = mesh_opened w caps opens in
      let a = and_right (leb head_words (length w)) _ o.0 in
      let b = and_right (eqb (head_in w Magic) magic) _ a in
      let c = and_right (leb (head_in w MarkCap) most_capacity) _ b in
      let d = and_right (leb (head_in w CellCap) most_capacity) _ c in
      let i = and_right (is_edition (head_in w Edition)) _ d in
      rw o.1
      (record {
        first = eqb-true (head_in w Magic) magic (and_left (eqb (head_in w Magic) magic) _ a);
        marks = refl;
        cells = refl;
        edition = refl;
        marks_few = leb-true (head_in w MarkCap) most_capacity (and_left (leb (head_in w MarkCap) most_capacity) _ b);
        cells_few = leb-true (head_in w CellCap) most_capacity (and_left (leb (head_in w CellCap) most_capacity) _ c);
        is_edition_lem = and_left (is_edition (head_in w Edition)) _ d;
        fits = leb-true (room (head_in w MarkCap) (head_in w CellCap)) (length w) i;
      })

  -- well-formed memory passes each part
  module _ (m : Map) (wf : Wf w m) where
    same_caps : m.caps ≡ caps
    same_caps = wf_caps w m wf caps opens

    pic : Pic w caps (state_of m)
    pic = wf_pic w caps m same_caps wf

    settled : Settled caps (state_of m)
    settled = wf_settled w caps m same_caps wf

    two : TwoSolids (map_with caps (state_of m))
    two = rw (wf_map w caps m same_caps wf) wf.two

    counted : (t : ℕ) → 1 ≤ t → t ≤ most_code → read w caps (InHead (Count t)) ≡ length (cells_of (map_with caps (state_of m)) t)
    unfolding state_of
    counted t low high = count_read w caps (state_of m) pic t low high ∙ ap (λ (k : Map). length (cells_of k t)) (sym (wf_map w caps m same_caps wf))

    anchored : (v d : ℕ) → v < caps.marks → 1 ≤ d → d ≤ 3 → (state_of m).anc d v ≡ next (anchors (map_with caps (state_of m)) d v)
    unfolding state_of
    anchored v d h low high = ap (λ (k : Map). next (anchors k d v)) (sym (wf_map w caps m same_caps wf))

  pub no_laid : laid_in w caps ≡ false → Whole w false
  no_laid e = not_whole w (λ m wf. clash (wf_laid w caps m (same_caps m wf) wf) e)

  pub no_lone : (r : Bool) → Sees w caps (Upright caps) (λ s. every caps.cells (lone_of (map_with caps s))) r → r ≡ false → Whole w false
  no_lone r g e =
      not_whole w (λ m wf.
      clash (g.sees (state_of m) (pic m wf) (ready_upright caps (state_of m) (settled m wf).ready) ∙ ready_lone caps (state_of m) (settled m wf).ready) e)

  pub no_counts : every most_code (count_right w caps) ≡ false → Whole w false
  no_counts e = not_whole w (λ m wf. clash (right_counts w caps (state_of m) (pic m wf) (counted m wf)) e)

  module _ (rows : List (List (List ℕ))) (types : rows ≡ table) where
    pub no_siblings : (r : Bool) → Sees w caps (Readied caps rows) (λ s. every caps.cells (facets_right w caps s)) r → r ≡ false → Whole w false
    no_siblings r g e =
        not_whole w (λ m wf.
        clash (g.sees (state_of m) (pic m wf) (record { ready = (settled m wf).ready; types = types }) ∙ settled_sibs w caps (state_of m) (pic m wf) (settled m wf) (two m wf)) e)

    no_anchors : (r : Bool) → Sees w caps (SettledBy caps rows) (λ s. every caps.marks (ancs_right caps s)) r → r ≡ false → (m : Map) → Wf w m → ⊥
    no_anchors r g e m wf =
        clash (g.sees (state_of m) (pic m wf) (record { settled = settled m wf; types = types }) ∙ right_ancs caps (state_of m) (anchored m wf)) e

    -- memory that passes all is the well-formed memory of the map that it tells
    module _ (laid : laid_in w caps ≡ true) (lone sibs ancs : Bool)
        (see-lone : Sees w caps (Upright caps) (λ s. every caps.cells (lone_of (map_with caps s))) lone) (is-lone : lone ≡ true)
        (counts : every most_code (count_right w caps) ≡ true)
        (see-sibs : Sees w caps (Readied caps rows) (λ s. every caps.cells (facets_right w caps s)) sibs) (is-sibs : sibs ≡ true)
        (see-ancs : Sees w caps (SettledBy caps rows) (λ s. every caps.marks (ancs_right caps s)) ancs) where
      told : Pic w caps (seen w caps)
      told = seen_pic w caps headed laid

      upright : Upright caps (seen w caps)
      upright = seen_upright w caps headed laid

      ready : Ready caps (seen w caps)
      ready = upright_ready caps (seen w caps) upright (lone_alone caps (seen w caps) upright (sym (see-lone.sees (seen w caps) told upright) ∙ is-lone))

      rights : every caps.cells (facets_right w caps (seen w caps)) ≡ true
      rights = sym (see-sibs.sees (seen w caps) told (record { ready = ready; types = types })) ∙ is-sibs

      stilled : Settled caps (seen w caps)
      stilled = sibs_settled w caps (seen w caps) told ready rights

      empty_facet : (c f : ℕ) → c < caps.cells → f < most_facets → is_half (map_with caps (seen w caps)) (8 * c + f) ≡ false → sib_word (seen w caps) (8 * c + f) ≡ 0
      unfolding seen is_half
      empty_facet c f h less e =
          let a : (8 * c + f) / 8 ≡ c = omega arith in
          let b : (8 * c + f) % 8 ≡ f = omega arith in
          let past : length (facets_at (map_with caps (seen w caps)) c) ≤ f = ltb-false f (length (facets_at (map_with caps (seen w caps)) c)) (rw (a, b) at e) in
          rw (a, b)
          (word_packed (read w caps (InCell c (Sib f)))
          ∙ behind_facets w caps headed laid c h f (omega (arith, facets_read w caps (seen w caps) told c h, past)) less)

      well : ancs ≡ true → Wf w (map_with caps (seen w caps))
      unfolding seen
      well e =
          settled_wf w caps (seen w caps) told stilled (sibs_two w caps (seen w caps) told rights) (counts_right w caps (seen w caps) told counts)
          (ancs_right_lem caps (seen w caps) (sym (see-ancs.sees (seen w caps) told (record { settled = stilled; types = types })) ∙ e)) empty_facet

      pub passed : Whole w ancs
      passed = record { yes = λ e. (map_with caps (seen w caps), well e); no = λ e. no_anchors ancs see-ancs e }
