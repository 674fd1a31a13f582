-- The half-facets of a set written one by one, and what is written on the picture of a state.
use mathlib.Core.Path.{◌≡◌, refl, sym, ap, ◌∙◌}
use mathlib.Core.Bool.{true}
use mathlib.Core.List.{List, [], ◌∷◌, ◌++◌, map, map-append, append-nil}
use Prim.Native.Nat.{ℕ, suc, ◌+◌, ◌/◌, ◌%◌, ◌<◌, ◌≤◌}
use native.Mathlib.Numerals.{add-one}
use native.Mathlib.Omega.{arith}
use borrow.Author.Tests.{lt-ltb, le-ltb, ltb-true}
use lib.Dec.{ltb}
use lib.ListN.{length, get_or, set, take, replicate, length-append, length-set, length-replicate}
use lib.Seq.{take-suc, take_at, take-set-le, get_or-set_same}
use Rattle.lists.specs.Lists.{has, keep, select}
use Rattle.lists.specs.Filled.{Copied}
use Rattle.lists.proofs.Fill.{fill_start, fill_more}
use Rattle.lists.proofs.Keep.{keep_out}
use Rattle.lists.proofs.Alike.{keep_same}
use Rattle.lists.proofs.Select.{select_out}
use Rattle.numbers.specs.Half.{cut, half_of}
use Rattle.numbers.proofs.Inverse.{half_uncut}
use Rattle.numbers.specs.declared.Caps.{Caps}
use Rattle.map.specs.Siblings.{sharers}
use Rattle.picture.specs.State.{State, map_with}
use Rattle.picture.specs.Picture.{Pic, chain_of, link}
use Rattle.picture.specs.Ready.{Ready}
use Rattle.store.specs.Fields.{Link}
use Rattle.store.specs.Slots.{InCell, read}
use Rattle.chain.specs.Chain.{Linked}
use Rattle.chain.proofs.Walks.{Walking, Walked, walking_start, walking_step, walking_end, walking_full}
use Rattle.facet.specs.Facet.{match_in}
use Rattle.sibling.specs.Shared.{Shared, SetInside}
use Rattle.facet.specs.Facet.{match_at}
use Rattle.sibling.specs.Halves.{halves_of, halves_cut}
use Rattle.lists.proofs.Mapped.{map_same, keep_end}
use Rattle.facet.proofs.Read.{match_read}
use Rattle.sibling.proofs.Along.{sharers_along}
use Rattle.shapes.specs.Sizes.{no_facet}
use Rattle.numbers.specs.Sizes.{past_cells, most_around}

module _ (match : ℕ → ℕ) (cells o : List ℕ) where
  pub write_start : Copied (halves_cut match (take 0 cells)) o 0 o
  unfolding halves_cut keep
  write_start = record { count = refl; filled = fill_start o }

  -- a cell is read, and its match
  module _ (i n : ℕ) (o' : List ℕ) (c f : ℕ) (was : Copied (halves_cut match (take i cells)) o n o') (h : i < length cells)
      (cell : c ≡ get_or cells i 0) (facet : f ≡ match c) where
    one_more : take (i + 1) cells ≡ take i cells ++ (c ∷ [])
    one_more = rw (add-one i, cell) (take-suc cells i 0 h)

    -- the cell has a match: its half-facet is written behind the others
    pub write_more : (o'' : List ℕ) (x : ℕ) → f < no_facet → x ≡ half_of (cut c) (f % 8) → o'' ≡ set o' n x
        → Copied (halves_cut match (take (i + 1) cells)) o (n + 1) o''
    unfolding halves_cut
    write_more o'' x l half put =
        rw (one_more, keep_end (λ c. ltb (match c) no_facet) (take i cells) c, ← facet, lt-ltb f no_facet l, map-append, ← facet, ← half, put)
        (record {
          count = rw length-append (omega (arith, was.count));
          filled = fill_more (halves_cut match (take i cells)) o o' n x was.filled was.count;
        })

    -- it has none: nothing is written
    pub write_none : no_facet ≤ f → Copied (halves_cut match (take (i + 1) cells)) o n o'
    unfolding halves_cut
    write_none l = rw (one_more, keep_end (λ c. ltb (match c) no_facet) (take i cells) c, ← facet, le-ltb f no_facet l, append-nil) was

-- for cells of the outline nothing is cut off
pub halves_uncut : (match match' : ℕ → ℕ) (cells : List ℕ) → ((c : ℕ) → has c cells ≡ true → (c < past_cells) × (match c ≡ match' c))
    → halves_cut match cells ≡ halves_of match' cells
unfolding halves_cut halves_of
halves_uncut match match' cells f =
    map_same (λ c. half_of (cut c) (match c % 8)) (λ c. half_of c (match c)) (keep (λ c. ltb (match c) no_facet) cells)
    (λ c h.
    let r = keep_out (λ c. ltb (match c) no_facet) cells c h in
    half_uncut c (match c) (f c r.1).0 (ltb-true _ _ r.0))
    ∙ (ap (map (λ c. half_of c (match c))) (keep_same (λ c. ltb (match c) no_facet) (λ c. ltb (match' c) no_facet) cells (λ c h. ap (λ (k : ℕ). ltb k no_facet) (f c h).1))
    ∙ map_same (λ c. half_of c (match c)) (λ c. half_of c (match' c)) (keep (λ c. ltb (match' c) no_facet) cells)
    (λ c h. ap (half_of c) (f c (keep_out (λ c. ltb (match' c) no_facet) cells c h).1).1))

-- the chain of a mark walked, i cells of it, and y the link on: their half-facets stand in the first places of the output
pub record Going (match : ℕ → ℕ) (caps : Caps) (s : State) (v : ℕ) (o o' : List ℕ) (n i y : ℕ) : Type 0 where
  pub room : List ℕ
  pub cells : List ℕ
  pub long : length cells ≡ most_around
  pub fits : length room ≡ most_around
  pub walking : Walking caps s v room cells i y
  pub wrote : Copied (halves_cut match (take i cells)) o n o'

module _ (match : ℕ → ℕ) (caps : Caps) (s : State) (v : ℕ) (o : List ℕ) where
  pub going_start : (y : ℕ) → y ≡ link caps s v 0 → Going match caps s v o o 0 0 y
  going_start y e = record {
    room = replicate most_around 0;
    cells = replicate most_around 0;
    long = length-replicate {A = ℕ} most_around 0;
    fits = length-replicate {A = ℕ} most_around 0;
    walking = walking_start caps s v (replicate most_around 0) y e;
    wrote = write_start match (replicate most_around 0) o;
  }

  -- one cell more: its match is written, or it has none
  module _ (w : List ℕ) (p : Pic w caps s) (l : Linked caps s) (o' : List ℕ) (n i y k y' f : ℕ) (g : Going match caps s v o o' n i y) (e : y ≡ suc k)
      (on : y' ≡ read w caps (InCell (k / 8) (Link (k % 8)))) (facet : f ≡ match (k / 8)) (h : i < most_around) where
    more : List ℕ
    more = set g.cells i (k / 8)

    size : length more ≡ most_around
    unfolding more
    size = length-set g.cells i (k / 8) ∙ g.long

    was : Copied (halves_cut match (take i more)) o n o'
    unfolding more
    was = rw (take-set-le i g.cells i (k / 8) (omega arith)) g.wrote

    cell : k / 8 ≡ get_or more i 0
    unfolding more
    cell = sym (get_or-set_same g.cells i (k / 8) 0 (omega (arith, g.long)))

    pub going_more : (o'' : List ℕ) (x : ℕ) → f < no_facet → x ≡ half_of (cut (k / 8)) (f % 8) → o'' ≡ set o' n x → Going match caps s v o o'' (n + 1) (i + 1) y'
    unfolding more
    going_more o'' x low half put = record {
      room = g.room;
      cells = more;
      long = size;
      fits = g.fits;
      walking = walking_step caps s v w p l g.room g.cells i y k y' g.walking e on;
      wrote = write_more match more o i n o' (k / 8) f was (omega (arith, size)) cell facet o'' x low half put;
    }

    pub going_none : no_facet ≤ f → Going match caps s v o o' n (i + 1) y'
    unfolding more
    going_none high = record {
      room = g.room;
      cells = more;
      long = size;
      fits = g.fits;
      walking = walking_step caps s v w p l g.room g.cells i y k y' g.walking e on;
      wrote = write_none match more o i n o' (k / 8) f was (omega (arith, size)) cell facet high;
    }

  module _ (o' : List ℕ) (n i y : ℕ) (g : Going match caps s v o o' n i y) (few : i ≤ most_around) where
    whole : Walked (s.chain v) caps.cells g.room g.cells i → Copied (halves_cut match (chain_of caps s v)) o n o'
    unfolding chain_of
    whole x =
        let front : take i g.cells ≡ select (s.chain v) caps.cells =
        rw (x.wrote (omega (arith, g.fits))) (take_at (select (s.chain v) caps.cells) _ i (sym x.count)) in
        rw front at g.wrote

    pub going_end : y ≡ 0 → Copied (halves_cut match (chain_of caps s v)) o n o'
    going_end e = whole (walking_end caps s v g.room g.cells i y g.walking e)

    pub going_full : length (chain_of caps s v) ≤ i → Copied (halves_cut match (chain_of caps s v)) o n o'
    going_full full = whole (walking_full caps s v g.room g.cells i y g.walking full)

-- along the chain of the first mark the sharers of the set are written
pub shared_list : (w : List ℕ) (caps : Caps) (rows : List (List (List ℕ))) (set o : List ℕ) (v n : ℕ) (o' : List ℕ) → v ≡ get_or set 0 0
    → (s : State) → Pic w caps s → Ready caps s → SetInside caps rows set
    → Copied (halves_cut (λ c. match_in w caps rows c set) (chain_of caps s v)) o n o' → Copied (sharers (map_with caps s) set) o n o'
unfolding chain_of map_with
shared_list w caps rows set o v n o' e s p r q was =
    let along : halves_cut (λ c. match_in w caps rows c set) (chain_of caps s v) ≡ sharers (map_with caps s) set =
    halves_uncut _ (match_at (map_with caps s) set) _
    (λ c there.
    let below : c < caps.cells = (select_out (s.chain v) caps.cells c there).0 in
    (omega (arith, p.cells), rw q.types (match_read w caps s p c below (r.sound.fitting c) set)))
    ∙ rw e (sym (sharers_along caps rows set s r q)) in
    rw along at was

-- the same answer by another name of the set
pub shared_same : (w : List ℕ) (caps : Caps) (rows : List (List (List ℕ))) (set set' o o' : List ℕ) (n : ℕ) → set ≡ set' → Shared w caps rows set o n o'
    → Shared w caps rows set' o n o'
shared_same w caps rows set set' o o' n e s = rw e at s
