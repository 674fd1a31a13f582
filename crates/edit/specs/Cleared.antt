-- A cell that has gone has no siblings.
use Rattle.std.specs.Prelude.{cond, ◌&&◌, ℕ, ◌/◌, ◌%◌, eqb, ltb}
use Rattle.shapes.specs.Sizes.{most_facets}
use Rattle.map.specs.declared.Way.TheVariants.{Lone}
use Rattle.picture.specs.State.{State}

-- 0 for the siblings of the first k half-facets of a cell; of all
unfoldable pub cleared_to : State → ℕ → ℕ → State
cleared_to s c k = record {
  at = s.at;
  chain = s.chain;
  sib = λ h. cond (eqb (h / 8) c && ltb (h % 8) k) 0 (s.sib h);
  way = λ h. cond (eqb (h / 8) c && ltb (h % 8) k) Lone (s.way h);
  anc = s.anc;
  count = s.count;
}

abbrev pub cleared : State → ℕ → State
cleared s c = cleared_to s c most_facets
