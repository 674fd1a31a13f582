-- The steps of an edit, each a change of the state in one place.
use Rattle.std.specs.Prelude.{Bool, cond, ◌&&◌, ℕ, eqb}
use Rattle.map.specs.declared.Way.{Way}
use Rattle.map.specs.Cells.{Body}
use Rattle.picture.specs.State.{State}

unfoldable pub with_body : State → ℕ → Body → State
with_body s c b = record {
  at = λ k. cond (eqb c k) b (s.at k);
  chain = s.chain;
  sib = s.sib;
  way = s.way;
  anc = s.anc;
  count = s.count;
}

-- cell c in the chain of mark v, or out of it
unfoldable pub with_link : State → ℕ → ℕ → Bool → State
with_link s v c on = record {
  at = s.at;
  chain = λ u k. cond (eqb v u && eqb c k) on (s.chain u k);
  sib = s.sib;
  way = s.way;
  anc = s.anc;
  count = s.count;
}

-- the sibling of a half-facet, and the way that it runs
unfoldable pub with_sib : State → ℕ → ℕ → Way → State
with_sib s h x y = record {
  at = s.at;
  chain = s.chain;
  sib = λ k. cond (eqb h k) x (s.sib k);
  way = λ k. cond (eqb h k) y (s.way k);
  anc = s.anc;
  count = s.count;
}

unfoldable pub with_anc : State → ℕ → ℕ → ℕ → State
with_anc s d v x = record {
  at = s.at;
  chain = s.chain;
  sib = s.sib;
  way = s.way;
  anc = λ e u. cond (eqb d e && eqb v u) x (s.anc e u);
  count = s.count;
}

unfoldable pub with_count : State → ℕ → ℕ → State
with_count s t x = record {
  at = s.at;
  chain = s.chain;
  sib = s.sib;
  way = s.way;
  anc = s.anc;
  count = λ k. cond (eqb t k) x (s.count k);
}
