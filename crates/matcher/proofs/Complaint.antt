-- From the complaint to the licences: what `licences` answers for a mark and a day, after any history of entries and folds since the journal began.
use mathlib.Core.Path.{◌≡◌, refl, sym, ap, ◌∙◌, subst}
use mathlib.Core.Bool.{Bool, true, false, cond}
use mathlib.Core.List.{List, [], ◌∷◌, ◌++◌}
use Prim.Native.Nat.{ℕ, ◌<◌, ◌≤◌}
use native.Mathlib.Omega.{arith}
use lib.Dec.{eqb}
use lib.ListN.{get_or, length, drop}
use Rattle.lists.specs.Lists.{has}
use Rattle.lists.specs.Ascending.{Ascending}
use Rattle.lists.proofs.Alike.{map_at}
use Rattle.lists.proofs.Keep.{map_has}
use Rattle.lists.proofs.Members.{at_has}
use Rattle.map.specs.Cells.{Map, live, holds}
use Rattle.map.specs.Sound.{Sound}
use Rattle.map.specs.Answers.{Answer, Check, ◌when◌, answer, list_answer}
use Rattle.map.specs.Says.{given, refused, value_says}
use Rattle.map.specs.declared.Refusal.{Refusal}
use Rattle.std.specs.Prelude.{Result, Ok}
use Rattle.journal_store.specs.Days.{Dated, map_on}
use Rattle.listing.specs.Listing.{listed}
use Rattle.year.specs.Since.{Since}
use Rattle.year.proofs.Days.{since_kept}
use Rattle.matcher.specs.Licences.{ascending, cells_around, licences_around, licences_on, complaint_checks, licences_answer}
use Rattle.matcher.specs.Gathered.{licence_in}
use Rattle.matcher.specs.Complaint.{Second, Named}
use Rattle.matcher.proofs.Order.{order_ascends, order_has, has_order}
use Rattle.matcher.proofs.Around.{around_has, has_around}

-- "the licences of all cells then around it, of every dimension, ascending, each once, 0 left out"
pub record Licences (m : Map) (v : ℕ) (list : List ℕ) : Type 0 where
  pub ascends : Ascending list
  -- none extra
  pub only : (x : ℕ) → has x list ≡ true → (0 < x) × ((c : ℕ) × (live m c ≡ true) × (holds m v c ≡ true) × ((m.at c).licence ≡ x))
  -- none missing
  pub all : (c : ℕ) → live m c ≡ true → holds m v c ≡ true → 0 < (m.at c).licence → has (m.at c).licence list ≡ true

pub around_licences : (m : Map) → Sound m → (v : ℕ) → Licences m v (licences_around m v)
unfolding licences_around
around_licences m o v = record {
  ascends = order_ascends _;
  only = λ x h.
      let r = has_order _ x h in
      let k = map_at (licence_in m) (cells_around m v) x r.1 in
      let c = around_has m v (get_or (cells_around m v) k.0 0) (at_has (cells_around m v) k.0 k.1) in
      (r.0, (get_or (cells_around m v) k.0 0, c.1, c.2, k.2));
  all = λ c alive h some. order_has _ (m.at c).licence some (map_has (licence_in m) (cells_around m v) c (has_around m o v c alive h));
}

-- what an answer with a count says
counted : (checks : List Check) (values : List ℕ) (n : ℕ) → given (n ∷ []) ≡ answer checks values → values ≡ n ∷ []
unfolding answer given
counted [] values n e = sym (ap (λ (a : Answer). a.values) e)
counted (c ∷ cs) values n e = go c.fails (λ q. counted cs values n q) e
  where
    go : (b : Bool) → (given (n ∷ []) ≡ answer cs values → values ≡ n ∷ [])
        → given (n ∷ []) ≡ cond b (record { refusal = c.number; values = [] }) (answer cs values) → values ≡ n ∷ []
    go true ih e = absurd (omega (arith, ap (λ (a : Answer). length a.values) e))
    go false ih e = ih e

first_passed : (checks more : List Check) (values : List ℕ) (n : ℕ) → given (n ∷ []) ≡ answer (checks ++ more) values → (answer checks []).refusal ≡ 0
unfolding answer given
first_passed [] more values n e = refl
first_passed (c ∷ cs) more values n e = go c.fails (λ q. first_passed cs more values n q) e
  where
    go : (b : Bool) → (given (n ∷ []) ≡ answer (cs ++ more) values → (answer cs []).refusal ≡ 0)
        → given (n ∷ []) ≡ cond b (record { refusal = c.number; values = [] }) (answer (cs ++ more) values)
        → (cond b (record { refusal = c.number; values = [] }) (answer cs [])).refusal ≡ 0
    go true ih e = absurd (omega (arith, ap (λ (a : Answer). length a.values) e))
    go false ih e = ih e

module _ (m : Map) (past : List Dated) (fold day v : ℕ) (second second' out out' : List ℕ) (r : Result ℕ Refusal)
    (says : value_says r ≡ licences_answer m past fold day v (length second) (length out))
    (leaves : out' ≡ listed (licences_answer m past fold day v (length second) (length out)) (licences_on m past day v) out)
    (leaves-day : Second m past fold day v second second') (n : ℕ) (e : r ≡ Ok n) where
  listing : given (n ∷ []) ≡ licences_answer m past fold day v (length second) (length out)
  unfolding value_says
  listing = ap value_says (sym e) ∙ says

  count : n ≡ length (licences_on m past day v)
  unfolding licences_answer list_answer
  count = sym (ap (λ (l : List ℕ). get_or l 0 0) (counted _ _ n listing))

  places : out' ≡ licences_on m past day v ++ drop n out
  unfolding listed given
  places =
      let w : out' ≡ licences_on m past day v ++ drop (length (licences_on m past day v)) out = rw (← listing) at leaves in
      rw (← count) at w

  -- what was checked before the list
  passed : (answer (complaint_checks m fold day v (length second)) []).refusal ≡ 0
  unfolding licences_answer list_answer
  passed = first_passed (complaint_checks m fold day v (length second)) _ _ n listing

  named : (n ≡ length (licences_on m past day v)) × (out' ≡ licences_on m past day v ++ drop n out) × Licences (map_on m past day) v (licences_on m past day v)
  unfolding licences_on
  named = (count, places, around_licences (map_on m past day) (leaves-day.opened passed).sound v)

-- a complaint for a mark and a day, on journal, starting map and mesh that came about by the calls since `begin`, from any map `m` and by any history of
-- entries and folds: the refusals in their order, and where a count is answered the list has just that many numbers, the licences of the cells that
-- are live on that day and hold the mark, ascending, each once, 0 left out: none missing, none extra
pub complaint : {m : Map} {past : List Dated} {fold : ℕ} {mesh j start second second' out out' : List ℕ} {day v : ℕ} {r : Result ℕ Refusal} → Since m past fold mesh j start
    → Named j start day v second out r second' out'
    → (value_says r ≡ licences_answer m past fold day v (length second) (length out))
    × ((n : ℕ) → r ≡ Ok n → (n ≡ length (licences_on m past day v)) × (out' ≡ licences_on m past day v ++ drop n out) × Licences (map_on m past day) v (licences_on m past day v))
complaint {m} {past} {fold} {second = second} {second'} {out} {out'} {day} {v} {r} on did =
    let a = did.answers m past fold (since_kept on).filed in
    (a.0, named m past fold day v second second' out out' r a.0 a.1 a.2)
