-- `journal_store::count_up_to` meets its contract.
use Prim.Native.Nat.{◌<◌, ◌≤◌}
use borrow.Author.Rules.{rules}
use borrow.Author.Tests.{tests}
use Rattle.std.proofs.lemmas.Iterator.{first_from_Range}
use Rattle.journal_store.specs.Journals.{day_in}
use Rattle.journal_store.proofs.Reading.{counted_found}
use Rattle.journal_store.proofs.count_up_to.Goals as goal

pub returns : goal.returns
returns c =
    counted_found _ _ _ _ _ c.unwrap_or.ensures
    (first_from_Range _ _ _ _ (λ i. c.args.day < day_in c.args.j.now i) (λ i. day_in c.args.j.now i ≤ c.args.day) c.find.ensures.ran
    (λ x q k. search (rules, tests)) (λ x q k. (search rules, search (rules, tests))))
