-- `desk::run` meets its contract.
use borrow.Author.Rules.{rules}
use Rattle.desk.proofs.Output.{program_output}
use Rattle.desk.proofs.run.Goals as goal

pub returns : goal.returns
returns c = program_output _ _ _ _ _ _ _ _ _ (search rules) (search rules) (search rules) (search rules) c.start.ensures c.serve.ensures
