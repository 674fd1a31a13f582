-- `frames::add_byte` meets its contract.
use Rattle.frames.proofs.Texts.{byte_done}
use borrow.Author.Rules.{rules}
use Rattle.frames.proofs.add_byte.Goals as goal

pub returns : goal.returns
returns c =
    byte_done c.args.b _ _ (search rules) c.character.ensures c.character-2.ensures c.add-next.ensures c.add.ensures
