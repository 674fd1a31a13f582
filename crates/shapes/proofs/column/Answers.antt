-- `shapes::column` meets its contract.
use mathlib.Core.Path.{sym, ◌∙◌}
use Rattle.shapes.proofs.Read.{entry_in, entry_type, entry_facet, entry_column}
use Rattle.shapes.proofs.column.Goals as goal

pub returns-then-t-ge-CODES : goal.returns-then-t-ge-CODES
returns-then-t-ge-CODES c = sym (entry_type _ _ _ _ c.if-t-ge-CODES.true)

pub returns-then-f-ge-MOST_FACETS : goal.returns-then-f-ge-MOST_FACETS
returns-then-f-ge-MOST_FACETS c = sym (entry_facet _ _ _ _ c.if-t-ge-CODES.false c.if-f-ge-MOST_FACETS.true)

pub returns-then-k-ge-COLUMNS : goal.returns-then-k-ge-COLUMNS
returns-then-k-ge-COLUMNS c = sym (entry_column _ _ _ _ c.if-t-ge-CODES.false c.if-f-ge-MOST_FACETS.false c.if-k-ge-COLUMNS.true)

pub returns : goal.returns
returns c = c.wide.ensures ∙ sym (entry_in _ _ _ _ c.if-t-ge-CODES.false c.if-f-ge-MOST_FACETS.false c.if-k-ge-COLUMNS.false)
