-- `off_form::pass_title` meets its contract.
use mathlib.Core.Path.{sym, ◌∙◌}
use native.Mathlib.Omega.{arith}
use Rattle.off_form.proofs.Taking.{here_word, title_none, title_stops, title_on}
use Rattle.off_form.proofs.pass_title.Goals as goal

pub returns-in_default : goal.returns-in_default
returns-in_default c = title_none _ _ _ c.next_word.ensures c.in_default.is

pub slice_bounds-is_title-count : goal.slice_bounds-is_title-count
slice_bounds-is_title-count c = let h = here_word _ _ _ c.next_word.ensures _ c.in-Some.is in omega (arith, h.some, h.inside)

pub slice_bounds-is_title-start : goal.slice_bounds-is_title-start
slice_bounds-is_title-start c = let h = here_word _ _ _ c.next_word.ensures _ c.in-Some.is in omega (arith, h.some, h.inside)

pub slice_bounds-is_title-end : goal.slice_bounds-is_title-end
slice_bounds-is_title-end c = let h = here_word _ _ _ c.next_word.ensures _ c.in-Some.is in omega (arith, h.some, h.inside)

pub returns-then-not-is_title : goal.returns-then-not-is_title
returns-then-not-is_title c =
    title_stops _ _ _ c.next_word.ensures _ c.in-Some.is (sym c.is_title.ensures ∙ c.if-not-is_title.true)

pub returns : goal.returns
returns c =
    title_on _ _ _ c.next_word.ensures _ c.in-Some.is (sym c.is_title.ensures ∙ c.if-not-is_title.false)
