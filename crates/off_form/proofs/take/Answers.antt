-- `off_form::take` meets its contract.
use native.Mathlib.Omega.{arith}
use Rattle.off_form.proofs.Taking.{here_word, took_none, took_breaks, took_is}
use Rattle.off_form.proofs.take.Goals as goal

pub returns-in_default : goal.returns-in_default
returns-in_default g c = took_none g.K.Kind.says _ _ _ c.next_word.ensures c.in_default.is

pub slice_bounds-read-count : goal.slice_bounds-read-count
slice_bounds-read-count g c = let h = here_word _ _ _ c.next_word.ensures _ c.in-Some.is in omega (arith, h.some, h.inside)

pub slice_bounds-read-start : goal.slice_bounds-read-start
slice_bounds-read-start g c = let h = here_word _ _ _ c.next_word.ensures _ c.in-Some.is in omega (arith, h.some, h.inside)

pub slice_bounds-read-end : goal.slice_bounds-read-end
slice_bounds-read-end g c = let h = here_word _ _ _ c.next_word.ensures _ c.in-Some.is in omega (arith, h.some, h.inside)

pub returns-in_default-read : goal.returns-in_default-read
returns-in_default-read g c =
    took_breaks g.K.Kind.says _ _ _ c.next_word.ensures _ c.in-Some.is _ c.read.ensures c.in_default-read.is

pub returns : goal.returns
returns g c =
    took_is g.K.Kind.says _ _ _ c.next_word.ensures _ c.in-Some.is _ c.read.ensures _ c.in-Some-read.is
