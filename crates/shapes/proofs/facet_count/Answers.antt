-- `shapes::facet_count` meets its contract.
use Prim.Native.Nat.{ℕ}
use lib.ListN.{length}
use Rattle.shapes.specs.Shapes.{Shape, no_shape, shapes, facet_count}
use Rattle.shapes.proofs.Read.{by_code, no_type}
use Rattle.shapes.proofs.facet_count.Goals as goal

abbrev number : Shape → ℕ
number = λ (s : Shape). length s.facets

pub returns-in-1 : goal.returns-in-1
unfolding no_shape shapes facet_count
returns-in-1 c = by_code number _ 1 c.in-1.is

pub returns-in-2 : goal.returns-in-2
unfolding no_shape shapes facet_count
returns-in-2 c = by_code number _ 2 c.in-2.is

pub returns-in-3 : goal.returns-in-3
unfolding no_shape shapes facet_count
returns-in-3 c = by_code number _ 3 c.in-3.is

pub returns-in-4 : goal.returns-in-4
unfolding no_shape shapes facet_count
returns-in-4 c = by_code number _ 4 c.in-4.is

pub returns-in-5 : goal.returns-in-5
unfolding no_shape shapes facet_count
returns-in-5 c = by_code number _ 5 c.in-5.is

pub returns-in-6 : goal.returns-in-6
unfolding no_shape shapes facet_count
returns-in-6 c = by_code number _ 6 c.in-6.is

pub returns-in-7 : goal.returns-in-7
unfolding no_shape shapes facet_count
returns-in-7 c = by_code number _ 7 c.in-7.is

pub returns-in_default : goal.returns-in_default
unfolding no_shape shapes facet_count
returns-in_default c = no_type number _ c.in_default.in_default-own.rest
