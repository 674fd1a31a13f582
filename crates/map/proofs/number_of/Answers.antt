-- `map::number_of` meets its contract: a case is named, and its number is that of the case.
use mathlib.Core.Path.{sym, ap}
use Rattle.map.specs.Says.{number_of}
use Rattle.map.proofs.number_of.Goals as goal

pub returns-in-CapacityAbove : goal.returns-in-CapacityAbove
returns-in-CapacityAbove c = ap number_of (sym c.in-CapacityAbove.is)

pub returns-in-MemoryShort : goal.returns-in-MemoryShort
returns-in-MemoryShort c = ap number_of (sym c.in-MemoryShort.is)

pub returns-in-CellOutside : goal.returns-in-CellOutside
returns-in-CellOutside c = ap number_of (sym c.in-CellOutside.is)

pub returns-in-CellLive : goal.returns-in-CellLive
returns-in-CellLive c = ap number_of (sym c.in-CellLive.is)

pub returns-in-CellNotLive : goal.returns-in-CellNotLive
returns-in-CellNotLive c = ap number_of (sym c.in-CellNotLive.is)

pub returns-in-TypeUnknown : goal.returns-in-TypeUnknown
returns-in-TypeUnknown c = ap number_of (sym c.in-TypeUnknown.is)

pub returns-in-CountWrong : goal.returns-in-CountWrong
returns-in-CountWrong c = ap number_of (sym c.in-CountWrong.is)

pub returns-in-MarkOutside : goal.returns-in-MarkOutside
returns-in-MarkOutside c = ap number_of (sym c.in-MarkOutside.is)

pub returns-in-MarkTwice : goal.returns-in-MarkTwice
returns-in-MarkTwice c = ap number_of (sym c.in-MarkTwice.is)

pub returns-in-CellSame : goal.returns-in-CellSame
returns-in-CellSame c = ap number_of (sym c.in-CellSame.is)

pub returns-in-MarkFull : goal.returns-in-MarkFull
returns-in-MarkFull c = ap number_of (sym c.in-MarkFull.is)

pub returns-in-OutputShort : goal.returns-in-OutputShort
returns-in-OutputShort c = ap number_of (sym c.in-OutputShort.is)

pub returns-in-FacetOutside : goal.returns-in-FacetOutside
returns-in-FacetOutside c = ap number_of (sym c.in-FacetOutside.is)

pub returns-in-NotMesh : goal.returns-in-NotMesh
returns-in-NotMesh c = ap number_of (sym c.in-NotMesh.is)

pub returns-in-BadFrame : goal.returns-in-BadFrame
returns-in-BadFrame c = ap number_of (sym c.in-BadFrame.is)

pub returns-in-PositionsShort : goal.returns-in-PositionsShort
returns-in-PositionsShort c = ap number_of (sym c.in-PositionsShort.is)

pub returns-in-FaceFull : goal.returns-in-FaceFull
returns-in-FaceFull c = ap number_of (sym c.in-FaceFull.is)

pub returns-in-DayBefore : goal.returns-in-DayBefore
returns-in-DayBefore c = ap number_of (sym c.in-DayBefore.is)

pub returns-in-DayFolded : goal.returns-in-DayFolded
returns-in-DayFolded c = ap number_of (sym c.in-DayFolded.is)

pub returns-in-FoldNotAllowed : goal.returns-in-FoldNotAllowed
returns-in-FoldNotAllowed c = ap number_of (sym c.in-FoldNotAllowed.is)

pub returns-in-JournalFull : goal.returns-in-JournalFull
returns-in-JournalFull c = ap number_of (sym c.in-JournalFull.is)
