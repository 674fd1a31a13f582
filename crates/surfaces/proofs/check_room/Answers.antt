-- `surfaces::check_room` meets its contract.
use native.Mathlib.Omega.{arith}
use Rattle.surfaces.proofs.Answering.{room_marks, room_cells, room_words, room_numbers, room_enough}
use Rattle.surfaces.proofs.check_room.Goals as goal

pub returns-then-marks-gt-MOST_CAPACITY : goal.returns-then-marks-gt-MOST_CAPACITY
returns-then-marks-gt-MOST_CAPACITY c = room_marks _ _ _ _ (omega arith)

pub returns-then-cells-gt-MOST_CAPACITY : goal.returns-then-cells-gt-MOST_CAPACITY
returns-then-cells-gt-MOST_CAPACITY c = room_cells _ _ _ _ (omega arith) (omega arith)

pub returns-then-words-room_of : goal.returns-then-words-room_of
returns-then-words-room_of c = room_words _ _ _ _ (omega arith) (omega arith) (omega (arith, c.room_of.ensures))

pub returns-then-numbers-marks : goal.returns-then-numbers-marks
returns-then-numbers-marks c = room_numbers _ _ _ _ (omega arith) (omega arith) (omega (arith, c.room_of.ensures)) (omega arith)

pub returns : goal.returns
returns c = room_enough _ _ _ _ (omega arith) (omega arith) (omega (arith, c.room_of.ensures)) (omega arith)
