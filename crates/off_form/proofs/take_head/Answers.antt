-- `off_form::take_head` meets its contract.
use Rattle.std.proofs.lemmas.Result.{err_from_is_err_and}
use Rattle.off_form.proofs.Passing.{took_stopped, took_got, passed_stopped, passed_on}
use Rattle.off_form.proofs.Heads.{head_title, head_marks, head_cells, head_edges, head_read_lem}
use Rattle.off_form.proofs.take_head.Goals as goal

pub returns-in_err-behind_title : goal.returns-in_err-behind_title
returns-in_err-behind_title c =
    let p = err_from_is_err_and c.from_residual.result c.from_residual.ensures.1 in rw (p.1, p.2) (head_title _ _ (passed_stopped _ _ _ c.pass_title.ensures _ c.in_err-behind_title.was))

pub returns-in_err-marks : goal.returns-in_err-marks
returns-in_err-marks c =
    let p = err_from_is_err_and c.from_residual-in_err-marks.result c.from_residual-in_err-marks.ensures.1 in rw (p.1, p.2)
    (head_marks _ _ (passed_on _ _ _ c.pass_title.ensures _ c.in_ok-behind_title.was) _ (took_stopped _ _ _ c.take.ensures _ c.in_err-marks.was))

pub returns-in_err-cells : goal.returns-in_err-cells
returns-in_err-cells c =
    let p = err_from_is_err_and c.from_residual-in_err-cells.result c.from_residual-in_err-cells.ensures.1 in rw (p.1, p.2)
    (head_cells _ _ (passed_on _ _ _ c.pass_title.ensures _ c.in_ok-behind_title.was) _ _ (took_got _ _ _ c.take.ensures _ _ c.in_ok-marks.was) _ (took_stopped _ _ _ c.take-2.ensures _ c.in_err-cells.was))

pub returns-in_err-behind : goal.returns-in_err-behind
returns-in_err-behind c =
    let p = err_from_is_err_and c.from_residual-in_err-behind.result c.from_residual-in_err-behind.ensures.1 in rw (p.1, p.2)
    (head_edges _ _ (passed_on _ _ _ c.pass_title.ensures _ c.in_ok-behind_title.was) _ _ (took_got _ _ _ c.take.ensures _ _ c.in_ok-marks.was) _ _ (took_got _ _ _ c.take-2.ensures _ _ c.in_ok-cells.was) _ (took_stopped _ _ _ c.take-3.ensures _ c.in_err-behind.was))

pub returns : goal.returns
returns c = head_read_lem _ _ (passed_on _ _ _ c.pass_title.ensures _ c.in_ok-behind_title.was) _ _ (took_got _ _ _ c.take.ensures _ _ c.in_ok-marks.was) _ _ (took_got _ _ _ c.take-2.ensures _ _ c.in_ok-cells.was) _ _ (took_got _ _ _ c.take-3.ensures _ _ c.in_ok-behind.was)
