-- `call::call` meets its contract. Refused, or the list done. Assumes nothing.
use Rattle.std.proofs.lemmas.Result.{err_from_is_err_and}
use Rattle.std.proofs.Common.{rules}
use Rattle.call.proofs.Ends.{call_done, call_refused}
use Rattle.call.proofs.call.Goals as goal

pub returns-in_err-whole_call : goal.returns-in_err-whole_call
returns-in_err-whole_call c =
    let p = err_from_is_err_and c.from_residual.result c.from_residual.ensures.1 in
    rw (p.1, p.2) (call_refused _ _ _ _ _ c.in_err-whole_call.ensures)

pub returns : goal.returns
returns c =
    call_done _ _ _ _ _ _ _ _ c.in_ok-whole_call.ensures c.steps_among-done.ensures c.sweep-refused.ensures.swept
    (search rules) c.sweep-refused.ensures.still_lent.numbers (search rules)
