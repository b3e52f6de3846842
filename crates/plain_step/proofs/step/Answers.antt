-- `plain_step::step` meets its contract. By what reading, trying and writing ensure. Assumes nothing.
use mathlib.Core.Path.{refl}
use Rattle.std.proofs.lemmas.Result.{err_from_is_err_and}
use Rattle.step_rules.proofs.Chain.{read_and_written}
use Rattle.step_rules.specs.Step.{as_written}
use Rattle.plain_step.proofs.step.Goals as goal

pub returns-in_err-solved : goal.returns-in_err-solved
unfolding as_written
returns-in_err-solved c =
    let p = err_from_is_err_and c.from_residual.result c.from_residual.ensures.1 in
    rw (p.1, p.2) (read_and_written _ _ _ _ _ _ c.as_read.ensures c.in_err-solved.ensures refl)

pub returns : goal.returns
returns c = read_and_written _ _ _ _ _ _ c.as_read.ensures c.in_ok-solved.ensures c.as_written.ensures
