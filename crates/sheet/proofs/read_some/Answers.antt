-- `sheet::read_some` meets its contract. Where the read failed, it is as if no byte was read. Assumes nothing.
use Rattle.std.proofs.Common.{arith}
use Rattle.sheet.proofs.Handed.{read_failed}
use Rattle.sheet.proofs.read_some.Goals as goal

pub returns-in_default-clause-once : goal.returns-in_default-clause-once
returns-in_default-clause-once g c = read_failed _ _ _ _ (omega arith)
