-- The statement of specs/Twice.antt. Assumes nothing.
use Rattle.list_witness.specs.Twice.{TwiceTheSame}
use Rattle.list_witness.proofs.WorkedOut.{worked_out}

pub twice_the_same : TwiceTheSame
twice_the_same = worked_out.2
