-- `quick_sweep::sweep_with` meets its contract. At first no flag is up. Assumes nothing.
use Rattle.quick_sweep.proofs.Flags.{none_up}
use Rattle.quick_sweep.proofs.sweep_with.Goals as goal

pub walk-requires : goal.walk-requires
walk-requires g c = none_up _ _
