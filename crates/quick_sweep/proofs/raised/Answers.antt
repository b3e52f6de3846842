-- `quick_sweep::raised` meets its contract. By what the library says of a look-up. Assumes nothing.
use Rattle.std.proofs.Common.{rules}
use Rattle.std.proofs.lemmas.Option.{unwrap_or-slice_get}
use Rattle.quick_sweep.specs.Flags.{raised}
use Rattle.quick_sweep.proofs.raised.Goals as goal

pub returns : goal.returns
unfolding raised
returns c = search (rules, unwrap_or-slice_get)
