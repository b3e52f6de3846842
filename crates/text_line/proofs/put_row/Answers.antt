use Prim.Native.Nat.{ℕ}
use native.Mathlib.Omega.{arith}
use lib.ListN.{length-take}
use Rattle.text_line.specs.Filled.{HasRoom}
use Rattle.text_line.proofs.Stored.{put_all}
use Rattle.text_line.proofs.put_row.Goals as goal

pub append-requires : goal.append-requires
unfolding HasRoom
append-requires c = omega (arith, length-take {A = ℕ})

pub append-requires-2 : goal.append-requires-2
unfolding HasRoom
append-requires-2 c = omega (arith, length-take {A = ℕ})

pub append-requires-3 : goal.append-requires-3
unfolding HasRoom
append-requires-3 c = omega (arith, length-take {A = ℕ})

pub append-requires-4 : goal.append-requires-4
unfolding HasRoom
append-requires-4 c = omega (arith, length-take {A = ℕ})

pub returns : goal.returns
returns c = search put_all
