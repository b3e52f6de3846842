-- `romaludiv::words_of` meets its contract. Assumes nothing.
use Rattle.romaludiv.proofs.Keeping.{back, listed}
use native.Mathlib.Omega.{arith}
use Rattle.romaludiv.proofs.words_of.Goals as goal

pub returns : goal.returns
returns c =
    let value = listed c.args.k c.from.ensures c.is_some.ensures c.from-2.ensures c.unwrap_or.ensures c.from-3.ensures c.place_number.ensures in
    record { value = value; result_value = back c.args.k value c.unwrap_or.ensures (omega (arith, c.unwrap_or.type_inv)) }
