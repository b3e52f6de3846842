-- That equal steps have to keep their order: the same step twice, worked out, is answered in two ways. Proved in proofs/Twice.antt.
-- Assumes nothing.
use Rattle.std.specs.Prelude.{ℕ, [], ◌∷◌, ◌≡◌, Float}
use Rattle.std.specs.Float.{binary32}
use Rattle.std.specs.Float.Ieee.{of_bits}
use Rattle.elem_leaves.specs.Floats.{zero}
use Rattle.list_tables.specs.Tables.{step_as}
use Rattle.list_tables.specs.declared.Step.{Step}
use Rattle.list_cells.specs.Cells.{answer_of}
use Rattle.list_cells.specs.declared.Answer.{Answer}
use Rattle.base_order.specs.OneByOne.{answers}
use Rattle.list_rules.specs.Sweep.{step_on}
use Rattle.list_witness.specs.Witness.{foot}

-- 2 to the power of 127
abbrev pub huge : Float
huge = of_bits binary32 0x7f00_0000

-- the warm start of the toe
abbrev pub warm : Step
warm = step_as 1 0

-- a number, of a step without a branch
abbrev pub numbered : ℕ → Answer
numbered n = answer_of (n ∷ [])

-- the foot takes up a huge push; taking it up once more would be too much for the arithmetic
abbrev pub TwiceTheSame : Type 0
TwiceTheSame = answers step_on (warm ∷ warm ∷ []) (foot zero zero zero huge) ≡ numbered 0 ∷ numbered 10 ∷ []
