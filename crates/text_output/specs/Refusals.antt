-- Which whole-call refusals a text can have: a text that was read says whole rows, no more than the tables hold, and there is room for all
-- its answers; so neither 1 nor 4. Proved in proofs/Refusals.antt. Assumes nothing.
use Rattle.std.specs.Prelude.{ℕ, List, ◌≢◌, ◌⊎◌, ◌≡◌}
use Rattle.text_line.specs.Night.{Night, of_program}
use Rattle.text_read.specs.Text.{reading, text_of}
use Rattle.text_output.specs.Answer.{called}

-- the number on an R line (`written`) is 2 or 3
abbrev pub OnlyTwoOrThree : Type 0
OnlyTwoOrThree =
    (s line : List ℕ) (n : ℕ) (t : Night) → text_of of_program s ≡ reading line n t → (called t).refusal ≢ 0
    → ((called t).refusal ≡ 2) ⊎ ((called t).refusal ≡ 3)
