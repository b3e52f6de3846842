-- Document 01, "Numbers that refuse": "Answer 0 is success. A step answers its number and a branch: 0 for any refusal"; of an outcome that is
-- given by its numbers alone, whatever these are. Assumes nothing.
use Rattle.std.specs.Prelude.{ℕ}
use Rattle.step_rules.specs.declared.Numbered.{Numbered}
use Rattle.step_rules.specs.declared.Numbered.TheVariants.{Refused, Done}

abbrev pub numbered_answer : Numbered → ℕ
numbered_answer (Refused number) = number
numbered_answer (Done branch) = 0

abbrev pub numbered_branch : Numbered → ℕ
numbered_branch (Refused number) = 0
numbered_branch (Done branch) = branch
