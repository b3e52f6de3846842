-- A spot in an output, for a recorded output of which so much has been read. For the functions of this crate and of replay_judge. Assumes
-- nothing.
use Rattle.std.specs.Prelude.{ℕ, ◌+◌, ◌≤◌, false, List, [], ◌++◌, None, Some, ◌≡◌, drop, length, take}
use Rattle.base_places.specs.Lengths.{longest_output}
use Rattle.replay_days.specs.Judged.{lines_from}
use Rattle.replay_days.specs.Going.{meets}
use Rattle.replay_compare.specs.declared.Spot.{Spot}

-- the output at the buffer's front has the lines `left` from the spot's line on, the first of them with number n; the recorded line so far
-- is `line`
pub record Meets (p : Spot) (buffer line : List ℕ) (left : List (List ℕ)) (n : ℕ) : Type 0 where
  pub len : p.len ≤ length buffer
  pub start : lines_from [] (drop p.start (take p.len buffer)) ≡ left
  -- while the two lines agree, the output goes on where the recorded line does
  pub on : (at : ℕ) → p.at ≡ Some at → lines_from line (drop at (take p.len buffer)) ≡ left
  -- once they do not, no end of the recorded line makes it the next
  pub off : p.at ≡ None → (end : List ℕ) → meets (line ++ end) left ≡ false
  pub number : p.number ≡ n
  -- an output has no more than one line more than bytes: so n is small
  pub few : n + length left ≤ longest_output + 2
