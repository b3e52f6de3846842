-- How long an output can be. Proved in proofs/Bounds.antt. Assumes nothing.
use Rattle.std.specs.Prelude.{ℕ, ◌≤◌, List, length}
use Rattle.base_places.specs.Lengths.{longest_output}
use Rattle.text_output.specs.Output.{output}

-- no output is longer: 256 A lines of 14 bytes, 64 B of 29, 128 I of 32, an E of 14
abbrev pub OutputFits : Type 0
OutputFits = (input : List ℕ) → length (output input) ≤ longest_output
