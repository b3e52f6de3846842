-- That two lines are the same means that they are equal, byte for byte. Proved in proofs/Same.antt. Assumes nothing.
use Rattle.std.specs.Prelude.{ℕ, true, List, ◌≡◌}
use Rattle.replay_days.specs.Judged.{same}

abbrev pub SameMeans : Type 0
SameMeans = (s t : List ℕ) → (same s t ≡ true → s ≡ t) × (s ≡ t → same s t ≡ true)
