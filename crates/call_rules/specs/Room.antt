-- Document 01, "Numbers that refuse": "Answer room past the steps done isn't touched", of everything that a call may leave. Proved in
-- proofs/Demands.antt. Assumes nothing.
use Rattle.std.specs.Prelude.{ℕ, ◌≤◌, ◌≡◌}
use Rattle.base_places.specs.Places.{answer_width}
use Rattle.base_rows.specs.Rows.{row}
use Rattle.call_rules.specs.Call.{Ended, Lent}
use Rattle.call_rules.specs.Demands.{Demand2}

abbrev pub RoomKept : Lent → Ended → Type 0
RoomKept lent e = (i : ℕ) → e.done ≤ i → row answer_width i e.room ≡ row answer_width i lent.room

-- of whatever meets the call's contract
abbrev pub KeepsRoom : Type 0
KeepsRoom = (lent : Lent) (budget : ℕ) (e : Ended) → Demand2 lent budget e → RoomKept lent e
