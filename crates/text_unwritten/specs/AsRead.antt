-- A body that no done step wrote is printed with the bits that were read. Proved in proofs/AsRead.antt. Assumes nothing.
use Rattle.std.specs.Prelude.{ℕ, ◌<◌, List, ◌≡◌}
use Rattle.base_places.specs.Places.{body_width}
use Rattle.base_rows.specs.Rows.{rows}
use Rattle.list_tables.specs.Tables.{step_at}
use Rattle.list_sharing.specs.Sharing.{Names}
use Rattle.call_rules.specs.Demands.{number_of}
use Rattle.text_line.specs.Night.{Night, of_program}
use Rattle.text_read.specs.Text.{reading, text_of}
use Rattle.text_rows.specs.Tables.{b_line}
use Rattle.text_output.specs.Answer.{called, lent, prints}

-- no step that was answered 0, and so was done, is of a contact that names body i
abbrev pub Unwritten : Night → ℕ → Type 0
Unwritten t i =
    (j : ℕ) → j < (called t).done → number_of j (called t) ≡ 0 → Names (lent t).tables (step_at t.steps j) i → ⊥

-- of a text that was read to its end, t being what it says: body i's B line is the line of the bits that were read
abbrev pub BodiesAsRead : Type 0
BodiesAsRead =
    (s line : List ℕ) (n : ℕ) (t : Night) → text_of of_program s ≡ reading line n t → (i : ℕ) → i < rows body_width t.bodies
    → Unwritten t i → b_line (prints (called t).tables.bodies t.bodies) i ≡ b_line t.bodies i
