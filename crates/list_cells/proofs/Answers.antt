-- An answer in its row of the room: the row itself, every other row, the room's length. Assumes nothing.
use Prim.Native.Nat.{ℕ, ◌<◌}
use mathlib.Core.List.{List}
use mathlib.Core.Logic.{◌≢◌}
use mathlib.Core.Path.{◌≡◌, refl}
use lib.ListN.{length}
use Rattle.base_places.specs.Places.{answer_width}
use Rattle.base_rows.specs.Laws.{Keeps}
use Rattle.base_rows.specs.Rows.{row, rows}
use Rattle.base_rows.proofs.Laws.{as_long, other_rows, row_itself}
use Rattle.list_cells.specs.Cells.{answer_of}
use Rattle.list_cells.specs.Cells.{answer_row, put_answer}
use Rattle.list_cells.specs.declared.Answer.{Answer}

-- what is read is what was written
pub read_answer : (a : Answer) → answer_of (answer_row a) ≡ a
unfolding answer_of answer_row
read_answer a = refl

module _ (room : List ℕ) (i : ℕ) (a : Answer) where
  keeps : Keeps answer_width (λ (_ : List ℕ). answer_row a)
  unfolding answer_row
  keeps r e = refl

  pub answer_there : i < rows answer_width room → row answer_width i (put_answer room i a) ≡ answer_row a
  unfolding put_answer
  answer_there h = row_itself ℕ answer_width i (λ _. answer_row a) room keeps h

  pub answer_elsewhere : (m : ℕ) → m ≢ i → row answer_width m (put_answer room i a) ≡ row answer_width m room
  unfolding put_answer
  answer_elsewhere m ne = other_rows ℕ answer_width i (λ _. answer_row a) room keeps m ne

  pub room_as_long : length (put_answer room i a) ≡ length room
  unfolding put_answer
  room_as_long = as_long ℕ answer_width i (λ _. answer_row a) room keeps
