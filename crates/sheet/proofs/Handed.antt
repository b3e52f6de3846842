-- One reading and the end, as what they hand on. Assumes nothing.
use Prim.Native.Nat.{ℕ, ◌≤◌}
use mathlib.Core.Bool.{false}
use mathlib.Core.List.{List}
use mathlib.Core.Path.{◌≡◌, refl}
use Rattle.base_places.specs.Lengths.{largest}
use Rattle.text_line.specs.Night.{of_program}
use Rattle.text_line.specs.Filled.{Cells, room_of}
use Rattle.text_read.specs.Carried.{Ends}
use Rattle.text_read.specs.declared.Reader.{Reader}
use Rattle.text_read.proofs.Going.{none_taken}
use Rattle.text_read.proofs.Whole.{fed_whole}
use Rattle.text_program.specs.Answered.{AnsweredRead}
use Rattle.sheet.specs.Once.{AnsweredOnce, ReadOnce}

-- the read failed
pub read_failed : (k : Reader) (portion line : List ℕ) (w : Cells) → k.number ≤ largest
    → ReadOnce k line w (record { reader = k; read = 0; more = false; well = false }) portion line w
read_failed k portion line w h = record { call = none_taken k line w h; on = refl }

-- the end was announced, and what was carried answered
pub ended_well : {k r : Reader} {line line' : List ℕ} {w w' : Cells} {o o' : List ℕ} {number : ℕ} → room_of w ≡ of_program → Ends k line w r line' w'
    → AnsweredRead r w' o o' number → AnsweredOnce k line w o o' number
ended_well {line' = line'} room d v = record { whole = λ input fed. v.whole input line' (rw room at (fed_whole input (rw (← room) at fed) d)) }
