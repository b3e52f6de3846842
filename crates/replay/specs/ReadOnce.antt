-- What one reading hands on, for `replay_some`. What was read is said by the buffer that `read` left and how many of its bytes are
-- counted; what is to be written, by the buffer of what is told and the count that is handed on. That these bytes were taken from what
-- stood to be read, and written, is said beside it, in the function's other clauses and in `write_told`. Assumes nothing.
use Rattle.std.specs.Prelude.{ℕ, Bool, true, false, ◌&&◌, List, ◌≡◌, Result, Ok, Err, ltb, take}
use Rattle.replay_judge.specs.Carried.{Buffers}
use Rattle.replay_judge.specs.Stands.{Read}
use Rattle.replay_judge.specs.declared.Judge.{Judge}
use Rattle.replay.specs.declared.Reading.{Reading}

-- after a call: what is carried on, how many bytes were read and how many are told, whether there may be more to read, and whether all went
-- well
pub record Onward : Type 0 where
  pub judge : Judge
  pub read : ℕ
  pub count : ℕ
  pub more : Bool
  pub well : Bool

-- a call that failed read no byte
abbrev pub onward : {E : Type 0} → Judge → Result Reading E → Onward
onward j (Ok r) = record { judge = r.judge; read = r.read; count = r.count; more = r.more; well = true }
onward j (Err e) = record { judge = j; read = 0; count = 0; more = false; well = false }

-- the bytes that were read were judged, and all that they tell was handed to be written; there may be more to read exactly where all went well and
-- something was read
pub record ReadOnce (j : Judge) (input : Buffers) (out told : List ℕ) (r : Onward) (portion' : List ℕ) (input' : Buffers) (out' told' : List ℕ) : Type 0 where
  pub call : Read j input out told (take r.read portion') (record { judge = r.judge; at = r.count }) input' out' told'
  pub on : r.more ≡ r.well && ltb 0 r.read
