-- The steps of the program on what it carries, for the functions of this crate. Assumes nothing.
use Rattle.std.specs.Prelude.{ℕ, false, List, Some}
use Rattle.base_words.specs.Choice.{if◌then◌otherwise◌}
use Rattle.base_places.specs.Lengths.{one_more}
use Rattle.text_line.specs.Filled.{Cells, cells}
use Rattle.text_read.specs.Carried.{fresh}
use Rattle.text_program.specs.Tables.{cells_of}
use Rattle.text_program.specs.declared.NightBuffers.{NightBuffers}
use Rattle.replay_compare.specs.Spots.{holds_only}
use Rattle.replay_compare.specs.declared.LineSoFar.{LineSoFar}
use Rattle.replay_compare.specs.declared.LineSoFar.TheVariants.{Empty}
use Rattle.replay_compare.specs.declared.Spot.{Spot}
use Rattle.replay_judge.specs.declared.Feeding.{Feeding}
use Rattle.replay_judge.specs.declared.Part.TheVariants.{Comparing, Differing, Input}
use Rattle.replay_judge.specs.declared.Judge.{Judge}

-- what is lent beside the output's buffer: the bytes of a line of a day's input that has not ended, and the tables
pub record Buffers : Type 0 where
  pub line : List ℕ
  pub tables : Cells

abbrev pub buffers : List ℕ → List ℕ → List ℕ → List ℕ → List ℕ → Buffers
buffers line bodies numbers floats steps = record { line = line; tables = cells bodies numbers floats steps }

abbrev pub buffers_of : NightBuffers → Buffers
buffers_of input = record { line = input.line; tables = cells_of input }

-- nothing has been read of a day's input
abbrev pub unfed : Feeding
unfed = record { reader = fresh; any = false }

-- the day after, with nothing read of it
abbrev pub next_day : ℕ → Judge
next_day day = record { day = one_more day; line = Empty; part = Input unfed }

-- the line of the output after one that was met
abbrev pub next_line : ℕ → Spot → ℕ → Judge
next_line day p start = record {
  day = day;
  line = Empty;
  part = Comparing (record { len = p.len; start = start; at = Some start; number = one_more p.number });
}

abbrev pub differing_after : ℕ → LineSoFar → Judge
differing_after day line = if holds_only line 90 then next_day day otherwise record { day = day; line = Empty; part = Differing }
