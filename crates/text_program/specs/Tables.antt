-- The program's tables, as the cells that a reader fills. Assumes nothing.
use Rattle.std.specs.Prelude.{◌*◌, ◌≡◌, replicate}
use Rattle.base_places.specs.Places.{body_width, floats_width, numbers_width, step_width}
use Rattle.base_places.specs.Lengths.{program_bodies, program_contacts, program_steps}
use Rattle.text_line.specs.Filled.{Cells, cells}
use Rattle.text_program.specs.declared.NightBuffers.{NightBuffers}

abbrev pub cells_of : NightBuffers → Cells
cells_of b = cells b.bodies b.numbers b.floats b.steps

-- document 01: "the program's tables start with every row zero"
pub record RowsZero (w : Cells) : Type 0 where
  pub bodies : w.bodies ≡ replicate (program_bodies * body_width) 0
  pub numbers : w.numbers ≡ replicate (program_contacts * numbers_width) 0
  pub floats : w.floats ≡ replicate (program_contacts * floats_width) 0
  pub steps : w.steps ≡ replicate (program_steps * step_width) 0

-- what is answered is made in the tables of bodies and of contacts' floats; all else is as it was
pub record KeptNumbers (b b' : NightBuffers) : Type 0 where
  pub line : b'.line ≡ b.line
  pub numbers : b'.numbers ≡ b.numbers
  pub steps : b'.steps ≡ b.steps
