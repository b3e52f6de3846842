use Rattle.text_line.proofs.Stored.{sixteen}
use Rattle.text_line.proofs.narrowed.Goals as goal

pub overflow_cast-narrow : goal.overflow_cast-narrow
overflow_cast-narrow c = record { fits = search sixteen }
