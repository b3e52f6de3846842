use Rattle.text_line.proofs.Stored.{copied}
use Rattle.text_line.proofs.append.Goals as goal

pub returns : goal.returns
returns g c = copied c.args.at c.copy_from_slice.ensures.after c.requires
