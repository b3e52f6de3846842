-- `text_fields::run_end` meets its contract. A block that lacks the byte is passed over. Assumes nothing.
use Rattle.text_fields.proofs.Blocks.{over_block}
use Rattle.text_fields.proofs.run_end.Goals as goal

pub loop-block-preserved : goal.loop-block-preserved
loop-block-preserved c = search (over_block, c.in-Some.ensures)
