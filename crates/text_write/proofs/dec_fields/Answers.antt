-- `text_write::dec_fields` meets its contract. The first fields are written. Assumes nothing.
use Rattle.text_write.proofs.Fields.{none_yet, one_more}
use Rattle.text_write.proofs.dec_fields.Goals as goal

pub loop-x-init : goal.loop-x-init
loop-x-init c = search none_yet

pub loop-x-preserved : goal.loop-x-preserved
loop-x-preserved c = search one_more
