-- `text_write::end_line` meets its contract. The first fields are written; then byte 10. Assumes nothing.
use Rattle.text_write.proofs.Fields.{all_ended, none_yet, one_more}
use Rattle.text_write.proofs.end_line.Goals as goal

pub loop-x-init : goal.loop-x-init
loop-x-init c = search none_yet

pub loop-x-preserved : goal.loop-x-preserved
loop-x-preserved c = search one_more

pub returns : goal.returns
returns c = search all_ended
