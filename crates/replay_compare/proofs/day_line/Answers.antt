-- `replay_compare::day_line` meets its contract. The first fields are written after the day's number. Assumes nothing.
use Rattle.text_digits.specs.Digits.{dec_field}
use Rattle.text_digits.proofs.Then.{ready}
use Rattle.text_write.proofs.Fields.{none_yet, one_more}
use Rattle.replay_compare.proofs.Cases.{day_written}
use Rattle.replay_compare.proofs.day_line.Goals as goal

pub loop-x-init : goal.loop-x-init
loop-x-init c = none_yet dec_field c.args.fields.now (ready c.dec_number.ensures)

pub loop-x-preserved : goal.loop-x-preserved
loop-x-preserved c = search one_more

pub returns : goal.returns
returns c = search day_written
