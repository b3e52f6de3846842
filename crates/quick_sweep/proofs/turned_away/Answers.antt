-- `quick_sweep::turned_away` meets its contract. By the flag, or by the look. Assumes nothing.
use Rattle.quick_sweep.proofs.Flags.{by_flag, put_right}
use Rattle.quick_sweep.proofs.turned_away.Goals as goal

pub returns-then-raised-clause-looked : goal.returns-then-raised-clause-looked
returns-then-raised-clause-looked c = by_flag _ _ _ c.requires c.raised.ensures c.if-raised.true

pub returns-then-is_none-clause-trusting : goal.returns-then-is_none-clause-trusting
returns-then-is_none-clause-trusting c = put_right _ _ _ c.requires _ c.look-found.ensures c.is_none.ensures c.if-is_none.true c.raise.ensures
