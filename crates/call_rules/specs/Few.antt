-- How large what a call tells can be, of everything that it may leave. Proved in proofs/Demands.antt. Assumes nothing.
use Rattle.std.specs.Prelude.{ℕ, ◌*◌, ◌≤◌, ◌<◌, get_or}
use Rattle.base_places.specs.Places.{answer_width}
use Rattle.call_rules.specs.Call.{Ended, Lent}
use Rattle.call_rules.specs.Demands.{Demand2}

pub record FewTold (e : Ended) : Type 0 where
  -- an answer's numbers: one of ten that refuse, one of six branches, or 0
  pub answers : (j : ℕ) → j < e.done * answer_width → get_or e.room j 0 ≤ 10
  -- no more steps are refused than are done
  pub refused : e.refused ≤ e.done

-- of whatever meets the call's contract
abbrev pub TellsFew : Type 0
TellsFew = (lent : Lent) (budget : ℕ) (e : Ended) → Demand2 lent budget e → FewTold e
