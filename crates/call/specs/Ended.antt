-- What a call leaves, by its result. Assumes nothing.
use Rattle.std.specs.Prelude.{ℕ, List, Result, Ok, Err}
use Rattle.base_refusals.specs.Numbers.{refusal_number}
use Rattle.base_refusals.specs.declared.Refusal.{Refusal}
use Rattle.list_rules.specs.Sweep.{Tables}
use Rattle.call_rules.specs.Call.{Ended, end}
use Rattle.call.specs.declared.Done.{Done}

-- a refused call has done no step
abbrev pub ended : Result Done Refusal → Tables → List ℕ → Ended
ended (Ok d) t room = end 0 d.done d.refused t room
ended (Err refusal) t room = end (refusal_number refusal) 0 0 t room
