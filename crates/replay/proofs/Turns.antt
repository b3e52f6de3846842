-- One reading, as what it hands on. Assumes nothing.
use Prim.Native.Nat.{ℕ}
use mathlib.Core.Bool.{false}
use mathlib.Core.List.{List}
use mathlib.Core.Path.{refl}
use Rattle.replay_judge.specs.Carried.{Buffers}
use Rattle.replay_judge.specs.declared.Judge.{Judge}
use Rattle.replay_judge.proofs.Fed.{nothing_read}
use Rattle.replay.specs.ReadOnce.{ReadOnce}

-- the read failed
pub read_failed : (j : Judge) (portion : List ℕ) (input : Buffers) (out told : List ℕ)
    → ReadOnce j input out told (record { judge = j; read = 0; count = 0; more = false; well = false }) portion input out told
read_failed j portion input out told = record { call = nothing_read j input out told; on = refl }
