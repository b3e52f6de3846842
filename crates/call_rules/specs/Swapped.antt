-- Which lists `Demand3` speaks of: those that chains of harmless swaps make of each other, and no others. Each statement is proved in
-- proofs/Swapped.antt. Assumes nothing.
use Rattle.std.specs.Prelude.{ℕ, List, [], ◌∷◌}
use Rattle.list_tables.specs.declared.Step.{Step}
use Rattle.base_order.specs.Swaps.{Swaps}
use Rattle.list_rules.specs.Sweep.{Tables}
use Rattle.list_sharing.specs.Sharing.{Shares}
use Rattle.call_rules.specs.Call.{Lent, lend}
use Rattle.call_rules.specs.Demands.{Rearranged, steps_of}

-- a list of steps as it is lent: 2 numbers a step
unfoldable pub laid_out : List Step → List ℕ
laid_out [] = []
laid_out (s ∷ ss) = s.contact ∷ s.kind ∷ laid_out ss

-- lists that swaps of two neighbours that share nothing make of each other, lent with the same tables and room
abbrev pub SwapsCovered : Type 0
SwapsCovered =
    (t : Tables) (room : List ℕ) (xs ys : List Step) → Swaps (Shares t) xs ys → Rearranged (lend t (laid_out xs) room) (lend t (laid_out ys) room)

abbrev pub OnlySwapsCovered : Type 0
OnlySwapsCovered = (one two : Lent) → Rearranged one two → Swaps (Shares one.tables) (steps_of one) (steps_of two)
