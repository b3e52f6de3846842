-- Chains of harmless swaps, as lists that are lent. Assumes nothing.
use Prim.Native.Nat.{ℕ, suc}
use native.Mathlib.Nat.{suc_inj}
use native.Mathlib.Omega.{arith}
use mathlib.Core.List.{List, [], ◌∷◌}
use mathlib.Core.Path.{◌≡◌, refl, sym, ◌∙◌, ap, subst₂}
use lib.ListN.{length}
use Rattle.base_places.specs.Places.{step_width}
use Rattle.base_rows.specs.Rows.{rows}
use Rattle.list_tables.specs.Tables.{step_as}
use Rattle.list_tables.specs.declared.Step.{Step}
use Rattle.list_tables.proofs.Steps.{rows_more}
use Rattle.base_order.specs.Reordered.{Reordered}
use Rattle.base_order.proofs.Reorder.{same_length}
use Rattle.base_order.proofs.Swaps.{chains_covered, nothing_else}
use Rattle.list_rules.specs.Sweep.{first_steps}
use Rattle.list_rules.proofs.Going.{first_front, first_none}
use Rattle.list_sharing.specs.Sharing.{Shares}
use Rattle.call_rules.specs.Demands.{steps_of}
use Rattle.call_rules.specs.Swapped.{OnlySwapsCovered, SwapsCovered, laid_out}

-- what is laid out is read again
laid_read : (xs : List Step) → first_steps (laid_out xs) (rows step_width (laid_out xs)) ≡ xs
unfolding laid_out
laid_read [] = first_none []
laid_read (x ∷ xs) =
    ap (first_steps (x.contact ∷ x.kind ∷ laid_out xs)) (rows_more x.contact x.kind (laid_out xs))
    ∙ first_front x.contact x.kind (laid_out xs) (rows step_width (laid_out xs))
    ∙ ap (λ (ss : List Step). x ∷ ss) (laid_read xs)

-- two numbers a step, so lists that are as long are laid out as long
length-laid : (xs ys : List Step) → length ys ≡ length xs → length (laid_out ys) ≡ length (laid_out xs)
unfolding laid_out
length-laid [] [] e = refl
length-laid [] (y ∷ ys) e = absurd (omega arith)
length-laid (x ∷ xs) [] e = absurd (omega arith)
length-laid (x ∷ xs) (y ∷ ys) e = ap (λ (n : ℕ). suc (suc n)) (length-laid xs ys (suc_inj e))

pub swaps_covered : SwapsCovered
swaps_covered t room xs ys swaps =
    let m : Reordered (Shares t) (step_as 0 0) xs ys = chains_covered (Shares t) (step_as 0 0) xs ys swaps in
    let long : length (laid_out ys) ≡ length (laid_out xs) = length-laid xs ys (same_length xs ys m) in
    record {
      same_tables = refl;
      matching = subst₂ (Reordered (Shares t) (step_as 0 0)) (sym (laid_read xs)) (sym (laid_read ys)) m;
      steps_whole = rw long;
      room_whole = refl;
      room_enough = rw long;
    }

pub only_swaps_covered : OnlySwapsCovered
only_swaps_covered one two m = nothing_else (Shares one.tables) (step_as 0 0) (steps_of one) (steps_of two) m.matching
