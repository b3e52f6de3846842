-- That feet share nothing by standing on the same floor: the lists A and B of the README, as statements. Proved in proofs/TwoFeet.antt.
-- Assumes nothing.
use Rattle.std.specs.Prelude.{[], ◌∷◌, ◌++◌}
use Rattle.elem_leaves.specs.Floats.{half, one, zero}
use Rattle.list_tables.specs.Tables.{step_as}
use Rattle.list_tables.specs.declared.Step.{Step}
use Rattle.base_order.specs.Reordered.{Reordered}
use Rattle.list_rules.specs.Sweep.{Tables, tables}
use Rattle.list_sharing.specs.Sharing.{Shares}
use Rattle.list_witness.specs.Witness.{heel, minus_one, pushing_up, toe}

-- two falling feet: heel and toe of foot 0 (contacts 0 and 1), the heel of foot 1 (contact 2)
abbrev pub two_feet : Tables
two_feet =
    tables (zero ∷ minus_one ∷ zero ∷ zero ∷ minus_one ∷ zero ∷ []) (0 ∷ 65535 ∷ 1 ∷ 0 ∷ 65535 ∷ 1 ∷ 1 ∷ 65535 ∷ 1 ∷ [])
    (pushing_up minus_one half zero ++ pushing_up zero one zero ++ pushing_up minus_one half zero)

abbrev pub other_heel : Step
other_heel = step_as 2 1

pub record FloorHarmless : Type 0 where
  -- the steps of the two feet have the floor in common, and share nothing
  pub heels : ¬ Shares two_feet heel other_heel
  pub toe_and_heel : ¬ Shares two_feet toe other_heel
  -- so the list B, foot 1 first, is a reordering of the list A
  pub a_to_b : Reordered (Shares two_feet) (step_as 0 0) (heel ∷ toe ∷ other_heel ∷ []) (other_heel ∷ heel ∷ toe ∷ [])
