-- The statements of specs/TwoFeet.antt: the body numbers are computed. Assumes nothing.
use Prim.Native.Nat.{ℕ}
use native.Mathlib.Omega.{arith}
use mathlib.Core.List.{[], ◌∷◌}
use mathlib.Core.Logic.{◌≢◌, ◌⊎◌, inl, inr}
use mathlib.Core.Path.{◌≡◌, refl}
use borrow.Author.Tests.{eqb-false}
use Rattle.base_rows.specs.Rows.{part, read_row}
use Rattle.list_tables.specs.Tables.{contact_at, contact_of, head_of, step_as}
use Rattle.list_tables.specs.declared.Step.{Step}
use Rattle.base_order.specs.Swaps.{none, swap}
use Rattle.base_order.proofs.Swaps.{chains_covered}
use Rattle.list_rules.specs.Sweep.{its_contact}
use Rattle.list_sharing.specs.Sharing.{Names, Shares}
use Rattle.list_sharing.proofs.Unshared.{floor_unshared}
use Rattle.list_witness.specs.Witness.{heel, toe}
use Rattle.list_witness.specs.TwoFeet.{FloorHarmless, other_heel, two_feet}

-- which bodies a step's contact joins
joins : (s : Step) (n : ℕ) → (its_contact s two_feet).head.body1 ≡ n → (its_contact s two_feet).head.body2 ≡ 65535
    → (b : ℕ) → Names two_feet s b → (b ≡ n) ⊎ (b ≡ 65535)
joins s n p q b names = rw (p, q) at names.side

-- a step on foot 0 and one on foot 1
apart : (s : Step) → s.contact ≢ 2 → (its_contact s two_feet).head.body1 ≡ 0 → (its_contact s two_feet).head.body2 ≡ 65535
    → ¬ Shares two_feet s other_heel
unfolding its_contact contact_at read_row contact_of head_of part
apart s ne p q = floor_unshared two_feet s other_heel ne (λ b n m. only_floor b (joins s 0 p q b n) (joins other_heel 1 refl refl b m))
  where
    only_floor : (b : ℕ) {P : Type 0} → (b ≡ 0) ⊎ (b ≡ 65535) → (b ≡ 1) ⊎ (b ≡ 65535) → (b ≡ 65535) ⊎ P
    only_floor b (inr e) _ = inl e
    only_floor b (inl e) (inr f) = inl f
    only_floor b (inl e) (inl f) = absurd (omega arith)

heels_apart : ¬ Shares two_feet heel other_heel
unfolding its_contact contact_at read_row contact_of head_of part
heels_apart = apart heel (eqb-false 0 2 refl) refl refl

toe_apart : ¬ Shares two_feet toe other_heel
unfolding its_contact contact_at read_row contact_of head_of part
toe_apart = apart toe (eqb-false 1 2 refl) refl refl

pub floor_harmless : FloorHarmless
floor_harmless = record {
  heels = heels_apart;
  toe_and_heel = toe_apart;
  a_to_b = chains_covered (Shares two_feet) (step_as 0 0) (heel ∷ toe ∷ other_heel ∷ []) (other_heel ∷ heel ∷ toe ∷ [])
      (swap (heel ∷ []) toe other_heel [] toe_apart (swap [] heel other_heel (toe ∷ []) heels_apart none));
}
