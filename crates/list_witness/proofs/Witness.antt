-- The statement of specs/Witness.antt, from what its steps come to. Assumes nothing.
use native.Mathlib.Omega.{arith}
use mathlib.Core.List.{[], ◌∷◌}
use mathlib.Core.Logic.{◌≢◌, inl}
use mathlib.Core.Path.{◌≡◌, refl, sym, ◌∙◌, ap}
use borrow.Author.Tests.{eqb-false}
use lib.Dec.{lit<}
use lib.Ieee.{Float, binary32, of_bits, to_bits}
use lib.ListN.{get_or}
use Rattle.elem_leaves.specs.Floats.{half, one, zero}
use Rattle.base_rows.specs.Rows.{part, read_row}
use Rattle.list_tables.specs.Tables.{contact_at, contact_of, head_of}
use Rattle.list_tables.specs.declared.Step.{Step}
use Rattle.list_rules.specs.Sweep.{Tables, its_contact}
use Rattle.list_sharing.specs.Sharing.{Names, Shares, There, a_body}
use Rattle.list_sharing.proofs.Reordering.{lists_reordered}
use Rattle.list_witness.proofs.WorkedOut.{worked_out}
use Rattle.list_witness.specs.Witness.{OrderMatters, falling, foot, heel, minus_half, toe}

-- how the foot turns is not the same
bits_differ : to_bits binary32 minus_half ≡ to_bits binary32 zero → ⊥
unfolding of_bits to_bits
bits_differ e = omega arith

turns : Tables → Float
turns t = get_or t.bodies 2 zero

differ : foot zero minus_half half half ≢ foot zero zero zero one
unfolding turns
differ e = bits_differ (ap (λ (t : Tables). to_bits binary32 (turns t)) e)

-- both contacts are there, and body 0 is the first of each
names_0 : (s : Step) → There falling s.contact → (its_contact s falling).head.body1 ≡ 0 → Names falling s 0
names_0 s h e = record { there = h; side = inl (sym e) }

share : Shares falling heel toe
unfolding its_contact contact_at read_row contact_of head_of part
share = a_body 0 (lit< tt) (eqb-false 0 65535 refl) (names_0 heel (lit< tt, lit< tt) refl) (names_0 toe (lit< tt, lit< tt) refl)

pub order_matters : OrderMatters
order_matters = record {
  shared = share;
  heel_first = worked_out.0;
  toe_first = worked_out.1;
  not_the_same = differ;
  no_matching = λ m.
      differ (sym worked_out.0
      ∙ sym (lists_reordered (heel ∷ toe ∷ []) (toe ∷ heel ∷ []) falling m).same_end
      ∙ worked_out.1);
}
