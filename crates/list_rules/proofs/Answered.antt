-- A step on the tables that was answered 0 was done. Assumes nothing.
use Prim.Native.Nat.{ℕ}
use native.Mathlib.Omega.{arith}
use mathlib.Core.Bool.{Bool, true, false}
use mathlib.Core.Logic.{◌≢◌}
use mathlib.Core.Path.{◌≡◌, refl}
use lib.Dec.{ltb}
use Rattle.base_words.specs.Choice.{if◌then◌otherwise◌}
use Rattle.base_places.specs.Places.{body_width, floats_width}
use Rattle.base_rows.specs.Rows.{rows}
use Rattle.step_kinds.specs.declared.ContactSolved.{ContactSolved}
use Rattle.step_rules.specs.Step.{Done, Outcome, Refused, step}
use Rattle.step_promises.proofs.Promises.{refused_number}
use Rattle.list_tables.specs.declared.Step.{Step}
use Rattle.list_rules.specs.Sweep.{Tables, answered, if_there, its_contact, outcome, step_on, vels_at}

-- a refused step has a number
refused_there : (contacts : ℕ) (s : Step) (o : Outcome) (n : ℕ) → ((m : ℕ) → o ≡ Refused m → m ≢ 0) → if_there contacts s o ≡ Refused n → n ≢ 0
unfolding if_there
refused_there contacts s o n numbered = by_case (ltb s.contact contacts)
  where
    by_case : (b : Bool) → (if b then o otherwise Refused 2) ≡ Refused n → n ≢ 0
    by_case true e = numbered n e
    by_case false e = λ zero. let two : ◌≡◌ {A = ℕ} 2 n = cc in absurd (omega arith)

not_zero : (s : Step) (t : Tables) (n : ℕ) → outcome s t ≡ Refused n → n ≢ 0
unfolding outcome
not_zero s t n =
    let c = its_contact s t in
    let v = vels_at t.bodies c.head in
    let many = rows body_width t.bodies in
    refused_there (rows floats_width t.floats) s (step c s.kind v many) n (λ m. refused_number c s.kind v many m)

-- a step that was answered 0 was done
pub done_of : (s : Step) (t : Tables) → (step_on s t).answer.number ≡ 0 → (d : ContactSolved) × (outcome s t ≡ Done d)
unfolding step_on answered
done_of s t zero = by_case (outcome s t) refl
  where
    by_case : (o : Outcome) → outcome s t ≡ o → (d : ContactSolved) × (outcome s t ≡ Done d)
    by_case (Refused n) e = absurd (not_zero s t n e (rw e at zero))
    by_case (Done d) e = (d, e)
