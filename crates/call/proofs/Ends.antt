-- How a call ends, by whether it is refused. Assumes nothing.
use Prim.Native.Nat.{ℕ, min}
use mathlib.Core.List.{List}
use mathlib.Core.Path.{◌≡◌, sym, ◌∙◌, ap}
use lib.Dec.{eqb}
use lib.Ieee.{Float}
use Rattle.base_places.specs.Places.{step_width}
use Rattle.base_words.proofs.Pick.{take, pass}
use Rattle.base_refusals.proofs.Told.{not_success}
use Rattle.base_refusals.specs.Numbers.{refusal_number}
use Rattle.base_refusals.specs.Refusals.{first}
use Rattle.base_refusals.specs.declared.Refusal.{Refusal}
use Rattle.base_rows.specs.Rows.{rows}
use Rattle.list_rules.specs.Sweep.{Tables, sweep, swept, tables}
use Rattle.list_checks.specs.Checks.{whole_call}
use Rattle.call_rules.specs.Call.{all_done, end, lend, nothing_done, one_by_one}

module _ (t : Tables) (steps room : List ℕ) (budget : ℕ) where
  pub call_refused : (r : Refusal) → refusal_number r ≡ first (whole_call t steps room) → end (refusal_number r) 0 0 t room ≡ one_by_one (lend t steps room) budget
  unfolding one_by_one nothing_done
  call_refused r checked = pass _ (ap (λ (n : ℕ). eqb n 0) (sym checked) ∙ not_success r) (ap (λ (n : ℕ). nothing_done n (lend t steps room)) checked)

  pub call_done : (t' : Tables) (room' : List ℕ) (done refused : ℕ) → 0 ≡ first (whole_call t steps room) → done ≡ min budget (rows step_width steps)
      → swept t' room' refused ≡ sweep steps done t room → {b f : List Float} {n : List ℕ} → b ≡ t'.bodies → t'.numbers ≡ n → f ≡ t'.floats
      → end 0 done refused (tables b n f) room' ≡ one_by_one (lend t steps room) budget
  unfolding one_by_one all_done
  call_done t' room' done refused checked d w eb en ef = take _ (ap (λ (n : ℕ). eqb n 0) (sym checked)) (rw (← d, ← w, eb, ← en, ef))
