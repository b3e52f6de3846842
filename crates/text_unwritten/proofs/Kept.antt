-- A call leaves a body's row as it was lent, if no done step's contact names the body. Assumes nothing.
use Prim.Native.Nat.{ℕ, zero, suc, ◌≤◌, ◌<◌}
use native.Mathlib.Decide.{ℕ_discrete}
use native.Mathlib.Nat.{le_refl}
use native.Mathlib.Omega.{arith}
use mathlib.Core.Bool.{Bool, true, false}
use mathlib.Core.Path.{◌≡◌, refl, ◌∙◌, ap}
use Rattle.base_places.specs.Places.{body_width}
use Rattle.base_rows.specs.Rows.{row}
use Rattle.list_tables.specs.Tables.{step_at}
use Rattle.list_tables.specs.declared.Step.{Step}
use Rattle.list_rules.specs.Sweep.{Tables, step_on}
use Rattle.list_sharing.specs.Own.{Shape, body, shape, touches}
use Rattle.list_sharing.specs.Sharing.{Names}
use Rattle.list_sharing.proofs.Locality.{frame, same_shape}
use Rattle.list_sharing.proofs.Own.{body_own}
use Rattle.call_rules.specs.Call.{Ended, Lent, nothing_done}
use Rattle.call_rules.specs.Demands.{Demand1, Demand2, before, number_of}
use Rattle.call_rules.proofs.Before.{before_more, before_none}
use Rattle.call_rules.proofs.Demands.{demand1, in_list}

-- a step that does not name body i, by the tables as lent, leaves its row, on all tables of their shape
step_keeps : (s : Step) (i : ℕ) (lent now : Tables) → shape now ≡ shape lent → (Names lent s i → ⊥)
    → row body_width i (step_on s now).after.bodies ≡ row body_width i now.bodies
step_keeps s i lent now same other =
    frame s now (body i) (ap (λ (sh : Shape). touches sh s (body i)) same ∙ by_case (touches (shape lent) s (body i)) refl)
  where
    by_case : (b : Bool) → touches (shape lent) s (body i) ≡ b → touches (shape lent) s (body i) ≡ false
    by_case true own = absurd (other (body_own lent s i own).0)
    by_case false own = own

module _ (lent : Lent) (budget : ℕ) (e : Ended) (so : Demand2 lent budget e) (i : ℕ)
    (unwritten : (j : ℕ) → j < e.done → number_of j e ≡ 0 → Names lent.tables (step_at lent.steps j) i → ⊥) where
  -- so far the tables have the shape that they had as lent, and body i its row
  record Stays (now : Tables) : Type 0 where
    same : shape now ≡ shape lent.tables
    there : row body_width i now.bodies ≡ row body_width i lent.tables.bodies

  demands : Demand1 lent budget e
  demands = demand1 lent budget e so

  -- step n was done, or it was refused
  one_more : (n : ℕ) → n < e.done → Stays (before lent n) → Dec (number_of n e ≡ 0) → Stays (before lent (suc n))
  one_more n h stays (yes done) =
      rw (before_more lent n (in_list lent budget e so n h)) (record {
        same = same_shape (step_at lent.steps n) (before lent n) ∙ stays.same;
        there = step_keeps (step_at lent.steps n) i lent.tables (before lent n) stays.same (unwritten n h done) ∙ stays.there;
      })
  one_more n h stays (no refused) = rw (demands.refused_step n h refused) stays

  so_far : (n : ℕ) → n ≤ e.done → Stays (before lent n)
  so_far zero h = rw (before_none lent) (record { same = refl; there = refl })
  so_far (suc n) h = one_more n h (so_far n (omega arith)) (ℕ_discrete (number_of n e) 0)

  pub body_kept : row body_width i e.tables.bodies ≡ row body_width i lent.tables.bodies
  unfolding nothing_done
  body_kept = by_case (ℕ_discrete e.refusal 0)
    where
      by_case : Dec (e.refusal ≡ 0) → row body_width i e.tables.bodies ≡ row body_width i lent.tables.bodies
      by_case (yes z) = ap (λ (t : Tables). row body_width i t.bodies) (demands.goes_on z).1 ∙ (so_far e.done (le_refl e.done)).there
      by_case (no nz) = ap (λ (x : Ended). row body_width i x.tables.bodies) (demands.refused_call nz)
