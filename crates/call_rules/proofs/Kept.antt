-- What every step keeps, a call keeps. Q is what is kept. Assumes nothing.
use Prim.Native.Nat.{ℕ, zero, suc, ◌≤◌}
use native.Mathlib.Decide.{ℕ_discrete}
use native.Mathlib.Omega.{arith}
use mathlib.Core.Path.{◌≡◌, sym, ap, ◌∙◌, subst}
use Rattle.base_places.specs.Places.{step_width}
use Rattle.base_rows.specs.Rows.{rows}
use Rattle.list_tables.specs.Tables.{step_at}
use Rattle.list_tables.specs.declared.Step.{Step}
use Rattle.list_rules.specs.Sweep.{Tables, step_on}
use Rattle.call_rules.specs.Call.{Ended, Lent, nothing_done}
use Rattle.call_rules.specs.Demands.{Demand1, Demand2, before}
use Rattle.call_rules.proofs.Before.{before_more, before_none}
use Rattle.call_rules.proofs.Demands.{demand1}

-- a call leaves the tables as they are after so many steps of its list; none, where it was refused
record LeftAfter (lent : Lent) (e : Ended) : Type 0 where
  many : ℕ
  in_steps : many ≤ rows step_width lent.steps
  all_done_lem : e.done ≤ many
  tables_are : e.tables ≡ before lent many

left_after : (lent : Lent) (budget : ℕ) (e : Ended) → Demand2 lent budget e → LeftAfter lent e
unfolding nothing_done
left_after lent budget e so = by_case (demand1 lent budget e so) (ℕ_discrete e.refusal 0)
  where
    by_case : Demand1 lent budget e → Dec (e.refusal ≡ 0) → LeftAfter lent e
    by_case demands (yes z) =
        let on = demands.goes_on z in
        record { many = e.done; in_steps = omega (arith, on.0); all_done_lem = omega arith; tables_are = on.1 }
    by_case demands (no nz) =
        let is = demands.refused_call nz in
        record {
          many = 0;
          in_steps = omega arith;
          all_done_lem = omega (arith, ap (λ (x : Ended). x.done) is);
          tables_are = ap (λ (x : Ended). x.tables) is ∙ sym (before_none lent);
        }

module _ (Q : Tables → Type 0) (step_Keeps : (s : Step) (t : Tables) → Q t → Q (step_on s t).after) (lent : Lent) where
  -- from the tables before step i to those before step n
  pub kept_from : (i n : ℕ) → i ≤ n → n ≤ rows step_width lent.steps → Q (before lent i) → Q (before lent n)
  kept_from i zero low h q = let same : i ≡ 0 = omega arith in rw (← same) q
  kept_from i (suc n) low h q = by_case (λ less. kept_from i n less (omega arith) q) (ℕ_discrete i (suc n))
    where
      by_case : (i ≤ n → Q (before lent n)) → Dec (i ≡ suc n) → Q (before lent (suc n))
      by_case sooner (yes same) = rw (← same) q
      by_case sooner (no less) = rw (before_more lent n (omega arith)) (step_Keeps (step_at lent.steps n) (before lent n) (sooner (omega arith)))

  pub kept_before : (n : ℕ) → n ≤ rows step_width lent.steps → Q lent.tables → Q (before lent n)
  kept_before n h q = kept_from 0 n (omega arith) h (subst Q (sym (before_none lent)) q)

  -- to those that the call leaves
  module _ (budget : ℕ) (e : Ended) (so : Demand2 lent budget e) where
    pub kept_since : (i : ℕ) → i ≤ e.done → Q (before lent i) → Q e.tables
    kept_since i low q =
        let left = left_after lent budget e so in
        rw left.tables_are (kept_from i left.many (omega (arith, left.all_done_lem)) left.in_steps q)

    pub call_keeps : Q lent.tables → Q e.tables
    call_keeps q = kept_since 0 (omega arith) (subst Q (sym (before_none lent)) q)
