-- The statement of specs/Pushing.antt: what every step keeps, a call keeps. Assumes nothing.
use Prim.Native.Nat.{ℕ, suc, ◌<◌}
use native.Mathlib.Omega.{arith}
use mathlib.Core.Logic.{inl}
use mathlib.Core.Path.{◌≡◌, refl, sym, ◌∙◌}
use Rattle.base_places.specs.Places.{step_width}
use Rattle.base_rows.specs.Rows.{rows}
use Rattle.elem_leaves.specs.Signs.{AtLeast0, NotBelow0}
use Rattle.elem_leaves.proofs.Signs.{not_below}
use Rattle.elem_impulse.specs.Pushing.{Pushes}
use Rattle.elem_impulse.proofs.Pushing.{carried, pushed_on}
use Rattle.step_contact.specs.Places.{Place, number}
use Rattle.step_contact.specs.declared.ContactHead.{ContactHead}
use Rattle.list_tables.specs.Tables.{contact_at, step_at}
use Rattle.list_tables.specs.declared.Step.{Step}
use Rattle.list_rules.specs.Sweep.{Tables, its_contact}
use Rattle.list_rules.proofs.Done.{its_contact_lem}
use Rattle.list_pushing.specs.Pushing.{AllLoads, load_at}
use Rattle.list_pushing.proofs.Pushing.{loads_after, step_changed, step_stays}
use Rattle.call_rules.specs.Call.{Ended, Lent}
use Rattle.call_rules.specs.Demands.{Demand2, before, number_of}
use Rattle.call_rules.specs.Pushing.{CallsPush}
use Rattle.call_rules.proofs.Before.{before_more}
use Rattle.call_rules.proofs.Demands.{in_list, number_is}
use Rattle.call_rules.proofs.Kept.{call_keeps, kept_before, kept_since}

module _ (lent : Lent) (budget : ℕ) (e : Ended) (so : Demand2 lent budget e) where
  each_load : (k : ℕ) (x : Place) → Pushes (load_at k x lent.tables) (load_at k x e.tables)
  each_load k x =
      call_keeps (λ (t : Tables). Pushes (load_at k x lent.tables) (load_at k x t)) (λ s t so_far. pushed_on so_far ((step_changed s t k).loads x))
      lent budget e so (inl refl)

  -- step i, which was answered 0, and its contact as it was lent
  module _ (i : ℕ) (among : i < e.done) (done : number_of i e ≡ 0) (x : Place) where
    abbrev s : Step
    s = step_at lent.steps i

    abbrev head_at : Tables → ContactHead
    head_at t = (contact_at t.numbers t.floats s.contact).head

    there : i < rows step_width lent.steps
    there = in_list lent budget e so i among

    same_head : head_at (before lent i) ≡ head_at lent.tables
    same_head =
        kept_before (λ (t : Tables). head_at t ≡ head_at lent.tables) (λ s' t so_far. (step_changed s' t s.contact).head ∙ so_far) lent i (omega (arith, there)) refl

    where_done : number x < (head_at lent.tables).count → AtLeast0 (load_at s.contact x e.tables)
    where_done below =
        let in_use : number x < (its_contact s (before lent i)).head.count = rw (its_contact_lem s (before lent i), same_head) below in
        kept_since (λ (t : Tables). AtLeast0 (load_at s.contact x t)) (λ s' t. carried AtLeast0 (λ n h. h) ((step_changed s' t s.contact).loads x))
        lent budget e so (suc i) (omega arith)
        (rw (before_more lent i there) (loads_after s (before lent i) (sym (number_is lent budget e so i among) ∙ done) x in_use))

pub calls_push : CallsPush
calls_push lent budget e so = record {
  not_below = call_keeps (AllLoads NotBelow0) (step_stays NotBelow0 not_below) lent budget e so;
  at_least = call_keeps (AllLoads AtLeast0) (step_stays AtLeast0 (λ x h. h)) lent budget e so;
  each_load = each_load lent budget e so;
  where_done = where_done lent budget e so;
}
