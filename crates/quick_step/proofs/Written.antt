-- What was worked out of a contact: written, all of it, or turned away by 10. Assumes nothing.
use Prim.Native.Nat.{ℕ}
use mathlib.Core.Bool.{Bool, true, false}
use mathlib.Core.List.{List, []}
use mathlib.Core.Path.{◌≡◌, refl, ap, ◌∙◌}
use lib.Ieee.{Float}
use Rattle.elem_impulse.specs.Block.{branch_word}
use Rattle.step_kinds.specs.declared.ContactSolved.{ContactSolved}
use Rattle.step_rules.proofs.Chain.{hit, miss}
use Rattle.step_rules.specs.Step.{Outcome, first_or}
use Rattle.step_values.specs.Values.{not_finite_vels}
use Rattle.list_cells.specs.Cells.{put_impulses, put_vel}
use Rattle.list_cells.specs.declared.Answer.{Answer}
use Rattle.list_rules.specs.Sweep.{answered, new_bodies, new_floats}
use Rattle.list_tables.specs.Tables.{step_as}
use Rattle.quick_step.specs.Trusted.{Left, tested}

module _ (s : ContactSolved) (k kind : ℕ) (bodies floats : List Float) {lost : Bool} (told : lost ≡ not_finite_vels s.vels) where
  pub not_kept : {a : Answer} → lost ≡ true → a ≡ record { number = 10; branch = 0 } → Left s k kind bodies floats a bodies floats
  unfolding tested answered new_bodies new_floats
  not_kept h is =
      let refused = hit 10 [] s told h in
      record {
        answer = is ∙ ap answered refused;
        moved = ap (λ (o : Outcome). new_bodies s.contact.head o bodies) refused;
        stored = ap (λ (o : Outcome). new_floats (step_as k kind) o floats) refused;
      }

  pub all_kept : {word : ℕ} {one b l : List Float} → lost ≡ false → one ≡ put_vel bodies s.contact.head.body1 s.vels.v1
      → b ≡ put_vel one s.contact.head.body2 s.vels.v2 → l ≡ put_impulses floats k kind s.contact
      → word ≡ branch_word s.branch → Left s k kind bodies floats (record { number = 0; branch = word }) b l
  unfolding tested first_or answered new_bodies new_floats
  all_kept h e1 e2 el told_branch =
      let done = miss 10 [] s told h refl in
      record {
        answer = ap (λ (n : ℕ). record { number = 0; branch = n }) told_branch ∙ ap answered done;
        moved = e2 ∙ ap (λ (l : List Float). put_vel l s.contact.head.body2 s.vels.v2) e1 ∙ ap (λ (o : Outcome). new_bodies s.contact.head o bodies) done;
        stored = el ∙ ap (λ (o : Outcome). new_floats (step_as k kind) o floats) done;
      }
