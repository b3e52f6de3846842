-- The list, one step after the other: where it stands after i of n steps, and that the flags still say what they say. Assumes nothing.
use Prim.Native.Nat.{ℕ, ◌+◌, ◌≤◌, ◌<◌, min}
use native.Mathlib.Omega.{arith}
use native.Mathlib.Numerals.{add-one}
use mathlib.Core.Bool.{Bool}
use mathlib.Core.List.{List}
use mathlib.Core.Path.{◌≡◌, ◌∙◌, ap}
use lib.Ieee.{Float}
use mir.Syntax.{w64}
use mir.Val.{Fits}
use Rattle.base_places.specs.Places.{step_width}
use Rattle.base_words.specs.Choice.{if◌then◌otherwise◌}
use Rattle.base_rows.specs.Rows.{rows}
use Rattle.list_tables.specs.Tables.{step_at}
use Rattle.list_cells.specs.Cells.{put_answer}
use Rattle.list_cells.specs.declared.Answer.{Answer}
use Rattle.list_tables.specs.declared.Step.{Step}
use Rattle.base_order.proofs.Snoc.{answers_none, count_none, finish_none, one_at_most}
use Rattle.list_rules.specs.Sweep.{Swept, Tables, first_steps, is_refused, laid, step_on, sweep, swept, tables}
use Rattle.list_rules.proofs.Going.{few_refused, sweep_min, sweep_suc}
use Rattle.quick_sweep.specs.Flags.{Trusting}
use Rattle.quick_sweep.specs.Next.{StepDone}

-- after i steps
pub record SoFar (steps : List ℕ) (t₀ : Tables) (room₀ : List ℕ) (t : Tables) (room : List ℕ) (flags : List Bool) (i refused : ℕ) : Type 0 where
  pub so_far : swept t room refused ≡ sweep steps i t₀ room₀
  pub flags_right : Trusting flags t

-- a step read, done, and its answer laid
pub step_done : (steps : List ℕ) (i : ℕ) (t : Tables) (room : List ℕ) {s : Step} {a : Answer} {t' : Tables} {room' : List ℕ} → s ≡ step_at steps i
    → record { answer = a; after = t' } ≡ step_on s t → room' ≡ put_answer room i a → StepDone steps i t room a t' room'
step_done steps i t room es ea er = record { done = rw (← es) ea; told = er }

module _ (steps : List ℕ) (t₀ : Tables) (room₀ : List ℕ) where
  pub at_start : (flags₀ : List Bool) → Trusting flags₀ t₀ → SoFar steps t₀ room₀ t₀ room₀ flags₀ 0 0
  unfolding sweep first_steps laid
  at_start flags₀ right = record {
    so_far = rw (finish_none step_on t₀, answers_none step_on t₀, count_none is_refused);
    flags_right = right;
  }

  module _ (t : Tables) (room : List ℕ) (flags : List Bool) (i refused : ℕ) (going : SoFar steps t₀ room₀ t room flags i refused) where
    -- the flags are right, as each step asks
    pub still_right : Trusting flags t
    still_right = going.flags_right

    -- of the first n steps, or all that there are
    module _ (asked n : ℕ) (among : n ≡ min asked (rows step_width steps)) (h : i < n) (a : Answer) {r : ℕ} (counted : r ≡ (if is_refused a then 1 otherwise 0)) where
      -- one step more
      pub go_on : (t' : Tables) (room' : List ℕ) (flags' : List Bool) → StepDone steps i t room a t' room' → Trusting flags' t'
          → SoFar steps t₀ room₀ t' room' flags' (i + 1) (refused + r)
      go_on t' room' flags' turned right =
          let so = going.so_far in
          record {
            so_far = rw (add-one, sweep_suc steps t₀ room₀ i (omega (arith, among)), ← so, ← turned.done, turned.told, counted);
            flags_right = right;
          }

      -- the count fits where n does: no more were refused than were done
      pub count_fits : Fits w64 n → Fits w64 (refused + r)
      count_fits fits = omega (arith, few_refused steps t₀ room₀ i, ap (λ (w : Swept). w.refused) going.so_far, counted, one_at_most (is_refused a))

  -- at the end
  pub gone : (asked n i : ℕ) {t : Tables} {room : List ℕ} {flags : List Bool} {refused : ℕ} → n ≡ min asked (rows step_width steps)
      → i ≤ n → n ≤ i → SoFar steps t₀ room₀ t room flags i refused → swept t room refused ≡ sweep steps asked t₀ room₀
  gone asked n i among h l going =
      let e : i ≡ min asked (rows step_width steps) = omega (arith, among) in
      (rw e at going.so_far) ∙ sweep_min steps t₀ room₀ asked

  -- the same of stretches that were lent on: they hold what was left there
  pub gone_near : (asked n i : ℕ) {t : Tables} {room : List ℕ} {flags : List Bool} {refused : ℕ} → n ≡ min asked (rows step_width steps)
      → i ≤ n → n ≤ i → SoFar steps t₀ room₀ t room flags i refused → {b f : List Float} {numbers : List ℕ} → b ≡ t.bodies → t.numbers ≡ numbers → f ≡ t.floats
      → swept (tables b numbers f) room refused ≡ sweep steps asked t₀ room₀
  gone_near asked n i among h l going eb en ef = rw (eb, ← en, ef) (gone asked n i among h l going)
