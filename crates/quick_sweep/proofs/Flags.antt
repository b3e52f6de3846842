-- Flags stay right: a step leaves each contact as it was or without a flaw, and each body's velocity as it was or finite. Assumes nothing.
use Prim.Native.Nat.{ℕ, zero, suc, ◌≤◌}
use native.Mathlib.Nat.{le_of_suc-le-suc, not-suc-le-zero}
use native.Mathlib.Decide.{ℕ_discrete}
use borrow.Author.Tests.{eqb-true}
use mathlib.Core.Bool.{Bool, true, false, not}
use mathlib.Core.List.{List, [], ◌∷◌}
use mathlib.Core.Logic.{◌≢◌}
use mathlib.Core.Path.{◌≡◌, refl, sym, ap, ◌∙◌}
use lib.ListN.{length, replicate}
use Rattle.std.proofs.Common.{Option}
use Rattle.std.specs.Option.{is_some}
use Rattle.base_refusals.proofs.Told.{none_told}
use Rattle.base_refusals.specs.Numbers.{number_of}
use Rattle.base_refusals.specs.declared.Refusal.{Refusal}
use Rattle.base_words.proofs.Pick.{never}
use Rattle.list_rules.specs.Sweep.{Tables, step_on}
use Rattle.list_tables.specs.declared.Step.{Step}
use Rattle.list_cells.specs.declared.Answer.{Answer}
use Rattle.base_order.specs.OneByOne.{Stepped}
use Rattle.quick_step.specs.Trusted.{Looked, Trusted}
use Rattle.quick_sweep.proofs.Stays.{stays_trusted}
use Rattle.quick_sweep.specs.Flags.{Trusting, flagged, raised}

-- a flag that was put up leaves every other as it was
other_flag : (flags : List Bool) (k j : ℕ) → j ≢ k → raised (flagged flags k) j ≡ raised flags j
unfolding raised flagged
other_flag [] k j ne = refl
other_flag (f ∷ flags) zero zero ne = absurd (ne refl)
other_flag (f ∷ flags) zero (suc j) ne = refl
other_flag (f ∷ flags) (suc k) zero ne = refl
other_flag (f ∷ flags) (suc k) (suc j) ne = other_flag flags k j (λ e. ne (ap suc e))

-- a contact without a flag has none raised, and none is put
pub no_flag : (flags : List Bool) (k : ℕ) → length flags ≤ k → false ≡ raised flags k
unfolding raised
no_flag [] k past = refl
no_flag (f ∷ flags) zero past = absurd (not-suc-le-zero past)
no_flag (f ∷ flags) (suc k) past = no_flag flags k (le_of_suc-le-suc past)

pub none_put : (flags : List Bool) (k : ℕ) → length flags ≤ k → flags ≡ flagged flags k
unfolding flagged
none_put [] k past = refl
none_put (f ∷ flags) zero past = absurd (not-suc-le-zero past)
none_put (f ∷ flags) (suc k) past = ap (λ (l : List Bool). f ∷ l) (none_put flags k (le_of_suc-le-suc past))

module _ (flags : List Bool) (t : Tables) (s : Step) (right : Trusting flags t) where
  -- a flag that is up spares the look
  pub by_flag : {up : Bool} → up ≡ raised flags s.contact → up ≡ true → Looked s t 0
  unfolding Trusting
  by_flag e h = record { trusted = λ _. right s.contact (sym e ∙ h); only = λ _. refl; turned = λ none. absurd (none refl) }

  -- it is put up where the look found nothing
  pub put_right : {flags' : List Bool} (found : Option Refusal) {none : Bool} → Looked s t (number_of found) → is_some found ≡ not none → none ≡ true
      → flags' ≡ flagged flags s.contact → Trusting flags' t
  unfolding Trusting
  put_right found looked told none put k up = by_case (ℕ_discrete k s.contact)
    where
      by_case : Dec (k ≡ s.contact) → Trusted t k
      by_case (yes e) = rw e (looked.trusted (eqb-true (number_of found) 0 (sym (none_told found told) ∙ none)))
      by_case (no ne) = right k (sym (other_flag flags s.contact k ne) ∙ rw (← put) up)

-- a step leaves every flag right
pub stay_right : (flags : List Bool) (t : Tables) (s : Step) {a : Answer} {t' : Tables} → Trusting flags t → record { answer = a; after = t' } ≡ step_on s t → Trusting flags t'
unfolding Trusting
stay_right flags t s right done k up = rw (ap (λ (x : Stepped Answer Tables). x.after) done) (stays_trusted s t k (right k up))

-- at first no flag is up
pub none_up : (n : ℕ) (t : Tables) → Trusting (replicate n false) t
unfolding Trusting raised
none_up n t k up = never (sym up ∙ down n k)
  where
    down : (n k : ℕ) → raised (replicate n false) k ≡ false
    down zero k = refl
    down (suc n) zero = refl
    down (suc n) (suc k) = down n k
