-- A number past the table of kinds is none: it does nothing. Assumes nothing.
use Prim.Native.Nat.{ℕ, ◌≤◌}
use mathlib.Core.Path.{◌≡◌, sym, ap}
use Rattle.std.specs.Prelude.{None}
use lib.ListN.{length, get_or-eq_default}
use Rattle.elem_velocity.specs.declared.Vels.{Vels}
use Rattle.step_contact.specs.declared.Contact.{Contact}
use Rattle.step_kinds.specs.Table.{Kind, kind_of, kinds, no_kind, routine}

module _ (k : ℕ) (past : length kinds ≤ k) where
  no_kind_lem : no_kind ≡ kind_of k
  unfolding kind_of
  no_kind_lem = sym (get_or-eq_default kinds no_kind past)

  pub does_nothing : (c : Contact) (v : Vels) → record { branch = None; contact = c; vels = v } ≡ routine k c v
  unfolding routine no_kind
  does_nothing c v = ap (λ (x : Kind). x.does c v) no_kind_lem
