-- A body's velocity: the floor's, that of a row, and where there is no row. Assumes nothing.
use Prim.Native.Nat.{ℕ, ◌+◌, ◌*◌, ◌-◌, ◌≤◌, ◌<◌}
use mathlib.Core.List.{List}
use mathlib.Core.Path.{◌≡◌}
use lib.Ieee.{Float}
use lib.ListN.{drop, take}
use borrow.Author.Tests.{eq-eqb, ne_eqb}
use Rattle.base_places.specs.Places.{body_width}
use Rattle.base_words.proofs.Pick as pick
use Rattle.elem_velocity.specs.Velocity.{rest}
use Rattle.elem_velocity.specs.declared.SolverVel.{SolverVel}
use Rattle.base_rows.specs.Rows.{rows}
use Rattle.base_rows.proofs.Lent.{read_past, read_there}
use Rattle.list_tables.specs.Tables.{vel_at, vel_of}

module _ (bodies : List Float) (body : ℕ) {v : SolverVel} where
  pub of_floor : body ≡ 65535 → v ≡ rest → v ≡ vel_at bodies body
  unfolding vel_at
  of_floor floor e = pick.take _ (eq-eqb body 65535 floor) e

  pub of_row : (body ≡ 65535 → ⊥) → body < rows body_width bodies → v ≡ vel_of (take (body * 3 + 3 - body * 3) (drop (body * 3) bodies)) → v ≡ vel_at bodies body
  unfolding vel_at
  of_row real h e = pick.pass _ (ne_eqb body 65535 real) (read_there 3 body bodies vel_of rest h e)

  pub of_no_row : (body ≡ 65535 → ⊥) → rows body_width bodies ≤ body → v ≡ rest → v ≡ vel_at bodies body
  unfolding vel_at
  of_no_row real h e = pick.pass _ (ne_eqb body 65535 real) (read_past body_width body bodies vel_of rest h e)
