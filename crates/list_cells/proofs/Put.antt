-- Rows written or not, by whether they are there. Assumes nothing.
use Prim.Native.Nat.{ℕ, ◌+◌, ◌*◌, ◌-◌, ◌≤◌, ◌<◌}
use mathlib.Core.List.{List}
use mathlib.Core.Path.{◌≡◌, refl}
use lib.Ieee.{Float}
use lib.ListN.{drop, take}
use borrow.Author.Tests.{eq-eqb, ne_eqb}
use borrow.Rule.Slice.PartMut.{put_mid}
use Rattle.base_places.specs.Places.{answer_width, body_width, floats_width}
use Rattle.base_words.proofs.Pick as pick
use Rattle.elem_velocity.specs.declared.SolverVel.{SolverVel}
use Rattle.step_contact.specs.declared.Contact.{Contact}
use Rattle.base_rows.specs.Rows.{rows}
use Rattle.base_rows.proofs.Lent.{row_past, row_written}
use Rattle.list_cells.specs.Cells.{answer_row, put_answer, put_contact, put_impulses, put_vel, vel_row}
use Rattle.list_cells.specs.declared.Answer.{Answer}

-- a velocity: not the floor's; into its row; where there is none
module _ (bodies : List Float) (body : ℕ) (v : SolverVel) where
  pub vel_of_floor : body ≡ 65535 → bodies ≡ put_vel bodies body v
  unfolding put_vel
  vel_of_floor floor = pick.take _ (eq-eqb body 65535 floor) refl

  pub vel_put : {back : List Float} → (body ≡ 65535 → ⊥) → body < rows body_width bodies → back ≡ vel_row v
      → put_mid (body * body_width) (body * body_width + body_width - body * body_width) bodies back ≡ put_vel bodies body v
  unfolding put_vel
  vel_put real h e = pick.pass _ (ne_eqb body 65535 real) (row_written body_width body bodies (λ _. vel_row v) h e)

  pub vel_past : (body ≡ 65535 → ⊥) → rows body_width bodies ≤ body → bodies ≡ put_vel bodies body v
  unfolding put_vel
  vel_past real h = pick.pass _ (ne_eqb body 65535 real) (row_past body_width body bodies (λ _. vel_row v) h)

-- impulses: into their row
module _ (floats : List Float) (k kind : ℕ) (c : Contact) where
  pub impulses_put : {back : List Float} → k < rows floats_width floats → back ≡ put_contact kind c (take (k * floats_width + floats_width - k * floats_width) (drop (k * floats_width) floats))
      → put_mid (k * floats_width) (k * floats_width + floats_width - k * floats_width) floats back ≡ put_impulses floats k kind c
  unfolding put_impulses
  impulses_put h e = row_written floats_width k floats (put_contact kind c) h e

-- an answer: into its row; where there is none
module _ (room : List ℕ) (i : ℕ) (a : Answer) where
  pub answer_put : {back : List ℕ} → i < rows answer_width room → back ≡ answer_row a → put_mid (i * answer_width) (i * answer_width + answer_width - i * answer_width) room back ≡ put_answer room i a
  unfolding put_answer
  answer_put h e = row_written answer_width i room (λ _. answer_row a) h e

  pub answer_past : rows answer_width room ≤ i → room ≡ put_answer room i a
  unfolding put_answer
  answer_past h = row_past answer_width i room (λ _. answer_row a) h
