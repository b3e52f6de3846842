-- Document 01, "Tables" and "Arithmetic": what is written into the lent stretches, and where. All other numbers stay, and a row that a
-- table does not have is not written. Assumes nothing.
use Rattle.std.specs.Prelude.{ℕ, Bool, ◌&&◌, List, [], ◌∷◌, ltb, Float, get_or, set}
use Rattle.base_places.specs.Places.{answer_width, body_width, cells, floats_width, place, point_place, point_width}
use Rattle.base_places.specs.declared.Cell.{Cell}
use Rattle.base_refusals.specs.Numbers.{refusal_number}
use Rattle.base_refusals.specs.declared.Refusal.{Refusal}
use Rattle.base_words.specs.Choice.{if◌then◌otherwise◌}
use Rattle.elem_velocity.specs.declared.SolverVel.{SolverVel}
use Rattle.step_contact.specs.Cells.{in_cell}
use Rattle.step_contact.specs.Contact.{is_floor}
use Rattle.step_contact.specs.declared.Contact.{Contact}
use Rattle.step_contact.specs.declared.ContactHead.{ContactHead}
use Rattle.step_contact.specs.declared.ContactPoint.{ContactPoint}
use Rattle.step_kinds.specs.Table.{stores}
use Rattle.base_rows.specs.Rows.{on_part, on_row}
use Rattle.list_cells.specs.declared.Answer.{Answer}

-- a body's row: velocity x, y and angular w
unfoldable pub vel_row : SolverVel → List Float
vel_row v = v.linear.x ∷ v.linear.y ∷ v.angular ∷ []

-- the floor "is never written"
unfoldable pub put_vel : List Float → ℕ → SolverVel → List Float
put_vel bodies body v = if is_floor body then bodies otherwise on_row body_width body (λ _. vel_row v) bodies

-- x at place i, if it is stored
unfoldable pub put_if : Bool → ℕ → Float → List Float → List Float
put_if stored i x l = if stored then set l i x otherwise l

-- a point's cells at their places among its floats, those that are stored, one after the other
unfoldable pub put_cells : List Cell → (Cell → Bool) → ContactPoint → List Float → List Float
put_cells [] stored p l = l
put_cells (c ∷ cs) stored p l = put_cells cs stored p (put_if (stored c) (place c) (in_cell c p) l)

-- at a point's place: below count, the cells that the kind stores
abbrev pub storing : ℕ → ContactHead → ℕ → Cell → Bool
storing kind h p c = ltb p h.count && stores kind c

unfoldable pub put_point : ℕ → ContactHead → ℕ → ContactPoint → List Float → List Float
put_point kind h p point l = put_cells cells (storing kind h p) point l

-- a contact's, a then b
unfoldable pub put_contact : ℕ → Contact → List Float → List Float
put_contact kind c l =
    let with_a = on_part (point_place 0) point_width (put_point kind c.head 0 c.a) l in
    on_part (point_place 1) point_width (put_point kind c.head 1 c.b) with_a

unfoldable pub put_impulses : List Float → ℕ → ℕ → Contact → List Float
put_impulses floats k kind c = on_row floats_width k (put_contact kind c) floats

-- what a refused step answers
abbrev pub refused_by : Refusal → Answer
refused_by refusal = record { number = refusal_number refusal; branch = 0 }

-- A step answers its number and a branch, as they are read ..
unfoldable pub answer_of : List ℕ → Answer
answer_of l = record { number = get_or l 0 0; branch = get_or l 1 0 }

-- .. and written
unfoldable pub answer_row : Answer → List ℕ
answer_row a = a.number ∷ a.branch ∷ []

unfoldable pub put_answer : List ℕ → ℕ → Answer → List ℕ
put_answer room i a = on_row answer_width i (λ _. answer_row a) room
