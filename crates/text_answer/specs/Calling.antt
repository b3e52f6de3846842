-- The night as the program's tables hold it, for the functions of this crate. Assumes nothing.
use Rattle.std.specs.Prelude.{ℕ, ◌*◌, List, Result, ◌≡◌, length}
use Rattle.base_places.specs.Places.{answer_width}
use Rattle.base_places.specs.Lengths.{program_steps}
use Rattle.list_rules.specs.Sweep.{tables}
use Rattle.base_refusals.specs.declared.Refusal.{Refusal}
use Rattle.call.specs.Ended.{ended}
use Rattle.call_rules.specs.Call.{Ended}
use Rattle.call.specs.declared.Done.{Done}
use Rattle.text_line.specs.Night.{Night}
use Rattle.text_line.specs.declared.Place.TheVariants.{Bodies}
use Rattle.text_output.specs.Answer.{called, zeros}
use Rattle.text_answer.specs.declared.Read.{Read}
use Rattle.text_answer.specs.declared.Room.{Room}

-- what was read; the place in the order no longer matters
abbrev pub night : List ℕ → List ℕ → List ℕ → List ℕ → Night
night bodies numbers floats steps = record { place = Bodies; bodies = bodies; numbers = numbers; floats = floats; steps = steps }

abbrev pub night_in : Read → Night
night_in t = night t.bodies.now t.numbers.now t.floats.now t.steps.now

-- what the call left in the room, and its result ..
abbrev pub left_in : Result Done Refusal → Read → Room → Ended
left_in r t v = ended r (tables v.bodies.now t.numbers.now v.contacts.now) v.answers.now

-- .. are what the definition says
abbrev pub Called : Read → Result Done Refusal → Room → Type 0
Called t r v = left_in r t v ≡ called (night_in t)

-- room for a float of each pattern, and for the program's answers, "every row zero"
pub record Fits (t : Read) (v : Room) : Type 0 where
  pub bodies : length t.bodies.now ≡ length v.bodies.now
  pub contacts : length t.floats.now ≡ length v.contacts.now
  pub answers : v.answers.now ≡ zeros (program_steps * answer_width)

-- what was lent stays where it is, and as long
pub record KeptRead (t t' : Read) : Type 0 where
  pub bodies : t'.bodies.ghost_name ≡ t.bodies.ghost_name
  pub floats : t'.floats.ghost_name ≡ t.floats.ghost_name
  pub numbers : t'.numbers.now ≡ t.numbers.now
  pub steps : t'.steps.now ≡ t.steps.now
  pub as_bodies : length t'.bodies.now ≡ length t.bodies.now
  pub as_floats : length t'.floats.now ≡ length t.floats.now

pub record KeptRoom (v v' : Room) : Type 0 where
  pub bodies : v'.bodies.ghost_name ≡ v.bodies.ghost_name
  pub contacts : v'.contacts.ghost_name ≡ v.contacts.ghost_name
  pub answers : v'.answers.ghost_name ≡ v.answers.ghost_name
  pub as_bodies : length v'.bodies.now ≡ length v.bodies.now
  pub as_contacts : length v'.contacts.now ≡ length v.contacts.now
  pub as_answers : length v'.answers.now ≡ length v.answers.now
