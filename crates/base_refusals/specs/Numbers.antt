-- Document 01, "Numbers that refuse": which number stands for what. Assumes nothing.
use Rattle.std.specs.Prelude.{ℕ, ◌≡◌, Option, None, Some, Result, Ok, Err}
use Rattle.base_refusals.specs.declared.Refusal.{Refusal}
use Rattle.base_refusals.specs.declared.Refusal.TheVariants.{KindAbove, NoContact, NoRoom, NotFinite, OutOfRange, PairOfOne, Unwritable, WrongBodies, WrongCount, WrongSizes}

abbrev pub refusal_number : Refusal → ℕ
refusal_number WrongSizes = 1
refusal_number NoContact = 2
refusal_number KindAbove = 3
refusal_number NoRoom = 4
refusal_number WrongBodies = 5
refusal_number WrongCount = 6
refusal_number PairOfOne = 7
refusal_number NotFinite = 8
refusal_number OutOfRange = 9
refusal_number Unwritable = 10

-- .. of what refuses, if anything does, and of a result: 0 is success
abbrev pub number_of : Option Refusal → ℕ
number_of None = 0
number_of (Some refusal) = refusal_number refusal

abbrev pub number_told : {A : Type 0} → Result A Refusal → ℕ
number_told (Ok done) = 0
number_told (Err refusal) = refusal_number refusal

-- no two have the same number, so that a number says what refused. Proved in proofs/Numbers.antt
abbrev pub OneNumberEach : Type 0
OneNumberEach = (r r' : Refusal) → refusal_number r ≡ refusal_number r' → r ≡ r'
