-- Document 01's own words of 3 and 7, beside the table of kinds. A request that adds a kind changes the first. Proved in
-- proofs/Numbered.antt. Assumes nothing.
use Rattle.std.specs.Prelude.{ℕ, ◌&&◌, ◌≡◌, eqb, ltb}
use Rattle.step_contact.specs.declared.ContactHead.{ContactHead}
use Rattle.step_shape.specs.Shape.{kind_above, pair_of_one}

-- 3: "some kind is above 4"
abbrev pub AboveFour : Type 0
AboveFour = (kind : ℕ) → kind_above kind ≡ ltb 4 kind

-- 7: "kind 4 and count 1"
abbrev pub FourAndOne : Type 0
FourAndOne = (kind : ℕ) (h : ContactHead) → pair_of_one kind h ≡ (eqb kind 4 && eqb h.count 1)
