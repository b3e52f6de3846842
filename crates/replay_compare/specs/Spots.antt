-- What is known of a line, and a spot in an output beside which a recorded one is read: their steps, for the functions of this crate.
-- Assumes nothing.
use Rattle.std.specs.Prelude.{ℕ, ◌+◌, Bool, false, List, [], ◌∷◌, Option, None, Some, eqb, ltb, get_or, length}
use Rattle.base_words.specs.Choice.{if◌then◌otherwise◌}
use Rattle.replay_compare.specs.declared.LineSoFar.{LineSoFar}
use Rattle.replay_compare.specs.declared.LineSoFar.TheVariants.{Empty, More, One}
use Rattle.replay_compare.specs.declared.Spot.{Spot}

-- what is known of a line
abbrev pub shape_of : List ℕ → LineSoFar
shape_of [] = Empty
shape_of (b ∷ []) = One b
shape_of (b ∷ c ∷ s) = More

abbrev pub longer_line : LineSoFar → ℕ → LineSoFar
longer_line Empty b = One b
longer_line (One c) b = More
longer_line More b = More

abbrev pub longer_by : LineSoFar → List ℕ → LineSoFar
longer_by line [] = line
longer_by line (b ∷ s) = longer_by (longer_line line b) s

abbrev pub holds_only : LineSoFar → ℕ → Bool
holds_only Empty b = false
holds_only (One c) b = eqb c b
holds_only More b = false

-- the byte of o at a place, and the place after it; at no place, none
abbrev pub next_of : List ℕ → Option ℕ → Option (ℕ × ℕ)
next_of o None = None
next_of o (Some at) = if ltb at (length o) then Some (get_or o at 0, at + 1) otherwise None

-- a spot at which the recorded line goes on as the output's does up to a place, or has left it
abbrev pub placed : Spot → Option ℕ → Spot
placed p at = record { len = p.len; start = p.start; at = at; number = p.number }

abbrev pub compared_to : Spot → Option (ℕ × ℕ) → ℕ → Spot
compared_to p None b = placed p None
compared_to p (Some next) b = if eqb next.0 b then placed p (Some next.1) otherwise placed p None

-- a run of bytes beside the output o
abbrev pub compared_all : Spot → List ℕ → List ℕ → Spot
compared_all p o [] = p
compared_all p o (b ∷ s) = compared_all (compared_to p (next_of o p.at) b) o s

abbrev pub met_at_end : ℕ → LineSoFar → Option ℕ
met_at_end at Empty = None
met_at_end at (One b) = Some at
met_at_end at More = Some at

abbrev pub met_at : ℕ → Option (ℕ × ℕ) → LineSoFar → Option ℕ
met_at at (Some next) line = if eqb next.0 10 then Some next.1 otherwise None
met_at at None line = met_at_end at line

abbrev pub met_from : Option ℕ → Option (ℕ × ℕ) → LineSoFar → Option ℕ
met_from None next line = None
met_from (Some at) next line = met_at at next line

abbrev pub met_by : Spot → Option (ℕ × ℕ) → LineSoFar → Option ℕ
met_by p next line = met_from p.at next line

abbrev pub end_number : Spot → Option ℕ
end_number p = if ltb p.start p.len then Some p.number otherwise None
