-- Document 01, "Text form": what is written of a night that was read. Assumes nothing.
use Rattle.std.specs.Prelude.{ℕ, ◌*◌, List, [], ◌∷◌, ◌++◌, map, eqb, Float, replicate, take}
use Rattle.base_words.specs.Choice.{if◌then◌otherwise◌}
use Rattle.base_places.specs.Places.{answer_width, step_width}
use Rattle.base_places.specs.Lengths.{program_steps}
use Rattle.base_rows.specs.Rows.{rows}
use Rattle.list_rules.specs.Sweep.{tables}
use Rattle.call_rules.specs.Call.{Ended, Lent, lend, one_by_one}
use Rattle.text_digits.specs.Bits.{printed, value_of}
use Rattle.text_line.specs.Night.{Night}
use Rattle.text_write.specs.Lines.{e_line, r_line}
use Rattle.text_rows.specs.Tables.{Answers, Bodies, Loads, listing}

-- a table's floats, by the bits that were read
unfoldable pub floats_of : List ℕ → List Float
floats_of bits = map value_of bits

-- the bits that are printed for a table's floats, beside which those that were read were kept
unfoldable pub prints : List Float → List ℕ → List ℕ
prints [] kept = kept
prints (x ∷ xs) [] = []
prints (x ∷ xs) (k ∷ kept) = printed x k ∷ prints xs kept

unfoldable pub zeros : ℕ → List ℕ
zeros n = replicate n 0

-- what the program lends to the call: what was read, and room for an answer to each of its steps, "every row zero"
unfoldable pub lent : Night → Lent
lent t =
    lend (tables (floats_of t.bodies) t.numbers (floats_of t.floats)) t.steps (zeros (program_steps * answer_width))

-- "The program's budget covers the list"
unfoldable pub called : Night → Ended
called t = one_by_one (lent t) (rows step_width t.steps)

-- "It writes one A .. per step, all B, then I .., then E": told is the answers of the steps done, bodies and floats are the bits printed
unfoldable pub lines : ℕ → ℕ → List ℕ → List ℕ → List ℕ → List ℕ → List ℕ
lines done refusals told bodies numbers floats =
    listing Answers told [] ++ listing Bodies [] bodies ++ listing Loads numbers floats ++ e_line done refusals

-- "A whole-call refusal writes only R and its number"
unfoldable pub written : Night → Ended → List ℕ
written t e =
    if eqb e.refusal 0
    then lines e.done e.refused (take (e.done * answer_width) e.room) (prints e.tables.bodies t.bodies) t.numbers
    (prints e.tables.floats t.floats)
    otherwise r_line e.refusal

unfoldable pub answer : Night → List ℕ
answer t = written t (called t)
