-- A night's text in portions, call after call, and its output. Assumes nothing.
use Prim.Native.Nat.{ℕ}
use native.Mathlib.Omega.{arith}
use mathlib.Core.Bool.{Bool, true, false}
use mathlib.Core.List.{List, ◌++◌}
use mathlib.Core.Path.{◌≡◌, refl, sym, ap}
use lib.ListN.{take}
use Rattle.std.specs.Prelude.{Option, None, Some}
use Rattle.base_words.proofs.Pick.{never}
use Rattle.text_fields.specs.declared.Counts.{Counts}
use Rattle.text_line.specs.Night.{Night, of_program}
use Rattle.text_line.specs.Filled.{night_of}
use Rattle.text_read.specs.Text.{Text, feeds, reading, refused, text_of, unread}
use Rattle.text_read.specs.Portions.{going, whole}
use Rattle.text_read.specs.Carried.{capped, capped_in, is_bad, reading_in, side, text_by, text_in}
use Rattle.text_read.proofs.Calls.{any_calls}
use Rattle.text_read.proofs.Cutting.{bad_decides}
use Rattle.text_output.specs.Output.{output, output_of}
use Rattle.text_program.specs.InPortions.{AnswersEarly, AnswersPortions}

pub answers_portions : AnswersPortions
answers_portions portions k line w r line' w' o o' number b room c v =
    v.whole (whole portions) line' (rw room at (any_calls portions k line w r line' w' b c).is)

-- a reader that says so carries a refused text
bad_by : (o : Bool) (c : Option ℕ) (held : List ℕ) (n : ℕ) (t : Night) (x : Text) → is_bad c ≡ true → side o (text_by c held n t) ≡ going (capped x)
    → (room : Counts) (s rest : List ℕ) → feeds room unread s ≡ x → text_of room (s ++ rest) ≡ text_of room s
unfolding capped
bad_by o None held n t x b e room s rest q = never (sym b)
bad_by true (Some reason) held n t x b e room s rest q = absurd (let z : ◌≡◌ {A = ℕ} 0 1 = cc in omega arith)
bad_by false (Some reason) held n t (reading line m t') b e room s rest q = absurd (let z : ◌≡◌ {A = ℕ} 0 1 = cc in omega arith)
bad_by false (Some reason) held n t (refused m reason' t') b e room s rest q = bad_decides room s rest m reason' t' q

pub answers_early : AnswersEarly
unfolding output reading_in text_in capped_in
answers_early input rest k line w o o' number e b v =
    let same : output (input ++ rest) ≡ output input =
    ap output_of (bad_by k.over k.bad (take k.len line) k.number (night_of k.st w) (feeds of_program unread input) b e of_program input rest refl) in
    record { many = rw same v.many; bytes = rw same v.bytes; told = rw same v.told }
