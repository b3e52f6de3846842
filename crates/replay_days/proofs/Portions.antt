-- Portion after portion; and how much is told, of how many days. Assumes nothing.
use Prim.Native.Nat.{ℕ, zero, suc, ◌+◌, ◌≤◌}
use native.Mathlib.Nat.{suc-mul}
use native.Mathlib.Omega.{arith}
use mathlib.Core.Bool.{Bool, true, false, cond}
use mathlib.Core.List.{List, [], ◌∷◌, ◌++◌, append_assoc, append-nil}
use mathlib.Core.Path.{◌≡◌, refl, ◌∙◌}
use lib.Dec.{eqb}
use lib.ListN.{length, length-append}
use Rattle.std.specs.Prelude.{Option, None, Some}
use Rattle.text_digits.specs.Digits.{dec_bytes, dec_field}
use Rattle.text_digits.proofs.Lengths.{dec_field_lem}
use Rattle.text_read.specs.Portions.{whole}
use Rattle.replay_days.specs.Judged.{day_line, no_d, only_z}
use Rattle.replay_days.specs.Going.{
  Going,
  Part,
  byte_tells,
  comparing,
  counted_verdict,
  day_after,
  differing,
  end_tells,
  ending,
  fed,
  feeds,
  finish,
  line_ended,
  line_tells,
  meets,
  part_after,
  reading,
  start,
  tells,
}
use Rattle.replay_days.specs.Portions.{AnyPortions, DaysFew, FinishShort, TellsShort, in_portions}
use Rattle.replay_days.proofs.Bytes.{byte_by_byte}

pub feeds_append : (g : Going) (s t : List ℕ) → feeds g (s ++ t) ≡ feeds (feeds g s) t
unfolding feeds
feeds_append g [] t = refl
feeds_append g (b ∷ s) t = feeds_append (fed g b) s t

pub tells_append : (g : Going) (s t : List ℕ) → tells g (s ++ t) ≡ tells g s ++ tells (feeds g s) t
unfolding tells feeds
tells_append g [] t = refl
tells_append g (b ∷ s) t = rw (tells_append (fed g b) s t, append_assoc)

portions_told : (g : Going) (ps : List (List ℕ)) → in_portions g ps ≡ tells g (whole ps) ++ finish (feeds g (whole ps))
unfolding in_portions whole tells feeds
portions_told g [] = refl
portions_told g (p ∷ ps) = rw (portions_told (feeds g p) ps, tells_append, feeds_append, append_assoc)

pub any_portions : AnyPortions
any_portions ps = portions_told start ps ∙ byte_by_byte (whole ps)

-- one byte at the end
pub fed_last : (g : Going) (s : List ℕ) (b : ℕ) → feeds g (s ++ (b ∷ [])) ≡ fed (feeds g s) b
unfolding feeds
fed_last g s b = feeds_append g s (b ∷ [])

pub told_last : (g : Going) (s : List ℕ) (b : ℕ) → tells g (s ++ (b ∷ [])) ≡ tells g s ++ byte_tells (feeds g s) b
unfolding tells
told_last g s b = rw (tells_append g s (b ∷ []), append-nil)

-- days
next_day_lem : (day : ℕ) (z : Bool) → cond z (day + 1) day ≤ suc day
next_day_lem day true = omega arith
next_day_lem day false = omega arith

line_day : (day : ℕ) (p : Part) (l : List ℕ) → day_after day p l ≤ suc day
unfolding day_after
line_day day (reading x) l = omega arith
line_day day (comparing left n) l = next_day_lem day (only_z l)
line_day day differing l = next_day_lem day (only_z l)

byte_day : (g : Going) (b : ℕ) (ends : Bool) → eqb b 10 ≡ ends → (fed g b).day ≤ suc g.day
unfolding fed line_ended
byte_day g b true e = rw e (line_day g.day g.part g.line)
byte_day g b false e = rw e (omega arith)

pub days_few : DaysFew
unfolding feeds
days_few g [] = omega arith
days_few g (b ∷ s) = omega (arith, days_few (fed g b) s, byte_day g b (eqb b 10) refl)

-- a day's line has at most 20 digits, two fields and byte 10
number_short : (n : ℕ) → length (dec_bytes n) ≤ 20
unfolding dec_field
number_short n = omega (arith, dec_field_lem n)

verdict_short : (day : ℕ) (n : Option ℕ) → length (counted_verdict day n) ≤ 64
unfolding counted_verdict day_line
verdict_short day None = simp length-append (omega (arith, number_short day, dec_field_lem 0))
verdict_short day (Some zero) = simp length-append (omega (arith, number_short day, dec_field_lem 0))
verdict_short day (Some (suc n)) = simp length-append (omega (arith, number_short day, dec_field_lem 1, dec_field_lem (suc n)))

ending_short : (day : ℕ) (left : List (List ℕ)) (n : ℕ) → length (ending day left n) ≤ 64
unfolding ending
ending_short day [] n = verdict_short day None
ending_short day (m ∷ left) n = verdict_short day (Some n)

compared_short : (day : ℕ) (left : List (List ℕ)) (n : ℕ) (z m : Bool)
    → length (cond z (ending day left n) (cond m [] (counted_verdict day (Some n)))) ≤ 64
compared_short day left n true m = ending_short day left n
compared_short day left n false true = omega arith
compared_short day left n false false = verdict_short day (Some n)

pub line_short : (day : ℕ) (p : Part) (l : List ℕ) → length (line_tells day p l) ≤ 64
unfolding line_tells
line_short day (reading x) l = omega arith
line_short day (comparing left n) l = compared_short day left n (only_z l) (meets l left)
line_short day differing l = omega arith

byte_short : (g : Going) (b : ℕ) (ends : Bool) → eqb b 10 ≡ ends → length (byte_tells g b) ≤ 64
unfolding byte_tells
byte_short g b true e = rw e (line_short g.day g.part g.line)
byte_short g b false e = rw e (omega arith)

pub tells_short : TellsShort
unfolding tells
tells_short g [] = omega arith
tells_short g (b ∷ s) = rw (length-append, suc-mul) (omega (arith, byte_short g b (eqb b 10) refl, tells_short (fed g b) s))

-- and the end of a file at most 128
no_d_short : (day : ℕ) → length (no_d day) ≤ 64
unfolding no_d day_line
no_d_short day = simp length-append (omega (arith, number_short day, dec_field_lem 2))

input_short : (day : ℕ) (none : Bool) → length (cond none [] (no_d day)) ≤ 64
input_short day true = omega arith
input_short day false = no_d_short day

end_short : (day : ℕ) (p : Part) → length (end_tells day p) ≤ 64
unfolding end_tells
end_short day (reading x) = input_short day (eqb (length x) 0)
end_short day (comparing left n) = ending_short day left n
end_short day differing = omega arith

finish_by : (g : Going) (none : Bool) → eqb (length g.line) 0 ≡ none → length (finish g) ≤ 128
unfolding finish
finish_by g true e = rw e (omega (arith, end_short g.day g.part))
finish_by g false e =
    rw (e, length-append)
    (omega (
      arith,
      line_short g.day g.part g.line,
      end_short (day_after g.day g.part g.line) (part_after g.part g.line),
    ))

pub finish_short : FinishShort
finish_short g = finish_by g (eqb (length g.line) 0) refl
