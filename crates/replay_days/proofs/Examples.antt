-- The request's cases on small files, worked out. Assumes nothing.
use Prim.Native.Nat.{ℕ}
use mathlib.Core.List.{List, [], ◌∷◌, ◌++◌}
use mathlib.Core.Path.{◌≡◌, refl, ap, ap₂}
use Rattle.text_digits.specs.Digits.{dec_bytes, dec_digits, dec_field, glyph}
use Rattle.text_fields.specs.Fields.{fields, onto}
use Rattle.text_fields.specs.Letters.{letter_in, letter_of, line_letter}
use Rattle.text_line.specs.Lines.{read_letter, read_line}
use Rattle.text_line.specs.Night.{blank, of_program}
use Rattle.text_read.specs.Text.{closed, feed, feeds, line_ended, refused, text_of, unread}
use Rattle.text_write.specs.Lines.{joined, line}
use Rattle.text_output.specs.Output.{output, output_of}
use Rattle.text_output.specs.Examples.{e_0_0, r_2, sample_output}
use Rattle.text_output.proofs.Examples as written
use Rattle.replay_days.specs.Judged.{
  compared,
  day_line,
  first_differing,
  judged,
  judged_from,
  lines_from,
  lines_of,
  no_d,
  only_d,
  only_z,
  same,
  verdict,
}
use Rattle.replay_days.specs.Examples.{Examples, NightExamples, its_output, other_load, x, z}

-- an empty night's recorded output, a Z and the line A, as one night
abbrev joint : List ℕ
joint = e_0_0 ++ z ++ (65 ∷ 10 ∷ [])

-- the line A is bad, with reason 2, and so is a line E
read : (text_of of_program (65 ∷ 10 ∷ []) ≡ refused 1 2 blank) × (text_of of_program joint ≡ refused 1 2 blank)
unfolding text_of unread closed feeds feed line_ended read_line read_letter line_letter letter_in letter_of fields onto
read = (refl, refl)

its_output_lem : (output (65 ∷ 10 ∷ []) ≡ its_output) × (output joint ≡ its_output)
unfolding output output_of line joined dec_field dec_bytes dec_digits glyph
its_output_lem = (ap output_of read.0, ap output_of read.1)

-- what is said of a day with that night
abbrev said : ℕ → List (List ℕ) → List ℕ → List ℕ
said day recorded o = verdict day (first_differing 1 (lines_of o) recorded)

known : (day : ℕ) (recorded : List (List ℕ)) → said day recorded (output (65 ∷ 10 ∷ [])) ≡ said day recorded its_output
known day recorded = ap (said day recorded) its_output_lem.0

pub examples : Examples
unfolding judged judged_from lines_of lines_from only_d only_z same compared first_differing verdict no_d day_line dec_field dec_bytes dec_digits glyph
examples = record {
  empty = refl;
  same = ap₂ ◌++◌ (known 1 (x ∷ [])) refl;
  z_missing = known 1 (x ∷ []);
  differs = ap₂ ◌++◌ (known 1 ((65 ∷ []) ∷ [])) refl;
  missing = ap₂ ◌++◌ (known 1 []) refl;
  surplus = ap₂ ◌++◌ (known 1 (x ∷ x ∷ [])) refl;
  second = ap₂ ◌++◌ (known 1 (x ∷ [])) (known 2 (x ∷ []));
  d_missing = ap₂ ◌++◌ (known 1 (x ∷ [])) refl;
  line_unended = known 1 (x ∷ []);
  line_cut = known 1 ((88 ∷ 9 ∷ 49 ∷ []) ∷ []);
  d_unended = known 1 [];
  d_forgotten = ap₂ ◌++◌ (ap (said 1 (x ∷ [])) its_output_lem.1) refl;
}

pub of_nights : NightExamples
unfolding judged judged_from lines_of lines_from only_d only_z same compared first_differing verdict no_d day_line dec_field dec_bytes dec_digits glyph
of_nights = record {
  r_same = ap₂ ◌++◌ (ap (said 1 (lines_of r_2)) (written.examples).refused) refl;
  r_differs = ap₂ ◌++◌ (ap (said 1 ((82 ∷ 9 ∷ 51 ∷ []) ∷ [])) (written.examples).refused) refl;
  sample_same = ap₂ ◌++◌ (ap (said 1 (lines_of sample_output)) (written.examples).sample) refl;
  sample_differs = ap₂ ◌++◌ (ap (said 1 (lines_of other_load)) (written.examples).sample) refl;
}
