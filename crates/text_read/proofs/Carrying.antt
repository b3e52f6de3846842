-- What a reader carries, by whether a line was bad and whether the end was announced; and a line that ended. Assumes nothing.
use Prim.Native.Nat.{ℕ, ◌+◌, ◌≤◌, min}
use native.Mathlib.Omega.{arith}
use mathlib.Core.Bool.{Bool, true, false}
use mathlib.Core.List.{List}
use mathlib.Core.Path.{◌≡◌, refl}
use lib.ListN.{length, take}
use Rattle.std.specs.Prelude.{Option, None, Some, Result, Ok, Err}
use Rattle.base_words.proofs.Pick.{never}
use Rattle.base_places.specs.Lengths.{largest, most_in_line}
use Rattle.text_fields.specs.declared.Counts.{Counts}
use Rattle.text_line.specs.Night.{Night}
use Rattle.text_line.specs.Lines.{read_line}
use Rattle.text_line.specs.Filled.{Cells, Grown, LeftBy, ReadLine, Sane, came_of, night_of, room_of}
use Rattle.text_line.specs.declared.BadLine.{BadLine}
use Rattle.text_line.specs.declared.State.{State}
use Rattle.text_read.specs.Text.{line_ended, reading}
use Rattle.text_read.specs.Carried.{capped, is_bad, reading_in, said, said_in, side, text_by, text_in}
use Rattle.text_read.specs.Handed.{Sound, after_line, settled}
use Rattle.text_read.specs.declared.Reader.{Reader}
use Rattle.text_read.proofs.Tables.{grown_same, grown_sane, settled_night, settled_sane, take_within}

pub fine_of : (c : Option ℕ) → is_bad c ≡ false → c ≡ None
fine_of None e = refl
fine_of (Some reason) e = never e

module _ (k : Reader) (line : List ℕ) (w : Cells) where
  pub text_fine : k.bad ≡ None → text_in k line w ≡ reading (take k.len line) k.number (night_of k.st w)
  unfolding text_in
  text_fine e = rw e

  low_by : (c : Option ℕ) (held : List ℕ) (n : ℕ) (t : Night) → n ≤ largest → capped (text_by c held n t) ≡ text_by c held n t
  unfolding capped
  low_by None held n t h = let e : min n largest ≡ n = omega arith in rw e
  low_by (Some reason) held n t h = let e : min n largest ≡ n = omega arith in rw e

  -- a number that a machine word holds
  pub low : k.number ≤ largest → capped (text_in k line w) ≡ text_in k line w
  unfolding text_in
  low h = low_by k.bad (take k.len line) k.number (night_of k.st w) h

  said_by : (over : Bool) (c : Option ℕ) (held : List ℕ) (n : ℕ) (t : Night) → said_in (side over (text_by c held n t)) ≡ t
  unfolding said_in said
  said_by true None held n t = refl
  said_by true (Some reason) held n t = refl
  said_by false None held n t = refl
  said_by false (Some reason) held n t = refl

  pub said_in_lem : said_in (reading_in k line w) ≡ night_of k.st w
  unfolding reading_in text_in
  said_in_lem = said_by k.over k.bad (take k.len line) k.number (night_of k.st w)

  -- a settled reader carries the same
  pub settled_text : k.bad ≡ None → length line ≡ most_in_line → text_in (settled k (room_of w)) line w ≡ text_in k line w
  unfolding text_in
  settled_text e h = rw (e, settled_night, ← h, take_within)

-- a line was read: the text after it, where it can be fed more, and its tables
module _ (k : Reader) (w w' : Cells) where
  after_by : (line' : List ℕ) (r : Result State BadLine) → LeftBy k.st r w w'
      → capped (text_in (after_line k r) line' w') ≡ capped (line_ended k.number (night_of k.st w) (came_of r w'))
  unfolding capped text_in came_of line_ended
  after_by line' (Ok st) g = let e : min (min (k.number + 1) largest) largest ≡ min (k.number + 1) largest = omega arith in rw e
  after_by line' (Err reason) g = rw g

  sound_by : (r : Result State BadLine) → LeftBy k.st r w w' → is_bad (after_line k r).bad ≡ false → Sound (after_line k r) w'
  sound_by (Ok st) g e = record { fine = refl; short = omega arith; sane = grown_sane g }
  sound_by (Err reason) g e = never e

  grown_by : Sane k.st w → (r : Result State BadLine) → LeftBy k.st r w w' → Grown k.st (after_line k r).st w w'
  grown_by h (Ok st) g = g
  grown_by h (Err reason) g = rw g (grown_same h)

  over_by : (r : Result State BadLine) → (after_line k r).over ≡ k.over
  over_by (Ok st) = refl
  over_by (Err reason) = refl

  module _ (l : List ℕ) {r : Result State BadLine} (d : ReadLine k.st l w r w') where
    pub after_is : (line' : List ℕ)
        → capped (text_in (after_line k r) line' w')
        ≡ capped (line_ended k.number (night_of k.st w) (read_line (room_of w) (night_of k.st w) l))
    after_is line' = rw (← d.is) (after_by line' r d.left)

    pub after_sound : is_bad (after_line k r).bad ≡ false → Sound (after_line k r) w'
    after_sound = sound_by r d.left

    pub after_grown : Sane k.st w → Grown k.st (after_line k r).st w w'
    after_grown h = grown_by h r d.left

    pub after_over : (after_line k r).over ≡ k.over
    after_over = over_by r

-- a settled reader can be fed
pub sound_settled : (k : Reader) (w : Cells) {room : Counts} → room ≡ room_of w → {t : Reader} → t ≡ settled k room → Sound t w
sound_settled k w m e = rw (e, m) (record { fine = refl; short = omega arith; sane = settled_sane k.st w })
