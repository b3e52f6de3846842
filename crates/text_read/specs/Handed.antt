-- What the functions of this crate hand to each other. Assumes nothing.
use Rattle.std.specs.Prelude.{ℕ, ◌-◌, ◌≤◌, ◌<◌, min, Bool, true, false, None, Some, Result, Ok, Err, List, [], ◌≡◌, eqb, drop, length, take}
use Rattle.base_words.specs.Choice.{if◌then◌otherwise◌}
use Rattle.base_places.specs.Lengths.{most_in_line, one_more}
use Rattle.text_fields.specs.declared.Counts.{Counts}
use Rattle.text_line.specs.Lines.{in_contact, read_line}
use Rattle.text_line.specs.Filled.{Cells, Grown, Sane, reason_number, room_of}
use Rattle.text_line.specs.declared.BadLine.{BadLine}
use Rattle.text_line.specs.declared.State.{State}
use Rattle.text_read.specs.Text.{Text, feeds, line_ended, reading, refused}
use Rattle.text_read.specs.declared.Reader.{Reader}
use Rattle.text_read.specs.declared.Turn.{Turn}
use Rattle.text_read.specs.Carried.{capped, is_bad, settled_in, text_in}

-- a reader whose text is not refused, as one that can be fed
abbrev pub settled : Reader → Counts → Reader
settled k room = record { over = false; bad = None; number = k.number; st = settled_in k.st room; len = min k.len most_in_line }

pub record Sound (k : Reader) (w : Cells) : Type 0 where
  pub fine : k.bad ≡ None
  pub short : k.len ≤ most_in_line
  pub sane : Sane k.st w

abbrev pub refused_for : Reader → ℕ → Reader
refused_for k reason = record { over = k.over; bad = Some reason; number = k.number; st = k.st; len = k.len }

-- after a line
abbrev pub after_line : Reader → Result State BadLine → Reader
after_line k (Ok st) = record { over = k.over; bad = None; number = one_more k.number; st = st; len = 0 }
after_line k (Err reason) = refused_for k (reason_number reason)

-- after the last line: a contact may be cut short
abbrev pub cut_short : Reader → Bool
cut_short k = if is_bad k.bad then false otherwise in_contact k.st.place

abbrev pub closed_reader : Reader → Reader
closed_reader k = record { over = true; bad = if cut_short k then Some 3 otherwise k.bad; number = k.number; st = k.st; len = k.len }

-- the bytes s were fed to a reader whose text is not refused; where it still is not, it can be fed more
pub record Fed (k : Reader) (line : List ℕ) (w : Cells) (s : List ℕ) (k' : Reader) (line' : List ℕ) (w' : Cells) : Type 0 where
  pub is : capped (text_in k' line' w') ≡ capped (feeds (room_of w) (text_in k line w) s)
  pub sound : is_bad k'.bad ≡ false → Sound k' w'
  pub grown : Grown k.st k'.st w w'
  pub over : k'.over ≡ k.over

-- the bytes s, none of which ends a line, were fed to it: whatever the tables are, they are not looked at
abbrev pub GoesOn : Reader → List ℕ → List ℕ → Reader → List ℕ → Type 0
GoesOn k line s k' line' = (w : Cells) → Sound k w → Fed k line w s k' line' w

-- the bytes of s from i to where the turn says were
pub record Turned (k : Reader) (line : List ℕ) (w : Cells) (s : List ℕ) (i : ℕ) (r : Turn) (line' : List ℕ) (w' : Cells) : Type 0 where
  pub fed : Fed k line w (take (r.at - i) (drop i s)) r.reader line' w'
  pub on : i < r.at
  pub within : r.at ≤ length s

-- the end of a text, but for a contact that is cut short
unfoldable pub last_line : Counts → Text → Text
last_line room (reading line n t) = if eqb (length line) 0 then reading [] n t otherwise line_ended n t (read_line room t line)
last_line room (refused n reason t) = refused n reason t

-- the line that has not ended was read, if there is any of it
pub record Closes (k : Reader) (line : List ℕ) (w : Cells) (k' : Reader) (w' : Cells) : Type 0 where
  pub is : capped (last_line (room_of w) (text_in k line w)) ≡ capped (text_in k' line w')
  pub grown : Grown k.st k'.st w w'
