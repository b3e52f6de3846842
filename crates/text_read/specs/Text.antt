-- Document 01, "Text form": a text, byte by byte. Assumes nothing.
-- "One record a line, ended by byte 10 (the last may lack it; 160 leaves it out)"
use Rattle.std.specs.Prelude.{ℕ, ◌+◌, List, [], ◌∷◌, ◌++◌, eqb, ltb, length}
use Rattle.base_words.specs.Choice.{if◌then◌otherwise◌}
use Rattle.base_places.specs.Lengths.{most_in_line}
use Rattle.text_line.specs.Night.{Night, blank}
use Rattle.text_line.specs.Lines.{LineCame, bad, good, in_contact, read_line}
use Rattle.text_fields.specs.declared.Counts.{Counts}

-- the line so far, its number from 1, and what the lines before it said; or the first bad line, its reason, and what the lines before it
-- said
pub data Text : Type 0 where
  reading : List ℕ → ℕ → Night → Text
  refused : ℕ → ℕ → Night → Text

-- nothing has been read
unfoldable pub unread : Text
unread = reading [] 1 blank

-- after a line, before which t had been read
unfoldable pub line_ended : ℕ → Night → LineCame → Text
line_ended n t (good t') = reading [] (n + 1) t'
line_ended n t (bad reason) = refused n reason t

-- one byte more: byte 10 ends the line; any other belongs to it, and is reason 1 past so many; "first bad line only"
unfoldable pub feed : Counts → Text → ℕ → Text
feed room (reading line n t) b =
    if eqb b 10 then line_ended n t (read_line room t line)
    otherwise if ltb (length line) most_in_line then reading (line ++ (b ∷ [])) n t
    otherwise refused n 1 t
feed room (refused n reason t) b = refused n reason t

unfoldable pub feeds : Counts → Text → List ℕ → Text
feeds room x [] = x
feeds room x (b ∷ s) = feeds room (feed room x b) s

-- "a contact cut short by the end counts here, at the line after the last"
unfoldable pub whole_contacts : Text → Text
whole_contacts (reading line n t) = if in_contact t.place then refused n 3 t otherwise reading line n t
whole_contacts (refused n reason t) = refused n reason t

-- the end of the text: what stands after the last byte 10, if anything, is a line too
unfoldable pub closed : Counts → Text → Text
closed room (reading line n t) =
    whole_contacts (if eqb (length line) 0 then reading [] n t otherwise line_ended n t (read_line room t line))
closed room (refused n reason t) = refused n reason t

unfoldable pub text_of : Counts → List ℕ → Text
text_of room s = closed room (feeds room unread s)
