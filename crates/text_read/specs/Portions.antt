-- Document 02, E8: a text that arrives in portions. Assumes nothing.
use Rattle.std.specs.Prelude.{List, [], ◌∷◌, ◌++◌, ◌≡◌, ℕ}
use Rattle.text_fields.specs.declared.Counts.{Counts}
use Rattle.text_line.specs.Night.{Night}
use Rattle.text_read.specs.Text.{Text, closed, feeds, refused, text_of, unread}

-- "carries a state between them": what has been read, before the end is announced or after
pub data Reading : Type 0 where
  going : Text → Reading
  over : Text → Reading

unfoldable pub begun : Reading
begun = going unread

-- "portions of any length, zero bytes too"; "a portion after the end changes nothing"
unfoldable pub taken : Counts → Reading → List ℕ → Reading
taken room (going x) s = going (feeds room x s)
taken room (over x) s = over x

-- "The caller announces the end; a second announcement gives the same answer"
unfoldable pub ended : Counts → Reading → Reading
ended room (going x) = over (closed room x)
ended room (over x) = over x

-- one portion after the other
unfoldable pub taken_all : Counts → Reading → List (List ℕ) → Reading
taken_all room r [] = r
taken_all room r (s ∷ portions) = taken_all room (taken room r s) portions

unfoldable pub whole : List (List ℕ) → List ℕ
whole [] = []
whole (s ∷ portions) = s ++ whole portions

-- "For every way of cutting, the tables, the X line and the line number equal those from the whole text": all of them stand in a Text
abbrev pub AnyCut : Type 0
AnyCut =
    (room : Counts) (portions : List (List ℕ))
    → ended room (taken_all room begun portions) ≡ over (text_of room (whole portions))

-- what comes after the first bad line does not matter: a program may answer at once. Both proved in proofs/Cutting.antt
abbrev pub BadDecides : Type 0
BadDecides =
    (room : Counts) (s rest : List ℕ) (n reason : ℕ) (t : Night) → feeds room unread s ≡ refused n reason t
    → text_of room (s ++ rest) ≡ text_of room s
