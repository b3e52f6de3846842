-- What is known of a text while it is read, byte after byte, and at its end: what it says was read from the lines before its number, also where
-- it is refused. Assumes nothing.
use Prim.Native.Nat.{ℕ}
use mathlib.Core.Bool.{Bool, true, false, cond}
use mathlib.Core.List.{List, [], ◌∷◌, ◌++◌}
use mathlib.Core.Path.{◌≡◌, refl}
use lib.Dec.{eqb, ltb}
use lib.ListN.{length}
use Rattle.base_places.specs.Lengths.{most_in_line}
use Rattle.text_line.specs.Night.{Night, of_program}
use Rattle.text_line.specs.Lines.{LineCame, bad, good, in_contact, read_line}
use Rattle.text_read.specs.Text.{Text, closed, feed, feeds, line_ended, reading, refused, text_of, unread, whole_contacts}
use Rattle.text_held.proofs.Spent.{Spent, line_spent, nothing_spent}

-- t was read from the lines before line n, which has not ended or is bad
abbrev pub Read : Text → Type 0
Read (reading line n t) = Spent t n
Read (refused n reason t) = Spent t n

one_of : (test : Bool) (x y : Text) → Read x → Read y → Read (cond test x y)
one_of true x y p q = p
one_of false x y p q = q

module _ (line : List ℕ) (n : ℕ) (t : Night) (spent : Spent t n) where
  ended_by : (x : LineCame) → read_line of_program t line ≡ x → Read (line_ended n t x)
  unfolding line_ended
  ended_by (good t') e = line_spent t line n spent t' e
  ended_by (bad reason) e = spent

  ended : Read (line_ended n t (read_line of_program t line))
  ended = ended_by (read_line of_program t line) refl

-- one byte more
fed : (x : Text) (b : ℕ) → Read x → Read (feed of_program x b)
unfolding feed
fed (reading line n t) b r =
    one_of (eqb b 10) _ _ (ended line n t r) (one_of (ltb (length line) most_in_line) (reading (line ++ (b ∷ [])) n t) (refused n 1 t) r r)
fed (refused n reason t) b r = r

-- so many more
all_fed : (s : List ℕ) (x : Text) → Read x → Read (feeds of_program x s)
unfolding feeds
all_fed [] x r = r
all_fed (b ∷ s) x r = all_fed s (feed of_program x b) (fed x b r)

-- a text from its first byte on
pub text_fed : (s : List ℕ) → Read (feeds of_program unread s)
unfolding unread
text_fed s = all_fed s unread nothing_spent

-- and to its end
whole : (x : Text) → Read x → Read (whole_contacts x)
unfolding whole_contacts
whole (reading line n t) r = one_of (in_contact t.place) (refused n 3 t) (reading line n t) r r
whole (refused n reason t) r = r

closed_read : (x : Text) → Read x → Read (closed of_program x)
unfolding closed
closed_read (reading line n t) r = whole _ (one_of (eqb (length line) 0) (reading [] n t) _ r (ended line n t r))
closed_read (refused n reason t) r = r

pub text_read : (s : List ℕ) → Read (text_of of_program s)
unfolding text_of
text_read s = closed_read (feeds of_program unread s) (text_fed s)
