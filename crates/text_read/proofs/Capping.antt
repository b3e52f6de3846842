-- A line's number that goes no further than a machine word: it may be capped before bytes are fed or after. Assumes nothing.
use Prim.Native.Nat.{ℕ, ◌+◌, min}
use native.Mathlib.Omega.{arith}
use mathlib.Core.Bool.{Bool, true, false}
use mathlib.Core.List.{List, [], ◌∷◌, ◌++◌}
use mathlib.Core.Path.{◌≡◌, refl, sym, ◌∙◌, ap}
use lib.Dec.{eqb, ltb}
use lib.ListN.{length}
use Rattle.base_words.specs.Choice.{if◌then◌otherwise◌}
use Rattle.base_places.specs.Lengths.{largest, most_in_line}
use Rattle.text_fields.specs.declared.Counts.{Counts}
use Rattle.text_line.specs.Night.{Night}
use Rattle.text_line.specs.Lines.{LineCame, bad, good, in_contact, read_line}
use Rattle.text_read.specs.Text.{Text, closed, feed, feeds, line_ended, reading, refused, whole_contacts}
use Rattle.text_read.specs.Portions.{Reading, ended, going, over, taken}
use Rattle.text_read.specs.Carried.{capped, capped_in}
use Rattle.text_read.specs.Handed.{last_line}

twice : (n : ℕ) → min (min n largest) largest ≡ min n largest
twice n = omega arith

onward : (n : ℕ) → min (min n largest + 1) largest ≡ min (n + 1) largest
onward n = omega arith

pub capped_twice : (x : Text) → capped (capped x) ≡ capped x
unfolding capped
capped_twice (reading line n t) = rw (twice n)
capped_twice (refused n reason t) = rw (twice n)

line_capped : (n : ℕ) (t : Night) (r : LineCame) → capped (line_ended (min n largest) t r) ≡ capped (line_ended n t r)
unfolding capped line_ended
line_capped n t (good t') = rw (onward n)
line_capped n t (bad reason) = rw (twice n)

module _ (room : Counts) where
  feed_by : (line : List ℕ) (n : ℕ) (t : Night) (b : ℕ) (ends fits : Bool)
      → capped (if ends then line_ended (min n largest) t (read_line room t line) otherwise if fits then reading (line ++ (b ∷ [])) (min n largest) t otherwise refused (min n largest) 1 t)
      ≡ capped (if ends then line_ended n t (read_line room t line) otherwise if fits then reading (line ++ (b ∷ [])) n t otherwise refused n 1 t)
  unfolding capped
  feed_by line n t b true fits = line_capped n t (read_line room t line)
  feed_by line n t b false true = capped_twice (reading (line ++ (b ∷ [])) n t)
  feed_by line n t b false false = capped_twice (refused n 1 t)

  feed_capped : (x : Text) (b : ℕ) → capped (feed room (capped x) b) ≡ capped (feed room x b)
  unfolding capped feed
  feed_capped (reading line n t) b = feed_by line n t b (eqb b 10) (ltb (length line) most_in_line)
  feed_capped (refused n reason t) b = rw (twice n)

  pub feeds_capped : (x : Text) (s : List ℕ) → capped (feeds room (capped x) s) ≡ capped (feeds room x s)
  unfolding feeds
  feeds_capped x [] = capped_twice x
  feeds_capped x (b ∷ s) =
      sym (feeds_capped (feed room (capped x) b) s) ∙ ap (λ y. capped (feeds room y s)) (feed_capped x b) ∙ feeds_capped (feed room x b) s

  last_by : (line : List ℕ) (n : ℕ) (t : Night) (empty : Bool)
      → capped (if empty then reading [] (min n largest) t otherwise line_ended (min n largest) t (read_line room t line))
      ≡ capped (if empty then reading [] n t otherwise line_ended n t (read_line room t line))
  unfolding capped
  last_by line n t true = capped_twice (reading [] n t)
  last_by line n t false = line_capped n t (read_line room t line)

  pub last_capped : (x : Text) → capped (last_line room (capped x)) ≡ capped (last_line room x)
  unfolding capped last_line
  last_capped (reading line n t) = last_by line n t (eqb (length line) 0)
  last_capped (refused n reason t) = rw (twice n)

whole_by : (line : List ℕ) (n : ℕ) (t : Night) (cut : Bool)
    → capped (if cut then refused n 3 t otherwise reading line n t) ≡ (if cut then refused (min n largest) 3 t otherwise reading line (min n largest) t)
unfolding capped
whole_by line n t true = refl
whole_by line n t false = refl

pub whole_capped : (x : Text) → capped (whole_contacts x) ≡ whole_contacts (capped x)
unfolding whole_contacts capped
whole_capped (reading line n t) = whole_by line n t (in_contact t.place)
whole_capped (refused n reason t) = refl

-- the end of a text, in two
pub closed_last : (room : Counts) (x : Text) → closed room x ≡ whole_contacts (last_line room x)
unfolding closed last_line whole_contacts
closed_last room (reading line n t) = refl
closed_last room (refused n reason t) = refl

pub closed_capped : (room : Counts) (x : Text) → capped (closed room (capped x)) ≡ capped (closed room x)
closed_capped room x =
    rw (closed_last room (capped x), closed_last room x, whole_capped (last_line room (capped x)), whole_capped (last_line room x), last_capped room x)

-- the same of a reading
going_capped : (x y : Text) → capped x ≡ capped y → capped_in (going x) ≡ capped_in (going y)
unfolding capped_in
going_capped x y e = ap going e

over_capped : (x y : Text) → capped x ≡ capped y → capped_in (over x) ≡ capped_in (over y)
unfolding capped_in
over_capped x y e = ap over e

-- what capping a reading can come to, so that a wrong `taken` or `ended` fails where it is wrong
ruleset capping = (going_capped, over_capped, feeds_capped, closed_capped, capped_twice)

module _ (room : Counts) where
  pub taken_capped : (r : Reading) (s : List ℕ) → capped_in (taken room (capped_in r) s) ≡ capped_in (taken room r s)
  unfolding capped_in taken
  taken_capped (going x) [] = search capping
  taken_capped (going x) (b ∷ s) = search capping
  taken_capped (over x) s = search capping

  pub ended_capped : (r : Reading) → capped_in (ended room (capped_in r)) ≡ capped_in (ended room r)
  unfolding capped_in ended
  ended_capped (going x) = search capping
  ended_capped (over x) = search capping
