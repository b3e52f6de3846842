-- What a text said only grows: no line takes anything off a table. So what was said later, laid over what was said before, leaves nothing of
-- that. Assumes nothing.
use Prim.Native.Nat.{ℕ, suc, ◌+◌, ◌-◌, ◌≤◌}
use native.Mathlib.Omega.{arith}
use mathlib.Core.Bool.{Bool, true, false}
use mathlib.Core.List.{List, [], ◌∷◌, ◌++◌}
use mathlib.Core.Path.{◌≡◌, refl, ◌∙◌, ap}
use lib.Dec.{eqb, ltb}
use lib.ListN.{drop, length, length-append, take}
use lib.Seq.{drop-drop}
use Rattle.std.specs.Prelude.{Option, None, Some}
use Rattle.base_words.specs.Choice.{if◌then◌otherwise◌}
use Rattle.base_places.specs.Lengths.{most_in_line}
use Rattle.text_fields.specs.Fields.{Says, Values}
use Rattle.text_fields.specs.Letters.{adds, line_letter, says}
use Rattle.text_fields.specs.declared.Counts.{Counts}
use Rattle.text_fields.specs.declared.Letter.{Letter}
use Rattle.text_fields.specs.declared.Letter.TheVariants.{Other}
use Rattle.text_line.specs.Night.{Night}
use Rattle.text_line.specs.Lines.{LineCame, bad, filled, full, good, in_contact, is, next_place, ordered, put, read_letter, read_line}
use Rattle.text_line.specs.Filled.{Cells}
use Rattle.text_line.specs.declared.Place.{Place}
use Rattle.text_read.specs.Text.{Text, closed, feed, feeds, line_ended, reading, refused, whole_contacts}
use Rattle.text_read.specs.Portions.{Reading, ended, going, over, taken, taken_all}
use Rattle.text_read.specs.Carried.{laid, on_front, said, said_in}

-- no table of a night is shorter than one before
pub record Grows (t t' : Night) : Type 0 where
  pub bodies : length t.bodies ≤ length t'.bodies
  pub numbers : length t.numbers ≤ length t'.numbers
  pub floats : length t.floats ≤ length t'.floats
  pub steps : length t.steps ≤ length t'.steps

same : (t : Night) → Grows t t
same t = record { bodies = omega arith; numbers = omega arith; floats = omega arith; steps = omega arith }

further : {t u v : Night} → Grows t u → Grows u v → Grows t v
further a b = record {
  bodies = omega (arith, a.bodies, b.bodies);
  numbers = omega (arith, a.numbers, b.numbers);
  floats = omega (arith, a.floats, b.floats);
  steps = omega (arith, a.steps, b.steps);
}

-- a line
longer : (l more : List ℕ) → length l ≤ length (l ++ more)
longer l more = omega (arith, length-append l more)

put_grows : (l : Letter) (place : Place) (numbers bits : List ℕ) (t : Night) → Grows t (put l place numbers bits t)
unfolding put
put_grows l place numbers bits t = record {
  bodies = longer t.bodies (take (adds l).bodies bits);
  numbers = longer t.numbers (take (adds l).numbers numbers);
  floats = longer t.floats (take (adds l).floats bits);
  steps = longer t.steps (take (adds l).steps numbers);
}

-- a good line's night, or the night before a bad one
abbrev after : Night → LineCame → Night
after t (good t') = t'
after t (bad reason) = t

filled_by : (l : Letter) (place : Place) (t : Night) (numbers bits : List ℕ) (none : Bool)
    → Grows t (after t (if none then bad 5 otherwise good (put l place numbers bits t)))
filled_by l place t numbers bits true = same t
filled_by l place t numbers bits false = put_grows l place numbers bits t

module _ (room : Counts) (t : Night) where
  filled_grows : (l : Letter) (place : Place) (v : Option Values) → Grows t (after t (filled room l place t v))
  unfolding filled
  filled_grows l place None = same t
  filled_grows l place (Some (Says numbers bits)) = filled_by l place t numbers bits (full room l t)

  ordered_grows : (l : Letter) (next : Option Place) (v : Option Values) → Grows t (after t (ordered room l next t v))
  unfolding ordered
  ordered_grows l None v = same t
  ordered_grows l (Some place) v = filled_grows l place v

  letter_by : (l : Letter) (next : Option Place) (v : Option Values) (other : Bool) → Grows t (after t (if other then bad 2 otherwise ordered room l next t v))
  letter_by l next v true = same t
  letter_by l next v false = ordered_grows l next v

  line_grows : (line : List ℕ) → Grows t (after t (read_line room t line))
  unfolding read_line read_letter
  line_grows line =
      letter_by (line_letter line) (next_place (line_letter line) t.place) (says (line_letter line) line) (is (line_letter line) Other)

ended_said : (n : ℕ) (t : Night) (r : LineCame) → said (line_ended n t r) ≡ after t r
unfolding said line_ended
ended_said n t (good t') = refl
ended_said n t (bad reason) = refl

module _ (room : Counts) where
  read_grows : (n : ℕ) (t : Night) (line : List ℕ) → Grows t (said (line_ended n t (read_line room t line)))
  read_grows n t line = rw (ended_said n t (read_line room t line)) (line_grows room t line)

  -- a byte
  feed_by : (line : List ℕ) (n : ℕ) (t : Night) (b : ℕ) (ends fits : Bool)
      → Grows t (said (if ends then line_ended n t (read_line room t line) otherwise if fits then reading (line ++ (b ∷ [])) n t otherwise refused n 1 t))
  unfolding said
  feed_by line n t b true fits = read_grows n t line
  feed_by line n t b false true = same t
  feed_by line n t b false false = same t

  feed_grows : (x : Text) (b : ℕ) → Grows (said x) (said (feed room x b))
  unfolding said feed
  feed_grows (reading line n t) b = feed_by line n t b (eqb b 10) (ltb (length line) most_in_line)
  feed_grows (refused n reason t) b = same t

  -- a portion
  feeds_grows : (x : Text) (s : List ℕ) → Grows (said x) (said (feeds room x s))
  unfolding feeds
  feeds_grows x [] = same (said x)
  feeds_grows x (b ∷ s) = further (feed_grows x b) (feeds_grows (feed room x b) s)

  -- the end
  last_by : (line : List ℕ) (n : ℕ) (t : Night) (none : Bool)
      → Grows t (said (if none then reading [] n t otherwise line_ended n t (read_line room t line)))
  unfolding said
  last_by line n t true = same t
  last_by line n t false = read_grows n t line

  whole_by : (line : List ℕ) (n : ℕ) (t : Night) (cut : Bool) → said (if cut then refused n 3 t otherwise reading line n t) ≡ t
  unfolding said
  whole_by line n t true = refl
  whole_by line n t false = refl

  whole_said : (x : Text) → said (whole_contacts x) ≡ said x
  unfolding said whole_contacts
  whole_said (reading line n t) = whole_by line n t (in_contact t.place)
  whole_said (refused n reason t) = refl

  closed_grows : (x : Text) → Grows (said x) (said (closed room x))
  unfolding said closed
  closed_grows (reading line n t) =
      rw (whole_said (if eqb (length line) 0 then reading [] n t otherwise line_ended n t (read_line room t line))) (last_by line n t (eqb (length line) 0))
  closed_grows (refused n reason t) = same t

  -- the same of a reading, whatever is taken of it, so that a wrong `taken` or `ended` fails where it is wrong
  ruleset growing = (feeds_grows, closed_grows, same)

  taken_grows : (g : Reading) (s : List ℕ) → Grows (said_in g) (said_in (taken room g s))
  unfolding said_in taken
  taken_grows (going x) s = search growing
  taken_grows (over x) s = search growing

  ended_grows : (g : Reading) → Grows (said_in g) (said_in (ended room g))
  unfolding said_in ended
  ended_grows (going x) = search growing
  ended_grows (over x) = search growing

  -- from any portion to the end
  pub all_grow : (g : Reading) (portions : List (List ℕ)) → Grows (said_in g) (said_in (ended room (taken_all room g portions)))
  unfolding taken_all
  all_grow g [] = ended_grows g
  all_grow g (s ∷ portions) = further (taken_grows g s) (all_grow (taken room g s) portions)

-- what is laid over a shorter front hides it
drop_past : (l u : List ℕ) (n : ℕ) → drop (length l + n) (l ++ u) ≡ drop n u
drop_past [] u n = let e : 0 + n ≡ n = omega arith in ap (λ m. drop m u) e
drop_past (x ∷ l) u n =
    let e : length (x ∷ l) + n ≡ suc (length l + n) = omega arith in
    ap (λ m. drop m (x ∷ (l ++ u))) e ∙ drop_past l u n

hidden : (table l u : List ℕ) → length l ≤ length u → on_front (on_front table l) u ≡ on_front table u
hidden table l u h =
    let e : length l + (length u - length l) ≡ length u = omega arith in
    let past : drop (length u) (l ++ drop (length l) table) ≡ drop (length u) table =
    rw (← e) (drop_past l (drop (length l) table) (length u - length l) ∙ drop-drop (length u - length l) (length l) table) in
    rw past

pub laid_over : (w : Cells) {t u : Night} → Grows t u → laid (laid w t) u ≡ laid w u
unfolding laid
laid_over w {t} {u} g =
    rw (
      hidden w.bodies t.bodies u.bodies g.bodies,
      hidden w.numbers t.numbers u.numbers g.numbers,
      hidden w.floats t.floats u.floats g.floats,
      hidden w.steps t.steps u.steps g.steps,
    )
