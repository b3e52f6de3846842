-- The bits that a text says, of bodies and of contacts, fit in 32 bits. Assumes nothing.
use Prim.Native.Nat.{ℕ, zero, suc, ◌≤◌}
use mathlib.Core.Bool.{Bool, true, false, cond}
use mathlib.Core.List.{List, [], ◌∷◌, ◌++◌}
use mathlib.Core.Path.{◌≡◌, refl}
use lib.Dec.{eqb, ltb}
use lib.ListN.{length, take}
use Rattle.base_places.specs.Lengths.{most_in_line}
use Rattle.std.specs.Prelude.{Option, Some, None, option_and_then}
use Rattle.text_fields.specs.Fields.{Says, Taken, These, Values, ended, fields, in_form, takes, then_bits, values}
use Rattle.text_fields.specs.Got.{Small, most}
use Rattle.text_fields.specs.Letters.{adds, after_letter, asked, line_letter, says}
use Rattle.text_fields.specs.declared.Form.TheVariants.{Decimal, Hex}
use Rattle.text_fields.specs.declared.Letter.{Letter}
use Rattle.text_fields.specs.declared.Letter.TheVariants.{Other}
use Rattle.text_fields.proofs.Small.{both_small, in_form_small, take_small}
use Rattle.text_line.specs.Night.{Night, blank, of_program}
use Rattle.text_line.specs.Lines.{LineCame, bad, filled, full, good, in_contact, is, next_place, ordered, put, read_letter, read_line}
use Rattle.text_line.specs.declared.Place.{Place}
use Rattle.text_read.specs.Text.{Text, closed, feed, feeds, line_ended, reading, refused, text_of, unread, whole_contacts}

-- the bits that fields say
abbrev SmallTaken : Option Taken → Type 0
SmallTaken (Some (These l fs)) = Small (most Hex) l
SmallTaken None = Unit

one_small : (f : List ℕ) (x : Option ℕ) → in_form Hex f ≡ x → (go_on : ℕ → Option Taken) → ((n : ℕ) → n ≤ most Hex → SmallTaken (go_on n))
    → SmallTaken (option_and_then go_on x)
one_small f (Some n) e go_on later = later n (in_form_small Hex f n e)
one_small f None e go_on later = tt

takes_small : (k : ℕ) (l : List ℕ) (fs : List (List ℕ)) → Small (most Hex) l → SmallTaken (takes Hex l k fs)
unfolding takes
takes_small zero l fs h = h
takes_small (suc k) l [] h = tt
takes_small (suc k) l (f ∷ fs) h =
    one_small f (in_form Hex f) refl (λ n. takes Hex (l ++ (n ∷ [])) k fs)
    (λ n i. takes_small k (l ++ (n ∷ [])) fs (both_small (most Hex) l (n ∷ []) h (i, tt)))

-- the bits that a line says
abbrev SmallValues : Option Values → Type 0
SmallValues (Some (Says numbers bits)) = Small (most Hex) bits
SmallValues None = Unit

ended_small : (numbers : List ℕ) (x : Option Taken) → SmallTaken x → SmallValues (ended numbers x)
unfolding ended
ended_small numbers (Some (These bits [])) h = h
ended_small numbers (Some (These bits (f ∷ fs))) h = tt
ended_small numbers None h = tt

then_small : (k : ℕ) (x : Option Taken) → SmallValues (then_bits k x)
unfolding then_bits
then_small k (Some (These numbers fs)) = ended_small numbers (takes Hex [] k fs) (takes_small k [] fs tt)
then_small k None = tt

says_small : (l : Letter) (line : List ℕ) → SmallValues (says l line)
unfolding says values
says_small l line = then_small (asked Hex l) (takes Decimal [] (asked Decimal l) (after_letter (fields line)))

-- what has been read
pub record SmallBits (t : Night) : Type 0 where
  pub bodies : Small (most Hex) t.bodies
  pub floats : Small (most Hex) t.floats

abbrev SmallCame : LineCame → Type 0
SmallCame (good t) = SmallBits t
SmallCame (bad reason) = Unit

-- a test may make the line bad
or_bad : (test : Bool) (reason : ℕ) (x : LineCame) → SmallCame x → SmallCame (cond test (bad reason) x)
or_bad true reason x h = tt
or_bad false reason x h = h

module _ (t : Night) (before : SmallBits t) where
  filled_small : (l : Letter) (place : Place) (v : Option Values) → SmallValues v → SmallCame (filled of_program l place t v)
  unfolding filled put
  filled_small l place (Some (Says numbers bits)) h =
      or_bad (full of_program l t) 5 (good (put l place numbers bits t))
      (record {
        bodies = both_small (most Hex) t.bodies (take (adds l).bodies bits) before.bodies (take_small (most Hex) (adds l).bodies bits h);
        floats = both_small (most Hex) t.floats (take (adds l).floats bits) before.floats (take_small (most Hex) (adds l).floats bits h);
      })
  filled_small l place None h = tt

  ordered_small : (l : Letter) (next : Option Place) (v : Option Values) → SmallValues v → SmallCame (ordered of_program l next t v)
  unfolding ordered
  ordered_small l (Some place) v h = filled_small l place v h
  ordered_small l None v h = tt

  letter_small : (l : Letter) (v : Option Values) → SmallValues v → SmallCame (read_letter of_program t l v)
  unfolding read_letter
  letter_small l v h =
      or_bad (is l Other) 2 (ordered of_program l (next_place l t.place) t v) (ordered_small l (next_place l t.place) v h)

  line_small : (line : List ℕ) → SmallCame (read_line of_program t line)
  unfolding read_line
  line_small line = letter_small (line_letter line) (says (line_letter line) line) (says_small (line_letter line) line)

-- what the lines of a text said
abbrev SmallText : Text → Type 0
SmallText (reading line n t) = SmallBits t
SmallText (refused n reason t) = Unit

-- a test decides between two texts
either : (test : Bool) (x y : Text) → SmallText x → SmallText y → SmallText (cond test x y)
either true x y h i = h
either false x y h i = i

ended_line : (n : ℕ) (t : Night) (x : LineCame) → SmallCame x → SmallText (line_ended n t x)
unfolding line_ended
ended_line n t (good t') h = h
ended_line n t (bad reason) h = tt

-- one byte more, and so many more
fed_small : (x : Text) (b : ℕ) → SmallText x → SmallText (feed of_program x b)
unfolding feed
fed_small (reading line n t) b h =
    either (eqb b 10) (line_ended n t (read_line of_program t line))
    (cond (ltb (length line) most_in_line) (reading (line ++ (b ∷ [])) n t) (refused n 1 t))
    (ended_line n t (read_line of_program t line) (line_small t h line))
    (either (ltb (length line) most_in_line) (reading (line ++ (b ∷ [])) n t) (refused n 1 t) h tt)
fed_small (refused n reason t) b h = tt

feeds_small : (s : List ℕ) (x : Text) → SmallText x → SmallText (feeds of_program x s)
unfolding feeds
feeds_small [] x h = h
feeds_small (b ∷ s) x h = feeds_small s (feed of_program x b) (fed_small x b h)

whole_small : (x : Text) → SmallText x → SmallText (whole_contacts x)
unfolding whole_contacts
whole_small (reading line n t) h = either (in_contact t.place) (refused n 3 t) (reading line n t) tt h
whole_small (refused n reason t) h = tt

closed_small : (x : Text) → SmallText x → SmallText (closed of_program x)
unfolding closed
closed_small (reading line n t) h =
    whole_small (cond (eqb (length line) 0) (reading [] n t) (line_ended n t (read_line of_program t line)))
    (either (eqb (length line) 0) (reading [] n t) (line_ended n t (read_line of_program t line)) h
    (ended_line n t (read_line of_program t line) (line_small t h line)))
closed_small (refused n reason t) h = tt

text_small : (s : List ℕ) → SmallText (text_of of_program s)
unfolding text_of unread blank
text_small s = closed_small (feeds of_program unread s) (feeds_small s unread (record { bodies = tt; floats = tt }))

-- of a text that was read to its end
pub bits_small : (s line : List ℕ) (n : ℕ) (t : Night) → text_of of_program s ≡ reading line n t → SmallBits t
bits_small s line n t e = rw e at (text_small s)
