-- Document 02, E8, "carries a state between them": a reader as ten words, which a host keeps between its calls. A host can put anything
-- into its memory, so any words are a reader. Assumes nothing.
use Rattle.std.specs.Prelude.{ℕ, ◌≤◌, min, Bool, not, Option, None, Some, List, [], ◌∷◌, ◌≡◌, eqb, get_or}
use Rattle.base_words.specs.Choice.{if◌then◌otherwise◌}
use Rattle.text_fields.specs.declared.Counts.{Counts}
use Rattle.text_line.specs.Filled.{Cells, Sane, room_of}
use Rattle.text_line.specs.declared.Place.{Place}
use Rattle.text_line.specs.declared.Place.TheVariants.{Bodies, NormalA, TangentA, NormalB, TangentB, Contacts, Steps}
use Rattle.text_read.specs.Carried.{reading_in}
use Rattle.text_read.specs.declared.Reader.{Reader}

-- the place in the order of lines by its number; any other number is the last place, among the steps
unfoldable pub place_of : ℕ → Place
place_of n = get_or (Bodies ∷ NormalA ∷ TangentA ∷ NormalB ∷ TangentB ∷ Contacts ∷ []) n Steps

-- a reason is a byte: any larger word is 255
abbrev pub largest_reason : ℕ
largest_reason = 255

abbrev pub came_of : ℕ → ℕ → Option ℕ
came_of bad reason = if eqb bad 0 then None otherwise Some (min reason largest_reason)

abbrev pub word : List ℕ → ℕ → ℕ
word words i = get_or words i 0

-- the reader that words are: a word that is not 0 says yes
unfoldable pub reader_of : List ℕ → Reader
reader_of words = record {
  over = not (eqb (word words 0) 0);
  bad = came_of (word words 1) (word words 2);
  number = word words 3;
  st = record {
    place = place_of (word words 4);
    bodies = word words 5;
    numbers = word words 6;
    floats = word words 7;
    steps = word words 8;
  };
  len = word words 9;
}

-- and the words that a reader becomes
abbrev pub bit : Bool → ℕ
bit b = if b then 1 otherwise 0

abbrev pub bad_word : Option ℕ → ℕ
bad_word None = 0
bad_word (Some reason) = 1

abbrev pub reason_word : Option ℕ → ℕ
reason_word None = 0
reason_word (Some reason) = reason

abbrev pub place_number : Place → ℕ
place_number Bodies = 0
place_number NormalA = 1
place_number TangentA = 2
place_number NormalB = 3
place_number TangentB = 4
place_number Contacts = 5
place_number Steps = 6

unfoldable pub words_of : Reader → List ℕ
words_of k =
    bit k.over
    ∷ bad_word k.bad
    ∷ reason_word k.bad
    ∷ k.number
    ∷ place_number k.st.place
    ∷ k.st.bodies
    ∷ k.st.numbers
    ∷ k.st.floats
    ∷ k.st.steps
    ∷ k.len
    ∷ []

-- nothing of a reader whose reason is a byte, as in code it is, is lost in its words; proved in proofs/Keeping.antt
abbrev pub AllKept : Type 0
AllKept = (k : Reader) → reason_word k.bad ≤ largest_reason → reader_of (words_of k) ≡ k

-- a reader that carries the same as k, with no count past its table's end
pub record Counted (k : Reader) (w : Cells) (r : Reader) : Type 0 where
  pub same : (line : List ℕ) → reading_in r line w ≡ reading_in k line w
  pub within : Sane r.st w

-- the same in any tables that hold so many numbers
abbrev pub CountedIn : Reader → Counts → Reader → Type 0
CountedIn k room r = (w : Cells) → room ≡ room_of w → Counted k w r
