-- Nothing of a reader is lost in its words, and which reader words are, case by case. Assumes nothing.
use Prim.Native.Nat.{ℕ, ◌≤◌}
use native.Mathlib.Omega.{arith}
use mathlib.Core.Bool.{Bool, true, false, not}
use mathlib.Core.List.{List, [], ◌∷◌}
use mathlib.Core.Path.{◌≡◌, refl, sym, ◌∙◌, ap, subst}
use lib.Dec.{eqb}
use lib.ListN.{get_or-eq_default}
use Rattle.std.specs.Int.{from_bool}
use Rattle.std.specs.Prelude.{Option, None, Some, is_some, unwrap_or}
use Rattle.text_fields.specs.declared.Counts.{Counts}
use Rattle.text_line.specs.Filled.{Cells, Sane, room_of}
use Rattle.text_line.specs.declared.Place.{Place}
use Rattle.text_line.specs.declared.Place.TheVariants.{Bodies, NormalA, TangentA, NormalB, TangentB, Contacts, Steps}
use Rattle.text_line.specs.declared.State.{State}
use Rattle.text_read.specs.Portions.{Reading}
use Rattle.text_read.specs.Carried.{Begins, Went, fresh, reading_in, settled_in, text_in}
use Rattle.text_read.specs.declared.Reader.{Reader}
use Rattle.text_read.proofs.Going.{begins}
use Rattle.text_read.proofs.Tables.{settled_night, settled_sane}
use Rattle.romaludiv.specs.Words.{AllKept, Counted, CountedIn, bad_word, bit, came_of, largest_reason, place_number, place_of, reader_of, reason_word, words_of}

place_kept : (p : Place) → place_of (place_number p) ≡ p
unfolding place_of
place_kept Bodies = refl
place_kept NormalA = refl
place_kept TangentA = refl
place_kept NormalB = refl
place_kept TangentB = refl
place_kept Contacts = refl
place_kept Steps = refl

bit_kept : (b : Bool) → not (eqb (bit b) 0) ≡ b
bit_kept true = refl
bit_kept false = refl

came_kept : (c : Option ℕ) → reason_word c ≤ largest_reason → came_of (bad_word c) (reason_word c) ≡ c
came_kept None low = refl
came_kept (Some reason) low = ap (λ (n : ℕ). Some n) (omega (arith, low))

pub all_kept : AllKept
unfolding reader_of words_of
all_kept k low = rw (bit_kept k.over, came_kept k.bad low, place_kept k.st.place) refl

-- a number past the places is the last place
pub past_places : (n : ℕ) → 6 ≤ n → Steps ≡ place_of n
unfolding place_of
past_places n past = sym (get_or-eq_default (Bodies ∷ NormalA ∷ TangentA ∷ NormalB ∷ TangentB ∷ Contacts ∷ []) Steps past)

-- a reader with its counts in these tables
counted_same : (k : Reader) (line : List ℕ) (w : Cells)
    → reading_in (record { over = k.over; bad = k.bad; number = k.number; st = settled_in k.st (room_of w); len = k.len }) line w ≡ reading_in k line w
unfolding reading_in text_in
counted_same k line w = rw (settled_night k.st w)

pub as_counted : (k : Reader) {room : Counts} {st : State} → st ≡ settled_in k.st room
    → CountedIn k room (record { over = k.over; bad = k.bad; number = k.number; st = st; len = k.len })
as_counted k p w m = rw (p, m) (record { same = λ line. counted_same k line w; within = settled_sane k.st w })

-- what a reader did between its words before and after
pub between : {line line' : List ℕ} {w w' : Cells} {next : Reading → Reading} (words words' : List ℕ) {k k' t : Reader}
    → k ≡ reader_of words → Went k line w next k' line' w' → Counted k' w' t → reader_of words' ≡ t
    → Went (reader_of words) line w next (reader_of words') line' w'
between {line' = line'} words words' from went counted to =
    rw (← from, to)
    (record {
      is = counted.same line' ∙ went.is;
      tables = rw (counted.same line') went.tables;
      kept = went.kept;
    })

pub counts : (words' : List ℕ) {w' : Cells} {k' t : Reader} → Counted k' w' t → reader_of words' ≡ t → Sane (reader_of words').st w'
counts words' {w'} counted to = subst (λ (x : Reader). Sane x.st w') (sym to) counted.within

pub begun_words : (words : List ℕ) {k : Reader} → reader_of words ≡ k → k ≡ fresh → Begins (reader_of words)
begun_words words to begun = rw (to, begun) begins

-- the words that a reader becomes, one after the other: the code's tests as words
word_of : (b : Bool) → from_bool b ≡ bit b
word_of true = refl
word_of false = refl

bad_is : (c : Option ℕ) → from_bool (is_some c) ≡ bad_word c
bad_is None = refl
bad_is (Some reason) = refl

reason_is : (c : Option ℕ) → unwrap_or c 0 ≡ reason_word c
reason_is None = refl
reason_is (Some reason) = refl

pub listed : (k : Reader) {over bad reason byte place : ℕ} {some : Bool} → over ≡ from_bool k.over → some ≡ is_some k.bad → bad ≡ from_bool some
    → byte ≡ unwrap_or k.bad 0 → reason ≡ byte → place ≡ place_number k.st.place
    → over ∷ bad ∷ reason ∷ k.number ∷ place ∷ k.st.bodies ∷ k.st.numbers ∷ k.st.floats ∷ k.st.steps ∷ k.len ∷ [] ≡ words_of k
unfolding words_of
listed k is-over is-some is-bad is-byte is-reason is-place =
    rw (is-over, is-bad, is-some, is-reason, is-byte, is-place, word_of, bad_is, reason_is) refl

-- and back
pub back : (k : Reader) {words : List ℕ} {byte : ℕ} → words ≡ words_of k → byte ≡ unwrap_or k.bad 0 → byte ≤ largest_reason → reader_of words ≡ k
back k are is-byte low = rw are (all_kept k (rw (← (reason_is k.bad), ← is-byte) low))
