-- Call after call: however a text is cut, the reader and its tables come to what the whole text says; and after the end, and after a bad line, no
-- call changes anything. Assumes nothing.
use Prim.Native.Nat.{ℕ, ◌≤◌}
use native.Mathlib.Omega.{arith}
use mathlib.Core.List.{List, [], ◌∷◌, ◌++◌, append_assoc}
use mathlib.Core.Path.{◌≡◌, refl, sym, ◌∙◌, ap}
use lib.ListN.{length}
use Rattle.base_places.specs.Lengths.{most_in_line}
use Rattle.text_fields.specs.Fields.{Free}
use Rattle.text_fields.specs.declared.Counts.{Counts}
use Rattle.text_line.specs.Night.{Night}
use Rattle.text_line.specs.Lines.{LineCame, bad, read_line}
use Rattle.text_line.specs.Filled.{Cells, night_of, room_of}
use Rattle.text_read.specs.Text.{Text, closed, feeds, line_ended, reading, refused, text_of, unread}
use Rattle.text_read.specs.Portions.{Reading, begun, ended, going, over, taken, taken_all, whole}
use Rattle.text_read.specs.Carried.{Went, capped, capped_in, laid, reading_in, said, said_in}
use Rattle.text_read.specs.Calls.{AfterBad, AfterEnd, AnyCalls, Calls, CameTo, FirstBad, SameAnswer, Stays}
use Rattle.text_read.specs.declared.Reader.{Reader}
use Rattle.text_read.proofs.Feeding.{feeds_append, feeds_refused, line_ends}
use Rattle.text_read.proofs.Capping.{capped_twice, ended_capped, taken_capped}
use Rattle.text_read.proofs.Cutting.{any_cut}
use Rattle.text_read.proofs.Tables.{same_laid}
use Rattle.text_read.proofs.Carrying.{said_in_lem}
use Rattle.text_read.proofs.Growing.{all_grow, laid_over}

-- a cut number says nothing else
said_capped : (x : Text) → said (capped x) ≡ said x
unfolding said capped
said_capped (reading line n t) = refl
said_capped (refused n reason t) = refl

said_capped_in : (g : Reading) → said_in (capped_in g) ≡ said_in g
unfolding said_in capped_in
said_capped_in (going x) = said_capped x
said_capped_in (over x) = said_capped x

-- the calls from a reader that carries g on
module _ (room : Counts) where
  pub record Leads (g : Reading) (portions : List (List ℕ)) (w : Cells) (r : Reader) (line' : List ℕ) (w' : Cells) : Type 0 where
    pub is : reading_in r line' w' ≡ capped_in (ended room (taken_all room g portions))
    pub tables : w' ≡ laid w (said_in (ended room (taken_all room g portions)))

  abbrev Led : List (List ℕ) → Type 0
  Led portions =
      (g : Reading) (k : Reader) (line : List ℕ) (w : Cells) (r : Reader) (line' : List ℕ) (w' : Cells) → reading_in k line w ≡ capped_in g
      → room_of w ≡ room → Calls portions k line w r line' w' → Leads g portions w r line' w'

  last : Led []
  unfolding Calls taken_all
  last g k line w r line' w' e h c =
      let all : reading_in r line' w' ≡ capped_in (ended room g) = c.is ∙ rw (h, e) (ended_capped room g) in
      record { is = all; tables = c.tables ∙ ap (laid w) (ap said_in all ∙ said_capped_in (ended room g)) }

  module _ (s : List ℕ) (portions : List (List ℕ)) (on : Led portions) where
    next : Led (s ∷ portions)
    unfolding Calls taken_all
    next g k line w r line' w' e h c =
        let now : reading_in c.next c.next_line c.next_cells ≡ capped_in (taken room g s) = c.call.is ∙ rw (h, e) (taken_capped room g s) in
        let w₁ : c.next_cells ≡ laid w (said_in (taken room g s)) =
        c.call.tables ∙ ap (laid w) (ap said_in now ∙ said_capped_in (taken room g s)) in
        let rest = on (taken room g s) c.next c.next_line c.next_cells r line' w' now (c.call.kept ∙ h) c.after in
        record { is = rest.is; tables = rest.tables ∙ rw w₁ (laid_over w (all_grow room (taken room g s) portions)) }

  all_led : (portions : List (List ℕ)) → Led portions
  all_led [] = last
  all_led (s ∷ portions) = next s portions (all_led portions)

begun_low : begun ≡ capped_in begun
unfolding begun capped_in capped unread
begun_low = refl

said_over : (x : Text) → said_in (over x) ≡ said x
unfolding said_in
said_over x = refl

pub any_calls : AnyCalls
any_calls portions k line w r line' w' b c =
    let all = all_led (room_of w) portions begun k line w r line' w' (b line w ∙ begun_low) refl c in
    let cut = any_cut (room_of w) portions in
    record {
      is = all.is ∙ ap capped_in cut;
      tables = all.tables ∙ ap (laid w) (ap said_in cut ∙ said_over (text_of (room_of w) (whole portions)));
    }

-- a call that changes nothing of what is carried, but whether the end was announced
unchanged : {k k' : Reader} {line line' : List ℕ} {w w' : Cells} {next : Reading → Reading} {x : Reading} → Went k line w next k' line' w'
    → next (reading_in k line w) ≡ x → said_in x ≡ said_in (reading_in k line w) → Stays x w k' line' w'
unchanged {k} {k'} {line} {line'} {w} {w'} {next} {x} c e f =
    let all : reading_in k' line' w' ≡ capped_in x = c.is ∙ ap capped_in e in
    let before : said_in (reading_in k' line' w') ≡ night_of k.st w = ap said_in all ∙ said_capped_in x ∙ f ∙ said_in_lem k line w in
    record { is = all; tables = c.tables ∙ ap (laid w) before ∙ sym (same_laid k.st w) }

taken_over : (room : Counts) (x : Text) (s : List ℕ) → taken room (over x) s ≡ over x
unfolding taken
taken_over room x s = refl

ended_over : (room : Counts) (x : Text) → ended room (over x) ≡ over x
unfolding ended
ended_over room x = refl

pub after_end : AfterEnd
after_end x k line w k' line' w' e = (
  λ s c. unchanged c (rw e (taken_over (room_of w) x s)) (rw e),
  λ c. unchanged c (rw e (ended_over (room_of w) x)) (rw e),
)

-- the answer to a whole text stays
module _ (portions : List (List ℕ)) (w : Cells) {r : Reader} {line : List ℕ} {w₁ : Cells} (a : CameTo portions w r line w₁) where
  carried : reading_in r line w₁ ≡ over (capped (text_of (room_of w) (whole portions)))
  unfolding capped_in
  carried = a.is

  still : {r' : Reader} {line' : List ℕ} {w₂ : Cells} → Stays (over (capped (text_of (room_of w) (whole portions)))) w₁ r' line' w₂
      → CameTo portions w r' line' w₂
  unfolding capped_in
  still c = record { is = c.is ∙ ap over (capped_twice (text_of (room_of w) (whole portions))); tables = c.tables ∙ a.tables }

pub same_answer : SameAnswer
same_answer portions w r line w₁ r' line' w₂ a =
    let stay = after_end (capped (text_of (room_of w) (whole portions))) r line w₁ r' line' w₂ (carried portions w a) in
    (λ s c. still portions w a (stay.0 s c), λ c. still portions w a (stay.1 c))

-- a refused text
module _ (room : Counts) (n reason : ℕ) (t : Night) where
  taken_refused : (s : List ℕ) → taken room (going (refused n reason t)) s ≡ going (refused n reason t)
  unfolding taken
  taken_refused s = ap going (feeds_refused room n reason t s)

  ended_refused : ended room (going (refused n reason t)) ≡ over (refused n reason t)
  unfolding ended closed
  ended_refused = refl

said_either : (x : Text) → said_in (over x) ≡ said_in (going x)
unfolding said_in
said_either x = refl

pub after_bad : AfterBad
after_bad n reason t k line w k' line' w' e = (
  λ s c. unchanged c (rw e (taken_refused (room_of w) n reason t s)) (rw e),
  λ c. unchanged c (rw e (ended_refused (room_of w) n reason t)) (rw e (said_either (refused n reason t))),
)

-- the first bad line of a whole text
module _ (room : Counts) (n reason : ℕ) (t : Night) where
  ended_bad : (r : LineCame) → r ≡ bad reason → line_ended n t r ≡ refused n reason t
  unfolding line_ended
  ended_bad r e = rw e

  stays_refused : closed room (refused n reason t) ≡ refused n reason t
  unfolding closed
  stays_refused = refl

  text_bad : (before line after : List ℕ) → feeds room unread before ≡ reading [] n t → Free 10 line → length line ≤ most_in_line
      → read_line room t line ≡ bad reason → text_of room (before ++ (line ++ (10 ∷ after))) ≡ refused n reason t
  unfolding text_of
  text_bad before line after e free h q =
      let apart : line ++ (10 ∷ after) ≡ (line ++ (10 ∷ [])) ++ after = sym (append_assoc line (10 ∷ []) after) in
      let read : feeds room (reading [] n t) (line ++ (10 ∷ [])) ≡ refused n reason t =
      line_ends room n t line [] free (omega arith) ∙ ended_bad (read_line room t line) q in
      rw (feeds_append, e, apart, feeds_append room (reading [] n t), read, feeds_refused, stays_refused)

said_refused : (n reason : ℕ) (t : Night) → said (refused n reason t) ≡ t
unfolding said
said_refused n reason t = refl

pub first_bad : FirstBad
first_bad portions k line w r line' w' b c before bad_line after n reason t cut e free h q =
    let all = any_calls portions k line w r line' w' b c in
    let bad_text : text_of (room_of w) (whole portions) ≡ refused n reason t =
    ap (text_of (room_of w)) cut ∙ text_bad (room_of w) n reason t before bad_line after e free h q in
    record {
      is = all.is ∙ ap (λ x. capped_in (over x)) bad_text;
      tables = all.tables ∙ ap (laid w) (ap said bad_text ∙ said_refused n reason t);
    }
