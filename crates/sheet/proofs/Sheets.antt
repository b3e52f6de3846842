-- Reading after reading, and then the end. Assumes nothing.
use Prim.Native.Nat.{ℕ}
use mathlib.Core.Bool.{Bool, true, false}
use mathlib.Core.List.{List, [], ◌∷◌, ◌++◌, append_assoc, append-nil}
use mathlib.Core.Path.{◌≡◌, refl, ◌∙◌}
use Rattle.text_line.specs.Night.{of_program}
use Rattle.text_line.specs.Filled.{Cells, room_of}
use Rattle.text_read.specs.Text.{feeds, unread}
use Rattle.text_read.specs.Portions.{going, whole}
use Rattle.text_read.specs.Carried.{Takes, capped_in, is_bad, reading_in}
use Rattle.text_read.specs.declared.Reader.{Reader}
use Rattle.text_read.proofs.Whole.{begun_fed, fed_more}
use Rattle.text_program.specs.Answered.{Answered}
use Rattle.text_program.proofs.InPortions.{answers_early}
use Rattle.sheet.specs.Sheets.{Reads, SheetAnswers}

-- k was fed y
pub record FedBy (y : List ℕ) (k : Reader) (line : List ℕ) (w : Cells) : Type 0 where
  pub carried : reading_in k line w ≡ capped_in (going (feeds (room_of w) unread y))
  pub room : room_of w ≡ of_program

abbrev AllRead : List (List ℕ) → Type 0
AllRead portions =
    (y : List ℕ) (k : Reader) (line : List ℕ) (w : Cells) (k' : Reader) (line' : List ℕ) (w' : Cells) → FedBy y k line w
    → Reads portions k line w k' line' w' → FedBy (y ++ whole portions) k' line' w'

all_read : (portions : List (List ℕ)) → AllRead portions
unfolding Reads whole
all_read [] y k line w k' line' w' f c = rw (append-nil, c.same_reader, c.same_line, c.same_cells) f
all_read (s ∷ portions) y k line w k' line' w' f c =
    let taken : Takes k line w s c.onward.reader c.next_line c.next_cells = rw c.read at c.call.call in
    let now : FedBy (y ++ s) c.onward.reader c.next_line c.next_cells =
    record { carried = fed_more y s f.carried taken; room = taken.kept ∙ f.room } in
    rw append_assoc at (all_read portions (y ++ s) c.onward.reader c.next_line c.next_cells k' line' w' now c.after)

pub sheet_answers : SheetAnswers
sheet_answers portions rest k line w k' line' w' o o' number b room c v stopped =
    let start : FedBy [] k line w = record { carried = b line w ∙ begun_fed (room_of w); room = room } in
    let f : FedBy (whole portions) k' line' w' = all_read portions [] k line w k' line' w' start c in
    let carried : reading_in k' line' w' ≡ capped_in (going (feeds of_program unread (whole portions))) = rw f.room at f.carried in
    by carried (is_bad k'.bad) refl (v.whole (whole portions) carried)
  where
    by : reading_in k' line' w' ≡ capped_in (going (feeds of_program unread (whole portions))) → (bad : Bool) → is_bad k'.bad ≡ bad
        → Answered (whole portions) o o' number → Answered (whole portions ++ rest) o o' number
    by carried true e a = answers_early (whole portions) rest k' line' w' o o' number carried e a
    by carried false e a = let none : rest ≡ [] = stopped e in rw (none, append-nil) a
