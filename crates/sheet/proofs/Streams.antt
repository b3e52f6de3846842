-- What was read and what was written, where the bytes of both are known. Assumes nothing.
use Rattle.std.specs.Prelude.{ℕ, Bool, true, false, not, ◌&&◌, List, [], ◌++◌, ◌≡◌, None, Some, IfSome, Option, Result, Ok, Err, OnOk, is_ok, ltb, take, refl}
use Rattle.std.proofs.Common.{ap, sym, subst, ◌∙◌, append-nil, arith}
use Rattle.std.proofs.KnownBytes.{Consumes-nil, Consumes-trans}
use Rattle.std.specs.Io.KnownBytes.{Appends, Consumes, IsAtEnd}
use Rattle.text_line.specs.Night.{of_program}
use Rattle.text_line.specs.Filled.{Cells, room_of}
use Rattle.text_read.specs.Carried.{Begins, capped_in, fresh, is_bad, reading_in}
use Rattle.text_read.specs.declared.Reader.{Reader}
use Rattle.text_read.specs.Portions.{going}
use Rattle.text_read.specs.Text.{feeds, unread}
use Rattle.text_read.proofs.Going.{begins}
use Rattle.text_read.proofs.Whole.{begun_fed, fed_more}
use Rattle.text_output.specs.Output.{output}
use Rattle.text_program.specs.Answered.{Answered}
use Rattle.text_program.specs.Tables.{RowsZero}
use Rattle.text_program.proofs.InPortions.{answers_early}
use Rattle.sheet.specs.Once.{AnsweredOnce, Onward, ReadOnce}
use Rattle.sheet.proofs.Sheets.{FedBy}

-- the program's tables have the program's room
pub zeros_room : (w : Cells) → RowsZero w → room_of w ≡ of_program
unfolding room_of of_program
zeros_room w z = rw (z.bodies, z.numbers, z.floats, z.steps)

-- where no error is handed on, none was met
pub well_written : {E A : Type 0} (r : Result Unit E) {ok : Bool} → ok ≡ is_ok r → OnOk r A → ok ≡ true → A
well_written (Ok x) v a t = a
well_written (Err e) v a t = absurd cc

-- what was read of the input so far is what k was fed
pub record Fed (old now : Option (List ℕ)) (k : Reader) (line : List ℕ) (w : Cells) : Type 0 where
  pub so_far : List ℕ
  pub fed : FedBy so_far k line w
  pub took : Consumes old now so_far

pub fed_none : (old : Option (List ℕ)) (k : Reader) (line : List ℕ) (w : Cells) → k ≡ fresh → room_of w ≡ of_program → Fed old old k line w
fed_none old k line w e room = let b : Begins k = rw e begins in record { so_far = []; fed = record { carried = b line w ∙ begun_fed (room_of w); room = room }; took = Consumes-nil old }

pub fed_next : {old now now' : Option (List ℕ)} {k : Reader} {line : List ℕ} {w : Cells} {r : Onward} {portion' line' : List ℕ} {w' : Cells}
    → Fed old now k line w → ReadOnce k line w r portion' line' w' → Consumes now now' (take r.read portion') → Fed old now' r.reader line' w'
fed_next f once took = record {
  so_far = f.so_far ++ take _ _;
  fed = record { carried = fed_more f.so_far _ f.fed.carried once.call; room = once.call.kept ∙ f.fed.room };
  took = Consumes-trans _ _ _ _ _ f.took took;
}

-- the reading stopped at the end, or after a bad line, and what was read was answered
pub all_answered : (old now : Option (List ℕ)) {k : Reader} {line : List ℕ} {w : Cells} {o o' : List ℕ} {n : ℕ} → Fed old now k line w
    → (is_bad k.bad ≡ false → IsAtEnd now) → AnsweredOnce k line w o o' n → IfSome old (λ text. take n o' ≡ output text)
all_answered None now f stopped v = tt
all_answered (Some text) None f stopped v = absurd f.took
all_answered (Some text) (Some rest) {k = k} {line = line} {w = w} {o = o} {o' = o'} {n = n} f stopped v =
    by (is_bad k.bad) refl (v.whole f.so_far carried)
  where
    carried : reading_in k line w ≡ capped_in (going (feeds of_program unread f.so_far))
    carried = rw f.fed.room at f.fed.carried

    by : (bad : Bool) → is_bad k.bad ≡ bad → Answered f.so_far o o' n → take n o' ≡ output text
    by true e a = (answers_early f.so_far rest k line w o o' n carried e a).told ∙ ap output (sym f.took)
    by false e a = a.told ∙ ap output (sym (f.took ∙ ap (λ l. f.so_far ++ l) (stopped e) ∙ append-nil f.so_far))

-- and the answer written, to where nothing was written before it
pub all_written : (old now start to to' : Option (List ℕ)) {k : Reader} {line : List ℕ} {w : Cells} {o o' : List ℕ} {n : ℕ} → Fed old now k line w
    → (is_bad k.bad ≡ false → IsAtEnd now) → AnsweredOnce k line w o o' n → to ≡ start → Appends to to' (take n o')
    → IfSome old (λ text. Appends start to' (output text))
all_written None now start to to' f stopped v e h = tt
all_written (Some text) now start to to' f stopped v e h =
    subst (λ t. Appends t to' (output text)) e (subst (Appends to to') (all_answered (Some text) now f stopped v) h)

-- a turn that went well, after which no more is read
pub nothing_read : (more well bad : Bool) (n : ℕ) → more ≡ false → well ≡ true → more ≡ well && (ltb 0 n && not bad) → bad ≡ false → n ≡ 0
nothing_read more well bad n m w e b = grind arith
