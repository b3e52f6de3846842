-- What the program carries, for a file of which so much has been read, for the contracts of the functions of this crate. Assumes nothing.
use Rattle.std.specs.Prelude.{ℕ, ◌+◌, ◌-◌, ◌≤◌, ◌<◌, not, List, [], ◌++◌, ◌≡◌, eqb, drop, length, take}
use Rattle.base_words.specs.Choice.{if◌then◌otherwise◌}
use Rattle.base_places.specs.Lengths.{largest}
use Rattle.text_digits.specs.Wrote.{Wrote}
use Rattle.text_line.specs.Filled.{room_of}
use Rattle.text_read.specs.Text as text
use Rattle.text_read.specs.Text.{unread}
use Rattle.text_read.specs.Portions.{going}
use Rattle.text_read.specs.Carried.{capped_in, reading_in}
use Rattle.replay_days.specs.Judged.{only_d}
use Rattle.replay_days.specs.Going as days
use Rattle.replay_days.specs.Going.{
  Going,
  comparing,
  differing,
  end_tells,
  feeds,
  finish,
  line_ended,
  line_says,
  part_after,
  reading,
  start,
  tells,
}
use Rattle.replay_judge.specs.Carried.{Buffers}
use Rattle.replay_judge.specs.declared.Feeding.{Feeding}
use Rattle.replay_judge.specs.declared.Judge.{Judge}
use Rattle.replay_compare.specs.declared.LineSoFar.{LineSoFar}
use Rattle.replay_compare.specs.declared.Spot.{Spot}
use Rattle.replay_judge.specs.declared.Part.{Part}
use Rattle.replay_judge.specs.declared.Part.TheVariants.{Comparing, Differing, Input}
use Rattle.replay_judge.specs.declared.Turn.{Turn}
use Rattle.replay_judge.specs.declared.Turned.{Turned}
use Rattle.replay_compare.specs.Spots.{shape_of}
use Rattle.replay_compare.specs.Meets.{Meets}

-- a D may be the end of the input: it is held back until its line goes on
abbrev pub held_back : List ℕ → List ℕ
held_back line = if only_d line then [] otherwise line

-- the reader of a day's input has been fed the lines x and what there is of the next
pub record Follows (f : Feeding) (input : Buffers) (x line : List ℕ) : Type 0 where
  pub carried : reading_in f.reader input.line input.tables
      ≡ capped_in (going (text.feeds (room_of input.tables) unread (x ++ held_back line)))
  pub any : f.any ≡ not (eqb (length x) 0)

unfoldable pub StandsPart : Part → Buffers → List ℕ → days.Part → List ℕ → Type 0
StandsPart (Input f) input out (reading x) line = Follows f input x line
StandsPart (Input f) input out (comparing left k) line = ⊥
StandsPart (Input f) input out differing line = ⊥
StandsPart (Comparing p) input out (reading x) line = ⊥
StandsPart (Comparing p) input out (comparing left k) line = Meets p out line left k
StandsPart (Comparing p) input out differing line = ⊥
StandsPart Differing input out (reading x) line = ⊥
StandsPart Differing input out (comparing left k) line = ⊥
StandsPart Differing input out differing line = Unit

-- j, with the buffers of a day's input and its output in another, is what is carried at g
pub record Stands (j : Judge) (input : Buffers) (out : List ℕ) (g : Going) : Type 0 where
  pub day : j.day ≡ g.day
  pub line : j.line ≡ shape_of g.line
  pub part : StandsPart j.part input out g.part g.line

-- something was told, of any place g in a file that j stands for; the number of a day that is at most k days later has to fit a machine word
pub record Tells (j : Judge) (input : Buffers) (out told : List ℕ) (at k : ℕ) (says : Going → List ℕ) (told' : List ℕ) (at' : ℕ) : Type 0 where
  pub wrote : (g : Going) → Stands j input out g → g.day + k ≤ largest → Wrote told at (says g) told' at'
  pub within : at' ≤ length told

-- and g went on to `next` g
pub record Turns (j : Judge) (input : Buffers) (out told : List ℕ) (at k : ℕ) (next : Going → Going) (says : Going → List ℕ) (r : Turned)
    (input' : Buffers) (out' told' : List ℕ) : Type 0 where
  pub tells : Tells j input out told at k says told' r.at
  pub goes : (g : Going) → Stands j input out g → g.day + k ≤ largest → Stands r.judge input' out' (next g)

-- what is carried on, and the place after what was told
abbrev pub turned : Judge → ℕ → Turned
turned judge at = record { judge = judge; at = at }

-- the line ended
abbrev pub EndsLine : Judge → Buffers → List ℕ → List ℕ → ℕ → Turned → Buffers → List ℕ → List ℕ → Type 0
EndsLine j input out told at r input' out' told' =
    Turns j input out told at 1 line_ended line_says r input' out' told'

-- a recorded line ended, before any that differs; the input's buffers are not looked at
abbrev pub EndsComparing : ℕ → LineSoFar → Spot → List ℕ → List ℕ → ℕ → Turned → List ℕ → Type 0
EndsComparing day line p out told at r told' =
    (input : Buffers) → EndsLine (record { day = day; line = line; part = Comparing p }) input out told at r input out told'

-- the line went on with a run of bytes
abbrev pub GoesOn : Judge → List ℕ → Buffers → List ℕ → Judge → Buffers → Type 0
GoesOn j run input out r input' =
    (g : Going) → Stands j input out g
    → Stands r input' out (record { day = g.day; part = g.part; line = g.line ++ run })

-- in a day's input it did
abbrev pub FeedsInput : LineSoFar → LineSoFar → Feeding → List ℕ → Buffers → Feeding → Buffers → Type 0
FeedsInput before after f run input f' input' =
    (x l : List ℕ) → before ≡ shape_of l → after ≡ shape_of (l ++ run) → Follows f input x l → Follows f' input' x (l ++ run)

-- a line ended in a day's input
abbrev pub EndsInput : LineSoFar → Feeding → Buffers → List ℕ → Part → Buffers → List ℕ → Type 0
EndsInput line f input out r input' out' =
    (x l : List ℕ) → line ≡ shape_of l → Follows f input x l → StandsPart r input' out' (part_after (reading x) l) []

-- the beginning of a file, whatever stands in the buffers
abbrev pub Begins : Judge → Type 0
Begins j = (input : Buffers) (out : List ℕ) → Stands j input out start

-- the file ended after a whole line
pub record EndsDay (j : Judge) (told : List ℕ) (at : ℕ) (told' : List ℕ) (at' : ℕ) : Type 0 where
  pub wrote : (input : Buffers) (out : List ℕ) (g : Going) → Stands j input out g → g.line ≡ [] → Wrote told at (end_tells g.day g.part) told' at'
  pub within : at' ≤ length told

-- the file ended, and all that its end tells was told
pub record Finishes (j : Judge) (input : Buffers) (out told told' : List ℕ) (at' : ℕ) : Type 0 where
  pub tells : Tells j input out told 0 1 finish told' at'
  pub whole : (g : Going) → Stands j input out g → g.day + 1 ≤ largest → take at' told' ≡ finish g

-- the bytes s were read
abbrev pub Portion : Judge → Buffers → List ℕ → List ℕ → List ℕ → Turned → Buffers → List ℕ → List ℕ → Type 0
Portion j input out told s r input' out' told' =
    Turns j input out told 0 (length s) (λ g. feeds g s) (λ g. tells g s) r input' out' told'

-- of s the bytes from i to where the turn says were read
pub record TurnsTo (j : Judge) (input : Buffers) (out told : List ℕ) (at : ℕ) (s : List ℕ) (i : ℕ) (r : Turn) (input' : Buffers)
    (out' told' : List ℕ) (at' : ℕ) : Type 0 where
  pub turns : Turns j input out told at 1 (λ g. feeds g (take (r.next - i) (drop i s))) (λ g. tells g (take (r.next - i) (drop i s)))
      (turned r.judge at') input' out' told'
  pub on : i < r.next
  pub within : r.next ≤ length s

-- and all that they tell was told
pub record Read (j : Judge) (input : Buffers) (out told s : List ℕ) (r : Turned) (input' : Buffers) (out' told' : List ℕ) : Type 0 where
  pub turns : Portion j input out told s r input' out' told'
  pub whole : (g : Going) → Stands j input out g → g.day + length s ≤ largest → take r.at told' ≡ tells g s
