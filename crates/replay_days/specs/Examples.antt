-- The request's cases, each on a small file, worked out. A text stands by its bytes: 9 is a tab, 10 ends a line, 48 to 50 are '0' to '2', 65 is A, 68 D, 88 X,
-- 90 Z. Most nights are the line A, an unknown letter, so that the output is X, 1, 2. Proved in proofs/Examples.antt. Assumes nothing.
use Rattle.std.specs.Prelude.{ℕ, List, [], ◌∷◌, ◌++◌, ◌≡◌, drop, take}
use Rattle.text_output.specs.Examples.{e_0_0, r_2, sample_night, sample_output, step_alone}
use Rattle.replay_days.specs.Judged.{judged}

-- a night, and the D after it
abbrev pub night : List ℕ
night = 65 ∷ 10 ∷ 68 ∷ 10 ∷ []

-- X, 1, 2
abbrev pub its_output : List ℕ
its_output = 88 ∷ 9 ∷ 49 ∷ 9 ∷ 50 ∷ 10 ∷ []

-- the same, its last line not ended by byte 10
abbrev pub x : List ℕ
x = 88 ∷ 9 ∷ 49 ∷ 9 ∷ 50 ∷ []

-- a D line, and a Z line
abbrev pub d : List ℕ
d = 68 ∷ 10 ∷ []

abbrev pub z : List ℕ
z = 90 ∷ 10 ∷ []

-- what is written: a day and 0; a day, 1 and the number of a line; a day and 2
abbrev pub day_same : ℕ → List ℕ
day_same n = n ∷ 9 ∷ 48 ∷ 10 ∷ []

abbrev pub day_differs : ℕ → ℕ → List ℕ
day_differs n line = n ∷ 9 ∷ 49 ∷ 9 ∷ line ∷ 10 ∷ []

abbrev pub day_without_d : ℕ → List ℕ
day_without_d n = n ∷ 9 ∷ 50 ∷ 10 ∷ []

pub record Examples : Type 0 where
  -- "an empty file writes nothing"
  pub empty : judged [] ≡ []
  -- "0 if the recorded output is the same"; "a day whose input gives X or R is compared in the same way"
  pub same : judged (night ++ its_output ++ z) ≡ day_same 49
  -- "the last Z may be missing"
  pub z_missing : judged (night ++ its_output) ≡ day_same 49
  -- "otherwise 1 and the number of the first differing output line": a line A
  pub differs : judged (night ++ (65 ∷ 10 ∷ []) ++ z) ≡ day_differs 49 49
  -- "A missing or surplus line differs at its own number"
  pub missing : judged (night ++ z) ≡ day_differs 49 49
  pub surplus : judged (night ++ its_output ++ its_output ++ z) ≡ day_differs 49 50
  -- "day number from 1", then 2; "a last day with no D has 2 as its second field"
  pub second : judged (night ++ its_output ++ z ++ night ++ its_output) ≡ day_same 49 ++ day_same 50
  pub d_missing : judged (night ++ its_output ++ z ++ (65 ∷ [])) ≡ day_same 49 ++ day_without_d 50
  -- what stands after the last byte 10 is a line too: a recorded last line, whole or cut short, and a last D, after which the recorded output is empty
  pub line_unended : judged (night ++ x) ≡ day_same 49
  pub line_cut : judged (night ++ (88 ∷ 9 ∷ 49 ∷ [])) ≡ day_differs 49 49
  pub d_unended : judged (65 ∷ 10 ∷ 68 ∷ []) ≡ day_differs 49 49
  -- a D forgotten after an empty night: the output recorded for it, the Z and the next night are one input, and two days are told as one. Its X is told at line 1, as
  -- the second night's is, so that the day is the same
  pub d_forgotten : judged (e_0_0 ++ z ++ night ++ its_output ++ z) ≡ day_same 49

-- the document's output, with 3 for 4 as the first digit of the load on its I line
abbrev pub other_load : List ℕ
other_load = take 41 sample_output ++ (51 ∷ []) ++ drop 42 sample_output

-- nights whose output is no X, worked out below this crate (`Examples` in text_output); "a day whose input gives X or R is compared in the same way"
pub record NightExamples : Type 0 where
  pub r_same : judged (step_alone ++ d ++ r_2 ++ z) ≡ day_same 49
  pub r_differs : judged (step_alone ++ d ++ (82 ∷ 9 ∷ 51 ∷ 10 ∷ []) ++ z) ≡ day_differs 49 49
  -- A, B, I and E lines; the I line is the third
  pub sample_same : judged (sample_night ++ d ++ sample_output ++ z) ≡ day_same 49
  pub sample_differs : judged (sample_night ++ d ++ other_load ++ z) ≡ day_differs 49 51
