-- Line after line: keeping the output's lines that have not been met, and telling a day as soon as it is known, comes to what `judged` says.
-- Assumes nothing.
use Prim.Native.Nat.{ℕ, ◌+◌}
use native.Mathlib.Omega.{arith}
use mathlib.Core.Bool.{Bool, true, false}
use mathlib.Core.List.{List, [], ◌∷◌, ◌++◌, append_assoc, append-nil}
use mathlib.Core.Path.{◌≡◌, refl, sym, ◌∙◌, ap, ap₂}
use Rattle.std.specs.Prelude.{Some}
use Rattle.base_words.proofs.Pick.{never}
use Rattle.text_output.specs.Output.{output}
use Rattle.replay_days.specs.Judged.{compared, first_differing, input_of, judged_from, lines_of, only_d, only_z, record_of}
use Rattle.replay_days.proofs.Counted.{counted}
use Rattle.replay_days.specs.Going.{Part, comparing, counted_verdict, day_after, differing, end_tells, ending, line_tells, meets, part_after, reading, rest_of}

-- what is told of the lines that follow
unfoldable pub tells_lines : ℕ → Part → List (List ℕ) → List ℕ
tells_lines day part [] = end_tells day part
tells_lines day part (l ∷ ls) = line_tells day part l ++ tells_lines (day_after day part l) (part_after part l) ls

-- after the recorded lines the first difference is looked for from number n on, among the lines that are left
abbrev Left : List ℕ → List (List ℕ) → List (List ℕ) → ℕ → Type 0
Left input recorded left n =
    (more : List (List ℕ)) → first_differing 1 (lines_of (output input)) (recorded ++ more) ≡ first_differing n left more

-- the recorded lines differ at number n, whatever follows
abbrev Differs : List ℕ → List (List ℕ) → ℕ → Type 0
Differs input recorded n = (more : List (List ℕ)) → first_differing 1 (lines_of (output input)) (recorded ++ more) ≡ Some n

record Agree (ls : List (List ℕ)) : Type 0 where
  input : (day : ℕ) (x : List ℕ) → judged_from day (input_of x) ls ≡ tells_lines day (reading x) ls
  recorded : (day : ℕ) (x : List ℕ) (r left : List (List ℕ)) (n : ℕ) → Left x r left n
      → judged_from day (record_of x r) ls ≡ tells_lines day (comparing left n) ls
  differs : (day : ℕ) (x : List ℕ) (r : List (List ℕ)) (n : ℕ) → Differs x r n
      → judged_from day (record_of x r) ls ≡ counted_verdict day (Some n) ++ tells_lines day differing ls

-- where the recorded output ends
module _ (day : ℕ) (x : List ℕ) (r : List (List ℕ)) (n : ℕ) where
  ended : (left : List (List ℕ)) → Left x r left n → compared day x r ≡ ending day left n
  unfolding compared ending first_differing
  ended [] at = counted day _ _ 1 (omega arith) ∙ ap (counted_verdict day) (ap (first_differing 1 (lines_of (output x))) (sym (append-nil r)) ∙ at [])
  ended (m ∷ left) at = counted day _ _ 1 (omega arith) ∙ ap (counted_verdict day) (ap (first_differing 1 (lines_of (output x))) (sym (append-nil r)) ∙ at [])

  ended_off : Differs x r n → compared day x r ≡ counted_verdict day (Some n)
  unfolding compared
  ended_off off = counted day _ _ 1 (omega arith) ∙ ap (counted_verdict day) (ap (first_differing 1 (lines_of (output x))) (sym (append-nil r)) ∙ off [])

-- one recorded line more
module _ (x : List ℕ) (r : List (List ℕ)) (n : ℕ) (l : List ℕ) where
  more_left : (left : List (List ℕ)) → Left x r left n → meets l left ≡ true → Left x (r ++ (l ∷ [])) (rest_of left) (n + 1)
  unfolding meets rest_of first_differing
  more_left [] at e more = never (sym e)
  more_left (next ∷ left) at e more = rw append_assoc (at (l ∷ more) ∙ rw e)

  differs_here : (left : List (List ℕ)) → Left x r left n → meets l left ≡ false → Differs x (r ++ (l ∷ [])) n
  unfolding meets first_differing
  differs_here [] at e more = rw append_assoc (at (l ∷ more))
  differs_here (next ∷ left) at e more = rw append_assoc (at (l ∷ more) ∙ rw e)

  differs_on : Differs x r n → Differs x (r ++ (l ∷ [])) n
  differs_on off more = rw append_assoc (off (l ∷ more))

module _ (l : List ℕ) (ls : List (List ℕ)) (on : Agree ls) (day : ℕ) (x : List ℕ) where
  input_by : (d : Bool) → only_d l ≡ d → judged_from day (input_of x) (l ∷ ls) ≡ tells_lines day (reading x) (l ∷ ls)
  unfolding judged_from tells_lines line_tells day_after part_after
  input_by true e = rw e (on.recorded day x [] (lines_of (output x)) 1 (λ more. refl))
  input_by false e = rw e (on.input day (x ++ l ++ (10 ∷ [])))

  module _ (r : List (List ℕ)) (n : ℕ) where
    recorded_by : (left : List (List ℕ)) → Left x r left n → (z m : Bool) → only_z l ≡ z → meets l left ≡ m
        → judged_from day (record_of x r) (l ∷ ls) ≡ tells_lines day (comparing left n) (l ∷ ls)
    unfolding judged_from tells_lines line_tells day_after part_after
    recorded_by left at true m e f = rw e (ap₂ ◌++◌ (ended day x r n left at) (on.input (day + 1) []))
    recorded_by left at false true e f = rw (e, f) (on.recorded day x (r ++ (l ∷ [])) (rest_of left) (n + 1) (more_left x r n l left at f))
    recorded_by left at false false e f = rw (e, f) (on.differs day x (r ++ (l ∷ [])) n (differs_here x r n l left at f))

    differs_by : Differs x r n → (z : Bool) → only_z l ≡ z
        → judged_from day (record_of x r) (l ∷ ls) ≡ counted_verdict day (Some n) ++ tells_lines day differing (l ∷ ls)
    unfolding judged_from tells_lines line_tells day_after part_after
    differs_by off true e = rw e (ap₂ ◌++◌ (ended_off day x r n off) (on.input (day + 1) []))
    differs_by off false e = rw e (on.differs day x (r ++ (l ∷ [])) n (differs_on x r n l off))

agree : (ls : List (List ℕ)) → Agree ls
unfolding judged_from tells_lines end_tells
agree [] = record {
  input = λ day x. refl;
  recorded = λ day x r left n at. ended day x r n left at;
  differs = λ day x r n off. rw append-nil (ended_off day x r n off);
}
agree (l ∷ ls) =
    let on : Agree ls = agree ls in
    record {
      input = λ day x. input_by l ls on day x (only_d l) refl;
      recorded = λ day x r left n at. recorded_by l ls on day x r n left at (only_z l) (meets l left) refl refl;
      differs = λ day x r n off. differs_by l ls on day x r n off (only_z l) refl;
    }

pub line_by_line : (ls : List (List ℕ)) → judged_from 1 (input_of []) ls ≡ tells_lines 1 (reading []) ls
line_by_line ls = (agree ls).input 1 []
