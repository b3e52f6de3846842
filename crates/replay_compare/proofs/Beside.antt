-- A recorded output beside the output: one byte more, the end of a line, the end of the recorded output. Assumes nothing.
use Prim.Native.Nat.{ℕ, suc, ◌+◌, ◌≤◌}
use native.Mathlib.Numerals.{add-one}
use native.Mathlib.Omega.{arith}
use borrow.Author.Tests.{eqb-true, ltb-false, ltb-true, ne_eqb}
use mathlib.Core.Bool.{Bool, true, false}
use mathlib.Core.List.{List, [], ◌∷◌, ◌++◌, append_assoc, append-nil}
use mathlib.Core.Path.{◌≡◌, refl, sym, ◌∙◌}
use Rattle.std.specs.Prelude.{Option, None, Some}
use lib.Dec.{eqb, ltb}
use lib.ListN.{drop, drop_of_length-le, get_or, length, take}
use lib.Seq.{drop-cons, length-take-le}
use Rattle.base_places.specs.Lengths.{longest_output, one_more}
use Rattle.base_words.proofs.Pick.{never}
use Rattle.replay_days.specs.Judged.{lines_from}
use Rattle.replay_days.specs.Going.{counted_verdict, ending, meets, rest_of}
use Rattle.replay_compare.specs.Spots.{compared_to, end_number, met_at, met_by, met_from, next_of, placed, shape_of}
use Rattle.replay_compare.specs.Meets.{Meets}
use Rattle.replay_compare.specs.declared.LineSoFar.{LineSoFar}
use Rattle.replay_compare.specs.declared.Spot.{Spot}
use Rattle.replay_compare.proofs.Apart.{
  ends_before,
  ends_with,
  goes_on,
  goes_past,
  last_met,
  none_after,
  none_left,
  parts,
  rest_after,
  some,
}

-- the output from a place on begins with its next byte, or has ended
module _ (o : List ℕ) (at : ℕ) where
  begins : ltb at (length o) ≡ true → drop at o ≡ get_or o at 0 ∷ drop (at + 1) o
  begins e = rw add-one (drop-cons o at 0 (ltb-true at (length o) e))

  ended : ltb at (length o) ≡ false → drop at o ≡ []
  ended e = drop_of_length-le o (ltb-false at (length o) e)

-- one byte more
module _ (p : Spot) (buffer line : List ℕ) (left : List (List ℕ)) (n b : ℕ) (m : Meets p buffer line left n) where
  abbrev o : List ℕ
  o = take p.len buffer

  -- the lines have parted
  parted : ((t : List ℕ) → meets (line ++ (b ∷ t)) left ≡ false) → Meets (placed p None) buffer (line ++ (b ∷ [])) left n
  parted apart = record {
    len = m.len;
    start = m.start;
    on = λ at e. cc;
    off = λ e t. rw append_assoc (apart t);
    number = m.number;
    few = m.few;
  }

  byte_by : (at : ℕ) → p.at ≡ Some at → (there equal : Bool) → ltb at (length o) ≡ there → eqb (get_or o at 0) b ≡ equal → eqb b 10 ≡ false
      → Meets (compared_to p (next_of o (Some at)) b) buffer (line ++ (b ∷ [])) left n
  byte_by at is true true e f g =
      let same : get_or o at 0 ≡ b = eqb-true _ _ f in
      let on : lines_from (line ++ (b ∷ [])) (drop (at + 1) o) ≡ left =
      sym (goes_on line b (drop (at + 1) o) g) ∙ (rw (begins o at e, same) at (m.on at is)) in
      rw (e, f)
      (record {
        len = m.len;
        start = m.start;
        on = λ place now. let here : at + 1 ≡ place = cc in rw (← here) on;
        off = λ now. cc;
        number = m.number;
        few = m.few;
      })
  byte_by at is true false e f g =
      let apart : (t : List ℕ) → meets (line ++ (b ∷ t)) (lines_from line (drop at o)) ≡ false =
      λ t. rw (begins o at e) (parts line (get_or o at 0) (drop (at + 1) o) b t f) in
      rw (e, f) (parted (λ t. rw (m.on at is) at (apart t)))
  byte_by at is false equal e f g =
      let apart : (t : List ℕ) → meets (line ++ (b ∷ t)) (lines_from line (drop at o)) ≡ false =
      λ t. rw (ended o at e) (goes_past line b t) in
      rw e (parted (λ t. rw (m.on at is) at (apart t)))

  byte_from : (place : Option ℕ) → p.at ≡ place → eqb b 10 ≡ false → Meets (compared_to p (next_of o place) b) buffer (line ++ (b ∷ [])) left n
  byte_from None e g = parted (λ t. m.off e (b ∷ t))
  byte_from (Some at) e g = byte_by at e (ltb at (length o)) (eqb (get_or o at 0) b) refl refl g

  pub byte_beside : (b ≡ 10 → ⊥) → Meets (compared_to p (next_of o p.at) b) buffer (line ++ (b ∷ [])) left n
  byte_beside h = byte_from p.at refl (ne_eqb b 10 h)

-- one that is met is the first of those left
first_met : (line : List ℕ) (left : List (List ℕ)) → meets line left ≡ true → length left ≡ suc (length (rest_of left))
unfolding meets rest_of
first_met line [] e = never (sym e)
first_met line (next ∷ left) e = refl

-- what a meeting says at the end of a line
module _ (len number : ℕ) (buffer line : List ℕ) (left : List (List ℕ)) (n : ℕ) where
  pub record IsNext (s : ℕ) : Type 0 where
    pub next : meets line left ≡ true
    -- the output's line after this one starts at s
    pub spot : Meets (record { len = len; start = s; at = Some s; number = one_more number }) buffer [] (rest_of left) (n + 1)

  abbrev pub Beside : Option ℕ → Type 0
  Beside (Some s) = IsNext s
  Beside None = meets line left ≡ false

-- the end of a line
module _ (p : Spot) (buffer line : List ℕ) (left : List (List ℕ)) (n : ℕ) (m : Meets p buffer line left n) where
  abbrev whole : List ℕ
  whole = take p.len buffer

  is_next : (s : ℕ) → meets line left ≡ true → lines_from [] (drop s whole) ≡ rest_of left → IsNext p.len p.number buffer line left n s
  is_next s e r =
      let few : n + length left ≤ longest_output + 2 = m.few in
      let l : length left ≡ suc (length (rest_of left)) = first_met line left e in
      record {
        next = e;
        spot = record {
          len = m.len;
          start = r;
          on = λ at now. let here : s ≡ at = cc in rw (← here) r;
          off = λ now. cc;
          number = omega (arith, few, m.number);
          few = omega (arith, few, l);
        };
      }

  module _ (at : ℕ) (on : lines_from line (drop at whole) ≡ left) where
    byte_end : (ten : Bool) (shape : LineSoFar) → ltb at (length whole) ≡ true → eqb (get_or whole at 0) 10 ≡ ten
        → Beside p.len p.number buffer line left n (met_at at (next_of whole (Some at)) shape)
    byte_end true shape e f =
        let l : lines_from line (get_or whole at 0 ∷ drop (at + 1) whole) ≡ left = rw (← begins whole at e) on in
        rw (e, f)
        (is_next (at + 1) (rw (← l) (ends_with line _ _ f)) (rw (← l) (rest_after line (get_or whole at 0) (drop (at + 1) whole) f)))
    byte_end false shape e f =
        let l : lines_from line (get_or whole at 0 ∷ drop (at + 1) whole) ≡ left = rw (← begins whole at e) on in
        rw (e, f) (rw (← l) (ends_before line _ _ f))

    -- the output's last line, which ends with the output
    last_end : eqb (length line) 0 ≡ false → lines_from line [] ≡ left → ltb at (length whole) ≡ false
        → IsNext p.len p.number buffer line left n at
    last_end e l f = is_next at (rw (← l) (last_met line e)) (rw (ended whole at f, ← l) (none_after line))

    output_end : (l : List ℕ) → line ≡ l → ltb at (length whole) ≡ false
        → Beside p.len p.number buffer line left n (met_at at (next_of whole (Some at)) (shape_of l))
    output_end [] is e =
        let l : lines_from line [] ≡ left = rw (← ended whole at e) on in
        rw e (rw (← l, is) none_left)
    output_end (b ∷ []) is e =
        let l : lines_from line [] ≡ left = rw (← ended whole at e) on in
        rw e (last_end (rw is refl) l e)
    output_end (b ∷ c ∷ s) is e =
        let l : lines_from line [] ≡ left = rw (← ended whole at e) on in
        rw e (last_end (rw is (some [] b (c ∷ s))) l e)

    line_by : (there : Bool) → ltb at (length whole) ≡ there
        → Beside p.len p.number buffer line left n (met_at at (next_of whole (Some at)) (shape_of line))
    line_by true e = byte_end (eqb (get_or whole at 0) 10) (shape_of line) e refl
    line_by false e = output_end line refl e

  line_from : (place : Option ℕ) → p.at ≡ place → Beside p.len p.number buffer line left n (met_from place (next_of whole place) (shape_of line))
  line_from None e = rw append-nil at (m.off e [])
  line_from (Some at) e = line_by at (m.on at e) (ltb at (length whole)) refl

  pub line_beside : Beside p.len p.number buffer line left n (met_by p (next_of whole p.at) (shape_of line))
  line_beside = line_from p.at refl

-- a text that is not empty has a line
module _ (day n : ℕ) where
  ends_here : (line : List ℕ) (c : ℕ) (s : List ℕ) (ten : Bool) → eqb c 10 ≡ ten
      → ending day (lines_from (line ++ (c ∷ [])) s) n ≡ counted_verdict day (Some n)
      → ending day (lines_from line (c ∷ s)) n ≡ counted_verdict day (Some n)
  unfolding lines_from ending
  ends_here line c s true e on = rw e
  ends_here line c s false e on = rw e on

  line_left : (s line : List ℕ) → eqb (length line) 0 ≡ false → ending day (lines_from line s) n ≡ counted_verdict day (Some n)
  unfolding lines_from ending
  line_left [] line e = rw e
  line_left (c ∷ s) line e =
      ends_here line c s (eqb c 10) refl (line_left s (line ++ (c ∷ [])) (some line c []))

  bytes_left : (c : ℕ) (s : List ℕ) → ending day (lines_from [] (c ∷ s)) n ≡ counted_verdict day (Some n)
  bytes_left c s = ends_here [] c s (eqb c 10) refl (line_left s (c ∷ []) refl)

none_at_all : (day n : ℕ) → counted_verdict day None ≡ ending day (lines_from [] []) n
unfolding lines_from ending
none_at_all day n = refl

-- the end of the recorded output
module _ (p : Spot) (buffer line : List ℕ) (left : List (List ℕ)) (n day : ℕ) (m : Meets p buffer line left n) where
  ending_by : (more : Bool) → ltb p.start p.len ≡ more → counted_verdict day (end_number p) ≡ ending day left n
  ending_by true e =
      let l : length (take p.len buffer) ≡ p.len = length-take-le p.len buffer m.len in
      rw (e, ← m.start, begins (take p.len buffer) p.start (rw l e), bytes_left day n, m.number)
  ending_by false e =
      let l : length (take p.len buffer) ≡ p.len = length-take-le p.len buffer m.len in
      rw (e, ← m.start, ended (take p.len buffer) p.start (rw l e)) (none_at_all day n)

  pub end_beside : counted_verdict day (end_number p) ≡ ending day left n
  end_beside = ending_by (ltb p.start p.len) refl
