-- The end of a file. Assumes nothing.
use Prim.Native.Nat.{ℕ, ◌+◌, ◌≤◌, ◌<◌}
use native.Mathlib.Omega.{arith}
use mathlib.Core.Bool.{Bool, true, false, not}
use mathlib.Core.List.{List, [], ◌∷◌}
use mathlib.Core.Path.{◌≡◌, refl, sym, ◌∙◌, subst, ap}
use lib.Dec.{eqb}
use lib.ListN.{length}
use Rattle.std.specs.Prelude.{Option}
use Rattle.base_words.proofs.Pick.{never}
use Rattle.base_places.specs.Lengths.{largest}
use Rattle.text_digits.specs.Digits.{dec_field}
use Rattle.text_digits.specs.Wrote.{Wrote}
use Rattle.text_digits.proofs.Lengths.{exact}
use Rattle.text_digits.proofs.Then.{as_long, nothing, room, then}
use Rattle.replay_days.specs.Judged.{day_line, judged, no_d}
use Rattle.replay_days.specs.Going as going
use Rattle.replay_days.specs.Going.{Going, counted_verdict, end_tells, feeds, finish, line_ended, start}
use Rattle.replay_days.proofs.Bytes.{byte_by_byte}
use Rattle.replay_days.proofs.Portions.{days_few, finish_short}
use Rattle.replay_compare.specs.Spots.{end_number, shape_of}
use Rattle.replay_judge.specs.Carried.{Buffers, unfed}
use Rattle.replay_judge.specs.Stands.{Begins, EndsDay, EndsLine, Finishes, Portion, StandsPart, Tells}
use Rattle.replay_judge.specs.declared.Feeding.{Feeding}
use Rattle.replay_judge.specs.declared.Judge.{Judge}
use Rattle.replay_compare.specs.declared.LineSoFar.TheVariants.{Empty}
use Rattle.replay_judge.specs.declared.Part.{Part}
use Rattle.replay_judge.specs.declared.Part.TheVariants.{Comparing, Differing, Input}
use Rattle.replay_compare.specs.declared.Spot.{Spot}
use Rattle.replay_judge.specs.declared.Turned.{Turned}
use Rattle.replay_compare.proofs.Apart.{some}
use Rattle.replay_compare.proofs.Beside.{end_beside}
use Rattle.replay_judge.proofs.Following.{unfed_follows}
use Rattle.replay_judge.proofs.LineEnd.{in_comparing, in_differing, in_input}

pub begins : Begins (record { day = 1; line = Empty; part = Input unfed })
unfolding start StandsPart
begins input out = record { day = refl; line = refl; part = unfed_follows input }

-- the end after whole lines, in each part of a day
module _ (j : Judge) (told : List ℕ) (at : ℕ) where
  ends_day : {told' : List ℕ} {at' : ℕ} (part : Part) → j.part ≡ part → at' ≤ length told
      → ((input : Buffers) (out : List ℕ) (q : going.Part) → StandsPart part input out q [] → Wrote told at (end_tells j.day q) told' at')
      → EndsDay j told at told' at'
  ends_day part e h w = record {
    wrote = λ input out g s none.
        rw (← s.day)
        (w input out g.part (subst (λ (x : Part). StandsPart x input out g.part []) e (rw none at s.part)));
    within = h;
  }

  module _ {f : Feeding} (e : j.part ≡ Input f) where
    -- whether a line of the input has ended is whether there is any
    any_by : {any : Bool} (none : Bool) → any ≡ not none → any ≡ false → none ≡ true
    any_by true p q = refl
    any_by false p q = never (sym p ∙ q)

    some_by : {any : Bool} (none : Bool) → any ≡ not none → any ≡ true → none ≡ false
    some_by true p q = never (sym q ∙ p)
    some_by false p q = refl

    pub no_day : f.any ≡ false → at ≤ length told → EndsDay j told at told at
    unfolding end_tells
    no_day z h =
        ends_day (Input f) e h
        (λ input out q s.
        in_input (λ q. Wrote told at (end_tells j.day q) told at) input out [] f
        (λ x v. rw (any_by (eqb (length x) 0) v.any z) (nothing told at h)) q s)

    pub day_without_d : {told' : List ℕ} {at' : ℕ} → f.any ≡ true → Wrote told at (day_line j.day (dec_field 2)) told' at'
        → EndsDay j told at told' at'
    unfolding end_tells no_d
    day_without_d {told'} {at'} z w =
        ends_day (Input f) e (omega (arith, room w, as_long w))
        (λ input out q s.
        in_input (λ q. Wrote told at (end_tells j.day q) told' at') input out [] f
        (λ x v. rw (some_by (eqb (length x) 0) v.any z) w) q s)

  pub last_verdict : {p : Spot} {told' : List ℕ} {n : Option ℕ} {at' : ℕ} → j.part ≡ Comparing p → n ≡ end_number p
      → Wrote told at (counted_verdict j.day n) told' at' → EndsDay j told at told' at'
  unfolding end_tells
  last_verdict {p} {told'} {n} {at'} e is w =
      ends_day (Comparing p) e (omega (arith, room w, as_long w))
      (λ input out q s.
      in_comparing (λ q. Wrote told at (end_tells j.day q) told' at') input out [] p
      (λ left k m. rw (← end_beside p out [] left k j.day m, ← is) w) q s)

  pub told_before : j.part ≡ Differing → at ≤ length told → EndsDay j told at told at
  unfolding end_tells
  told_before e h =
      ends_day Differing e h
      (λ input out q s. in_differing (λ q. Wrote told at (end_tells j.day q) told at) input out [] (nothing told at h) q s)

-- whether there is a last line without byte 10
none_of : (l : List ℕ) → shape_of l ≡ Empty → l ≡ []
none_of [] e = refl
none_of (b ∷ []) e = cc
none_of (b ∷ c ∷ l) e = cc

some_of : (l : List ℕ) → (shape_of l ≡ Empty → ⊥) → eqb (length l) 0 ≡ false
some_of [] e = absurd (e refl)
some_of (b ∷ l) e = some [] b l

module _ (j : Judge) (input : Buffers) (out told : List ℕ) (at : ℕ) {told' : List ℕ} {at' : ℕ} where
  pub no_last_line : j.line ≡ Empty → EndsDay j told at told' at' → Tells j input out told at 1 finish told' at'
  unfolding finish
  no_last_line e d = record {
    wrote = λ g s few.
        let none : g.line ≡ [] = none_of g.line (sym s.line ∙ e) in
        rw (ap (λ (l : List ℕ). eqb (length l) 0) none) (d.wrote input out g s none);
    within = d.within;
  }

  -- the line, and then the end
  pub last_line : {r : Turned} {input' : Buffers} {out' told1 : List ℕ} → (j.line ≡ Empty → ⊥) → length told1 ≡ length told
      → EndsLine j input out told at r input' out' told1 → EndsDay r.judge told1 r.at told' at'
      → Tells j input out told at 1 finish told' at'
  unfolding finish line_ended
  last_line {input' = input'} {out' = out'} some same ends d = record {
    wrote = λ g s few.
        let z : eqb (length g.line) 0 ≡ false = some_of g.line (λ e. some (s.line ∙ e)) in
        rw z (then (ends.tells.wrote g s few) (d.wrote input' out' (line_ended g) (ends.goes g s few) refl));
    within = omega (arith, d.within, same);
  }

pub finishes : (j : Judge) (input : Buffers) (out told : List ℕ) {told' : List ℕ} {at' : ℕ} → 128 ≤ length told
    → Tells j input out told 0 1 finish told' at' → Finishes j input out told told' at'
finishes j input out told room t = record { tells = t; whole = λ g s few. (exact (t.wrote g s few) (omega (arith, finish_short g, room))).1 }

pub first_day : start.day ≡ 1
unfolding start
first_day = refl

-- a whole file: a portion and then the end
pub file_judged : (file : List ℕ) (input : Buffers) (out told : List ℕ) {j : Judge} {r : Turned} {input' : Buffers} {out' told1 told2 : List ℕ} {at' : ℕ}
    → Tells r.judge input' out' told1 r.at 1 finish told2 at' → Portion j input out told file r input' out' told1 → Begins j
    → length file < 9223372036854775808 → Wrote told 0 (judged file) told2 at'
file_judged file input out told t p b few =
    let one : start.day + length file ≤ largest = omega (arith, first_day) in
    let s = b input out in
    rw (← byte_by_byte file)
    (then (p.tells.wrote start s one)
    (t.wrote (feeds start file) (p.goes start s one) (omega (arith, first_day, days_few start file))))
