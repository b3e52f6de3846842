-- A line ended, in each part of a day. Assumes nothing.
use Prim.Native.Nat.{ℕ, ◌+◌, ◌≤◌}
use native.Mathlib.Omega.{arith}
use mathlib.Core.Bool.{Bool, true, false}
use mathlib.Core.List.{List, []}
use mathlib.Core.Path.{◌≡◌, refl, sym, ◌∙◌, subst}
use lib.ListN.{length, take}
use Rattle.std.specs.Prelude.{Option, None, Some}
use Rattle.base_places.specs.Lengths.{largest, one_more}
use Rattle.text_digits.specs.Wrote.{Wrote}
use Rattle.text_digits.proofs.Then.{as_long, nothing, room}
use Rattle.replay_days.specs.Judged.{only_z}
use Rattle.replay_days.specs.Going as going
use Rattle.replay_days.specs.Going.{comparing, counted_verdict, day_after, differing, line_ended, line_tells, meets, part_after, reading}
use Rattle.replay_compare.specs.Spots.{end_number, holds_only, met_by, next_of, shape_of}
use Rattle.replay_compare.specs.Meets.{Meets}
use Rattle.replay_compare.specs.declared.LineSoFar.{LineSoFar}
use Rattle.replay_compare.specs.declared.LineSoFar.TheVariants.{Empty}
use Rattle.replay_compare.specs.declared.Spot.{Spot}
use Rattle.replay_compare.proofs.Beside.{Beside, IsNext, end_beside, line_beside}
use Rattle.replay_judge.specs.Carried.{Buffers, differing_after, next_day, next_line, unfed}
use Rattle.replay_judge.specs.Stands.{EndsComparing, EndsInput, EndsLine, Follows, StandsPart, turned}
use Rattle.replay_judge.specs.declared.Feeding.{Feeding}
use Rattle.replay_judge.specs.declared.Judge.{Judge}
use Rattle.replay_judge.specs.declared.Part.{Part}
use Rattle.replay_judge.specs.declared.Part.TheVariants.{Comparing, Differing, Input}
use Rattle.replay_judge.specs.declared.Turned.{Turned}
use Rattle.replay_judge.proofs.Following.{unfed_follows}
use Rattle.replay_judge.proofs.WhatLine.{is_z}

-- what is carried tells the part
module _ (P : going.Part → Type 0) (input : Buffers) (out l : List ℕ) where
  pub in_input : (f : Feeding) → ((x : List ℕ) → Follows f input x l → P (reading x)) → (q : going.Part) → StandsPart (Input f) input out q l → P q
  unfolding StandsPart
  in_input f h (reading x) s = h x s
  in_input f h (comparing left k) s = absurd s
  in_input f h differing s = absurd s

  pub in_comparing : (p : Spot) → ((left : List (List ℕ)) (k : ℕ) → Meets p out l left k → P (comparing left k))
      → (q : going.Part) → StandsPart (Comparing p) input out q l → P q
  unfolding StandsPart
  in_comparing p f (reading x) s = absurd s
  in_comparing p f (comparing left k) s = f left k s
  in_comparing p f differing s = absurd s

  pub in_differing : P differing → (q : going.Part) → StandsPart Differing input out q l → P q
  unfolding StandsPart
  in_differing f (reading x) s = absurd s
  in_differing f (comparing left k) s = absurd s
  in_differing f differing s = f

-- a line ended in a part of a day that is carried as `part`
pub record PartEnds (day : ℕ) (line : LineSoFar) (part : Part) (input : Buffers) (out told : List ℕ) (at : ℕ) (r : Turned)
    (input' : Buffers) (out' told' : List ℕ) : Type 0 where
  wrote : (q : going.Part) (l : List ℕ) → line ≡ shape_of l → StandsPart part input out q l → Wrote told at (line_tells day q l) told' r.at
  within : r.at ≤ length told
  next : (q : going.Part) (l : List ℕ) → line ≡ shape_of l → StandsPart part input out q l → day + 1 ≤ largest
      → r.judge.day ≡ day_after day q l
  none : r.judge.line ≡ Empty
  goes : (q : going.Part) (l : List ℕ) → line ≡ shape_of l → StandsPart part input out q l
      → StandsPart r.judge.part input' out' (part_after q l) []

pub part_ends : (j : Judge) (input : Buffers) (out told : List ℕ) (at : ℕ) (r : Turned) (input' : Buffers) (out' told' : List ℕ)
    → PartEnds j.day j.line j.part input out told at r input' out' told'
    → EndsLine j input out told at r input' out' told'
unfolding line_ended
part_ends j input out told at r input' out' told' e = record {
  tells = record { wrote = λ g s few. rw (← s.day) (e.wrote g.part g.line s.line s.part); within = e.within };
  goes = λ g s few. record {
    day = rw (← s.day) (e.next g.part g.line s.line s.part (rw s.day few));
    line = e.none;
    part = e.goes g.part g.line s.line s.part;
  };
}

-- in a day's input nothing is told
pub input_ends : (day : ℕ) (line : LineSoFar) (f : Feeding) (input : Buffers) (out told : List ℕ) (at : ℕ) (next : Part) (input' : Buffers) (out' : List ℕ)
    → at ≤ length told → EndsInput line f input out next input' out'
    → PartEnds day line (Input f) input out told at (record { judge = record { day = day; line = Empty; part = next }; at = at })
    input' out' told
unfolding line_tells day_after
input_ends day line f input out told at next input' out' h e = record {
  wrote = λ q l is. in_input (λ q. Wrote told at (line_tells day q l) told at) input out l f (λ x held. nothing told at h) q;
  within = h;
  next = λ q l is s few. in_input (λ q. day ≡ day_after day q l) input out l f (λ x held. refl) q s;
  none = refl;
  goes = λ q l is. in_input (λ q. StandsPart next input' out' (part_after q l) []) input out l f (λ x held. e x l is held) q;
}

-- after a line that differed nothing is told
module _ (day : ℕ) (line : LineSoFar) (input : Buffers) (out told : List ℕ) (at : ℕ) (h : at ≤ length told) where
  pub differing_ends_by : (z : Bool) → holds_only line 90 ≡ z → PartEnds day line Differing input out told at (turned (differing_after day line) at) input out told
  unfolding line_tells day_after part_after StandsPart
  differing_ends_by true e =
      let z : (l : List ℕ) → line ≡ shape_of l → only_z l ≡ true = λ l is. sym (is_z l is refl) ∙ e in
      rw e
      (record {
        wrote = λ q l is. in_differing (λ q. Wrote told at (line_tells day q l) told at) input out l (nothing told at h) q;
        within = h;
        next = λ q l is s few.
            in_differing (λ q. one_more day ≡ day_after day q l) input out l (rw (z l is) (omega arith)) q s;
        none = refl;
        goes = λ q l is. in_differing (λ q. StandsPart (Input unfed) input out (part_after q l) []) input out l (rw (z l is) (unfed_follows input)) q;
      })
  differing_ends_by false e =
      let z : (l : List ℕ) → line ≡ shape_of l → only_z l ≡ false = λ l is. sym (is_z l is refl) ∙ e in
      rw e
      (record {
        wrote = λ q l is. in_differing (λ q. Wrote told at (line_tells day q l) told at) input out l (nothing told at h) q;
        within = h;
        next = λ q l is s few. in_differing (λ q. day ≡ day_after day q l) input out l (rw (z l is)) q s;
        none = refl;
        goes = λ q l is. in_differing (λ q. StandsPart Differing input out (part_after q l) []) input out l (rw (z l is) tt) q;
      })

  pub differing_ends : PartEnds day line Differing input out told at (turned (differing_after day line) at) input out told
  differing_ends = differing_ends_by (holds_only line 90) refl

-- a recorded line, before any that differs
module _ (day : ℕ) (line : LineSoFar) (p : Spot) (input : Buffers) (out told : List ℕ) (at : ℕ) where
  -- the Z
  pub at_z : {t : Bool} {told' : List ℕ} {after : ℕ} → t ≡ holds_only line 90 → t ≡ true
      → Wrote told at (counted_verdict day (end_number p)) told' after
      → PartEnds day line (Comparing p) input out told at (turned (next_day day) after) input out told'
  unfolding line_tells day_after part_after StandsPart
  at_z {t} {told'} {after} e f w =
      let z : (l : List ℕ) → line ≡ shape_of l → only_z l ≡ true = λ l is. sym (is_z l is e) ∙ f in
      record {
        wrote = λ q l is.
            in_comparing (λ q. Wrote told at (line_tells day q l) told' after) input out l p
            (λ left k m. rw (z l is, ← end_beside p out l left k day m) w) q;
        within = omega (arith, room w, as_long w);
        next = λ q l is s few.
            in_comparing (λ q. one_more day ≡ day_after day q l) input out l p (λ left k m. rw (z l is) (omega arith)) q s;
        none = refl;
        goes = λ q l is.
            in_comparing (λ q. StandsPart (Input unfed) input out (part_after q l) []) input out l p (λ left k m. rw (z l is) (unfed_follows input)) q;
      }

  module _ {t : Bool} (e : t ≡ holds_only line 90) (f : t ≡ false) {next : Option (ℕ × ℕ)} (n : next ≡ next_of (take p.len out) p.at) where
    z : (l : List ℕ) → line ≡ shape_of l → only_z l ≡ false
    z l is = sym (is_z l is e) ∙ f

    beside : {meeting : Option ℕ} → meeting ≡ met_by p next line → (l : List ℕ) → line ≡ shape_of l → (left : List (List ℕ)) (k : ℕ)
        → Meets p out l left k → Beside p.len p.number out l left k meeting
    beside met l is left k m = rw (met, n, is) (line_beside p out l left k m)

    -- the output's next line
    pub at_next : {start : ℕ} → Some start ≡ met_by p next line → at ≤ length told
        → PartEnds day line (Comparing p) input out told at (turned (next_line day p start) at) input out told
    unfolding line_tells day_after part_after StandsPart
    at_next {start} met h =
        let b : (l : List ℕ) → line ≡ shape_of l → (left : List (List ℕ)) (k : ℕ) → Meets p out l left k
        → IsNext p.len p.number out l left k start = λ l is left k m. beside met l is left k m in
        record {
          wrote = λ q l is.
              in_comparing (λ q. Wrote told at (line_tells day q l) told at) input out l p
              (λ left k m. rw (z l is, (b l is left k m).next) (nothing told at h)) q;
          within = h;
          next = λ q l is s few. in_comparing (λ q. day ≡ day_after day q l) input out l p (λ left k m. rw (z l is)) q s;
          none = refl;
          goes = λ q l is.
              in_comparing (λ q. StandsPart (next_line day p start).part input out (part_after q l) []) input out l p
              (λ left k m. rw (z l is, (b l is left k m).next) (b l is left k m).spot) q;
        }

    -- a line that differs
    pub at_other : {told' : List ℕ} {after : ℕ} → None ≡ met_by p next line → Wrote told at (counted_verdict day (Some p.number)) told' after
        → PartEnds day line (Comparing p) input out told at
        (record { judge = record { day = day; line = Empty; part = Differing }; at = after }) input out told'
    unfolding line_tells day_after part_after StandsPart
    at_other {told'} {after} met w =
        let b : (l : List ℕ) → line ≡ shape_of l → (left : List (List ℕ)) (k : ℕ) → Meets p out l left k → meets l left ≡ false =
        λ l is left k m. beside met l is left k m in
        record {
          wrote = λ q l is.
              in_comparing (λ q. Wrote told at (line_tells day q l) told' after) input out l p
              (λ left k m. rw (z l is, b l is left k m, ← m.number) w) q;
          within = omega (arith, room w, as_long w);
          next = λ q l is s few. in_comparing (λ q. day ≡ day_after day q l) input out l p (λ left k m. rw (z l is)) q s;
          none = refl;
          goes = λ q l is.
              in_comparing (λ q. StandsPart Differing input out (part_after q l) []) input out l p
              (λ left k m. rw (z l is, b l is left k m) tt) q;
        }

-- as the program comes to them
module _ (day : ℕ) (line : LineSoFar) (p : Spot) (out told : List ℕ) (at : ℕ) where
  ends_comparing : {r : Turned} {told' : List ℕ} → ((input : Buffers) → PartEnds day line (Comparing p) input out told at r input out told')
      → EndsComparing day line p out told at r told'
  ends_comparing {r} {told'} e input =
      part_ends (record { day = day; line = line; part = Comparing p }) input out told at r input out told' (e input)

  pub z_ends : {t : Bool} {r : Judge} {told' : List ℕ} {n : Option ℕ} {after : ℕ} → t ≡ holds_only line 90 → t ≡ true → n ≡ end_number p
      → Wrote told at (counted_verdict day n) told' after → r ≡ next_day day → EndsComparing day line p out told at (turned r after) told'
  z_ends e f n w r = ends_comparing (λ input. rw r (at_z day line p input out told at e f (rw n at w)))

  module _ {t : Bool} (e : t ≡ holds_only line 90) (f : t ≡ false) {next : Option (ℕ × ℕ)} (n : next ≡ next_of (take p.len out) p.at)
      {meeting : Option ℕ} (met : meeting ≡ met_by p next line) where
    pub next_ends : {r : Judge} {start : ℕ} → meeting ≡ Some start → r ≡ next_line day p start → at ≤ length told
        → EndsComparing day line p out told at (turned r at) told
    next_ends is r h = ends_comparing (λ input. rw r (at_next day line p input out told at e f n (sym is ∙ met) h))

    pub other_ends : {told' : List ℕ} {after : ℕ} → meeting ≡ None → Wrote told at (counted_verdict day (Some p.number)) told' after
        → EndsComparing day line p out told at (record { judge = record { day = day; line = Empty; part = Differing }; at = after }) told'
    other_ends is w = ends_comparing (λ input. at_other day line p input out told at e f n (sym is ∙ met) w)

module _ (j : Judge) (input : Buffers) (out told : List ℕ) (at : ℕ) where
  pub input_line : {f : Feeding} {next : Part} {input' : Buffers} {out' : List ℕ} → j.part ≡ Input f → at ≤ length told
      → EndsInput j.line f input out next input' out'
      → EndsLine j input out told at (record { judge = record { day = j.day; line = Empty; part = next }; at = at }) input' out' told
  input_line {f} {next} {input'} {out'} e h v =
      part_ends j input out told at _ input' out' told (rw e (input_ends j.day j.line f input out told at next input' out' h v))

  pub comparing_line : {p : Spot} {r : Turned} {told' : List ℕ} → j.part ≡ Comparing p → EndsComparing j.day j.line p out told at r told'
      → EndsLine j input out told at r input out told'
  comparing_line {p} {r} {told'} e v =
      subst (λ (x : Part). EndsLine (record { day = j.day; line = j.line; part = x }) input out told at r input out told') (sym e) (v input)

  pub differing_line : {r : Judge} → j.part ≡ Differing → at ≤ length told → r ≡ differing_after j.day j.line
      → EndsLine j input out told at (turned r at) input out told
  differing_line {r} e h is =
      part_ends j input out told at (turned r at) input out told (rw (is, e) (differing_ends j.day j.line input out told at h))
