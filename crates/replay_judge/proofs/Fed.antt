-- One line of a portion after the other. Assumes nothing.
use Prim.Native.Nat.{ℕ, ◌+◌, ◌-◌, ◌≤◌, ◌<◌}
use native.Mathlib.Omega.{arith}
use mathlib.Core.List.{List, [], ◌++◌}
use mathlib.Core.Path.{◌≡◌, refl}
use lib.ListN.{drop, length, length-take, take}
use lib.Seq.{take-add, take_all}
use Rattle.base_places.specs.Lengths.{largest, portion_bytes, told_bytes}
use Rattle.text_digits.proofs.Lengths.{exact}
use Rattle.text_digits.proofs.Then.{nothing, then}
use Rattle.text_fields.specs.Fields.{Free, until}
use Rattle.text_read.proofs.Going.{line_free, line_whole}
use Rattle.replay_days.specs.Going.{Going, feeds, tells}
use Rattle.replay_days.proofs.Portions.{days_few, feeds_append, tells_append, tells_short}
use Rattle.replay_days.proofs.Runs.{line_fed, line_tells_lem, longer, run_fed, run_tells}
use Rattle.replay_judge.specs.Carried.{Buffers}
use Rattle.replay_judge.specs.Stands.{EndsLine, GoesOn, Portion, Read, Turns, TurnsTo}
use Rattle.replay_judge.specs.declared.Judge.{Judge}
use Rattle.replay_judge.specs.declared.Turn.{Turn}
use Rattle.replay_judge.specs.declared.Turned.{Turned}

-- a line of the portion s from i on, which goes on to its end, or ends before it
module _ (j : Judge) (input : Buffers) (out told : List ℕ) (at : ℕ) (s : List ℕ) (i end : ℕ) (h : i < length s)
    (at_end : end ≡ i + until 10 (drop i s)) {judge : Judge} {input1 : Buffers}
    (on : GoesOn j (take (end - i) (drop i s)) input out judge input1) where
  free : Free 10 (take (end - i) (drop i s))
  free = line_free s i end at_end

  pub goes_on : at ≤ length told → end ≡ length s
      → TurnsTo j input out told at s i (record { judge = judge; next = end }) input1 out told at
  goes_on room e = record {
    turns = record {
      tells = record { wrote = λ g st few. rw (run_tells (take (end - i) (drop i s)) g free) (nothing told at room); within = room };
      goes = λ g st few. rw (run_fed (take (end - i) (drop i s)) g free) (on g st);
    };
    on = omega arith;
    within = omega arith;
  }

  pub ends : (end ≡ length s → ⊥) → end ≤ length s → {t : Turned} {input2 : Buffers} {out2 told2 : List ℕ}
      → EndsLine judge input1 out told at t input2 out2 told2
      → TurnsTo j input out told at s i (record { judge = t.judge; next = end + 1 }) input2 out2 told2 t.at
  ends p q d = record {
    turns = record {
      tells = record {
        wrote = λ g st few.
            rw (line_whole s i end at_end (omega arith), line_tells_lem (take (end - i) (drop i s)) g free)
            (d.tells.wrote (longer g (take (end - i) (drop i s))) (on g st) few);
        within = d.tells.within;
      };
      goes = λ g st few.
          rw (line_whole s i end at_end (omega arith), line_fed (take (end - i) (drop i s)) g free)
          (d.goes (longer g (take (end - i) (drop i s))) (on g st) few);
    };
    on = omega arith;
    within = omega arith;
  }

-- the first i bytes of a portion were read
abbrev pub FirstFed : Judge → Buffers → List ℕ → List ℕ → List ℕ → ℕ → Judge → ℕ → Buffers → List ℕ → List ℕ → Type 0
FirstFed j input out told s i judge at input' out' told' =
    Turns j input out told 0 i (λ g. feeds g (take i s)) (λ g. tells g (take i s)) (record { judge = judge; at = at }) input' out' told'

module _ (j : Judge) (input : Buffers) (out told s : List ℕ) where
  pub none_fed : FirstFed j input out told s 0 j 0 input out told
  unfolding feeds tells
  none_fed = record {
    tells = record { wrote = λ g st few. nothing told 0 (omega arith); within = omega arith };
    goes = λ g st few. st;
  }

  module _ (i : ℕ) {judge : Judge} {at : ℕ} {input' : Buffers} {out' told' : List ℕ}
      (f : FirstFed j input out told s i judge at input' out' told') {r : Turn} {input2 : Buffers} {out2 told2 : List ℕ} {at2 : ℕ}
      (t : TurnsTo judge input' out' told' at s i r input2 out2 told2 at2) where
    -- the bytes up to the turn's
    so_far : take r.next s ≡ take i s ++ take (r.next - i) (drop i s)
    so_far = let e : i + (r.next - i) ≡ r.next = omega (arith, t.on) in rw e at (take-add i (r.next - i) s)

    -- a day more for the line
    few_more : (g : Going) → g.day + r.next ≤ largest → (feeds g (take i s)).day + 1 ≤ largest
    few_more g few = omega (arith, days_few g (take i s), length-take i s, t.on)

    pub one_fed : length told' ≡ length told → FirstFed j input out told s r.next r.judge at2 input2 out2 told2
    one_fed long = record {
      tells = record {
        wrote = λ g st few.
            let less : g.day + i ≤ largest = omega (arith, few, t.on) in
            rw (so_far, tells_append g (take i s) (take (r.next - i) (drop i s)))
            (then (f.tells.wrote g st less) (t.turns.tells.wrote (feeds g (take i s)) (f.goes g st less) (few_more g few)));
        within = omega (arith, t.turns.tells.within, long);
      };
      goes = λ g st few.
          let less : g.day + i ≤ largest = omega (arith, few, t.on) in
          rw (so_far, feeds_append g (take i s) (take (r.next - i) (drop i s)))
          (t.turns.goes (feeds g (take i s)) (f.goes g st less) (few_more g few));
    }

  pub all_fed : (i : ℕ) {judge : Judge} {at : ℕ} {input' : Buffers} {out' told' : List ℕ} → i ≤ length s → length s ≤ i
      → FirstFed j input out told s i judge at input' out' told'
      → Portion j input out told s (record { judge = judge; at = at }) input' out' told'
  all_fed i h k f = let e : i ≡ length s = omega arith in rw (← e) (rw (take_all i s k) at f)

-- with 64 bytes for each byte there is room for all that they tell
pub whole_told : {j : Judge} {input : Buffers} {out told s : List ℕ} {r : Turned} {input' : Buffers} {out' told' : List ℕ} (bytes : List ℕ) (n : ℕ)
    → Portion j input out told s r input' out' told' → s ≡ take n bytes → length bytes ≡ portion_bytes → length told ≡ told_bytes
    → Read j input out told (take n bytes) r input' out' told'
whole_told {j} {input} {out} {told} bytes n p e long room =
    let short : length (take n bytes) ≤ portion_bytes = omega (arith, length-take n bytes) in
    let q : Portion j input out told (take n bytes) _ _ _ _ = rw e at p in
    record { turns = q; whole = λ g st few. (exact (q.tells.wrote g st few) (omega (arith, tells_short g (take n bytes)))).1 }

-- no byte was read: nothing is told, and all is as it was
pub nothing_read : (j : Judge) (input : Buffers) (out told : List ℕ) → Read j input out told [] (record { judge = j; at = 0 }) input out told
unfolding feeds tells
nothing_read j input out told = record { turns = none_fed j input out told []; whole = λ g st few. refl }
