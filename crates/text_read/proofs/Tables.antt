-- Tables that grow: line after line, and from what a reader says of them to every cell. Assumes nothing.
use Prim.Native.Nat.{ℕ, ◌+◌, ◌-◌, ◌≤◌, ◌<◌, min}
use native.Mathlib.Decide.{dec_lt}
use native.Mathlib.Omega.{arith}
use mathlib.Core.List.{List, append-nil}
use mathlib.Core.Path.{◌≡◌, refl, sym, ◌∙◌}
use lib.ListN.{drop, length, take, take-append-drop}
use lib.Seq.{drop-drop, length-take-le, take_all, take-length, drop-length}
use Rattle.text_line.specs.Filled.{Cells, Grown, GrownBy, Sane, cells, night_of, room_of}
use Rattle.text_line.specs.declared.State.{State}
use Rattle.text_read.specs.Carried.{laid, on_front, settled_in}

-- one table
module _ {n : ℕ} {t : List ℕ} where
  same_by : n ≤ length t → GrownBy n n t t
  same_by h = record { more = omega arith; fits = h; past = refl; long = refl }

  more_by : {m q : ℕ} {u v : List ℕ} → GrownBy n m t u → GrownBy m q u v → GrownBy n q t v
  more_by {m} {q} {u} a b =
      let e : m + (q - m) ≡ q = omega (arith, b.more) in
      let past : drop q u ≡ drop q t = rw (← e, ← (drop-drop (q - m) m u), a.past, drop-drop (q - m) m t) in
      record { more = omega (arith, a.more, b.more); fits = b.fits; past = b.past ∙ past; long = b.long ∙ a.long }

  front_by : {m : ℕ} {u : List ℕ} → GrownBy n m t u → u ≡ on_front t (take m u)
  front_by {m} {u} g =
      let e : length (take m u) ≡ m = length-take-le m u g.fits in
      rw (e, ← g.past) (sym (take-append-drop m u))

-- what is filled of a table, laid over it
kept_by : (n : ℕ) (t : List ℕ) → t ≡ on_front t (take n t)
kept_by n t = by (dec_lt n (length t))
  where
    by : Dec (n < length t) → t ≡ on_front t (take n t)
    by (yes h) = rw (length-take-le n t (omega arith)) (sym (take-append-drop n t))
    by (no h) = rw (take_all n t (omega arith), drop-length, append-nil)

-- all four
pub grown_same : {st : State} {w : Cells} → Sane st w → Grown st st w w
grown_same s = record {
  bodies = same_by s.bodies_fit;
  numbers = same_by s.numbers_fit;
  floats = same_by s.floats_fit;
  steps = same_by s.steps_fit;
}

pub grown_more : {st st' st'' : State} {w w' w'' : Cells} → Grown st st' w w' → Grown st' st'' w' w'' → Grown st st'' w w''
grown_more a b = record {
  bodies = more_by a.bodies b.bodies;
  numbers = more_by a.numbers b.numbers;
  floats = more_by a.floats b.floats;
  steps = more_by a.steps b.steps;
}

pub grown_sane : {st st' : State} {w w' : Cells} → Grown st st' w w' → Sane st' w'
grown_sane g = record {
  bodies_fit = g.bodies.fits;
  numbers_fit = g.numbers.fits;
  floats_fit = g.floats.fits;
  steps_fit = g.steps.fits;
}

pub grown_room : {st st' : State} {w w' : Cells} → Grown st st' w w' → room_of w' ≡ room_of w
unfolding room_of
grown_room g = rw (g.bodies.long, g.numbers.long, g.floats.long, g.steps.long)

four : {a a' b b' c c' d d' : List ℕ} → a ≡ a' → b ≡ b' → c ≡ c' → d ≡ d' → cells a b c d ≡ cells a' b' c' d'
four p q r s = rw (p, q, r, s)

pub grown_laid : {st st' : State} {w w' : Cells} → Grown st st' w w' → w' ≡ laid w (night_of st' w')
unfolding laid night_of
grown_laid g = four (front_by g.bodies) (front_by g.numbers) (front_by g.floats) (front_by g.steps)

pub same_laid : (st : State) (w : Cells) → w ≡ laid w (night_of st w)
unfolding laid night_of
same_laid st w =
    four (kept_by st.bodies w.bodies) (kept_by st.numbers w.numbers) (kept_by st.floats w.floats) (kept_by st.steps w.steps)

-- a state of any fields says of tables what a settled one does
pub take_within : (n : ℕ) (t : List ℕ) → take (min n (length t)) t ≡ take n t
take_within n t = by (dec_lt n (length t))
  where
    by : Dec (n < length t) → take (min n (length t)) t ≡ take n t
    by (yes h) = let e : min n (length t) ≡ n = omega arith in rw e
    by (no h) = let e : min n (length t) ≡ length t = omega arith in rw (e, take-length, take_all n t (omega arith))

pub settled_night : (st : State) (w : Cells) → night_of (settled_in st (room_of w)) w ≡ night_of st w
unfolding night_of room_of
settled_night st w =
    rw (
      take_within st.bodies w.bodies,
      take_within st.numbers w.numbers,
      take_within st.floats w.floats,
      take_within st.steps w.steps,
    )

pub settled_sane : (st : State) (w : Cells) → Sane (settled_in st (room_of w)) w
unfolding room_of
settled_sane st w = record { bodies_fit = omega arith; numbers_fit = omega arith; floats_fit = omega arith; steps_fit = omega arith }
