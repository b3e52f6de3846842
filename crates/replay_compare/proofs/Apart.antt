-- A recorded line and the output's next: the same, or apart for good. Assumes nothing.
use Prim.Native.Nat.{ℕ, suc, ◌+◌}
use native.Mathlib.Omega.{arith}
use borrow.Author.Tests.{eq-eqb, ne_eqb}
use mathlib.Core.Bool.{Bool, true, false}
use mathlib.Core.List.{List, [], ◌∷◌, ◌++◌, append_assoc}
use mathlib.Core.Path.{◌≡◌, refl}
use lib.Dec.{eqb}
use lib.ListN.{length, length-append}
use Rattle.replay_days.specs.Judged.{lines_from, same}
use Rattle.replay_days.specs.Going.{meets, rest_of}
use Rattle.replay_days.proofs.Same.{same_itself}

-- a line is not the same as one that goes on with c
longer_differs : (l : List ℕ) (c : ℕ) (u : List ℕ) → same (l ++ (c ∷ u)) l ≡ false
unfolding same
longer_differs [] c u = refl
longer_differs (a ∷ l) c u = rw (eq-eqb a a refl, longer_differs l c u)

shorter_differs : (l : List ℕ) (c : ℕ) (u : List ℕ) → same l (l ++ (c ∷ u)) ≡ false
unfolding same
shorter_differs [] c u = refl
shorter_differs (a ∷ l) c u = rw (eq-eqb a a refl, shorter_differs l c u)

-- nor are two lines that go on with c and with b
parted_differ : (l : List ℕ) (c b : ℕ) (u t : List ℕ) → eqb c b ≡ false → same (l ++ (c ∷ u)) (l ++ (b ∷ t)) ≡ false
unfolding same
parted_differ [] c b u t e = rw e
parted_differ (a ∷ l) c b u t e = rw (eq-eqb a a refl, parted_differ l c b u t e)

-- a line that goes on is not empty
pub some : (l : List ℕ) (c : ℕ) (u : List ℕ) → eqb (length (l ++ (c ∷ u))) 0 ≡ false
some l c u = let e : length (l ++ (c ∷ u)) ≡ length l + suc (length u) = length-append l (c ∷ u) in
    ne_eqb (length (l ++ (c ∷ u))) 0 (λ z. omega (arith, e))

-- whatever an output's line goes on with after c, a recorded line that is apart from it there stays apart
module _ (l : List ℕ) (c : ℕ) (recorded : List ℕ) (apart : (u : List ℕ) → same (l ++ (c ∷ u)) recorded ≡ false) where
  abbrev Apart : List ℕ → Type 0
  Apart s = (u : List ℕ) → meets recorded (lines_from (l ++ (c ∷ u)) s) ≡ false

  apart_by : (d : ℕ) (s : List ℕ) (ends : Bool) → eqb d 10 ≡ ends → Apart s → Apart (d ∷ s)
  unfolding lines_from meets
  apart_by d s true e on u = rw (e, apart u)
  apart_by d s false e on u = rw (e, append_assoc) (on (u ++ (d ∷ [])))

  stays_apart : (s : List ℕ) → Apart s
  unfolding lines_from meets
  stays_apart [] u = rw (some l c u, apart u)
  stays_apart (d ∷ s) u = apart_by d s (eqb d 10) refl (stays_apart s) u

-- the output's line goes on with c
module _ (l : List ℕ) (c : ℕ) (s : List ℕ) where
  -- and so does the recorded one
  pub goes_on : eqb c 10 ≡ false → lines_from l (c ∷ s) ≡ lines_from (l ++ (c ∷ [])) s
  unfolding lines_from
  goes_on e = rw e

  -- the recorded one goes on with b
  parts_by : (b : ℕ) (t : List ℕ) (ends : Bool) → eqb c 10 ≡ ends → eqb c b ≡ false → meets (l ++ (b ∷ t)) (lines_from l (c ∷ s)) ≡ false
  unfolding lines_from meets
  parts_by b t true e f = rw (e, shorter_differs l b t)
  parts_by b t false e f = rw e (stays_apart l c (l ++ (b ∷ t)) (λ u. parted_differ l c b u t f) s [])

  pub parts : (b : ℕ) (t : List ℕ) → eqb c b ≡ false → meets (l ++ (b ∷ t)) (lines_from l (c ∷ s)) ≡ false
  parts b t f = parts_by b t (eqb c 10) refl f

  -- the recorded one ends
  pub ends_before : eqb c 10 ≡ false → meets l (lines_from l (c ∷ s)) ≡ false
  unfolding lines_from
  ends_before e = rw e (stays_apart l c l (λ u. longer_differs l c u) s [])

  pub ends_with : eqb c 10 ≡ true → meets l (lines_from l (c ∷ s)) ≡ true
  unfolding lines_from meets
  ends_with e = rw (e, same_itself l)

  pub rest_after : eqb c 10 ≡ true → lines_from [] s ≡ rest_of (lines_from l (c ∷ s))
  unfolding lines_from rest_of
  rest_after e = rw e

-- the output has ended
module _ (l : List ℕ) where
  goes_past_by : (b : ℕ) (t : List ℕ) (none : Bool) → eqb (length l) 0 ≡ none → meets (l ++ (b ∷ t)) (lines_from l []) ≡ false
  unfolding lines_from meets
  goes_past_by b t true e = rw e
  goes_past_by b t false e = rw (e, shorter_differs l b t)

  pub goes_past : (b : ℕ) (t : List ℕ) → meets (l ++ (b ∷ t)) (lines_from l []) ≡ false
  goes_past b t = goes_past_by b t (eqb (length l) 0) refl

  pub last_met : eqb (length l) 0 ≡ false → meets l (lines_from l []) ≡ true
  unfolding lines_from meets
  last_met e = rw (e, same_itself l)

  none_by : (none : Bool) → eqb (length l) 0 ≡ none → lines_from [] [] ≡ rest_of (lines_from l [])
  unfolding lines_from rest_of
  none_by true e = rw e
  none_by false e = rw e

  pub none_after : lines_from [] [] ≡ rest_of (lines_from l [])
  none_after = none_by (eqb (length l) 0) refl

pub none_left : meets [] (lines_from [] []) ≡ false
unfolding lines_from meets
none_left = refl
