-- Runs of bytes without a byte e: what stands before the first of them. Assumes nothing.
use Prim.Native.Nat.{ℕ, suc, ◌+◌, ◌≤◌, ◌<◌}
use native.Mathlib.Nat.{le_of_suc-le-suc, not-suc-le-zero}
use native.Mathlib.Omega.{arith}
use borrow.Author.Tests.{eqb-false, eqb-true}
use mathlib.Core.Bool.{Bool, true, false}
use mathlib.Core.List.{List, [], ◌∷◌, ◌++◌}
use mathlib.Core.Path.{◌≡◌, refl, ap, sym, ◌∙◌}
use lib.Dec.{eqb}
use lib.ListN.{drop, get_or, length, take}
use Rattle.text_fields.specs.Fields.{Free, until}
use Rattle.text_fields.proofs.Until.{until_here, until_nil, until_on}

free_by : (e b : ℕ) (s : List ℕ) (t : Bool) → eqb b e ≡ t → Free e (take (until e s) s)
    → Free e (take (until e (b ∷ s)) (b ∷ s))
free_by e b s true q h = rw (until_here s (eqb-true _ _ q)) (until_nil e)
free_by e b s false q h = rw (until_on s (eqb-false _ _ q), until_on (take (until e s) s) (eqb-false _ _ q)) (ap suc h)

-- what stands before the first e has none
pub front_free : (e : ℕ) (s : List ℕ) → Free e (take (until e s) s)
front_free e [] = rw (until_nil e) (until_nil e)
front_free e (b ∷ s) = free_by e b s (eqb b e) refl (front_free e s)

stop_by : (e b : ℕ) (s : List ℕ) (t : Bool) → eqb b e ≡ t → (until e s < length s → get_or s (until e s) 0 ≡ e)
    → until e (b ∷ s) < length (b ∷ s) → get_or (b ∷ s) (until e (b ∷ s)) 0 ≡ e
stop_by e b s true q h p = rw (until_here s (eqb-true _ _ q)) (eqb-true _ _ q)
stop_by e b s false q h p =
    rw (until_on s (eqb-false _ _ q)) (h (le_of_suc-le-suc (rw (until_on s (eqb-false _ _ q)) at p)))

-- and where one stands after it, that is e
pub stops : (e : ℕ) (s : List ℕ) → until e s < length s → get_or s (until e s) 0 ≡ e
stops e [] p = absurd (not-suc-le-zero p)
stops e (b ∷ s) p = stop_by e b s (eqb b e) refl (stops e s) p

-- a free run's first byte is not e, and the others are a free run
free_not_by : (e b : ℕ) (s : List ℕ) (t : Bool) → eqb b e ≡ t → Free e (b ∷ s) → (b ≡ e → ⊥) × Free e s
free_not_by e b s true q h = let z : 0 ≡ suc (length s) = sym (until_here s (eqb-true _ _ q)) ∙ h in absurd (omega (arith, z))
free_not_by e b s false q h =
    let z : suc (until e s) ≡ suc (length s) = sym (until_on s (eqb-false _ _ q)) ∙ h in (eqb-false _ _ q, omega (arith, z))

pub free_cons : (e b : ℕ) (s : List ℕ) → Free e (b ∷ s) → (b ≡ e → ⊥) × Free e s
free_cons e b s h = free_not_by e b s (eqb b e) refl h

-- after a free run the search goes on
past_by : (e b : ℕ) (u w : List ℕ) → (Free e u → until e (u ++ w) ≡ length u + until e w) → Free e (b ∷ u)
    → until e (b ∷ u ++ w) ≡ length (b ∷ u) + until e w
past_by e b u w h v =
    let p = free_cons e b u v in
    until_on (u ++ w) p.0 ∙ ap suc (h p.1) ∙ omega arith

pub until_past : (e : ℕ) (u w : List ℕ) → Free e u → until e (u ++ w) ≡ length u + until e w
until_past e [] w v = omega arith
until_past e (b ∷ u) w v = past_by e b u w (until_past e u w) v

-- it goes no further than the end
until_by : (e b : ℕ) (s : List ℕ) (t : Bool) → eqb b e ≡ t → until e s ≤ length s → until e (b ∷ s) ≤ length (b ∷ s)
until_by e b s true q h = rw (until_here s (eqb-true _ _ q)) (omega arith)
until_by e b s false q h = rw (until_on s (eqb-false _ _ q)) (omega arith)

pub until_within : (e : ℕ) (s : List ℕ) → until e s ≤ length s
until_within e [] = rw (until_nil e) (omega arith)
until_within e (b ∷ s) = until_by e b s (eqb b e) refl (until_within e s)

-- and from where it ends it does not go on
stays_by : (e b : ℕ) (s : List ℕ) (t : Bool) → eqb b e ≡ t → until e (drop (until e s) s) ≡ 0
    → until e (drop (until e (b ∷ s)) (b ∷ s)) ≡ 0
stays_by e b s true q h = rw (until_here s (eqb-true _ _ q)) (until_here s (eqb-true _ _ q))
stays_by e b s false q h = rw (until_on s (eqb-false _ _ q)) h

pub until_stays : (e : ℕ) (s : List ℕ) → until e (drop (until e s) s) ≡ 0
until_stays e [] = rw (until_nil e) (until_nil e)
until_stays e (b ∷ s) = stays_by e b s (eqb b e) refl (until_stays e s)
