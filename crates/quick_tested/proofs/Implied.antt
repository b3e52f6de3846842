-- A finite result was worked out from finite numbers, and what lies between finite numbers is finite. Assumes nothing.
use Prim.Native.Nat.{ℕ, zero, suc, ◌+◌, ◌-◌, ◌*◌, ◌^◌}
use mathlib.Core.Path.{◌≡◌, refl, sym, ap, ◌∙◌}
use mathlib.Core.Bool.{Bool, true, false, not, cond, ◌&&◌}
use lib.Dec.{eqb, ltb}
use lib.Ieee.{Float, nan, inf, fin, Format, binary32, prec, emax, low, up, down, unlike, odd, units, round, sum, add, sub, mul, neg, le}
use lib.Ieee.Fits.{round_is}
use Rattle.elem_leaves.specs.Finite.{finite}
use Rattle.elem_leaves.specs.Floats.{◌+f◌, ◌-f◌, ◌*f◌}
use Rattle.base_words.proofs.Pick.{never}

-- two numbers are finite
abbrev pub Two : Float → Float → Type 0
Two x y = (finite x ≡ true) × (finite y ≡ true)

pub between : (l x u : Float) → finite l ≡ true → finite u ≡ true → (le l x && le x u) ≡ true → finite x ≡ true
unfolding finite le
between nan x u fl fu h = never (sym fl)
between (inf s) x u fl fu h = never (sym fl)
between (fin s m e) x nan fl fu h = never (sym fu)
between (fin s m e) x (inf t) fl fu h = never (sym fu)
between (fin s m e) nan (fin t n d) fl fu h = never (sym h)
between (fin s m e) (inf true) (fin t n d) fl fu h = never (sym h)
between (fin s m e) (inf false) (fin t n d) fl fu h = never (sym h)
between (fin s m e) (fin r k f) (fin t n d) fl fu h = refl

pub of_sum : (x y : Float) → finite (x +f y) ≡ true → Two x y
unfolding finite add
of_sum nan y h = never (sym h)
of_sum (inf s) nan h = never (sym h)
of_sum (inf true) (inf true) h = never (sym h)
of_sum (inf true) (inf false) h = never (sym h)
of_sum (inf false) (inf true) h = never (sym h)
of_sum (inf false) (inf false) h = never (sym h)
of_sum (inf s) (fin t n d) h = never (sym h)
of_sum (fin s m e) nan h = never (sym h)
of_sum (fin s m e) (inf t) h = never (sym h)
of_sum (fin s m e) (fin t n d) h = (refl, refl)

-- an infinity times anything is an infinity or a NaN
unbounded : (b s : Bool) → finite (cond b nan (inf s)) ≡ false
unfolding finite
unbounded true s = refl
unbounded false s = refl

pub of_product : (x y : Float) → finite (x *f y) ≡ true → Two x y
unfolding finite mul
of_product nan y h = never (sym h)
of_product (inf s) nan h = never (sym h)
of_product (inf s) (inf t) h = never (sym h)
of_product (inf s) (fin t n d) h = never (sym h ∙ unbounded (eqb n 0) (unlike s t))
of_product (fin s m e) nan h = never (sym h)
of_product (fin s m e) (inf t) h = never (sym h ∙ unbounded (eqb m 0) (unlike s t))
of_product (fin s m e) (fin t n d) h = (refl, refl)

pub neg_finite : (x : Float) → finite (neg x) ≡ finite x
unfolding finite neg
neg_finite nan = refl
neg_finite (inf s) = refl
neg_finite (fin s m e) = refl

pub of_difference : (x y : Float) → finite (x -f y) ≡ true → Two x y
unfolding sub
of_difference x y h = let two = of_sum x (neg y) h in (two.0, sym (neg_finite y) ∙ two.1)

-- rounding overflows whatever the sign is
odd_alike : (s t : Bool) (d q k l : ℕ) → finite (odd d s q k l) ≡ finite (odd d t q k l)
unfolding finite odd
odd_alike s t d zero k l = refl
odd_alike s t d (suc q) k l = refl

units_alike : (s t : Bool) (f : Format) (q k : ℕ) → finite (units f s q k) ≡ finite (units f t q k)
unfolding finite units
units_alike s t f q k = by_case (ltb (q * 2 ^ k) (2 ^ (low f + suc (emax f))))
  where
    by_case : (b : Bool) → finite (cond b (odd (suc (prec f)) s q k (low f)) (inf s)) ≡ finite (cond b (odd (suc (prec f)) t q k (low f)) (inf t))
    by_case true = odd_alike s t (suc (prec f)) q k (low f)
    by_case false = refl

round_alike : (s t : Bool) (f : Format) (n d : ℕ) → finite (round f s n d) ≡ finite (round f t n d)
round_alike s t f n d = ap finite (round_is f s n d) ∙ units_alike s t f _ _ ∙ sym (ap finite (round_is f t n d))

either_alike : (b : Bool) (x y z w : Float) → finite x ≡ finite z → finite y ≡ finite w → finite (cond b x y) ≡ finite (cond b z w)
either_alike true x y z w p q = p
either_alike false x y z w p q = q

sum_alike : (s t : Bool) (f : Format) (a b c : ℕ) → finite (sum f (not s) a (not t) b c) ≡ finite (sum f s a t b c)
unfolding sum
sum_alike true true f a b c = round_alike false true f (a + b) c
sum_alike true false f a b c = either_alike (ltb a b) _ _ _ _ (round_alike true false f (b - a) c) (round_alike false (ltb b a) f (a - b) c)
sum_alike false true f a b c = either_alike (ltb a b) _ _ _ _ (round_alike false true f (b - a) c) (round_alike (ltb b a) false f (a - b) c)
sum_alike false false f a b c = round_alike true false f (a + b) c

-- −x − y is finite exactly where x + y is
pub opposite : (x y : Float) → finite (neg x -f y) ≡ finite (x +f y)
unfolding sub add neg finite
opposite nan y = refl
opposite (inf s) nan = refl
opposite (inf true) (inf true) = refl
opposite (inf true) (inf false) = refl
opposite (inf false) (inf true) = refl
opposite (inf false) (inf false) = refl
opposite (inf s) (fin t n d) = refl
opposite (fin s m e) nan = refl
opposite (fin s m e) (inf t) = refl
opposite (fin s m e) (fin t n d) = sum_alike s t binary32 (m * up e * down d) (n * up d * down e) (down e * down d)
