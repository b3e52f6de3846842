-- A zero of either sign: sums of zeros and products with one. Assumes nothing.
use Prim.Native.Nat.{ℕ, ◌+◌, ◌-◌, ◌*◌, ◌<◌}
use native.Mathlib.Nat.{mul-pos, mul-zero, eq_of_mul-eq-mul_right, zero-mul}
use mathlib.Core.Path.{◌≡◌, refl, sym, ◌∙◌}
use mathlib.Core.Bool.{Bool, true, false, cond, beq, ◌&&◌, ◌||◌}
use borrow.Author.Tests.{eqb-true}
use native.Mathlib.Omega.{arith}
use lib.Dec.{eqb, ltb, lit<}
use lib.IntN.{ℤ}
use lib.Ieee.{Float, nan, inf, fin, binary32, up, down, round, sum, add, mul, eq, of_bits}
use lib.Ieee.Exact.{HasValue, round_exact}
use lib.Ieee.Fits.{down_pos, up_pos}
use Rattle.elem_leaves.specs.Finite.{finite}
use Rattle.elem_leaves.specs.Floats.{◌+f◌, ◌*f◌, zero}
use Rattle.base_words.proofs.Pick.{never}
use Rattle.base_words.proofs.Said.{all_l}

pub data Zero : Float → Type 0 where
  is_zero : (s : Bool) (e : ℤ) → Zero (fin s 0 e)

pub zero_finite : {x : Float} → Zero x → finite x ≡ true
unfolding finite
zero_finite (is_zero s e) = refl

no_factor : (x c z : ℕ) → 0 < c → z ≡ 0 → x * c ≡ z → x ≡ 0
no_factor x c z h e p = eq_of_mul-eq-mul_right c h x 0 (p ∙ e ∙ sym (zero-mul c))

no_size : (s : Bool) (m : ℕ) (e : ℤ) → m * up e ≡ 0 → Zero (fin s m e)
no_size s m e h = rw (no_factor m (up e) 0 (up_pos e) refl h) (is_zero s e)

of_value : (x : Float) (s : Bool) (c : ℕ) → 0 < c → HasValue x s 0 c → Zero x
of_value nan s c h v = absurd v
of_value (inf t) s c h v = absurd v
of_value (fin t m e) s c h v = no_size t m e (no_factor (m * up e) c (0 * down e) h (zero-mul (down e)) v.1)

-- nothing rounds to a zero
rounded : (s : Bool) (a c : ℕ) → 0 < c → a ≡ 0 → Zero (round binary32 s a c)
rounded s a c h e = rw e (of_value (round binary32 s 0 c) s c h (round_exact binary32 s 0 c 0 0 h (lit< tt) (lit< tt) (simp zero-mul)))

either : (b : Bool) {x y : Float} → Zero x → Zero y → Zero (cond b x y)
either true p q = p
either false p q = q

nothings : (s t : Bool) (a b c : ℕ) → 0 < c → a ≡ 0 → b ≡ 0 → Zero (sum binary32 s a t b c)
unfolding sum
nothings s t a b c h p q =
    either (beq s t) (rounded s (a + b) c h (omega arith))
    (either (ltb a b) (rounded t (b - a) c h (omega arith)) (rounded (s && ltb b a) (a - b) c h (omega arith)))

below : (e d : ℤ) → 0 < down e * down d
below e d = mul-pos (down_pos e) (down_pos d)

no_part : (u d : ℕ) → 0 * u * d ≡ 0
no_part u d = simp zero-mul

pub both : {x y : Float} → Zero x → Zero y → Zero (x +f y)
unfolding add
both (is_zero s e) (is_zero t d) = nothings s t _ _ _ (below e d) (no_part (up e) (down d)) (no_part (up d) (down e))

-- what equals zero is one
pub equals_zero : (x : Float) → eq x zero ≡ true → Zero x
unfolding eq of_bits
equals_zero nan h = never (sym h)
equals_zero (inf s) h = never (sym h)
equals_zero (fin s m e) h =
    let a = m * up e * 1 in
    let b = 0 * down e in
    no_size s m e (no_factor (m * up e) 1 b (lit< tt) (zero-mul (down e)) (eqb-true a b (all_l (eqb a b) (beq s false || eqb a 0) h)))

pub times_zero : (x : Float) {y : Float} → finite x ≡ true → Zero y → Zero (x *f y)
unfolding finite mul
times_zero nan h z = never (sym h)
times_zero (inf s) h z = never (sym h)
times_zero (fin s m e) h (is_zero t d) = rounded _ _ _ (below e d) (simp (zero-mul, mul-zero))

pub zero_times : {x : Float} (y : Float) → Zero x → finite y ≡ true → Zero (x *f y)
unfolding finite mul
zero_times nan z h = never (sym h)
zero_times (inf s) z h = never (sym h)
zero_times (fin t n d) (is_zero s e) h = rounded _ _ _ (below e d) (simp zero-mul)
