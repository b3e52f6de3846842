-- The statements of specs/Signs.antt: comparisons with 0 look at a sign, and rounding keeps it. Assumes nothing.
use Prim.Native.Nat.{ℕ, zero, suc, ◌+◌, ◌*◌, ◌^◌, ◌<◌}
use native.Mathlib.Nat.{mul-pos, mul-zero, eq_of_mul-eq-mul_right, zero-mul}
use native.Mathlib.Omega.{arith}
use mathlib.Core.Logic.{◌⊎◌, inl, inr}
use mathlib.Core.Path.{◌≡◌, refl, sym, ap, ◌∙◌}
use mathlib.Core.Bool.{Bool, true, false, not, cond, ◌&&◌, ◌||◌}
use borrow.Author.Tests.{eq-eqb, eqb-true, le-ltb, lt-ltb, ltb-true, ne_eqb}
use lib.Dec.{eqb, ltb, lit<}
use lib.Ieee.{Float, nan, inf, fin, Format, binary32, prec, emax, low, up, down, odd, units, round, mul, le, lt, eq, of_bits}
use lib.Ieee.Exact.{HasValue, round_exact}
use lib.Ieee.Fits.{down_pos, round_is, up_pos}
use Rattle.base_words.proofs.Pick.{never}
use Rattle.base_words.proofs.Said.{all_l, all_r, so}
use Rattle.elem_leaves.specs.Finite.{finite}
use Rattle.elem_leaves.specs.Floats.{◌*f◌, ◌>f◌, one}
use Rattle.elem_leaves.specs.Leaves.{max0}
use Rattle.elem_leaves.specs.Signs.{AtLeast0, NotBelow0, OutlastsProducts, Signs}

no_factor : (x c d : ℕ) → 0 < c → x * c ≡ 0 * d → x ≡ 0
no_factor x c d h p = eq_of_mul-eq-mul_right c h x 0 (p ∙ zero-mul d ∙ sym (zero-mul c))

-- 0 or above, by what the float is
abbrev pub upward : Float → Bool
upward nan = false
upward (inf s) = not s
upward (fin false m e) = true
upward (fin true m e) = eqb m 0

-- the comparison 0 ≤ x says that. z is what 0 comes to beside x, and n what x comes to
reaches : (z n : ℕ) → z ≡ 0 → (ltb z n || (eqb z n && true)) ≡ true
reaches z zero h = rw h
reaches z (suc n) h = rw (lt-ltb z (suc n) (omega arith))

level_zero : (z m u : ℕ) → z ≡ 0 → 0 < u → (eqb z (m * u * 1) && eqb z 0) ≡ eqb m 0
level_zero z zero u h p = rw (h, zero-mul u)
level_zero z (suc m) u h p = let some : 0 < suc m * u = mul-pos (omega arith) p in rw (ne_eqb z (suc m * u * 1) (λ e. omega arith), ne_eqb (suc m) 0 (λ e. omega arith))

pub at_least_is : (x : Float) → le (of_bits binary32 0) x ≡ upward x
unfolding le lt eq of_bits
at_least_is nan = refl
at_least_is (inf true) = refl
at_least_is (inf false) = refl
at_least_is (fin false m e) = reaches (0 * down e) (m * up e * 1) (zero-mul (down e))
at_least_is (fin true m e) = level_zero (0 * down e) m (up e) (zero-mul (down e)) (up_pos e)

-- and x < 0 says the contrary, but of a NaN, which is neither
abbrev downward : Float → Bool
downward nan = false
downward (inf s) = s
downward (fin false m e) = false
downward (fin true m e) = not (eqb m 0)

nothing_below : (n z : ℕ) → z ≡ 0 → ltb n z ≡ false
nothing_below n z h = le-ltb n z (omega arith)

minus_below : (z m u : ℕ) → z ≡ 0 → 0 < u → ltb 0 (m * u * 1 + z) ≡ not (eqb m 0)
minus_below z zero u h p = rw (h, zero-mul u)
minus_below z (suc m) u h p =
    let some : 0 < suc m * u = mul-pos (omega arith) p in
    rw (lt-ltb 0 (suc m * u * 1 + z) (omega arith), ne_eqb (suc m) 0 (λ e. omega arith))

below_is : (x : Float) → lt x (of_bits binary32 0) ≡ downward x
unfolding lt of_bits
below_is nan = refl
below_is (inf true) = refl
below_is (inf false) = refl
below_is (fin false m e) = nothing_below (m * up e * 1) (0 * down e) (zero-mul (down e))
below_is (fin true m e) = minus_below (0 * down e) m (up e) (zero-mul (down e)) (up_pos e)

-- what is not downward is upward, or a NaN
upward_else : (x : Float) → downward x ≡ false → (x ≡ nan) ⊎ (upward x ≡ true)
upward_else nan h = inl refl
upward_else (inf true) h = never h
upward_else (inf false) h = inr refl
upward_else (fin false m e) h = inr refl
upward_else (fin true m e) h = inr (so (eqb m 0) h)

not_downward : (x : Float) → upward x ≡ true → downward x ≡ false
not_downward nan h = refl
not_downward (inf true) h = never (sym h)
not_downward (inf false) h = refl
not_downward (fin false m e) h = refl
not_downward (fin true m e) h = ap not h

-- a fraction without sign rounds upward
odd_upward : (d q k l : ℕ) → upward (odd d false q k l) ≡ true
unfolding odd
odd_upward d zero k l = refl
odd_upward d (suc q) k l = refl

units_upward : (f : Format) (q k : ℕ) → upward (units f false q k) ≡ true
unfolding units
units_upward f q k = by_case (ltb (q * 2 ^ k) (2 ^ (low f + suc (emax f))))
  where
    by_case : (b : Bool) → upward (cond b (odd (suc (prec f)) false q k (low f)) (inf false)) ≡ true
    by_case true = odd_upward (suc (prec f)) q k (low f)
    by_case false = refl

round_upward : (n d : ℕ) → upward (round binary32 false n d) ≡ true
round_upward n d = ap upward (round_is binary32 false n d) ∙ units_upward binary32 _ _

-- and so does nothing, of either sign
nothing_upward : (x : Float) (s : Bool) (c : ℕ) → 0 < c → HasValue x s 0 c → upward x ≡ true
nothing_upward nan s c p v = absurd v
nothing_upward (inf t) s c p v = absurd v
nothing_upward (fin false m e) s c p v = refl
nothing_upward (fin true m e) s c p v =
    eq-eqb m 0 (no_factor m (up e) 0 (up_pos e) (no_factor (m * up e) c (down e) p v.1))

round_nothing : (n d : ℕ) → n ≡ 0 → 0 < d → upward (round binary32 true n d) ≡ true
round_nothing n d h p = rw h (nothing_upward (round binary32 true 0 d) true d p (round_exact binary32 true 0 d 0 0 p (lit< tt) (lit< tt) (simp zero-mul)))

-- a factor in (0, 1] is a number other than 0 without sign
not_zero : (m u z : ℕ) → z ≡ 0 → ltb z (m * u * 1) ≡ true → eqb m 0 ≡ false
not_zero zero u z h t = let less = ltb-true z (zero * u * 1) t in absurd (omega (arith, zero-mul u))
not_zero (suc m) u z h t = ne_eqb (suc m) 0 (λ e. omega arith)

product : (c y : Float) → (c >f of_bits binary32 0) ≡ true → le c one ≡ true → upward y ≡ true → upward (c *f y) ≡ true
unfolding le lt eq of_bits mul
product nan y pos small h = never (sym pos)
product (inf true) y pos small h = never (sym pos)
product (inf false) y pos small h = never (sym small)
product (fin true m e) y pos small h = never (sym pos)
product (fin false m e) nan pos small h = h
product (fin false m e) (inf true) pos small h = never (sym h)
product (fin false m e) (inf false) pos small h = rw (not_zero m (up e) (0 * down e) (zero-mul (down e)) pos)
product (fin false m e) (fin false n d) pos small h = round_upward (m * up e * (n * up d)) (down e * down d)
product (fin false m e) (fin true n d) pos small h =
    let none : n ≡ 0 = eqb-true n 0 h in
    round_nothing (m * up e * (n * up d)) (down e * down d) (rw none (simp (zero-mul, mul-zero))) (mul-pos (down_pos e) (down_pos d))

nan_product : (c : Float) → c *f nan ≡ nan
unfolding mul
nan_product nan = refl
nan_product (inf s) = refl
nan_product (fin s m e) = refl

-- max0 gives what is above 0, or 0
above_upward : (x : Float) → (x >f of_bits binary32 0) ≡ true → upward x ≡ true
unfolding lt of_bits
above_upward nan h = h
above_upward (inf s) h = h
above_upward (fin true m e) h = never (sym h)
above_upward (fin false m e) h = refl

max0_upward : (x : Float) → upward (max0 x) ≡ true
unfolding max0 of_bits
max0_upward x = by_case (x >f of_bits binary32 0) refl
  where
    by_case : (b : Bool) → (x >f of_bits binary32 0) ≡ b → upward (cond b x (of_bits binary32 0)) ≡ true
    by_case true e = above_upward x e
    by_case false e = refl

-- the statements
pub not_below : (x : Float) → AtLeast0 x → NotBelow0 x
not_below x h = below_is x ∙ not_downward x (sym (at_least_is x) ∙ h)

pub product_at_least : OutlastsProducts AtLeast0
product_at_least c x f h = at_least_is (c *f x) ∙ product c x (search (all_l, all_r)) (search (all_l, all_r)) (sym (at_least_is x) ∙ h)

pub product_not_below : OutlastsProducts NotBelow0
product_not_below c x f h = by_case (upward_else x (sym (below_is x) ∙ h))
  where
    by_case : (x ≡ nan) ⊎ (upward x ≡ true) → NotBelow0 (c *f x)
    by_case (inl e) = rw (e, nan_product c, below_is nan)
    by_case (inr up) = not_below (c *f x) (product_at_least c x f (at_least_is x ∙ up))

pub max0_at_least : (x : Float) → AtLeast0 (max0 x)
max0_at_least x = at_least_is (max0 x) ∙ max0_upward x

pub number_at_least : (x : Float) → finite x ≡ true → NotBelow0 x → AtLeast0 x
unfolding finite
number_at_least x number h = by_case (upward_else x (sym (below_is x) ∙ h))
  where
    by_case : (x ≡ nan) ⊎ (upward x ≡ true) → AtLeast0 x
    by_case (inl e) = never (sym (rw e at number))
    by_case (inr up) = at_least_is x ∙ up

pub signs : Signs
signs = record {
  product_not_below = product_not_below;
  product_at_least = product_at_least;
  max0_at_least = max0_at_least;
  not_below = not_below;
  number_at_least = number_at_least;
}
