-- Request E10, "Loads never pull": what "not below 0" and "in (0, 1]" mean of any float, and what keeps a number from going below 0. Each
-- statement is proved in proofs/Signs.antt. Assumes nothing.
use Rattle.std.specs.Prelude.{true, false, ◌≡◌, Float}
use Rattle.elem_leaves.specs.Finite.{finite}
use Rattle.elem_leaves.specs.Floats.{◌*f◌, ◌≥f◌, below0, in_unit, zero}
use Rattle.elem_leaves.specs.Leaves.{max0}

-- "not below 0": not x < 0, which a NaN passes, and minus zero
abbrev pub NotBelow0 : Float → Type 0
NotBelow0 x = below0 x ≡ false

-- the stronger form, 0 or above: minus zero is, a NaN is not
abbrev pub AtLeast0 : Float → Type 0
AtLeast0 x = (x ≥f zero) ≡ true

-- "in (0, 1]"
abbrev pub InUnit : Float → Type 0
InUnit x = in_unit x ≡ true

-- a product with a number in (0, 1], rounded, has what the other factor has
abbrev pub OutlastsProducts : (Float → Type 0) → Type 0
OutlastsProducts P = (c x : Float) → InUnit c → P x → P (c *f x)

pub record Signs : Type 0 where
  -- of every float, NaN and infinities included
  pub product_not_below : OutlastsProducts NotBelow0
  pub product_at_least : OutlastsProducts AtLeast0
  -- max0 gives 0 or above whatever it is given
  pub max0_at_least : (x : Float) → AtLeast0 (max0 x)
  -- the stronger form is stronger, and the same of finite numbers
  pub not_below : (x : Float) → AtLeast0 x → NotBelow0 x
  pub number_at_least : (x : Float) → finite x ≡ true → NotBelow0 x → AtLeast0 x
