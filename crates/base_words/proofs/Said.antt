-- Tests joined by and, or and not, taken apart by what they came to. Assumes nothing.
use mathlib.Core.Path.{◌≡◌, refl, sym}
use mathlib.Core.Bool.{Bool, true, false, not, ◌&&◌, ◌||◌}
use Rattle.base_words.proofs.Pick.{never}

-- a test whose negation fails holds, and the other way round
pub so : (p : Bool) → not p ≡ false → p ≡ true
so true e = refl
so false e = sym e

pub not_so : (p : Bool) → not p ≡ true → p ≡ false
not_so true e = sym e
not_so false e = refl

-- where neither of two holds, each fails
pub none_l : (p q : Bool) → (p || q) ≡ false → p ≡ false
none_l true q e = e
none_l false q e = refl

pub none_r : (p q : Bool) → (p || q) ≡ false → q ≡ false
none_r true q e = never e
none_r false q e = e

-- where both hold, each holds
pub all_l : (p q : Bool) → (p && q) ≡ true → p ≡ true
all_l true q e = refl
all_l false q e = e

pub all_r : (p q : Bool) → (p && q) ≡ true → q ≡ true
all_r true q e = e
all_r false q e = never (sym e)

pub all_both : (p q : Bool) → (p && q) ≡ true → (p ≡ true) × (q ≡ true)
all_both p q e = (all_l p q e, all_r p q e)
