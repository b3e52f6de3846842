-- Tests made of others, for the crates above. Assumes nothing.
use mathlib.Core.Path.{◌≡◌}
use mathlib.Core.Bool.{Bool, true, false, ◌&&◌, ◌||◌}

-- a test made of two is right where each of them is
pub either : {p q x y : Bool} → p ≡ x → q ≡ y → (p || q) ≡ (x || y)
either e f = cc

-- a test that is made only if another holds
pub made : {t b x : Bool} → t ≡ true → b ≡ x → b ≡ (t && x)
made e f = rw e f

pub not_made : (x : Bool) {t : Bool} → t ≡ false → false ≡ (t && x)
not_made x e = rw e
