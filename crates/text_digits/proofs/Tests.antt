-- Two tests joined. Assumes nothing.
use mathlib.Core.Path.{◌≡◌, refl}
use mathlib.Core.Bool.{Bool, true, false, ◌&&◌}

-- both hold
pub both : {p q : Bool} → p ≡ true → q ≡ true → (p && q) ≡ true
both h k = cc

-- the first fails, or the second
pub not_first : {p : Bool} (q : Bool) → p ≡ false → (p && q) ≡ false
not_first q h = cc

pub not_second : (p : Bool) {q : Bool} → q ≡ false → (p && q) ≡ false
not_second true h = h
not_second false h = refl
