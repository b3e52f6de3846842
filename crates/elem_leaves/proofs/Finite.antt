-- What the library calls finite is what document 01 does. Assumes nothing.
use Rattle.std.proofs.Common.{◌≡◌, refl}
use Rattle.std.specs.Prelude.{Float}
use Rattle.std.specs.Float.{nan, inf, fin, float_is_finite}
use Rattle.elem_leaves.specs.Finite.{finite}

pub same_finite : (x : Float) → float_is_finite x ≡ finite x
unfolding float_is_finite finite
same_finite nan = refl
same_finite (inf s) = refl
same_finite (fin s m e) = refl
