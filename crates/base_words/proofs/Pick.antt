-- What a choice gives, by what is known of its test. The first two laws serve a chain of choices of any depth. Assumes nothing.
use Prim.Native.Nat.{ℕ}
use native.Mathlib.Omega.{arith}
use mathlib.Core.Path.{◌≡◌, ◌∙◌, sym, ap}
use mathlib.Core.Bool.{Bool, true, false}
use Rattle.base_words.specs.Choice.{if◌then◌otherwise◌}

-- the test holds: the first
pub take : {A : Type 0} {t : Bool} {x z : A} (y : A) → t ≡ true → z ≡ x → z ≡ (if t then x otherwise y)
take {A} {t} {x} y h e = e ∙ sym (ap (λ (b : Bool). if b then x otherwise y) h)

-- the test fails: the second
pub pass : {A : Type 0} {t : Bool} {y z : A} (x : A) → t ≡ false → z ≡ y → z ≡ (if t then x otherwise y)
pass {A} {t} {y} x h e = e ∙ sym (ap (λ (b : Bool). if b then x otherwise y) h)

-- no test both holds and fails
pub never : {A : Type 0} → true ≡ false → A
never e = absurd (let z : ◌≡◌ {A = ℕ} 0 1 = cc in omega arith)
