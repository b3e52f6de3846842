-- A list without its element at k, and the places that are left. Assumes nothing.
use Prim.Native.Nat.{ℕ, zero, suc, ◌+◌, ◌<◌, suc-le-suc}
use native.Mathlib.Nat.{le_of_suc-le-suc, not-suc-le-zero, suc_inj, suc-ne-zero, zero-lt-suc}
use native.Mathlib.Omega.{arith}
use mathlib.Core.Bool.{Bool, true, false, ◌||◌}
use mathlib.Core.List.{List, [], ◌∷◌}
use mathlib.Core.Logic.{◌≢◌}
use mathlib.Core.Path.{◌≡◌, refl, sym, ◌∙◌, ap}
use lib.ListN.{get_or, length}
use Rattle.base_words.specs.Choice.{if◌then◌otherwise◌}
use Rattle.base_order.specs.OneByOne.{any, count}

abbrev pub remove : {A : Type 0} → List A → ℕ → List A
remove [] k = []
remove (x ∷ xs) zero = xs
remove (x ∷ xs) (suc k) = x ∷ remove xs k

-- the place in the whole list of place j of the list without k
abbrev pub skip : ℕ → ℕ → ℕ
skip zero j = suc j
skip (suc k) zero = zero
skip (suc k) (suc j) = suc (skip k j)

-- and back, of any place but k
abbrev pub unskip : ℕ → ℕ → ℕ
unskip k zero = zero
unskip zero (suc j) = j
unskip (suc k) (suc j) = suc (unskip k j)

-- the list has one more
pub length-remove : {A : Type 0} (l : List A) (k : ℕ) → k < length l → length l ≡ suc (length (remove l k))
length-remove [] k h = absurd (not-suc-le-zero h)
length-remove (x ∷ xs) zero h = refl
length-remove (x ∷ xs) (suc k) h = ap suc (length-remove xs k (le_of_suc-le-suc h))

-- the others stand where they stood
pub get_or-remove : {A : Type 0} (l : List A) (k j : ℕ) (d : A) → get_or (remove l k) j d ≡ get_or l (skip k j) d
get_or-remove [] k j d = refl
get_or-remove (x ∷ xs) zero j d = refl
get_or-remove (x ∷ xs) (suc k) zero d = refl
get_or-remove (x ∷ xs) (suc k) (suc j) d = get_or-remove xs k j d

-- a test counts the element at k and the others ..
pub count-remove : {A : Type 0} (test : A → Bool) (l : List A) (k : ℕ) (d : A) → k < length l
    → count test l ≡ (if test (get_or l k d) then 1 otherwise 0) + count test (remove l k)
unfolding count
count-remove test [] k d h = absurd (not-suc-le-zero h)
count-remove test (x ∷ xs) zero d h = refl
count-remove test (x ∷ xs) (suc k) d h = omega (arith, count-remove test xs k d (le_of_suc-le-suc h))

or_swap : (a b c : Bool) → (a || (b || c)) ≡ (b || (a || c))
or_swap true true c = refl
or_swap true false c = refl
or_swap false true c = refl
or_swap false false c = refl

-- .. and is passed by it or by another
pub any_remove : {A : Type 0} (test : A → Bool) (l : List A) (k : ℕ) (d : A) → k < length l
    → any test l ≡ (test (get_or l k d) || any test (remove l k))
unfolding any
any_remove test [] k d h = absurd (not-suc-le-zero h)
any_remove test (x ∷ xs) zero d h = refl
any_remove test (x ∷ xs) (suc k) d h =
    ap (λ (b : Bool). test x || b) (any_remove test xs k d (le_of_suc-le-suc h)) ∙ or_swap (test x) (test (get_or xs k d)) (any test (remove xs k))

pub skip_unskip : (k j : ℕ) → j ≢ k → skip k (unskip k j) ≡ j
skip_unskip zero zero n = absurd (n refl)
skip_unskip (suc k) zero n = refl
skip_unskip zero (suc j) n = refl
skip_unskip (suc k) (suc j) n = ap suc (skip_unskip k j (λ e. n (ap suc e)))

pub unskip_skip : (k j : ℕ) → unskip k (skip k j) ≡ j
unskip_skip zero j = refl
unskip_skip (suc k) zero = refl
unskip_skip (suc k) (suc j) = ap suc (unskip_skip k j)

pub skip_misses : (k j : ℕ) → skip k j ≢ k
skip_misses zero j e = suc-ne-zero j e
skip_misses (suc k) zero e = suc-ne-zero k (sym e)
skip_misses (suc k) (suc j) e = skip_misses k j (suc_inj e)

pub skip_inside : (k j n : ℕ) → j < n → skip k j < suc n
skip_inside zero j n h = suc-le-suc h
skip_inside (suc k) zero n h = zero-lt-suc n
skip_inside (suc k) (suc j) zero h = absurd (not-suc-le-zero h)
skip_inside (suc k) (suc j) (suc n) h = suc-le-suc (skip_inside k j n (le_of_suc-le-suc h))

pub inside_skip : (k j n : ℕ) → k < suc n → skip k j < suc n → j < n
inside_skip zero j n hk h = le_of_suc-le-suc h
inside_skip (suc k) zero n hk h = omega arith
inside_skip (suc k) (suc j) zero hk h = absurd (not-suc-le-zero (le_of_suc-le-suc hk))
inside_skip (suc k) (suc j) (suc n) hk h = suc-le-suc (inside_skip k j n (le_of_suc-le-suc hk) (le_of_suc-le-suc h))

pub skip_less : (k a b : ℕ) → skip k a < skip k b → a < b
skip_less zero a b h = le_of_suc-le-suc h
skip_less (suc k) zero zero h = absurd (not-suc-le-zero h)
skip_less (suc k) zero (suc b) h = zero-lt-suc b
skip_less (suc k) (suc a) zero h = absurd (not-suc-le-zero h)
skip_less (suc k) (suc a) (suc b) h = suc-le-suc (skip_less k a b (le_of_suc-le-suc h))
