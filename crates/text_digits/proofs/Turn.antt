-- One digit of a number: what is left to read comes to the same from where the turn leaves off. Assumes nothing.
use Prim.Native.Nat.{ℕ, ◌+◌, ◌*◌, ◌≤◌, ◌<◌}
use native.Mathlib.Numerals.{add-one}
use mathlib.Core.Path.{◌≡◌, refl, ◌∙◌}
use mathlib.Core.List.{List, [], ◌∷◌}
use lib.ListN.{length, get_or, drop, drop_of_length-le}
use lib.Seq.{drop-cons}
use Rattle.std.specs.Prelude.{Option, Some, None}
use native.Mathlib.Omega.{arith}
use Rattle.std.proofs.lemmas.Grind.{common_steps}
use Rattle.text_digits.specs.Digits.{digit_of, number_from}

-- the definition's cases
module _ (base limit n b : ℕ) (s : List ℕ) where
  pub in_range : digit_of b < base → n * base + digit_of b ≤ limit
      → number_from base limit (n * base + digit_of b) s ≡ number_from base limit n (b ∷ s)
  unfolding number_from
  in_range p q = grind (arith, common_steps)

  pub none : base ≤ digit_of b → None ≡ number_from base limit n (b ∷ s)
  unfolding number_from
  none p = grind (arith, common_steps)

  high : limit < n * base + digit_of b → None ≡ number_from base limit n (b ∷ s)
  unfolding number_from
  high q = grind (arith, common_steps)

pub ended : (base limit n : ℕ) → Some n ≡ number_from base limit n []
unfolding number_from
ended base limit n = refl

-- what is left to read from i on, after n, comes to r
pub record Left (base limit n i : ℕ) (s : List ℕ) (r : Option ℕ) : Type 0 where
  pub same : number_from base limit n (drop i s) ≡ r

-- nothing is read yet
pub whole : (base limit : ℕ) (s : List ℕ) → Left base limit 0 0 s (number_from base limit 0 s)
whole base limit s = record { same = refl }

-- the byte at i counts as d
module _ {base limit n i d : ℕ} {s : List ℕ} {r : Option ℕ} (v : Left base limit n i s r) where
  next : i < length s → d ≡ digit_of (get_or s i 0) → number_from base limit n (get_or s i 0 ∷ drop (i + 1) s) ≡ r
  next h e = rw add-one (rw (drop-cons s i 0 h) at v.same)

  pub turn : i < length s → d ≡ digit_of (get_or s i 0) → d < base → n * base + d ≤ limit → Left base limit (n * base + d) (i + 1) s r
  turn h e p q = record { same = rw e (in_range _ _ _ _ _ (rw e at p) (rw e at q) ∙ next h e) }

  pub no_digit : i < length s → d ≡ digit_of (get_or s i 0) → base ≤ d → None ≡ r
  no_digit h e p = none _ _ _ _ _ (rw e at p) ∙ next h e

  pub too_large : i < length s → d ≡ digit_of (get_or s i 0) → limit < n * base + d → None ≡ r
  too_large h e q = high _ _ _ _ _ (rw e at q) ∙ next h e

pub over : {base limit n i : ℕ} {s : List ℕ} {r : Option ℕ} → Left base limit n i s r → length s ≤ i → Some n ≡ r
over v h = ended _ _ _ ∙ (rw (drop_of_length-le _ h) at v.same)
