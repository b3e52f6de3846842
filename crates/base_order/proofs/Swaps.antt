-- A list is a reordering of itself, two neighbours that share nothing may be swapped anywhere in a list, and reorderings follow one
-- another; and every reordering is made of such swaps. Assumes nothing.
use Prim.Native.Nat.{ℕ, zero, suc, ◌<◌, suc-le-suc}
use native.Mathlib.Nat.{le_of_suc-le-suc, not-suc-le-zero, zero-lt-suc}
use native.Mathlib.Omega.{arith}
use mathlib.Core.List.{List, [], ◌∷◌, ◌++◌}
use mathlib.Core.Path.{◌≡◌, refl, sym, ap, ◌∙◌, subst, subst₂}
use lib.ListN.{get_or, length}
use Rattle.base_order.specs.Reordered.{Reordered}
use Rattle.base_order.specs.Swaps.{ChainsCovered, Composes, NothingElse, SwapReorders, Swaps, none, swap}
use Rattle.base_order.proofs.Removed.{remove}
use Rattle.base_order.proofs.Reorder.{free, k_in, none_left, rest}

-- a map of places, under one more step in front
abbrev under : (ℕ → ℕ) → ℕ → ℕ
under f zero = zero
under f (suc i) = suc (f i)

-- the first two change places
abbrev swap01 : ℕ → ℕ
swap01 zero = 1
swap01 (suc zero) = 0
swap01 (suc (suc i)) = suc (suc i)

module _ {S : Type 0} (Shares : S → S → Type 0) (d : S) where
  itself : (xs : List S) → Reordered Shares d xs xs
  itself xs = record {
    there = λ i. i;
    back = λ j. j;
    there_inside = λ i h. h;
    back_inside = λ j h. h;
    back_there = λ i h. refl;
    there_back = λ j h. refl;
    same_step = λ i h. refl;
    same_order = λ i j l h s. l;
  }

  -- one more step in front of both lists
  behind : (x : S) (xs ys : List S) → Reordered Shares d xs ys → Reordered Shares d (x ∷ xs) (x ∷ ys)
  behind x xs ys m = record {
    there = under m.there;
    back = under m.back;
    there_inside = inside xs ys m.there m.there_inside;
    back_inside = inside ys xs m.back m.back_inside;
    back_there = round xs m.there m.back m.back_there;
    there_back = round ys m.back m.there m.there_back;
    same_step = same;
    same_order = order;
  }
    where
      inside : (l r : List S) (f : ℕ → ℕ) → ((i : ℕ) → i < length l → f i < length r) → (i : ℕ) → i < suc (length l) → under f i < suc (length r)
      inside l r f go zero h = zero-lt-suc (length r)
      inside l r f go (suc i) h = suc-le-suc (go i (le_of_suc-le-suc h))

      round : (l : List S) (f g : ℕ → ℕ) → ((i : ℕ) → i < length l → g (f i) ≡ i) → (i : ℕ) → i < suc (length l) → under g (under f i) ≡ i
      round l f g go zero h = refl
      round l f g go (suc i) h = ap suc (go i (le_of_suc-le-suc h))

      same : (i : ℕ) → i < suc (length xs) → get_or (x ∷ ys) (under m.there i) d ≡ get_or (x ∷ xs) i d
      same zero h = refl
      same (suc i) h = m.same_step i (le_of_suc-le-suc h)

      order : (i j : ℕ) → i < j → j < suc (length xs) → Shares (get_or (x ∷ xs) i d) (get_or (x ∷ xs) j d) → under m.there i < under m.there j
      order i zero l h s = absurd (not-suc-le-zero l)
      order zero (suc j) l h s = zero-lt-suc (m.there j)
      order (suc i) (suc j) l h s = suc-le-suc (m.same_order i j (le_of_suc-le-suc l) (le_of_suc-le-suc h) s)

  -- the first two steps, swapped
  swapped : (s t : S) (xs : List S) → ¬ Shares s t → Reordered Shares d (s ∷ t ∷ xs) (t ∷ s ∷ xs)
  swapped s t xs apart = record {
    there = swap01;
    back = swap01;
    there_inside = inside;
    back_inside = inside;
    back_there = λ i h. twice i;
    there_back = λ i h. twice i;
    same_step = λ i h. same i;
    same_order = order;
  }
    where
      inside : (i : ℕ) → i < suc (suc (length xs)) → swap01 i < suc (suc (length xs))
      inside zero h = omega arith
      inside (suc zero) h = omega arith
      inside (suc (suc i)) h = h

      twice : (i : ℕ) → swap01 (swap01 i) ≡ i
      twice zero = refl
      twice (suc zero) = refl
      twice (suc (suc i)) = refl

      same : (i : ℕ) → get_or (t ∷ s ∷ xs) (swap01 i) d ≡ get_or (s ∷ t ∷ xs) i d
      same zero = refl
      same (suc zero) = refl
      same (suc (suc i)) = refl

      order : (i j : ℕ) → i < j → j < suc (suc (length xs)) → Shares (get_or (s ∷ t ∷ xs) i d) (get_or (s ∷ t ∷ xs) j d) → swap01 i < swap01 j
      order i zero l h q = absurd (not-suc-le-zero l)
      order zero (suc zero) l h q = absurd (apart q)
      order (suc i) (suc zero) l h q = omega arith
      order zero (suc (suc j)) l h q = omega arith
      order (suc zero) (suc (suc j)) l h q = omega arith
      order (suc (suc i)) (suc (suc j)) l h q = l

  pub swap_reorders : SwapReorders Shares d
  swap_reorders [] s t qs apart = swapped s t qs apart
  swap_reorders (p ∷ ps) s t qs apart = behind p (ps ++ s ∷ t ∷ qs) (ps ++ t ∷ s ∷ qs) (swap_reorders ps s t qs apart)

  pub composes : Composes Shares d
  composes xs ys zs m n = record {
    there = λ i. n.there (m.there i);
    back = λ j. m.back (n.back j);
    there_inside = λ i h. n.there_inside (m.there i) (m.there_inside i h);
    back_inside = λ j h. m.back_inside (n.back j) (n.back_inside j h);
    back_there = λ i h. ap m.back (n.back_there (m.there i) (m.there_inside i h)) ∙ m.back_there i h;
    there_back = λ j h. ap n.there (m.there_back (n.back j) (n.back_inside j h)) ∙ n.there_back j h;
    same_step = λ i h. n.same_step (m.there i) (m.there_inside i h) ∙ m.same_step i h;
    same_order = λ i j l h s.
        n.same_order (m.there i) (m.there j) (m.same_order i j l h s) (m.there_inside j h)
        (subst₂ Shares (sym (m.same_step i (omega arith))) (sym (m.same_step j h)) s);
  }

  covered : {xs ys : List S} → Swaps Shares xs ys → Reordered Shares d xs ys
  covered {xs} none = itself xs
  covered {ys} (swap ps s t qs apart more) =
      composes (ps ++ s ∷ t ∷ qs) (ps ++ t ∷ s ∷ qs) ys (swap_reorders ps s t qs apart) (covered more)

  pub chains_covered : ChainsCovered Shares d
  chains_covered xs ys swaps = covered swaps

  -- swaps behind one more step
  swaps_behind : (x : S) {xs ys : List S} → Swaps Shares xs ys → Swaps Shares (x ∷ xs) (x ∷ ys)
  swaps_behind x none = none
  swaps_behind x (swap ps s t qs apart more) = swap (x ∷ ps) s t qs apart (swaps_behind x more)

  -- swaps, and then others
  swaps_then : {xs ys zs : List S} → Swaps Shares xs ys → Swaps Shares ys zs → Swaps Shares xs zs
  swaps_then none later = later
  swaps_then (swap ps s t qs apart more) later = swap ps s t qs apart (swaps_then more later)

  -- a step moves back to its place k, past steps with which it shares nothing
  moves_back : (x : S) (k : ℕ) (ys : List S) → k < length ys → get_or ys k d ≡ x → ((j : ℕ) → j < k → ¬ Shares x (get_or ys j d))
      → Swaps Shares (x ∷ remove ys k) ys
  moves_back x k [] h q apart = absurd (not-suc-le-zero h)
  moves_back x zero (y ∷ ys) h q apart = subst (λ (z : S). Swaps Shares (z ∷ ys) (y ∷ ys)) q none
  moves_back x (suc k) (y ∷ ys) h q apart =
      swap [] x y (remove ys k) (apart zero (zero-lt-suc k))
      (swaps_behind y (moves_back x k ys (le_of_suc-le-suc h) q (λ j b. apart (suc j) (suc-le-suc b))))

  pub nothing_else : NothingElse Shares d
  nothing_else [] [] m = none
  nothing_else [] (y ∷ ys) m = absurd (none_left y ys m)
  nothing_else (x ∷ xs) ys m =
      swaps_then (swaps_behind x (nothing_else xs (remove ys (m.there zero)) (rest x xs ys m)))
      (moves_back x (m.there zero) ys (k_in x xs ys m) (m.same_step zero (zero-lt-suc (length xs))) (free x xs ys m))
