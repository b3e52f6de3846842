-- Lists that differ only in the order of steps that share nothing give each step the same answer and end in the same state, for any steps
-- of which two that share nothing commute. By recursion on the first list: its first step is taken out of both. Assumes nothing.
use Prim.Native.Nat.{ℕ, zero, suc, pred, ◌+◌, ◌<◌, suc-le-suc}
use native.Mathlib.Nat.{le_of_suc-le-suc, not-suc-le-zero, suc_inj, suc-ne-zero, suc-pred-eq_of_ne-zero, zero-lt-suc}
use native.Mathlib.Omega.{arith}
use mathlib.Core.Bool.{Bool, ◌||◌}
use mathlib.Core.List.{List, [], ◌∷◌}
use mathlib.Core.Path.{◌≡◌, refl, sym, ap, ap₂, ◌∙◌, subst, subst₂}
use lib.ListN.{get_or, length}
use Rattle.base_words.specs.Choice.{if◌then◌otherwise◌}
use Rattle.base_order.specs.OneByOne.{Stepped, answers, any, count, finish}
use Rattle.base_order.specs.Reordered.{Commute, Reordered, SameOutcome}
use Rattle.base_order.proofs.Snoc.{length_answers}
use Rattle.base_order.proofs.Removed.{any_remove, count-remove, get_or-remove, inside_skip, length-remove, remove, skip, skip_inside, skip_less, skip_misses, skip_unskip, unskip, unskip_skip}

-- two such lists, without the first step of xs
module _ {S : Type 0} {Shares : S → S → Type 0} {d : S} (x : S) (xs ys : List S) (m : Reordered Shares d (x ∷ xs) ys) where
  abbrev pub k : ℕ
  k = m.there zero

  abbrev there' : ℕ → ℕ
  there' i = unskip k (m.there (suc i))

  abbrev back' : ℕ → ℕ
  back' j = pred (m.back (skip k j))

  pub k_in : k < length ys
  k_in = m.there_inside zero (zero-lt-suc (length xs))

  len : length ys ≡ suc (length (remove ys k))
  len = length-remove ys k k_in

  skip_there : (i : ℕ) → i < length xs → skip k (there' i) ≡ m.there (suc i)
  skip_there i h =
      skip_unskip k (m.there (suc i))
      (λ q.
      suc-ne-zero i (sym (m.back_there (suc i) (suc-le-suc h)) ∙ ap m.back q ∙ m.back_there zero (zero-lt-suc (length xs))))

  there_in : (i : ℕ) → i < length xs → there' i < length (remove ys k)
  there_in i h =
      inside_skip k (there' i) (length (remove ys k)) (subst (λ (n : ℕ). k < n) len k_in)
      (subst₂ ◌<◌ (sym (skip_there i h)) len (m.there_inside (suc i) (suc-le-suc h)))

  skip_in : (j : ℕ) → j < length (remove ys k) → skip k j < length ys
  skip_in j h = subst (λ (n : ℕ). skip k j < n) (sym len) (skip_inside k j (length (remove ys k)) h)

  suc_back : (j : ℕ) → j < length (remove ys k) → suc (back' j) ≡ m.back (skip k j)
  suc_back j h = suc-pred-eq_of_ne-zero (λ z. skip_misses k j (sym (m.there_back (skip k j) (skip_in j h)) ∙ ap m.there z))

  pub rest : Reordered Shares d xs (remove ys k)
  rest = record {
    there = there';
    back = back';
    there_inside = there_in;
    back_inside = λ j h. le_of_suc-le-suc (subst (λ (n : ℕ). n < suc (length xs)) (sym (suc_back j h)) (m.back_inside (skip k j) (skip_in j h)));
    back_there = λ i h. suc_inj (suc_back (there' i) (there_in i h) ∙ ap m.back (skip_there i h) ∙ m.back_there (suc i) (suc-le-suc h));
    there_back = λ j h. ap (unskip k) (ap m.there (suc_back j h) ∙ m.there_back (skip k j) (skip_in j h)) ∙ unskip_skip k j;
    same_step = λ i h. get_or-remove ys k (there' i) d ∙ ap (λ (n : ℕ). get_or ys n d) (skip_there i h) ∙ m.same_step (suc i) (suc-le-suc h);
    same_order = λ i j l h s.
        skip_less k (there' i) (there' j)
        (subst₂ ◌<◌ (sym (skip_there i (omega arith))) (sym (skip_there j h)) (m.same_order (suc i) (suc j) (suc-le-suc l) (suc-le-suc h) s));
  }

  -- the first step of xs shares nothing with those that stand before it in ys
  pub free : (j : ℕ) → j < k → ¬ Shares x (get_or ys j d)
  free j b s =
      let j_in : j < length ys = omega (arith, k_in) in
      let q : m.there (m.back j) ≡ j = m.there_back j j_in in
      after (m.back j) refl (m.back_inside j j_in) q
      (subst (λ (z : S). Shares x z) (ap (λ (n : ℕ). get_or ys n d) (sym q) ∙ m.same_step (m.back j) (m.back_inside j j_in)) s)
    where
      after : (i : ℕ) → m.back j ≡ i → i < suc (length xs) → m.there i ≡ j → Shares x (get_or (x ∷ xs) i d) → ⊥
      after zero p h q s' = omega arith
      after (suc i) p h q s' = omega (arith, m.same_order zero (suc i) (zero-lt-suc i) h s')

-- where fewer pairs share something, fewer have to keep their order
abbrev pub fewer : {S : Type 0} {Shares Shares' : S → S → Type 0} {d : S} {xs ys : List S} → ((s t : S) → Shares s t → Shares' s t)
    → Reordered Shares' d xs ys → Reordered Shares d xs ys
fewer also m = record {
  there = m.there;
  back = m.back;
  there_inside = m.there_inside;
  back_inside = m.back_inside;
  back_there = m.back_there;
  there_back = m.there_back;
  same_step = m.same_step;
  same_order = λ i j l h s. m.same_order i j l h (also _ _ s);
}

module _ {S : Type 0} {Shares : S → S → Type 0} {d : S} where
  -- a list that no place of the other leads to has no place
  pub none_left : (y : S) (ys : List S) → Reordered Shares d [] (y ∷ ys) → ⊥
  none_left y ys m = not-suc-le-zero (m.back_inside zero (zero-lt-suc (length ys)))

  -- both lists are as long
  pub same_length : (xs ys : List S) → Reordered Shares d xs ys → length ys ≡ length xs
  same_length [] [] m = refl
  same_length [] (y ∷ ys) m = absurd (none_left y ys m)
  same_length (x ∷ xs) ys m = len x xs ys m ∙ ap suc (same_length xs (remove ys (m.there zero)) (rest x xs ys m))

  -- if a step of one passes a test, so does one of the other
  pub same_any : (test : S → Bool) (xs ys : List S) → Reordered Shares d xs ys → any test ys ≡ any test xs
  unfolding any
  same_any test [] [] m = refl
  same_any test [] (y ∷ ys) m = absurd (none_left y ys m)
  same_any test (x ∷ xs) ys m =
      any_remove test ys (m.there zero) d (k_in x xs ys m)
      ∙ ap₂ ◌||◌ (ap test (m.same_step zero (zero-lt-suc (length xs)))) (same_any test xs (remove ys (m.there zero)) (rest x xs ys m))

-- the theorem, over any steps of which two that share nothing commute in every good state, and that keep a state good
module _ {S St A : Type 0} (step : S → St → Stepped A St) (Shares : S → S → Type 0) (Good : St → Type 0) (d : S) (e : A)
    (good : (s : S) (st : St) → Good st → Good (step s st).after)
    (commute : (s t : S) (st : St) → Good st → ¬ Shares s t → Commute step s t st) where
  -- the step at k of a list, which shares nothing with those before it, might as well be done first
  record First (x : S) (k : ℕ) (ys : List S) (st : St) : Type 0 where
    its_answer : get_or (answers step ys st) k e ≡ (step x st).answer
    others : remove (answers step ys st) k ≡ answers step (remove ys k) (step x st).after
    end : finish step ys st ≡ finish step (remove ys k) (step x st).after

  first : (x : S) (k : ℕ) (ys : List S) (st : St) → Good st → k < length ys → get_or ys k d ≡ x
      → ((j : ℕ) → j < k → ¬ Shares x (get_or ys j d)) → First x k ys st
  unfolding finish answers
  first x k [] st g h q n = absurd (not-suc-le-zero h)
  first x zero (y ∷ ys) st g h q n = subst (λ (z : S). First z zero (y ∷ ys) st) q (record { its_answer = refl; others = refl; end = refl })
  first x (suc k) (y ∷ ys) st g h q n =
      let c : Commute step x y st = commute x y st g (n zero (zero-lt-suc k)) in
      let r : First x k ys (step y st).after = first x k ys (step y st).after (good y st g) (le_of_suc-le-suc h) q (λ j b. n (suc j) (suc-le-suc b)) in
      record {
        its_answer = r.its_answer ∙ c.first;
        others = ap₂ ◌∷◌ (sym c.second) (r.others ∙ ap (answers step (remove ys k)) c.ends);
        end = r.end ∙ ap (finish step (remove ys k)) c.ends;
      }

  pub reorder : (xs ys : List S) (m : Reordered Shares d xs ys) (st : St) → Good st → SameOutcome step m.there e xs ys st
  unfolding finish answers count rest
  reorder [] [] m st g = record { same_answer = λ i h. absurd (not-suc-le-zero h); same_end = refl; same_count = λ test. refl }
  reorder [] (y ∷ ys) m st g = absurd (none_left y ys m)
  reorder (x ∷ xs) ys m st g =
      let at_first : First x (m.there zero) ys st =
      first x (m.there zero) ys st g (k_in x xs ys m) (m.same_step zero (zero-lt-suc (length xs))) (free x xs ys m) in
      let later : SameOutcome step (there' x xs ys m) e xs (remove ys (m.there zero)) (step x st).after =
      reorder xs (remove ys (m.there zero)) (rest x xs ys m) (step x st).after (good x st g) in
      record {
        same_answer = at at_first later;
        same_end = at_first.end ∙ later.same_end;
        same_count = λ test.
            count-remove test (answers step ys st) (m.there zero) e (subst (λ (n : ℕ). m.there zero < n) (sym (length_answers step ys st)) (k_in x xs ys m))
            ∙ ap₂ ◌+◌ (ap (λ (a : A). if test a then 1 otherwise 0) at_first.its_answer) (ap (count test) at_first.others ∙ later.same_count test);
      }
    where
      at : First x (m.there zero) ys st → SameOutcome step (there' x xs ys m) e xs (remove ys (m.there zero)) (step x st).after
          → (i : ℕ) → i < suc (length xs) → get_or (answers step ys st) (m.there i) e ≡ get_or (answers step (x ∷ xs) st) i e
      at f r zero h = f.its_answer
      at f r (suc i) h =
          ap (λ (n : ℕ). get_or (answers step ys st) n e) (sym (skip_there x xs ys m i (le_of_suc-le-suc h)))
          ∙ sym (get_or-remove (answers step ys st) (m.there zero) (there' x xs ys m i) e)
          ∙ ap (λ (l : List A). get_or l (there' x xs ys m i) e) f.others
          ∙ r.same_answer i (le_of_suc-le-suc h)
