-- The laws of rows, from those of parts. Assumes nothing.
use Prim.Native.Nat.{ℕ, suc, ◌+◌, ◌*◌, ◌/◌, ◌%◌, ◌≤◌, ◌<◌}
use native.Mathlib.Omega.{arith}
use native.Mathlib.Nat.{div-add-mod', div-mul-le_self, mod-lt, mul-le-mul_right, zero-div}
use native.Mathlib.Decide.{dec_lt, ℕ_discrete}
use mathlib.Core.Path.{◌≡◌, refl, sym, ◌∙◌, ap}
use mathlib.Core.Logic.{◌≢◌, inl, inr}
use mathlib.Core.List.{List, [], ◌∷◌}
use lib.ListN.{drop, get_or, length, length-drop, length-take}
use lib.Seq.{ext_get_or, get_or-drop, get_or-take}
use borrow.Author.Tests.{lt-ltb, le-ltb}
use Rattle.base_words.proofs.Pick.{take, pass}
use Rattle.base_rows.specs.Rows.{on_part, on_row, part, row, rows}
use Rattle.base_rows.specs.Laws.{AllRows, AsLong, Keeps, OtherRows, RowItself, RowLocal, RowsCommute}
use Rattle.base_rows.proofs.Parts.{Apart, length_on_part, length_part, part_itself, part_other, parts_commute}

module _ {A : Type 0} (n k : ℕ) (f : List A → List A) (l : List A) where
  -- a row of the stretch lies in it
  pub row_fits : k < rows n l → k * n + n ≤ length l
  row_fits h = omega (arith, mul-le-mul_right n h, div-mul-le_self (length l) n)

  pub on_row_there : k < rows n l → on_row n k f l ≡ on_part (k * n) n f l
  unfolding on_row
  on_row_there h = sym (take l (lt-ltb k (rows n l) h) refl)

  pub on_row_past : rows n l ≤ k → on_row n k f l ≡ l
  unfolding on_row
  on_row_past h = sym (pass (on_part (k * n) n f l) (le-ltb k (rows n l) h) refl)

  keeps_part : Keeps n f → k < rows n l → length (f (part (k * n) n l)) ≡ n
  keeps_part keeps h = keeps (part (k * n) n l) (length_part (k * n) n l (row_fits h))

-- two rows lie apart
rows_apart : (n m k : ℕ) → m ≢ k → Apart (m * n) n (k * n) n
rows_apart n m k ne = side (dec_lt m k)
  where
    side : Dec (m < k) → Apart (m * n) n (k * n) n
    side (yes lt) = inl (omega (arith, mul-le-mul_right n lt))
    side (no nl) =
        let gt : suc k ≤ m = omega (arith, ne, nl) in
        inr (omega (arith, mul-le-mul_right n gt))

-- no row stands in an empty stretch
none_in_empty : (n k : ℕ) → k < 0 / n → ⊥
none_in_empty n k h = let z : 0 / n ≡ 0 = zero-div n in omega (arith, h, z)

pub row_itself : (A : Type 0) → RowItself A
row_itself A n k f l keeps h =
    rw (on_row_there n k f l h) (part_itself (k * n) n f l (row_fits n k f l h) (keeps_part n k f l keeps h))

pub as_long : (A : Type 0) → AsLong A
as_long A n k f l keeps = side (dec_lt k (rows n l))
  where
    side : Dec (k < rows n l) → length (on_row n k f l) ≡ length l
    side (yes h) =
        ap length (on_row_there n k f l h) ∙ length_on_part (k * n) n f l (row_fits n k f l h) (keeps_part n k f l keeps h)
    side (no nl) = ap length (on_row_past n k f l (omega (arith, nl)))

pub other_rows : (A : Type 0) → OtherRows A
other_rows A n k f [] keeps m ne = ap (row n m) (on_row_past n k f [] (omega (arith, zero-div n)))
other_rows A n k f (d ∷ ds) keeps m ne = side (dec_lt k (rows n (d ∷ ds)))
  where
    side : Dec (k < rows n (d ∷ ds)) → row n m (on_row n k f (d ∷ ds)) ≡ row n m (d ∷ ds)
    side (yes h) =
        ap (row n m) (on_row_there n k f (d ∷ ds) h)
        ∙ part_other (k * n) n f (d ∷ ds) (row_fits n k f (d ∷ ds) h) (keeps_part n k f (d ∷ ds) keeps h) d (m * n) n (rows_apart n m k ne)
    side (no nl) = ap (row n m) (on_row_past n k f (d ∷ ds) (omega (arith, nl)))

pub rows_commute : (A : Type 0) → RowsCommute A
rows_commute A n k f l keeps_f m g keeps_g ne = sides (dec_lt k (rows n l)) (dec_lt m (rows n l))
  where
    -- how many rows there are does not change
    still_f : rows n (on_row n k f l) ≡ rows n l
    still_f = ap (λ (i : ℕ). i / n) (as_long A n k f l keeps_f)

    still_g : rows n (on_row n m g l) ≡ rows n l
    still_g = ap (λ (i : ℕ). i / n) (as_long A n m g l keeps_g)

    there : (l' : List A) → k < rows n l' → m < rows n l'
        → on_part (k * n) n f (on_part (m * n) n g l') ≡ on_part (m * n) n g (on_part (k * n) n f l')
    there [] h i = absurd (none_in_empty n k h)
    there (d ∷ ds) h i =
        parts_commute d (k * n) n (m * n) n f g (d ∷ ds) (rows_apart n m k (λ q. ne (sym q))) (row_fits n k f (d ∷ ds) h) (row_fits n m g (d ∷ ds) i)
        (keeps_part n k f (d ∷ ds) keeps_f h) (keeps_part n m g (d ∷ ds) keeps_g i)

    sides : Dec (k < rows n l) → Dec (m < rows n l) → on_row n k f (on_row n m g l) ≡ on_row n m g (on_row n k f l)
    sides (yes h) (yes i) =
        on_row_there n k f (on_row n m g l) (rw still_g h)
        ∙ ap (on_part (k * n) n f) (on_row_there n m g l i)
        ∙ there l h i
        ∙ sym (on_row_there n m g (on_row n k f l) (rw still_f i) ∙ ap (on_part (m * n) n g) (on_row_there n k f l h))
    sides (yes h) (no i) =
        ap (on_row n k f) (on_row_past n m g l (omega (arith, i))) ∙ sym (on_row_past n m g (on_row n k f l) (omega (arith, i, still_f)))
    sides (no h) _ =
        on_row_past n k f (on_row n m g l) (omega (arith, h, still_g)) ∙ sym (ap (on_row n m g) (on_row_past n k f l (omega (arith, h))))

pub row_local : (A : Type 0) → RowLocal A
row_local A n k f l keeps l' many m same = by_case (ℕ_discrete m k) (dec_lt k (rows n l))
  where
    by_case : Dec (m ≡ k) → Dec (k < rows n l) → row n m (on_row n k f l') ≡ row n m (on_row n k f l)
    by_case (no ne) _ = other_rows A n k f l' keeps m ne ∙ same ∙ sym (other_rows A n k f l keeps m ne)
    by_case (yes e) (yes h) =
        let here : row n k l' ≡ row n k l = rw e at same in
        rw e (row_itself A n k f l' keeps (rw many h) ∙ ap f here ∙ sym (row_itself A n k f l keeps h))
    by_case (yes e) (no nl) =
        ap (row n m) (on_row_past n k f l' (omega (arith, nl, many))) ∙ same ∙ sym (ap (row n m) (on_row_past n k f l (omega (arith, nl))))

-- a stretch is as long as its whole rows and what stands past them
length-rows : {A : Type 0} (n : ℕ) → 0 < n → (l : List A) → length l ≡ rows n l * n + length (row n (rows n l) l)
unfolding part
length-rows n pos l =
    simp (length-take, length-drop) (omega (arith, div-add-mod' (length l) n, mod-lt (length l) pos))

-- place j stands in row j / n, at j % n
in_row : {A : Type 0} (n : ℕ) → 0 < n → (l : List A) (d : A) (j : ℕ) → get_or (row n (j / n) l) (j % n) d ≡ get_or l j d
unfolding part
in_row n pos l d j =
    get_or-take n (drop (j / n * n) l) (j % n) d (mod-lt j pos)
    ∙ get_or-drop (j / n * n) l (j % n) d
    ∙ ap (λ (i : ℕ). get_or l i d) (div-add-mod' j n)

pub all_rows : (A : Type 0) → AllRows A
all_rows A n pos l l' many same = by_case l l' long same
  where
    long : length l' ≡ length l
    long =
        length-rows n pos l'
        ∙ ap (λ (k : ℕ). k * n + length (row n k l')) many
        ∙ ap (λ (r : List A). rows n l * n + length r) (same (rows n l))
        ∙ sym (length-rows n pos l)

    by_case : (x y : List A) → length y ≡ length x → ((k : ℕ) → row n k y ≡ row n k x) → y ≡ x
    by_case [] [] e go = refl
    by_case [] (y ∷ ys) e go = absurd (omega arith)
    by_case (x ∷ xs) ys e go =
        ext_get_or x ys (x ∷ xs) e
        (λ j h. sym (in_row n pos ys x j) ∙ ap (λ (r : List A). get_or r (j % n) x) (go (j / n)) ∙ in_row n pos (x ∷ xs) x j)
