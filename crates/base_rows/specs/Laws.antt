-- What a change of one row does to a stretch, for any width and any type A of element: document 01's "every other row keeps its bits".
-- Each is proved in proofs/Laws.antt. Assumes nothing.
use Rattle.std.specs.Prelude.{ℕ, ◌<◌, ◌≡◌, ◌≢◌, List, length}
use Rattle.base_rows.specs.Rows.{on_row, row, rows}

-- f makes a row of n elements of a row of n elements
abbrev pub Keeps : {A : Type 0} → ℕ → (List A → List A) → Type 0
Keeps {A} n f = (r : List A) → length r ≡ n → length (f r) ≡ n

-- what holds of every change of a row
abbrev pub OfChanges : (A : Type 0) → (ℕ → ℕ → (List A → List A) → List A → Type 0) → Type 0
OfChanges A P = (n k : ℕ) (f : List A → List A) (l : List A) → Keeps n f → P n k f l

-- the row itself is what f makes of it
abbrev pub RowItself : Type 0 → Type 0
RowItself A = OfChanges A (λ n k f l. k < rows n l → row n k (on_row n k f l) ≡ f (row n k l))

-- every other row keeps its bits
abbrev pub OtherRows : Type 0 → Type 0
OtherRows A = OfChanges A (λ n k f l. (m : ℕ) → m ≢ k → row n m (on_row n k f l) ≡ row n m l)

-- the stretch is as long as it was
abbrev pub AsLong : Type 0 → Type 0
AsLong A = OfChanges A (λ n k f l. length (on_row n k f l) ≡ length l)

-- changes of two rows may be made in either order
abbrev pub RowsCommute : Type 0 → Type 0
RowsCommute A =
    OfChanges A (λ n k f l. (m : ℕ) (g : List A → List A) → Keeps n g → k ≢ m → on_row n k f (on_row n m g l) ≡ on_row n m g (on_row n k f l))

-- what a row comes to hangs on what it was and on how many rows there are, and on nothing else
abbrev pub RowLocal : Type 0 → Type 0
RowLocal A =
    OfChanges A (λ n k f l. (l' : List A) → rows n l' ≡ rows n l → (m : ℕ) → row n m l' ≡ row n m l
    → row n m (on_row n k f l') ≡ row n m (on_row n k f l))

-- a stretch is its rows, what stands past the last whole one included
abbrev pub AllRows : Type 0 → Type 0
AllRows A = (n : ℕ) → 0 < n → (l l' : List A) → rows n l' ≡ rows n l → ((k : ℕ) → row n k l' ≡ row n k l) → l' ≡ l
