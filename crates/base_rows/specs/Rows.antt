-- Document 01, "Tables": a lent stretch holds rows of one width, one after the other. For any width n and any kind of element.
-- Assumes nothing.
use Rattle.std.specs.Prelude.{ℕ, ◌*◌, ◌/◌, List, ◌++◌, ltb, length, take, drop}
use Rattle.base_words.specs.Choice.{if◌then◌otherwise◌}

-- the n elements from place a on
unfoldable pub part : {A : Type 0} → ℕ → ℕ → List A → List A
part a n l = take n (drop a l)

-- the stretch with f done to that part: what stands before it, the part, what stands after it
unfoldable pub on_part : {A : Type 0} → ℕ → ℕ → (List A → List A) → List A → List A
on_part a n f l = take a l ++ (f (part a n l) ++ drop n (drop a l))

-- how many whole rows there are
abbrev pub rows : {A : Type 0} → ℕ → List A → ℕ
rows n l = length l / n

-- row k, counted from 0
abbrev pub row : {A : Type 0} → ℕ → ℕ → List A → List A
row n k l = part (k * n) n l

-- what row k says, read as a record; where there is no row k, what stands in for it
unfoldable pub read_row : {A R : Type 0} → ℕ → ℕ → (List A → R) → R → List A → R
read_row n k read none l = if ltb k (rows n l) then read (row n k l) otherwise none

-- the stretch with f done to row k; where it has no row k, nothing is done
unfoldable pub on_row : {A : Type 0} → ℕ → ℕ → (List A → List A) → List A → List A
on_row n k f l = if ltb k (rows n l) then on_part (k * n) n f l otherwise l
