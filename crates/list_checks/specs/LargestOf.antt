-- What a list is looked through for once, to judge 2 and 3 by it: its largest contact number and its largest kind. For the functions of
-- this crate, which no other crate sees. Assumes nothing.
use Rattle.std.specs.Prelude.{ℕ, zero, suc, max, List}
use Rattle.base_places.specs.Places.{step_width}
use Rattle.base_rows.specs.Rows.{rows}
use Rattle.list_tables.specs.Tables.{step_at}
use Rattle.list_tables.specs.declared.Step.{Step}
use Rattle.list_checks.specs.declared.Most.{Most}

-- the largest that the first n steps have of a number, the contact's or the kind; 0 where n is 0
unfoldable pub largest_of : (Step → ℕ) → List ℕ → ℕ → ℕ
largest_of number steps zero = 0
largest_of number steps (suc n) = max (largest_of number steps n) (number (step_at steps n))

-- over the whole list
abbrev pub largest : List ℕ → Most
largest steps = record {
  contact = largest_of (λ s. s.contact) steps (rows step_width steps);
  kind = largest_of (λ s. s.kind) steps (rows step_width steps);
}
