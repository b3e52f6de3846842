-- "The floor is no shared body", and a number outside its table is none. Proved in proofs/Unshared.antt. Assumes nothing.
use Rattle.std.specs.Prelude.{ℕ, ◌≤◌, ◌≢◌, ◌⊎◌, ◌≡◌}
use Rattle.base_places.specs.Places.{body_width}
use Rattle.base_rows.specs.Rows.{rows}
use Rattle.list_tables.specs.declared.Step.{Step}
use Rattle.list_rules.specs.Sweep.{Tables}
use Rattle.list_sharing.specs.Sharing.{Names, Shares}

-- steps of two contacts share nothing, if whatever body number both name is the floor's, or is not in the table
abbrev pub FloorUnshared : Type 0
FloorUnshared =
    (t : Tables) (s u : Step) → s.contact ≢ u.contact
    → ((b : ℕ) → Names t s b → Names t u b → (b ≡ 65535) ⊎ (rows body_width t.bodies ≤ b)) → ¬ Shares t s u
