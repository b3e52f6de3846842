-- What a list remembers of its contacts: a flag for each, raised where the contact, as it stands in the tables now, is trusted. Flags
-- change no outcome; they only spare a look that was taken. For the functions of this crate, which no other crate sees. Assumes nothing.
use Rattle.std.specs.Prelude.{ℕ, Bool, true, false, List, ◌≡◌, get_or, set}
use Rattle.list_rules.specs.Sweep.{Tables}
use Rattle.quick_step.specs.Trusted.{Trusted}

-- the flag of contact k is up; one that has no flag has none raised
unfoldable pub raised : List Bool → ℕ → Bool
raised flags k = get_or flags k false

-- the flag of contact k put up
unfoldable pub flagged : List Bool → ℕ → List Bool
flagged flags k = set flags k true

-- every flag that is up is right
unfoldable pub Trusting : List Bool → Tables → Type 0
Trusting flags t = (k : ℕ) → raised flags k ≡ true → Trusted t k
