-- The tables are their shape and their rows. Assumes nothing.
use Prim.Native.Nat.{ℕ}
use mathlib.Core.List.{List}
use mathlib.Core.Path.{◌≡◌, ap}
use lib.Dec.{lit<}
use lib.Ieee.{Float}
use Rattle.base_places.specs.Places.{body_width, floats_width}
use Rattle.base_rows.proofs.Laws.{all_rows}
use Rattle.list_rules.specs.Sweep.{tables}
use Rattle.list_sharing.specs.Own.{Shape, body, contact}
use Rattle.list_sharing.specs.Locality.{NothingHidden}

tables_of : {b b' f f' : List Float} {n n' : List ℕ} → b ≡ b' → n ≡ n' → f ≡ f' → tables b n f ≡ tables b' n' f'
tables_of p q r = cc

pub nothing_hidden : NothingHidden
nothing_hidden t t' e same =
    tables_of (all_rows Float body_width (lit< tt) t.bodies t'.bodies (ap (λ (sh : Shape). sh.bodies) e) (λ b. same (body b))) (ap (λ (sh : Shape). sh.numbers) e)
    (all_rows Float floats_width (lit< tt) t.floats t'.floats (ap (λ (sh : Shape). sh.contacts) e) (λ k. same (contact k)))
