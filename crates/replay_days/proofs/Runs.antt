-- A run of bytes without byte 10 makes the line longer, and tells nothing. Assumes nothing.
use Prim.Native.Nat.{ℕ}
use borrow.Author.Tests.{ne_eqb}
use mathlib.Core.List.{List, [], ◌∷◌, ◌++◌, append_assoc, append-nil}
use mathlib.Core.Path.{◌≡◌, refl, ◌∙◌, ap}
use Rattle.text_fields.specs.Fields.{Free}
use Rattle.text_fields.proofs.Runs.{free_cons}
use Rattle.replay_days.specs.Going.{Going, byte_tells, fed, feeds, line_ended, line_says, tells}
use Rattle.replay_days.proofs.Portions.{fed_last, told_last}

-- where the line is so much longer
abbrev pub longer : Going → List ℕ → Going
longer g run = record { day = g.day; part = g.part; line = g.line ++ run }

fed_on : (g : Going) {b : ℕ} → (b ≡ 10 → ⊥) → fed g b ≡ longer g (b ∷ [])
unfolding fed
fed_on g {b} h = rw (ne_eqb b 10 h)

tells_on : (g : Going) {b : ℕ} → (b ≡ 10 → ⊥) → byte_tells g b ≡ []
unfolding byte_tells
tells_on g {b} h = rw (ne_eqb b 10 h)

pub run_fed : (run : List ℕ) (g : Going) → Free 10 run → feeds g run ≡ longer g run
unfolding feeds
run_fed [] g free = rw append-nil
run_fed (b ∷ run) g free =
    let f = free_cons 10 b run free in
    ap (λ h. feeds h run) (fed_on g f.0) ∙ run_fed run (longer g (b ∷ [])) f.1 ∙ rw append_assoc

pub run_tells : (run : List ℕ) (g : Going) → Free 10 run → tells g run ≡ []
unfolding tells
run_tells [] g free = refl
run_tells (b ∷ run) g free = let f = free_cons 10 b run free in rw (tells_on g f.0, run_tells run (fed g b) f.1)

-- and then byte 10 ends it
pub line_fed : (run : List ℕ) (g : Going) → Free 10 run → feeds g (run ++ (10 ∷ [])) ≡ line_ended (longer g run)
unfolding fed
line_fed run g free = fed_last g run 10 ∙ rw (run_fed run g free)

pub line_tells_lem : (run : List ℕ) (g : Going) → Free 10 run → tells g (run ++ (10 ∷ [])) ≡ line_says (longer g run)
unfolding byte_tells
line_tells_lem run g free = told_last g run 10 ∙ rw (run_tells run g free, run_fed run g free)
