-- Byte after byte: the lines need not be there before they are judged. Assumes nothing.
use Prim.Native.Nat.{ℕ}
use mathlib.Core.Bool.{Bool, true, false}
use mathlib.Core.List.{List, [], ◌∷◌, ◌++◌, append_assoc}
use mathlib.Core.Path.{◌≡◌, refl, sym, ◌∙◌}
use lib.Dec.{eqb}
use lib.ListN.{length}
use Rattle.replay_days.specs.Judged.{judged, lines_from, lines_of}
use Rattle.replay_days.specs.Going.{Going, byte_tells, fed, feeds, finish, line_ended, start, tells}
use Rattle.replay_days.proofs.Online.{line_by_line, tells_lines}

abbrev Told : Going → List ℕ → Type 0
Told g s = tells_lines g.day g.part (lines_from g.line s) ≡ tells g s ++ finish (feeds g s)

at_end : (g : Going) (none : Bool) → eqb (length g.line) 0 ≡ none → Told g []
unfolding tells_lines lines_from tells finish feeds
at_end g true e = rw e
at_end g false e = rw e

by_byte : (g : Going) (b : ℕ) (s : List ℕ) (ends : Bool) → eqb b 10 ≡ ends → ((h : Going) → Told h s) → Told g (b ∷ s)
unfolding tells_lines lines_from tells feeds fed byte_tells line_ended
by_byte g b s true e on = rw (e, append_assoc, on (line_ended g))
by_byte g b s false e on = rw e (on (record { day = g.day; part = g.part; line = g.line ++ (b ∷ []) }))

told : (s : List ℕ) (g : Going) → Told g s
told [] g = at_end g (eqb (length g.line) 0) refl
told (b ∷ s) g = by_byte g b s (eqb b 10) refl (told s)

pub byte_by_byte : (file : List ℕ) → tells start file ++ finish (feeds start file) ≡ judged file
unfolding judged lines_of start
byte_by_byte file = sym (line_by_line (lines_from [] file) ∙ told file start)
