-- However a text is cut into portions, it comes to what the whole text comes to. Assumes nothing.
use mathlib.Core.List.{List, [], ◌∷◌}
use mathlib.Core.Path.{◌≡◌, refl, ◌∙◌, ap, sym}
use Prim.Native.Nat.{ℕ}
use Rattle.text_fields.specs.declared.Counts.{Counts}
use Rattle.text_read.specs.Text.{Text, feeds, text_of, unread}
use Rattle.text_read.specs.Portions.{AnyCut, BadDecides, begun, ended, going, taken, taken_all, whole}
use Rattle.text_read.proofs.Feeding.{feeds_append, feeds_refused}

pub all_taken : (room : Counts) (x : Text) (portions : List (List ℕ)) → taken_all room (going x) portions ≡ going (feeds room x (whole portions))
unfolding taken_all taken whole feeds
all_taken room x [] = refl
all_taken room x (s ∷ portions) = all_taken room (feeds room x s) portions ∙ ap going (sym (feeds_append room x s (whole portions)))

pub any_cut : AnyCut
unfolding begun ended text_of
any_cut room portions = ap (ended room) (all_taken room unread portions)

pub bad_decides : BadDecides
unfolding text_of
bad_decides room s rest n reason t e = rw (feeds_append room unread s rest, e, feeds_refused room n reason t rest)
