-- Bytes fed to a text: none, several after each other, and a run of bytes without byte 10, which is one longer line. Assumes nothing.
use Prim.Native.Nat.{ℕ, ◌+◌, ◌≤◌, ◌<◌}
use native.Mathlib.Decide.{dec_lt}
use native.Mathlib.Omega.{arith}
use borrow.Author.Tests.{eq-eqb, le-ltb, lt-ltb, ne_eqb}
use mathlib.Core.List.{List, [], ◌∷◌, ◌++◌, append_assoc, append-nil}
use mathlib.Core.Path.{◌≡◌, refl, sym, ◌∙◌}
use lib.ListN.{length, length-append}
use Rattle.base_words.proofs.Pick.{pass, take as pick}
use Rattle.base_places.specs.Lengths.{most_in_line}
use Rattle.text_fields.specs.Fields.{Free}
use Rattle.text_fields.specs.declared.Counts.{Counts}
use Rattle.text_fields.proofs.Runs.{free_cons}
use Rattle.text_line.specs.Night.{Night}
use Rattle.text_line.specs.Lines.{read_line}
use Rattle.text_read.specs.Text.{Text, feed, feeds, line_ended, reading, refused}

module _ (room : Counts) where
  pub feeds_refused : (n reason : ℕ) (t : Night) (s : List ℕ) → feeds room (refused n reason t) s ≡ refused n reason t
  unfolding feeds feed
  feeds_refused n reason t [] = refl
  feeds_refused n reason t (b ∷ s) = feeds_refused n reason t s

  pub feeds_append : (x : Text) (s u : List ℕ) → feeds room x (s ++ u) ≡ feeds room (feeds room x s) u
  unfolding feeds
  feeds_append x [] u = refl
  feeds_append x (b ∷ s) u = feeds_append (feed room x b) s u

  pub feeds_none : (x : Text) → feeds room x [] ≡ x
  unfolding feeds
  feeds_none x = refl

  feeds_cons : (x : Text) (b : ℕ) (s : List ℕ) → feeds room x (b ∷ s) ≡ feeds room (feed room x b) s
  unfolding feeds
  feeds_cons x b s = refl

  module _ (n : ℕ) (t : Night) where
    feed_line : (line : List ℕ) {b : ℕ} → b ≡ 10 → feed room (reading line n t) b ≡ line_ended n t (read_line room t line)
    unfolding feed
    feed_line line e = sym (pick _ (eq-eqb _ _ e) refl)

    feed_on : (line : List ℕ) {b : ℕ} → (b ≡ 10 → ⊥) → length line < most_in_line
        → feed room (reading line n t) b ≡ reading (line ++ (b ∷ [])) n t
    unfolding feed
    feed_on line e h = sym (pass _ (ne_eqb _ _ e) (pick _ (lt-ltb _ _ h) refl))

    feed_long : (line : List ℕ) {b : ℕ} → (b ≡ 10 → ⊥) → most_in_line ≤ length line → feed room (reading line n t) b ≡ refused n 1 t
    unfolding feed
    feed_long line e h = sym (pass _ (ne_eqb _ _ e) (pass _ (le-ltb _ _ h) refl))

    -- a run of bytes without byte 10 makes the line longer ..
    pub run_on : (run line : List ℕ) → Free 10 run → length line + length run ≤ most_in_line
        → feeds room (reading line n t) run ≡ reading (line ++ run) n t
    run_on [] line free h = feeds_none (reading line n t) ∙ rw append-nil
    run_on (b ∷ run) line free h =
        let f = free_cons 10 b run free in
        let l = length-append line (b ∷ []) in
        rw (feeds_cons, feed_on line f.0 (omega arith), run_on run (line ++ (b ∷ [])) f.1 (omega arith), append_assoc)

    -- .. or too long
    over_by : (run line : List ℕ) {b : ℕ} → (b ≡ 10 → ⊥) → Dec (length line < most_in_line)
        → (length line < most_in_line → feeds room (reading (line ++ (b ∷ [])) n t) run ≡ refused n 1 t)
        → feeds room (reading line n t) (b ∷ run) ≡ refused n 1 t
    over_by run line e (yes q) later = rw (feeds_cons, feed_on line e q, later q)
    over_by run line e (no q) later = rw (feeds_cons, feed_long line e (omega arith), feeds_refused)

    pub run_over : (run line : List ℕ) → Free 10 run → length line ≤ most_in_line → most_in_line < length line + length run
        → feeds room (reading line n t) run ≡ refused n 1 t
    run_over [] line free h p = absurd (omega arith)
    run_over (b ∷ run) line free h p =
        let f = free_cons 10 b run free in
        let l = length-append line (b ∷ []) in
        over_by run line f.0 (dec_lt (length line) most_in_line) (λ q. run_over run (line ++ (b ∷ [])) f.1 (omega arith) (omega arith))

    -- and then byte 10 ends it
    pub line_ends : (run line : List ℕ) → Free 10 run → length line + length run ≤ most_in_line
        → feeds room (reading line n t) (run ++ (10 ∷ [])) ≡ line_ended n t (read_line room t (line ++ run))
    line_ends run line free h = rw (feeds_append, run_on run line free h, feeds_cons, feeds_none) (feed_line (line ++ run) refl)

    pub line_over : (run line : List ℕ) → Free 10 run → length line ≤ most_in_line → most_in_line < length line + length run
        → feeds room (reading line n t) (run ++ (10 ∷ [])) ≡ refused n 1 t
    line_over run line free h p = rw (feeds_append, run_over run line free h p, feeds_refused)
