-- A day's input, fed to its reader: all but a D that may be the input's end. Assumes nothing.
use Prim.Native.Nat.{ℕ}
use native.Mathlib.Omega.{arith}
use borrow.Author.Tests.{ne_eqb}
use mathlib.Core.Bool.{Bool, true, false}
use mathlib.Core.List.{List, [], ◌∷◌, ◌++◌, append_assoc, append-nil}
use mathlib.Core.Path.{◌≡◌, refl, sym, ◌∙◌}
use lib.ListN.{length, length-append}
use Rattle.text_line.specs.Filled.{Cells, room_of}
use Rattle.text_read.specs.Text.{feeds, unread}
use Rattle.text_read.specs.Portions.{going}
use Rattle.text_read.specs.Carried.{Takes, capped_in, reading_in}
use Rattle.text_read.specs.declared.Reader.{Reader}
use Rattle.text_read.proofs.Going.{begins}
use Rattle.text_read.proofs.Whole.{begun_fed, fed_more}
use Rattle.replay_days.specs.Judged.{only_d, same}
use Rattle.replay_days.specs.Going.{part_after}
use Rattle.replay_compare.specs.Spots.{holds_only}
use Rattle.replay_compare.specs.declared.LineSoFar.{LineSoFar}
use Rattle.replay_judge.specs.Carried.{Buffers, unfed}
use Rattle.replay_judge.specs.Stands.{EndsInput, FeedsInput, Follows, StandsPart, held_back}
use Rattle.replay_judge.specs.declared.Feeding.{Feeding}
use Rattle.replay_judge.specs.declared.Part.TheVariants.{Input}
use Rattle.replay_judge.proofs.WhatLine.{d_is, is_d}

-- what is held back of a line
none_back : held_back [] ≡ []
unfolding only_d same
none_back = refl

d_back : held_back (68 ∷ []) ≡ []
unfolding only_d same
d_back = refl

not_back : (l : List ℕ) → only_d l ≡ false → held_back l ≡ l
not_back l e = rw e

only_back : (l : List ℕ) → only_d l ≡ true → held_back l ≡ []
only_back l e = rw e

-- nothing has been read
pub unfed_follows : (input : Buffers) → Follows unfed input [] []
unfed_follows input = record {
  carried = begins input.line input.tables ∙ begun_fed (room_of input.tables) ∙ rw none_back;
  any = refl;
}

-- a line that goes on to be only a D was empty, or was one before
cut : (b : ℕ) (run : List ℕ) → b ∷ run ≡ 68 ∷ [] → b ∷ [] ≡ 68 ∷ []
cut b run e = let z : b ≡ 68 = cc in rw z

no_two : (b c : ℕ) (l : List ℕ) → b ∷ c ∷ l ≡ 68 ∷ [] → ⊥
no_two b c l e = let z : ◌≡◌ {A = ℕ} 0 1 = cc in omega arith

short_by : (l run : List ℕ) → only_d (l ++ run) ≡ true → held_back l ≡ []
short_by [] run e = none_back
short_by (b ∷ []) run e = rw (cut b run (d_is ((b ∷ []) ++ run) e)) d_back
short_by (b ∷ c ∷ l) run e = absurd (no_two b c (l ++ run) (d_is ((b ∷ c ∷ l) ++ run) e))

-- the line goes on
module _ (before after : LineSoFar) (f : Feeding) (run : List ℕ) (input : Buffers) where
  -- and may be the end of the input
  pub back : {t : Bool} → t ≡ holds_only after 68 → t ≡ true → FeedsInput before after f run input f input
  back e d x l is now v =
      let only : only_d (l ++ run) ≡ true = sym (is_d (l ++ run) now e) ∙ d in
      record { carried = v.carried ∙ rw (short_by l run only, only_back (l ++ run) only); any = v.any }

  module _ {t : Bool} (e : t ≡ holds_only after 68) (d : t ≡ false) where
    -- with a D before it that was held back
    pub with_d : {u : Bool} {k k' : Reader} {line line' : List ℕ} {w w' : Cells} → u ≡ holds_only before 68 → u ≡ true
        → Takes f.reader input.line input.tables (68 ∷ []) k line w → Takes k line w run k' line' w'
        → FeedsInput before after f run input (record { reader = k'; any = f.any }) (record { line = line'; tables = w' })
    with_d p q first then x l is now v =
        let not_d : only_d (l ++ run) ≡ false = sym (is_d (l ++ run) now e) ∙ d in
        let one : l ≡ 68 ∷ [] = d_is l (sym (is_d l is p) ∙ q) in
        let start : reading_in f.reader input.line input.tables ≡ capped_in (going (feeds (room_of input.tables) unread x)) =
        v.carried ∙ rw (one, d_back, append-nil) in
        record {
          carried =
              fed_more (x ++ (68 ∷ [])) run (fed_more x (68 ∷ []) start first) then
              ∙ rw (not_back (l ++ run) not_d, one, append_assoc);
          any = v.any;
        }

    pub without_d : {u : Bool} {k' : Reader} {line' : List ℕ} {w' : Cells} → u ≡ holds_only before 68 → u ≡ false
        → Takes f.reader input.line input.tables run k' line' w'
        → FeedsInput before after f run input (record { reader = k'; any = f.any }) (record { line = line'; tables = w' })
    without_d p q then x l is now v =
        let not_d : only_d (l ++ run) ≡ false = sym (is_d (l ++ run) now e) ∙ d in
        let was_not : only_d l ≡ false = sym (is_d l is p) ∙ q in
        let start : reading_in f.reader input.line input.tables ≡ capped_in (going (feeds (room_of input.tables) unread (x ++ l))) =
        v.carried ∙ rw (not_back l was_not) in
        record { carried = fed_more (x ++ l) run start then ∙ rw (not_back (l ++ run) not_d, append_assoc); any = v.any }

-- the line ends, and is none that ends the input
pub one_line_more : (line : LineSoFar) (f : Feeding) (input : Buffers) (out : List ℕ) {t : Bool} {k' : Reader} {line' : List ℕ} {w' : Cells}
    → t ≡ holds_only line 68 → t ≡ false → Takes f.reader input.line input.tables (10 ∷ []) k' line' w'
    → EndsInput line f input out (Input (record { reader = k'; any = true })) (record { line = line'; tables = w' }) out
unfolding part_after StandsPart
one_line_more line f input out e d taken x l is v =
    let not_d : only_d l ≡ false = sym (is_d l is e) ∙ d in
    let start : reading_in f.reader input.line input.tables ≡ capped_in (going (feeds (room_of input.tables) unread (x ++ l))) =
    v.carried ∙ rw (not_back l not_d) in
    let some : length (x ++ l ++ (10 ∷ [])) ≡ 0 → ⊥ =
    λ z. omega (arith, z, length-append (x ++ l) (10 ∷ [])) in
    rw not_d
    (record {
      carried = fed_more (x ++ l) (10 ∷ []) start taken ∙ rw (none_back, append-nil);
      any = rw (ne_eqb _ _ some);
    })
