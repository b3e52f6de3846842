-- A run of bytes more: what is then known of the line, and how far it agrees with the output. Assumes nothing.
use Prim.Native.Nat.{ℕ, ◌≤◌}
use native.Mathlib.Omega.{arith}
use mathlib.Core.Bool.{Bool, true, false}
use mathlib.Core.List.{List, [], ◌∷◌, ◌++◌, append_assoc, append-nil}
use mathlib.Core.Path.{◌≡◌, refl, ◌∙◌, ap}
use Rattle.std.specs.Prelude.{Option, None, Some}
use lib.Dec.{eqb}
use lib.ListN.{drop, length, take}
use Rattle.base_words.specs.Choice.{if◌then◌otherwise◌}
use Rattle.text_fields.specs.Fields.{Free}
use Rattle.text_fields.proofs.Runs.{free_cons}
use Rattle.replay_compare.specs.Spots.{compared_all, compared_to, longer_by, longer_line, next_of, placed, shape_of}
use Rattle.replay_compare.specs.Meets.{Meets}
use Rattle.replay_compare.specs.declared.LineSoFar.{LineSoFar}
use Rattle.replay_compare.specs.declared.LineSoFar.TheVariants.{Empty, More, One}
use Rattle.replay_compare.specs.declared.Spot.{Spot}
use Rattle.replay_compare.proofs.Beside.{byte_beside}

-- what is known of the line, as the program comes to it
stays_more : (run : List ℕ) → More ≡ longer_by More run
stays_more [] = refl
stays_more (b ∷ run) = stays_more run

pub byte_more : (line : LineSoFar) (run : List ℕ) → (line ≡ Empty → ⊥) → 1 ≤ length run → More ≡ longer_by line run
byte_more line [] some h = absurd (omega arith)
byte_more Empty (b ∷ run) some h = absurd (some refl)
byte_more (One c) (b ∷ run) some h = stays_more run
byte_more More (b ∷ run) some h = stays_more run

pub bytes_more : (line : LineSoFar) (run : List ℕ) → 2 ≤ length run → More ≡ longer_by line run
bytes_more line [] h = absurd (omega arith)
bytes_more line (b ∷ []) h = absurd (omega arith)
bytes_more Empty (b ∷ c ∷ run) h = stays_more run
bytes_more (One d) (b ∷ c ∷ run) h = stays_more run
bytes_more More (b ∷ c ∷ run) h = stays_more run

-- and that it is what is known of the longer line
one_longer : (l : List ℕ) (b : ℕ) → longer_line (shape_of l) b ≡ shape_of (l ++ (b ∷ []))
one_longer [] b = refl
one_longer (c ∷ []) b = refl
one_longer (c ∷ d ∷ l) b = refl

pub longer_shape : (l run : List ℕ) → longer_by (shape_of l) run ≡ shape_of (l ++ run)
longer_shape l [] = rw append-nil
longer_shape l (b ∷ run) = rw (one_longer l b) (longer_shape (l ++ (b ∷ [])) run ∙ ap shape_of (append_assoc l (b ∷ []) run))

-- the loop over a run: as long an output, and the rest of the run comes to the whole
same_by : (p : Spot) (after : ℕ) (equal : Bool) → (if equal then placed p (Some after) otherwise placed p None).len ≡ p.len
same_by p after true = refl
same_by p after false = refl

same_len : (p : Spot) (next : Option (ℕ × ℕ)) (b : ℕ) → (compared_to p next b).len ≡ p.len
same_len p (Some next) b = same_by p next.1 (eqb next.0 b)
same_len p None b = refl

module _ (p : Spot) (out run : List ℕ) where
  pub record Compared (q : Spot) (i : ℕ) : Type 0 where
    pub rest : compared_all q (take p.len out) (drop i run) ≡ compared_all p (take p.len out) run
    pub len : q.len ≡ p.len

-- a run without byte 10 beside the output
pub run_beside : (run : List ℕ) (p : Spot) (buffer line : List ℕ) (left : List (List ℕ)) (n : ℕ) → Meets p buffer line left n → Free 10 run
    → Meets (compared_all p (take p.len buffer) run) buffer (line ++ run) left n
run_beside [] p buffer line left n m free = rw append-nil m
run_beside (b ∷ run) p buffer line left n m free =
    let f = free_cons 10 b run free in
    let q = compared_to p (next_of (take p.len buffer) p.at) b in
    let len : q.len ≡ p.len = same_len p (next_of (take p.len buffer) p.at) b in
    rw (append_assoc, len) at (run_beside run q buffer (line ++ (b ∷ [])) left n (byte_beside p buffer line left n b m f.0) f.1)
