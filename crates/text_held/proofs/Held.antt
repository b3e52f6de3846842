-- What the program's tables hold of a text, and that no line's number is cut short. Assumes nothing.
use Prim.Native.Nat.{ℕ, ◌+◌, ◌≤◌, min}
use native.Mathlib.Omega.{arith}
use mathlib.Core.Bool.{Bool, true, false, cond}
use mathlib.Core.List.{List}
use mathlib.Core.Path.{◌≡◌, refl, subst}
use Rattle.base_places.specs.Lengths.{largest}
use Rattle.text_fields.specs.declared.Counts.{Counts}
use Rattle.text_line.specs.Night.{Night, of_program}
use Rattle.text_line.specs.Lines.{in_contact}
use Rattle.text_read.specs.Text.{Text, closed, feeds, reading, refused, text_of, unread, whole_contacts}
use Rattle.text_read.specs.Carried.{capped}
use Rattle.text_held.specs.Held.{CapNever, FewLines, TablesHold, line_number, most_lines}
use Rattle.text_held.proofs.Spent.{Spent, none_left, spent_most}
use Rattle.text_held.proofs.Feeding.{Read, text_read}

-- a whole text has no contact cut short
module _ (line : List ℕ) (n : ℕ) (t : Night) where
  whole_by : (cut : Bool) (line' : List ℕ) (n' : ℕ) (t' : Night) → in_contact t'.place ≡ cut
      → cond cut (refused n' 3 t') (reading line' n' t') ≡ reading line n t → in_contact t.place ≡ false
  whole_by true line' n' t' p e = absurd (let z : ◌≡◌ {A = ℕ} 0 1 = cc in omega arith)
  whole_by false line' n' t' p e = let same : t' ≡ t = cc in rw same at p

  whole : (x : Text) → whole_contacts x ≡ reading line n t → in_contact t.place ≡ false
  unfolding whole_contacts
  whole (reading line' n' t') e = whole_by (in_contact t'.place) line' n' t' refl e
  whole (refused n' reason t') e = absurd (let z : ◌≡◌ {A = ℕ} 0 1 = cc in omega arith)

  closed_whole : (room : Counts) (x : Text) → closed room x ≡ reading line n t → in_contact t.place ≡ false
  unfolding closed
  closed_whole room (reading line' n' t') e = whole _ e
  closed_whole room (refused n' reason t') e = absurd (let z : ◌≡◌ {A = ℕ} 0 1 = cc in omega arith)

  text_whole : (s : List ℕ) → text_of of_program s ≡ reading line n t → in_contact t.place ≡ false
  unfolding text_of
  text_whole s e = closed_whole of_program (feeds of_program unread s) e

pub tables_hold : TablesHold
tables_hold s line n t e =
    let p : Spent t n = subst Read e (text_read s) in
    let left = none_left t.place (text_whole line n t s e) in
    record {
      b = p.read.b;
      c = p.read.c;
      s = p.read.s;
      bodies = p.bodies;
      numbers = p.numbers;
      floats = omega (arith, p.floats, p.normals, p.tangents, left);
      steps = p.steps;
      few_bodies = p.few.0;
      few_contacts = p.few.1;
      few_steps = p.few.2;
    }

pub few : (x : Text) → Read x → line_number x ≤ most_lines + 1
few (reading line n t) p = spent_most t n p
few (refused n reason t) p = spent_most t n p

pub few_lines : FewLines
few_lines s = few (text_of of_program s) (text_read s)

pub below_cap : (x : Text) → line_number x ≤ most_lines + 1 → capped x ≡ x
unfolding capped
below_cap (reading line n t) h = let e : min n largest ≡ n = omega arith in rw e
below_cap (refused n reason t) h = let e : min n largest ≡ n = omega arith in rw e

pub cap_never : CapNever
cap_never s = below_cap (text_of of_program s) (few_lines s)
