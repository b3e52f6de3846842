-- The announced end: the last line, and a contact that is cut short. Assumes nothing.
use Prim.Native.Nat.{ℕ, ◌≤◌}
use native.Mathlib.Omega.{arith}
use borrow.Author.Tests.{eq-eqb, ne_eqb}
use mathlib.Core.Bool.{Bool, true, false}
use mathlib.Core.List.{List, []}
use mathlib.Core.Path.{◌≡◌, refl, sym, ◌∙◌, ap}
use lib.ListN.{length, take}
use lib.Seq.{length-take-le}
use Rattle.std.specs.Prelude.{Option, None, Some, Result}
use Rattle.base_words.specs.Choice.{if◌then◌otherwise◌}
use Rattle.base_words.proofs.Pick.{never, pass, take as pick}
use Rattle.base_places.specs.Lengths.{largest, most_in_line}
use Rattle.text_fields.specs.declared.Counts.{Counts}
use Rattle.text_line.specs.Night.{Night}
use Rattle.text_line.specs.Lines.{in_contact, read_line}
use Rattle.text_line.specs.Filled.{Cells, ReadLine, night_of, room_of}
use Rattle.text_line.specs.declared.BadLine.{BadLine}
use Rattle.text_line.specs.declared.State.{State}
use Rattle.text_read.specs.Text.{closed, line_ended, reading, refused, whole_contacts}
use Rattle.text_read.specs.Portions.{ended, over}
use Rattle.text_read.specs.Carried.{Ends, capped, capped_in, is_bad, laid, reading_in, said_in, text_by, text_in}
use Rattle.text_read.specs.Handed.{Closes, Sound, after_line, closed_reader, cut_short, last_line, settled}
use Rattle.text_read.specs.declared.Reader.{Reader}
use Rattle.text_read.proofs.Capping.{closed_last, whole_capped}
use Rattle.text_read.proofs.Tables.{grown_laid, grown_room, grown_same, same_laid}
use Rattle.text_read.proofs.Carrying.{after_grown, after_is, fine_of, low, said_in_lem, settled_text, text_fine}

-- the line that has not ended
module _ (k : Reader) (line : List ℕ) (w : Cells) (v : Sound k w) (long : length line ≡ most_in_line) where
  held : length (take k.len line) ≡ k.len
  held = length-take-le k.len line (omega (arith, v.short))

  last_none_by : (room : Counts) (l : List ℕ) (n : ℕ) (t : Night) → length l ≡ 0 → last_line room (reading l n t) ≡ reading [] n t
  unfolding last_line
  last_none_by room l n t e = sym (pick _ (eq-eqb _ _ e) refl)

  last_some_by : (room : Counts) (l : List ℕ) (n : ℕ) (t : Night) → (length l ≡ 0 → ⊥)
      → last_line room (reading l n t) ≡ line_ended n t (read_line room t l)
  unfolding last_line
  last_some_by room l n t e = sym (pass _ (ne_eqb _ _ e) refl)

  pub no_last : k.len ≡ 0 → Closes k line w k w
  no_last e =
      let none : length (take k.len line) ≡ 0 = held ∙ e in
      record {
        is = rw (text_fine k line w v.fine, last_none_by (room_of w) (take k.len line) k.number (night_of k.st w) none, e);
        grown = grown_same v.sane;
      }

  pub last : {x : Result State BadLine} {w' : Cells} → (k.len ≡ 0 → ⊥) → ReadLine k.st (take k.len line) w x w'
      → {r : Reader} → r ≡ after_line k x → Closes k line w r w'
  last {x} {w'} e d q =
      let some : length (take k.len line) ≡ 0 → ⊥ = λ z. e (sym held ∙ z) in
      rw q (record {
        is =
            rw (text_fine k line w v.fine, last_some_by (room_of w) (take k.len line) k.number (night_of k.st w) some)
            (sym (after_is k w w' (take k.len line) d line));
        grown = after_grown k w w' (take k.len line) d v.sane;
      })

-- a reader that is closed carries what the end of a text says
closing_cut : (l : List ℕ) (n : ℕ) (t : Night) (cut : Bool)
    → text_by (if cut then Some 3 otherwise None) l n t ≡ (if cut then refused n 3 t otherwise reading l n t)
closing_cut l n t true = refl
closing_cut l n t false = refl

closing_by : (c : Option ℕ) (l : List ℕ) (n : ℕ) (t : Night)
    → text_by (if (if is_bad c then false otherwise in_contact t.place) then Some 3 otherwise c) l n t ≡ whole_contacts (text_by c l n t)
unfolding whole_contacts
closing_by None l n t = closing_cut l n t (in_contact t.place)
closing_by (Some reason) l n t = refl

closing : (k : Reader) (line : List ℕ) (w : Cells) → text_in (closed_reader k) line w ≡ whole_contacts (text_in k line w)
unfolding text_in night_of
closing k line w = closing_by k.bad (take k.len line) k.number (night_of k.st w)

module _ (k : Reader) (line : List ℕ) (w : Cells) (h : k.number ≤ largest) where
  -- a second end
  pub end_again : k.over ≡ true → Ends k line w k line w
  unfolding reading_in ended capped_in text_in
  end_again e = record {
    is = rw e (ap over (sym (low k line w h)));
    tables = same_laid k.st w ∙ ap (laid w) (sym (said_in_lem k line w));
    kept = refl;
  }

  -- the end after a bad line
  refused_closed : (room : Counts) (c : Option ℕ) (l : List ℕ) (n : ℕ) (t : Night) → is_bad c ≡ true → closed room (text_by c l n t) ≡ text_by c l n t
  unfolding closed
  refused_closed room None l n t e = never (sym e)
  refused_closed room (Some reason) l n t e = refl

  cut_never : is_bad k.bad ≡ true → cut_short k ≡ false
  cut_never e = rw e

  pub end_bad : k.over ≡ false → {bad : Bool} → bad ≡ is_bad k.bad → bad ≡ true → {r : Reader} → r ≡ closed_reader k → Ends k line w r line w
  unfolding reading_in ended capped_in text_in
  end_bad o p b {r} q =
      let e : is_bad k.bad ≡ true = sym p ∙ b in
      record {
        is =
            rw (q, o, cut_never e, refused_closed (room_of w) k.bad (take k.len line) k.number (night_of k.st w) e)
            (ap over (sym (low k line w h)));
        tables = rw q (same_laid k.st w ∙ ap (laid w) (sym (said_in_lem (closed_reader k) line w)));
        kept = refl;
      }

-- the end of a text
module _ (k : Reader) (line : List ℕ) (w : Cells) (long : length line ≡ most_in_line) (o : k.over ≡ false) {bad : Bool} (p : bad ≡ is_bad k.bad)
    (fine : bad ≡ false) where
  ended_side : (r : Reader) (w' : Cells) → r.over ≡ true → text_in r line w' ≡ capped (closed (room_of w) (text_in k line w))
      → reading_in r line w' ≡ capped_in (ended (room_of w) (reading_in k line w))
  unfolding reading_in ended capped_in text_in
  ended_side r w' u e = rw (u, o) (ap over e)

  pub end_whole : {room : Counts} → room ≡ room_of w → {t : Reader} → t ≡ settled k room → {u r : Reader} {w' : Cells} → Closes t line w u w' → r ≡ closed_reader u → r.number ≤ largest
      → Ends k line w r line w'
  end_whole m a {u} {r} {w'} x q h =
      let c : k.bad ≡ None = fine_of k.bad (sym p ∙ fine) in
      let d : Closes (settled k (room_of w)) line w u w' = rw (a, m) at x in
      let all : capped (text_in r line w') ≡ capped (closed (room_of w) (text_in k line w)) =
      rw (q, closing u line w', whole_capped (text_in u line w'), ← d.is, settled_text k line w c long, closed_last, whole_capped) in
      let left : said_in (reading_in r line w') ≡ night_of u.st w' = rw q (said_in_lem (closed_reader u) line w') in
      record {
        is = ended_side r w' (rw q) (sym (low r line w' h) ∙ all);
        tables = rw left (grown_laid d.grown);
        kept = grown_room d.grown;
      }
