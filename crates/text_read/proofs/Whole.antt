-- A whole text: one portion, and the end. No line is left open by the end, so none is looked at in what is carried after it. Assumes nothing.
use Prim.Native.Nat.{ℕ, min}
use native.Mathlib.Omega.{arith}
use mathlib.Core.Bool.{Bool, true, false}
use mathlib.Core.List.{List, [], ◌∷◌, ◌++◌, append-nil}
use mathlib.Core.Path.{◌≡◌, refl, ◌∙◌, ap}
use lib.Dec.{eqb}
use lib.ListN.{length, take}
use lib.Seq.{take-nil}
use Rattle.std.specs.Prelude.{Option, None, Some}
use Rattle.base_words.specs.Choice.{if◌then◌otherwise◌}
use Rattle.base_places.specs.Lengths.{largest}
use Rattle.text_fields.specs.declared.Counts.{Counts}
use Rattle.text_line.specs.Night.{Night}
use Rattle.text_line.specs.Lines.{LineCame, bad, good, in_contact, read_line}
use Rattle.text_line.specs.Filled.{Cells, night_of, room_of}
use Rattle.text_read.specs.Text.{Text, closed, feeds, line_ended, reading, refused, text_of, unread, whole_contacts}
use Rattle.text_read.specs.Portions.{begun, ended, going, over, taken, whole}
use Rattle.text_read.specs.Carried.{Begins, Ends, ReadWhole, Takes, capped, capped_in, reading_in, side, text_by, text_in}
use Rattle.text_read.specs.Handed.{last_line}
use Rattle.text_read.specs.Calls.{Calls, CameTo}
use Rattle.text_read.specs.declared.Reader.{Reader}
use Rattle.text_read.proofs.Capping.{closed_last, ended_capped, taken_capped}
use Rattle.text_read.proofs.Feeding.{feeds_append}
use Rattle.text_read.proofs.Calls.{any_calls}

-- a text without the line that has not ended
abbrev emptied : Text → Text
emptied (reading line n t) = reading [] n t
emptied (refused n reason t) = refused n reason t

-- the end leaves none
line_empty : (n : ℕ) (t : Night) (r : LineCame) → emptied (line_ended n t r) ≡ line_ended n t r
unfolding line_ended
line_empty n t (good t') = refl
line_empty n t (bad reason) = refl

last_by : (room : Counts) (line : List ℕ) (n : ℕ) (t : Night) (none : Bool)
    → emptied (if none then reading [] n t otherwise line_ended n t (read_line room t line))
    ≡ (if none then reading [] n t otherwise line_ended n t (read_line room t line))
last_by room line n t true = refl
last_by room line n t false = line_empty n t (read_line room t line)

last_empty : (room : Counts) (x : Text) → emptied (last_line room x) ≡ last_line room x
unfolding last_line
last_empty room (reading line n t) = last_by room line n t (eqb (length line) 0)
last_empty room (refused n reason t) = refl

whole_by : (line : List ℕ) (n : ℕ) (t : Night) (cut : Bool)
    → emptied (if cut then refused n 3 t otherwise reading line n t) ≡ (if cut then refused n 3 t otherwise reading [] n t)
whole_by line n t true = refl
whole_by line n t false = refl

whole_empty : (x : Text) → emptied (whole_contacts x) ≡ whole_contacts (emptied x)
unfolding whole_contacts
whole_empty (reading line n t) = whole_by line n t (in_contact t.place)
whole_empty (refused n reason t) = refl

closed_empty : (room : Counts) (x : Text) → emptied (closed room x) ≡ closed room x
closed_empty room x = rw (closed_last, whole_empty, last_empty)

capped_empty : (x : Text) → emptied (capped x) ≡ capped (emptied x)
unfolding capped
capped_empty (reading line n t) = refl
capped_empty (refused n reason t) = refl

text_by_lem : (c : Option ℕ) (held : List ℕ) (n : ℕ) (t : Night) → text_by c [] n t ≡ emptied (text_by c held n t)
text_by_lem None held n t = refl
text_by_lem (Some reason) held n t = refl

text_empty : (r : Reader) (line : List ℕ) (w : Cells) → text_in r [] w ≡ emptied (text_in r line w)
unfolding text_in
text_empty r line w = rw take-nil (text_by_lem r.bad (take r.len line) r.number (night_of r.st w))

-- what is carried after the end
over_by : (o : Bool) (x y : Text) → side o x ≡ over y → (o ≡ true) × (x ≡ y)
over_by true x y e = (refl, cc)
over_by false x y e = absurd (let z : ◌≡◌ {A = ℕ} 0 1 = cc in omega arith)

line_left : (room : Counts) (x : Text) (r : Reader) (line : List ℕ) (w : Cells) → reading_in r line w ≡ over (capped (closed room x))
    → reading_in r [] w ≡ over (capped (closed room x))
unfolding reading_in
line_left room x r line w e =
    let both = over_by r.over (text_in r line w) (capped (closed room x)) e in
    let same : text_in r [] w ≡ capped (closed room x) =
    text_empty r line w ∙ ap emptied both.1 ∙ capped_empty (closed room x) ∙ ap capped (closed_empty room x) in
    ap (λ o. side o (text_in r [] w)) both.0 ∙ ap over same

one_portion : (s : List ℕ) → whole (s ∷ []) ≡ s
unfolding whole
one_portion s = append-nil s

read_by : (s : List ℕ) {r : Reader} {line₂ : List ℕ} {w w₂ : Cells} → CameTo (s ∷ []) w r line₂ w₂ → ReadWhole s w r w₂
unfolding capped_in text_of
read_by s {r} {line₂} {w} {w₂} c = record {
  is = line_left (room_of w) (feeds (room_of w) unread s) r line₂ w₂ (rw (one_portion s) at c.is);
  tables = rw (one_portion s) at c.tables;
}

module _ {k k₁ r : Reader} {line line₁ line₂ : List ℕ} {w w₁ w₂ : Cells} (s : List ℕ) where
  both_calls : Takes k line w s k₁ line₁ w₁ → Ends k₁ line₁ w₁ r line₂ w₂ → Calls (s ∷ []) k line w r line₂ w₂
  unfolding Calls
  both_calls d e = record { next = k₁; next_line = line₁; next_cells = w₁; call = d; after = e }

  pub read_whole : Begins k → Takes k line w s k₁ line₁ w₁ → Ends k₁ line₁ w₁ r line₂ w₂ → ReadWhole s w r w₂
  read_whole b d e = read_by s (any_calls (s ∷ []) k line w r line₂ w₂ b (both_calls d e))

-- a reader that was fed nothing
pub begun_fed : (room : Counts) → begun ≡ capped_in (going (feeds room unread []))
unfolding capped_in capped begun unread feeds
begun_fed room = let e : min 1 largest ≡ 1 = omega arith in rw e

-- one that was fed y, and then s
pub fed_more : {k k' : Reader} {line line' : List ℕ} {w w' : Cells} (y s : List ℕ)
    → reading_in k line w ≡ capped_in (going (feeds (room_of w) unread y)) → Takes k line w s k' line' w'
    → reading_in k' line' w' ≡ capped_in (going (feeds (room_of w') unread (y ++ s)))
unfolding taken
fed_more {w = w} y s e d =
    d.is ∙ rw (e, d.kept, feeds_append (room_of w) unread y s) (taken_capped (room_of w) (going (feeds (room_of w) unread y)) s)

-- or to which the end was announced
pub fed_whole : {k k' : Reader} {line line' : List ℕ} {w w' : Cells} (y : List ℕ)
    → reading_in k line w ≡ capped_in (going (feeds (room_of w) unread y)) → Ends k line w k' line' w'
    → reading_in k' line' w' ≡ capped_in (over (text_of (room_of w) y))
unfolding ended text_of
fed_whole {w = w} y e d = d.is ∙ rw e (ended_capped (room_of w) (going (feeds (room_of w) unread y)))
