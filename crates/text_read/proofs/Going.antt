-- A line that goes on with a run of bytes, and ends or does not; then the loop over the lines of a portion. Assumes nothing.
use Prim.Native.Nat.{ℕ, suc, ◌+◌, ◌-◌, ◌≤◌, ◌<◌}
use native.Mathlib.Omega.{arith}
use mathlib.Core.Bool.{Bool, true, false, ◌||◌}
use mathlib.Core.List.{List, [], ◌∷◌, ◌++◌}
use mathlib.Core.Path.{◌≡◌, refl, sym, ◌∙◌, ap}
use lib.ListN.{drop, drop_of_length-le, length, length-drop, take, take-append-drop}
use lib.Seq.{drop-drop, length-take-le, take-suc}
use Rattle.std.specs.Prelude.{Option, None, Some, Result}
use Rattle.base_words.proofs.Pick.{never}
use Rattle.base_words.proofs.Said.{none_l, none_r}
use Rattle.base_places.specs.Lengths.{largest, most_in_line}
use Rattle.text_fields.specs.Fields.{Free, until}
use Rattle.text_fields.specs.declared.Counts.{Counts}
use Rattle.text_fields.proofs.Runs.{front_free, stops}
use Rattle.text_line.specs.Night.{Night, blank}
use Rattle.text_line.specs.Filled.{Appended, Cells, Grown, ReadLine, night_of, room_of}
use Rattle.text_line.specs.declared.BadLine.{BadLine}
use Rattle.text_line.specs.declared.State.{State}
use Rattle.text_read.specs.Text.{feeds, reading, refused, unread}
use Rattle.text_read.specs.Portions.{begun, going, over, taken}
use Rattle.text_read.specs.Carried.{Begins, Takes, capped, capped_in, fresh, is_bad, laid, reading_in, text_by, text_in}
use Rattle.text_read.specs.Handed.{Fed, Sound, Turned, after_line, refused_for, settled}
use Rattle.text_read.specs.declared.Reader.{Reader}
use Rattle.text_read.specs.declared.Turn.{Turn}
use Rattle.text_read.proofs.Feeding.{feeds_append, feeds_none, feeds_refused, line_ends, line_over, run_on, run_over}
use Rattle.text_read.proofs.Capping.{feeds_capped}
use Rattle.text_read.proofs.Tables.{grown_laid, grown_more, grown_room, grown_same, same_laid}
use Rattle.text_read.proofs.Carrying.{after_grown, after_is, after_over, after_sound, fine_of, low, said_in_lem, settled_text, text_fine}

refused_text : (k : Reader) (line : List ℕ) (w : Cells) (reason : ℕ)
    → text_in (refused_for k reason) line w ≡ refused k.number reason (night_of k.st w)
unfolding text_in
refused_text k line w reason = refl

module _ (k : Reader) (line : List ℕ) (w : Cells) (v : Sound k w) (run : List ℕ) (free : Free 10 run) (long : length line ≡ most_in_line) where
  held : length (take k.len line) ≡ k.len
  held = length-take-le k.len line (omega (arith, v.short))

  -- too long, whether it ends or not
  refused_by : (s : List ℕ)
      → feeds (room_of w) (reading (take k.len line) k.number (night_of k.st w)) s ≡ refused k.number 1 (night_of k.st w)
      → Fed k line w s (refused_for k 1) line w
  refused_by s e = record {
    is = rw (refused_text, text_fine k line w v.fine, e);
    sound = λ q. never q;
    grown = grown_same v.sane;
    over = refl;
  }

  module _ (h : most_in_line - k.len < length run) {r : Reader} (q : r ≡ refused_for k 1) where
    pub on_long : Fed k line w run r line w
    on_long =
        rw q (refused_by run
        (run_over (room_of w) k.number (night_of k.st w) run (take k.len line) free (omega (arith, held, v.short)) (omega (arith, held))))

    pub end_long : Fed k line w (run ++ (10 ∷ [])) r line w
    end_long =
        rw q (refused_by (run ++ (10 ∷ []))
        (line_over (room_of w) k.number (night_of k.st w) run (take k.len line) free (omega (arith, held, v.short)) (omega (arith, held))))

  module _ (h : length run ≤ most_in_line - k.len) where
    -- it goes on
    pub on_held : {line' : List ℕ} {len : ℕ} → Appended line k.len run line' len
        → Fed k line w run (record { over = k.over; bad = k.bad; number = k.number; st = k.st; len = len }) line' w
    unfolding text_in
    on_held a = record {
      is =
          rw (
            v.fine,
            run_on (room_of w) k.number (night_of k.st w) run (take k.len line) free (omega (arith, held, v.short)),
            a.is,
          );
      sound = λ q. record { fine = v.fine; short = omega (arith, v.short, a.far); sane = v.sane };
      grown = grown_same v.sane;
      over = refl;
    }

    -- it ends
    ended_by : {r : Result State BadLine} {w' : Cells} (line' : List ℕ) → ReadLine k.st (take k.len line ++ run) w r w'
        → Fed k line w (run ++ (10 ∷ [])) (after_line k r) line' w'
    ended_by {r} {w'} line' d = record {
      is =
          after_is k w w' (take k.len line ++ run) d line'
          ∙ rw (
            text_fine k line w v.fine,
            line_ends (room_of w) k.number (night_of k.st w) run (take k.len line) free (omega (arith, held, v.short)),
          );
      sound = after_sound k w w' (take k.len line ++ run) d;
      grown = after_grown k w w' (take k.len line ++ run) d v.sane;
      over = after_over k w w' (take k.len line ++ run) d;
    }

    pub end_from : {x : Result State BadLine} {w' : Cells} → k.len ≡ 0 → ReadLine k.st run w x w' → {r : Reader} → r ≡ after_line k x
        → Fed k line w (run ++ (10 ∷ [])) r line w'
    end_from {x} e d q = rw q (ended_by {r = x} line (rw e d))

    pub end_held : {x : Result State BadLine} {line' : List ℕ} {len : ℕ} {w' : Cells} → Appended line k.len run line' len
        → ReadLine k.st (take len line') w x w' → {r : Reader} → r ≡ after_line k x → Fed k line w (run ++ (10 ∷ [])) r line' w'
    end_held {x} {line'} a d q = rw q (ended_by line' (rw a.is at d))

-- a refused text stays so
stays_by : (room : Counts) (c : Option ℕ) (l : List ℕ) (n : ℕ) (t : Night) (s : List ℕ) → is_bad c ≡ true
    → feeds room (text_by c l n t) s ≡ text_by c l n t
stays_by room None l n t s e = never (sym e)
stays_by room (Some reason) l n t s e = feeds_refused room n reason t s

refused_stays : (room : Counts) (r : Reader) (line : List ℕ) (w : Cells) (s : List ℕ) → is_bad r.bad ≡ true → feeds room (text_in r line w) s ≡ text_in r line w
unfolding text_in
refused_stays room r line w s e = stays_by room r.bad (take r.len line) r.number (night_of r.st w) s e

-- the line of s from i on
module _ (s : List ℕ) (i end : ℕ) (at_end : end ≡ i + until 10 (drop i s)) where
  gone : end - i ≡ until 10 (drop i s)
  gone = omega arith

  pub line_free : Free 10 (take (end - i) (drop i s))
  line_free = rw gone (front_free 10 (drop i s))

  -- where it ends before s does
  module _ (p : end < length s) where
    pub line_whole : take (end + 1 - i) (drop i s) ≡ take (end - i) (drop i s) ++ (10 ∷ [])
    line_whole =
        let inside : until 10 (drop i s) < length (drop i s) = rw length-drop (omega arith) in
        let e : end + 1 - i ≡ suc (until 10 (drop i s)) = omega arith in
        rw (e, gone, take-suc (drop i s) (until 10 (drop i s)) 0 inside, stops 10 (drop i s) inside)

    pub ends : {k : Reader} {line : List ℕ} {w : Cells} {r : Reader} {line' : List ℕ} {w' : Cells}
        → Fed k line w (take (end - i) (drop i s) ++ (10 ∷ [])) r line' w'
        → Turned k line w s i (record { reader = r; at = end + 1 }) line' w'
    ends d = record { fed = rw line_whole d; on = omega arith; within = omega arith }

  -- or goes on to its end
  module _ (p : end ≡ length s) where
    pub goes : {k : Reader} {line : List ℕ} {w : Cells} {r : Reader} {line' : List ℕ} {w' : Cells} → i < length s
        → Fed k line w (take (length s - i) (drop i s)) r line' w' → Turned k line w s i (record { reader = r; at = end }) line' w'
    goes h d = record { fed = rw p d; on = omega arith; within = omega arith }

-- k was fed the first i bytes of s
module _ (k : Reader) (line : List ℕ) (w : Cells) (s : List ℕ) where
  pub record FedSome (t : Reader) (line' : List ℕ) (w' : Cells) (i : ℕ) : Type 0 where
    pub rest : capped (feeds (room_of w) (text_in t line' w') (drop i s)) ≡ capped (feeds (room_of w) (text_in k line w) s)
    pub sound : Sound t w'
    pub grown : Grown k.st t.st w w'
    pub over : t.over ≡ k.over

  pub none_fed : Sound k w → FedSome k line w 0
  none_fed v = record { rest = refl; sound = v; grown = grown_same v.sane; over = refl }

  module _ {t : Reader} {line' : List ℕ} {w' : Cells} {i : ℕ} (f : FedSome t line' w' i) where
    -- all of them
    pub over_fed : length s ≤ i → Fed k line w s t line' w'
    over_fed h = record {
      is = rw (drop_of_length-le s h, feeds_none) at f.rest;
      sound = λ b. f.sound;
      grown = f.grown;
      over = f.over;
    }

    -- one turn more
    module _ {r : Turn} {line'' : List ℕ} {w'' : Cells} (d : Turned t line' w' s i r line'' w'') where
      fed_on : capped (feeds (room_of w) (text_in r.reader line'' w'') (drop r.at s)) ≡ capped (feeds (room_of w) (text_in k line w) s)
      fed_on =
          let more = take (r.at - i) (drop i s) in
          let e : i + (r.at - i) ≡ r.at = omega (arith, d.on) in
          let whole : more ++ drop r.at s ≡ drop i s =
          ap (λ n. more ++ drop n s) (sym e) ∙ rw (← (drop-drop (r.at - i) i s)) (take-append-drop (r.at - i) (drop i s)) in
          sym (feeds_capped (room_of w) (text_in r.reader line'' w'') (drop r.at s))
          ∙ rw (
            d.fed.is,
            grown_room f.grown,
            feeds_capped,
            ← (feeds_append (room_of w) (text_in t line' w') more (drop r.at s)),
            whole,
          )
          f.rest

      -- after a bad line the rest changes nothing
      pub bad_fed : {bad : Bool} → bad ≡ is_bad r.reader.bad → bad ≡ true → Fed k line w s r.reader line'' w''
      bad_fed p b =
          let e : is_bad r.reader.bad ≡ true = sym p ∙ b in
          record {
            is = rw (refused_stays (room_of w) r.reader line'' w'' (drop r.at s) e) at fed_on;
            sound = λ q. never (sym e ∙ q);
            grown = grown_more f.grown d.fed.grown;
            over = d.fed.over ∙ f.over;
          }

      pub next_fed : {bad : Bool} → bad ≡ is_bad r.reader.bad → bad ≡ false → FedSome r.reader line'' w'' r.at
      next_fed p b = record {
        rest = fed_on;
        sound = d.fed.sound (sym p ∙ b);
        grown = grown_more f.grown d.fed.grown;
        over = d.fed.over ∙ f.over;
      }

-- a portion was taken
module _ (k : Reader) (line : List ℕ) (w : Cells) (s : List ℕ) where
  untaken_by : (o : Bool) → k.over ≡ o → (o || is_bad k.bad) ≡ true → k.number ≤ largest
      → reading_in k line w ≡ capped_in (taken (room_of w) (reading_in k line w) s)
  unfolding reading_in taken capped_in text_in
  untaken_by true p q h = rw p (ap over (sym (low k line w h)))
  untaken_by false p q h = rw p (ap going (sym (ap capped (refused_stays (room_of w) k line w s q) ∙ low k line w h)))

  pub untaken : {bad : Bool} → bad ≡ is_bad k.bad → (k.over || bad) ≡ true → k.number ≤ largest → Takes k line w s k line w
  untaken p e h = record {
    is = untaken_by k.over refl (rw p at e) h;
    tables = same_laid k.st w ∙ ap (laid w) (sym (said_in_lem k line w));
    kept = refl;
  }

  taken_by : k.over ≡ false → (r : Reader) (line' : List ℕ) (w' : Cells) → r.over ≡ false
      → text_in r line' w' ≡ capped (feeds (room_of w) (text_in k line w) s)
      → reading_in r line' w' ≡ capped_in (taken (room_of w) (reading_in k line w) s)
  unfolding reading_in taken capped_in text_in
  taken_by o r line' w' p e = rw (p, o) (ap going e)

  pub took : length line ≡ most_in_line → {bad : Bool} → bad ≡ is_bad k.bad → (k.over || bad) ≡ false
      → {room : Counts} → room ≡ room_of w → {t : Reader} → t ≡ settled k room → {r : Reader} {line' : List ℕ} {w' : Cells} → Fed t line w s r line' w' → r.number ≤ largest
      → Takes k line w s r line' w'
  took long {bad} p e m q {r} {line'} {w'} x h =
      let o = none_l k.over bad e in
      let c = fine_of k.bad (sym p ∙ none_r k.over bad e) in
      let d : Fed (settled k (room_of w)) line w s r line' w' = rw (q, m) at x in
      let all : text_in r line' w' ≡ capped (feeds (room_of w) (text_in k line w) s) =
      sym (low r line' w' h) ∙ d.is ∙ rw (settled_text k line w c long) in
      record {
        is = taken_by o r line' w' d.over all;
        tables = rw (said_in_lem r line' w') (grown_laid d.grown);
        kept = grown_room d.grown;
      }

-- nothing has been read
pub begins : Begins fresh
unfolding reading_in text_in night_of begun unread blank
begins line w = refl

-- no byte was taken
none_side : (k : Reader) (line : List ℕ) (w : Cells) → k.number ≤ largest → (o : Bool) → k.over ≡ o
    → reading_in k line w ≡ capped_in (taken (room_of w) (reading_in k line w) [])
unfolding reading_in taken capped_in text_in feeds
none_side k line w h true e = rw e (ap over (sym (low k line w h)))
none_side k line w h false e = rw e (ap going (sym (low k line w h)))

pub none_taken : (k : Reader) (line : List ℕ) (w : Cells) → k.number ≤ largest → Takes k line w [] k line w
none_taken k line w h = record {
  is = none_side k line w h k.over refl;
  tables = same_laid k.st w ∙ ap (laid w) (sym (said_in_lem k line w));
  kept = refl;
}
