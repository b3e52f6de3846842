-- What was written, and then more. Assumes nothing.
use Prim.Native.Nat.{ℕ, suc, ◌+◌, ◌≤◌, min}
use native.Mathlib.Decide.{dec_le}
use native.Mathlib.Nat.{add-zero, min-eq_left, min-eq_right}
use native.Mathlib.Omega.{arith}
use mathlib.Core.Path.{◌≡◌, refl, sym, ◌∙◌, ap}
use mathlib.Core.List.{List, [], ◌∷◌, ◌++◌}
use lib.ListN.{length, length-append, set}
use lib.Seq.{length-sets, set_out, sets}
use Rattle.text_digits.specs.declared.Page.{Page}
use Rattle.text_digits.specs.Wrote.{SameBuffer, Writes, Wrote}

sets_append : (o : List ℕ) (at : ℕ) (x y : List ℕ) → sets (sets o at x) (at + length x) y ≡ sets o at (x ++ y)
sets_append o at [] y = rw add-zero
sets_append o at (a ∷ x) y =
    let e : at + suc (length x) ≡ suc at + length x = omega arith in
    rw e (sets_append (set o at a) (suc at) x y)

-- past the end nothing is written
sets_out : (l : List ℕ) (i : ℕ) (y : List ℕ) → length l ≤ i → sets l i y ≡ l
sets_out l i [] h = refl
sets_out l i (a ∷ y) h = rw (set_out l i a h) (sets_out l (suc i) y (omega arith))

-- so writing from the end is writing from anywhere past it
seam : (l : List ℕ) (i : ℕ) (y : List ℕ) → sets l (min (length l) i) y ≡ sets l i y
seam l i y = side (dec_le i (length l))
  where
    side : Dec (i ≤ length l) → sets l (min (length l) i) y ≡ sets l i y
    side (yes h) = rw (min-eq_right h)
    side (no h) =
        let k : length l ≤ i = omega arith in
        rw (min-eq_left k) (sets_out l (length l) y (omega arith) ∙ sym (sets_out l i y k))

pub as_long : {o w o' : List ℕ} {at r : ℕ} → Wrote o at w o' r → length o' ≡ length o
as_long {o} {w} {o'} {at} p = ap length p.bytes ∙ length-sets o at w

pub room : {o w o' : List ℕ} {at r : ℕ} → Wrote o at w o' r → r ≤ length o'
room p = omega (arith, p.place, as_long p)

pub then : {o x o1 y o2 : List ℕ} {at r1 r2 : ℕ} → Wrote o at x o1 r1 → Wrote o1 r1 y o2 r2 → Wrote o at (x ++ y) o2 r2
then {o} {x} {o1} {y} {o2} {at} {r1} {r2} p q =
    let e : length o1 ≡ length o = as_long p in
    record {
      bytes = rw (q.bytes, p.place, ← e, seam, p.bytes, sets_append);
      place = rw length-append (omega (arith, p.place, q.place, e));
    }

pub nothing : (o : List ℕ) (at : ℕ) → at ≤ length o → Wrote o at [] o at
nothing o at h = record { bytes = refl; place = omega arith }

-- the same on a page
pub still : {p q r : Page} → SameBuffer p q → SameBuffer q r → SameBuffer p r
still v w = record { same = w.same ∙ v.same; long = w.long ∙ v.long }

pub onward : {p q r : Page} {x y : List ℕ} → Writes p x q → Writes q y r → Writes p (x ++ y) r
onward v w = record {
  wrote = then v.wrote w.wrote;
  buffer = still v.buffer w.buffer;
}

pub idle : (p : Page) → p.at ≤ length p.out.now → Writes p [] p
idle p h = record { wrote = nothing p.out.now p.at h; buffer = record { same = refl; long = refl } }

pub ready : {p q : Page} {w : List ℕ} → Writes p w q → q.at ≤ length q.out.now
ready v = room v.wrote
