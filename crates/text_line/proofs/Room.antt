-- Whether the tables have room: by how far they are filled, as the program counts it. Assumes nothing.
use Prim.Native.Nat.{ℕ, ◌+◌, ◌-◌, ◌≤◌}
use native.Mathlib.Omega.{arith}
use borrow.Author.Tests.{le-ltb, lt-ltb, ltb-false, ltb-true}
use mathlib.Core.Bool.{Bool, true, false, ◌||◌}
use mathlib.Core.List.{List}
use mathlib.Core.Path.{◌≡◌, refl, sym, ◌∙◌}
use lib.Dec.{lit≤, ltb}
use lib.ListN.{length, take}
use lib.Seq.{length-take-le}
use Rattle.base_words.proofs.Said.{none_l, none_r}
use Rattle.text_fields.specs.Got.{Adds}
use Rattle.text_fields.specs.Letters.{adds}
use Rattle.text_fields.specs.declared.Counts.{Counts}
use Rattle.text_fields.specs.declared.Letter.{Letter}
use Rattle.text_fields.specs.declared.Letter.TheVariants.{Body, Contact, Normal, Tangent, Step, Other}
use Rattle.text_line.specs.Night.{Night}
use Rattle.text_line.specs.Lines.{asks_floats, full, lacks}
use Rattle.text_line.specs.Filled.{Cells, Full, HasRoom, Sane, night_of, room_of}
use Rattle.text_line.specs.declared.State.{State}

left_by : (size used more : ℕ) (t : Bool) → ltb (size - used) more ≡ t → used ≤ size → t ≡ ltb size (used + more)
left_by size used more true e h = sym (lt-ltb size (used + more) (omega (arith, ltb-true (size - used) more e)))
left_by size used more false e h = sym (le-ltb size (used + more) (omega (arith, ltb-false (size - used) more e)))

-- what is left is less than what is wanted
pub left : (size used more : ℕ) → used ≤ size → ltb (size - used) more ≡ ltb size (used + more)
left size used more h = left_by size used more (ltb (size - used) more) refl h

-- the same of a table filled so far
as_filled : (l : List ℕ) (used more : ℕ) → used ≤ length l → ltb (length l) (used + more) ≡ lacks (length l) more (take used l)
unfolding lacks
as_filled l used more h = rw (length-take-le used l h)

fits : (l : List ℕ) (used more : ℕ) → used ≤ length l → lacks (length l) more (take used l) ≡ false → used + more ≤ length l
fits l used more h e = ltb-false _ _ (as_filled l used more h ∙ e)

-- where a night's tables are not full, none of them lacks room
four : (b n f s : Bool) → (b || n || f || s) ≡ false → (b ≡ false) × (n ≡ false) × (f ≡ false) × (s ≡ false)
four b n f s e =
    let three = none_l (b || n || f) s e in
    let two = none_l (b || n) f three in
    (none_l b n two, none_r b n two, none_r (b || n) f three, none_r (b || n || f) s e)

pub roomy : (room : Counts) (l : Letter) (t : Night) → full room l t ≡ false
    → (lacks room.bodies (adds l).bodies t.bodies ≡ false) × (lacks room.numbers (adds l).numbers t.numbers ≡ false)
    × (lacks room.floats (asks_floats l) t.floats ≡ false) × (lacks room.steps (adds l).steps t.steps ≡ false)
unfolding full
roomy room l t e =
    four (lacks room.bodies (adds l).bodies t.bodies) (lacks room.numbers (adds l).numbers t.numbers)
    (lacks room.floats (asks_floats l) t.floats) (lacks room.steps (adds l).steps t.steps) e

-- a contact asks for the floats of its C line, and more
no_less : (l : Letter) → (adds l).floats ≤ asks_floats l
no_less Body = lit≤ tt
no_less Contact = lit≤ tt
no_less Normal = lit≤ tt
no_less Tangent = lit≤ tt
no_less Step = lit≤ tt
no_less Other = lit≤ tt

module _ (l : Letter) (st : State) (w : Cells) (sane : Sane st w) where
  -- the four tests
  as_tests : full (room_of w) l (night_of st w)
      ≡ (ltb (length w.bodies) (st.bodies + (adds l).bodies) || ltb (length w.numbers) (st.numbers + (adds l).numbers)
      || ltb (length w.floats) (st.floats + asks_floats l) || ltb (length w.steps) (st.steps + (adds l).steps))
  unfolding full room_of night_of
  as_tests =
      rw (
        as_filled w.bodies st.bodies (adds l).bodies sane.bodies_fit,
        as_filled w.numbers st.numbers (adds l).numbers sane.numbers_fit,
        as_filled w.floats st.floats (asks_floats l) sane.floats_fit,
        as_filled w.steps st.steps (adds l).steps sane.steps_fit,
      )

  -- where none of them holds there is room
  fitting : full (room_of w) l (night_of st w) ≡ false → HasRoom l st w
  unfolding room_of night_of HasRoom
  fitting h =
      let r = roomy (room_of w) l (night_of st w) h in (
        fits w.bodies st.bodies (adds l).bodies sane.bodies_fit r.0,
        fits w.numbers st.numbers (adds l).numbers sane.numbers_fit r.1,
        omega (arith, no_less l, fits w.floats st.floats (asks_floats l) sane.floats_fit r.2),
        fits w.steps st.steps (adds l).steps sane.steps_fit r.3,
      )

  pub tested : {counts : Counts} {b n f s : Bool} {whole : ℕ} → Adds l counts → whole ≡ asks_floats l
      → b ≡ ltb (length w.bodies) (st.bodies + counts.bodies) → n ≡ ltb (length w.numbers) (st.numbers + counts.numbers)
      → f ≡ ltb (length w.floats) (st.floats + whole) → s ≡ ltb (length w.steps) (st.steps + counts.steps)
      → Full l st w (b || n || f || s)
  tested {counts} {b} {n} {f} {s} a e p q r t =
      let same : (b || n || f || s) ≡ full (room_of w) l (night_of st w) =
      rw (p, q, r, t, e, a.bodies, a.numbers, a.steps) (sym as_tests) in
      record { is = same; room = λ h. fitting (sym same ∙ h) }
