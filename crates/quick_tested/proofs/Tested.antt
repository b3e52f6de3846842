-- Two statements of specs/Tested.antt, `ImpulsesFollow` and `OneTest`. Assumes nothing.
use Prim.Native.Nat.{ℕ}
use mathlib.Core.Path.{◌≡◌, refl, sym, ◌∙◌}
use mathlib.Core.Bool.{Bool, true, false, not, ◌&&◌, ◌||◌}
use borrow.Author.Tests.{eqb-true, eqb-false}
use lib.Dec.{eqb}
use lib.Ieee.{Float, eq, ne, of_bits}
use Rattle.elem_leaves.specs.Floats.{zero}
use Rattle.base_words.proofs.Pick.{never}
use Rattle.base_words.proofs.Said.{all_l, all_r, none_l, none_r, so}
use Rattle.elem_velocity.specs.Velocity.{rest}
use Rattle.elem_velocity.specs.declared.Vels.{Vels}
use Rattle.step_contact.specs.Contact.{is_floor}
use Rattle.step_contact.specs.declared.Contact.{Contact}
use Rattle.step_contact.specs.declared.ContactHead.{ContactHead}
use Rattle.step_contact.specs.declared.ContactPoint.{ContactPoint}
use Rattle.step_kinds.specs.Table.{routine, stores}
use Rattle.step_kinds.proofs.Keeps.{routine_keeps, same_head}
use Rattle.step_contact.specs.Places.{point}
use Rattle.step_shape.specs.Shape.{nowhere, wrong_bodies}
use Rattle.step_values.specs.Values.{finite_head, finite_point, finite_vel, floor_moves, head_out, lost_impulse, not_finite, not_finite_vels, out_of_range, point_out, some_point, unwritable}
use Rattle.step_values.proofs.Passed.{not_at}
use Rattle.step_rules.specs.Step.{as_read, reads}
use Rattle.quick_flaws.proofs.Stays.{Passed, passed}
use Rattle.quick_tested.proofs.Zeros.{Zero, is_zero, equals_zero}
use Rattle.quick_tested.specs.Tested.{ImpulsesFollow, OneTest}
use Rattle.quick_tested.proofs.Pushes.{Direction, Side, Still, first, pick, second, still_finite, vel}
use Rattle.quick_tested.proofs.Points.{Ground, routine_tells}

abbrev body : Side → ContactHead → ℕ
body y h = pick y h.body1 h.body2

-- 9: two numbers of the floor's side are zeros
zeros : (b : ℕ) (x y : Float) → is_floor b ≡ true → floor_moves b x y ≡ false → Zero x × Zero y
unfolding floor_moves ne
zeros b x y f e =
    let two : (ne x zero || ne y zero) ≡ false = rw f at e in
    (equals_zero x (so (eq x zero) (none_l (ne x zero) (ne y zero) two)), equals_zero y (so (eq y zero) (none_r (ne x zero) (ne y zero) two)))

-- 8: the direction is finite
direction : (h : ContactHead) → finite_head h ≡ true → Direction h.dir1
unfolding finite_head
direction h e = record { x_finite = search all_l depth 12; y_finite = search (all_l, all_r) depth 12 }

-- 9 of the head, on each side
head_still : (y : Side) (h : ContactHead) → head_out h ≡ false → floor_moves (body y h) (pick y h.im1 h.im2).x (pick y h.im1 h.im2).y ≡ false
unfolding head_out
head_still first h e = search (none_l, none_r)
head_still second h e = search (none_l, none_r)

point_still : (y : Side) (h : ContactHead) (p : ContactPoint) → point_out h p ≡ false
    → (let n = p.normal_part in
    let t = p.tangent_part in
    floor_moves (body y h) (pick y n.ii_torque_dir1 n.ii_torque_dir2) (pick y t.ii_torque_dir1 t.ii_torque_dir2)) ≡ false
unfolding point_out
point_still first h p e = search (none_l, none_r)
point_still second h p e = search (none_l, none_r)

-- the floor's side of a contact without a flaw
grounded : (rows : ℕ) (c : Contact) → Passed rows c → (y : Side) → is_floor (body y c.head) ≡ true → Ground c y
unfolding out_of_range not_finite
grounded rows c p y floor =
    let h = c.head in
    let wrong_head = not (finite_head h) in
    let wrong_points = some_point (λ p. not (finite_point p)) c in
    let mine = so (finite_head h) (none_l wrong_head wrong_points p.numbers) in
    let im = zeros (body y h) _ _ floor (head_still y h (none_l (head_out h) (some_point (point_out h) c) p.range)) in
    record {
      head = record { direction = direction h mine; unmoved = record { x_zero = im.0; y_zero = im.1 } };
      at = λ x below.
          let ii = zeros (body y h) _ _ floor (point_still y h (point x c) (not_at (point_out h) c (none_r (head_out h) (some_point (point_out h) c) p.range) x below)) in
          record { press = ii.0; rub = ii.1 };
    }

-- .. reads as rest, every number a zero
rest_still : Still rest
unfolding rest of_bits
rest_still = record { along_x = is_zero false _; along_y = is_zero false _; turning = is_zero false _ }

floor_still : (h : ContactHead) (v : Vels) (y : Side) → is_floor (body y h) ≡ true → Still (vel y (as_read h v))
unfolding as_read reads
floor_still h v first floor = rw floor rest_still
floor_still h v second floor = rw floor rest_still

-- 5: not both bodies are the floor
one_real : (rows : ℕ) (h : ContactHead) → wrong_bodies h rows ≡ false → is_floor h.body1 ≡ true → is_floor h.body2 ≡ true → ⊥
unfolding wrong_bodies
one_real rows h e f g =
    let differ = none_r (nowhere h.body1 rows || nowhere h.body2 rows) (eqb h.body1 h.body2) e in
    let one = eqb-true h.body1 65535 f in
    let two = eqb-true h.body2 65535 g in
    eqb-false h.body1 h.body2 differ (one ∙ sym two)

-- which of the bodies are the floor, and which velocities are finite
by_case : (f1 f2 s1 s2 lost : Bool) → (f1 ≡ true → f2 ≡ true → ⊥) → (s1 ≡ true → lost ≡ false) → (f1 ≡ true → s2 ≡ true → s1 ≡ true)
    → (f2 ≡ true → s1 ≡ true → s2 ≡ true) → (not f1 && not s1 || not f2 && not s2 || lost) ≡ (not s1 || not s2)
by_case true true s1 s2 lost real kept g1 g2 = absurd (real refl refl)
by_case true false true true lost real kept g1 g2 = kept refl
by_case true false true false lost real kept g1 g2 = refl
by_case true false false true lost real kept g1 g2 = never (sym (g1 refl refl))
by_case true false false false lost real kept g1 g2 = refl
by_case false true true true lost real kept g1 g2 = kept refl
by_case false true true false lost real kept g1 g2 = never (sym (g2 refl refl))
by_case false true false s2 lost real kept g1 g2 = refl
by_case false false true true lost real kept g1 g2 = kept refl
by_case false false true false lost real kept g1 g2 = refl
by_case false false false s2 lost real kept g1 g2 = refl

either_told : (s1 s2 lost : Bool) → (s1 ≡ true → lost ≡ false) → (s2 ≡ true → lost ≡ false) → (s1 || s2) ≡ true → lost ≡ false
either_told true s2 lost f g e = f refl
either_told false s2 lost f g e = g e

pub impulses_follow : ImpulsesFollow
impulses_follow c kind v two =
    let s = routine kind c v in
    either_told (finite_vel s.vels.v1) (finite_vel s.vels.v2) (some_point (lost_impulse kind) s.contact)
    (λ f. (routine_tells first c v kind two f).0) (λ f. (routine_tells second c v kind two f).0)

pub one_test : OneTest
unfolding unwritable not_finite_vels
one_test rows c kind v vouch two =
    let read = as_read c.head v in
    let s = routine kind c read in
    let p = passed rows c vouch in
    let head : s.contact.head ≡ c.head = same_head (stores kind) c s.contact (routine_keeps c read kind two) in
    let was : (y : Side) → is_floor (body y s.contact.head) ≡ true → is_floor (body y c.head) ≡ true = λ y e. rw head at e in
    let side : (x y : Side) → is_floor (body y s.contact.head) ≡ true → finite_vel (vel x s.vels) ≡ true → finite_vel (vel y s.vels) ≡ true
    = λ x y e f. still_finite (vel y s.vels) ((routine_tells x c read kind two f).1.stays y (grounded rows c p y (was y e)) (floor_still c.head v y (was y e))) in
    by_case (is_floor s.contact.head.body1) (is_floor s.contact.head.body2) (finite_vel s.vels.v1) (finite_vel s.vels.v2)
    (some_point (lost_impulse kind) s.contact) (λ e f. one_real rows c.head p.bodies (was first e) (was second f)) (λ f. (routine_tells first c read kind two f).0)
    (side second first) (side first second)
