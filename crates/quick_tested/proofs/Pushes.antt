-- What a push tells: where one body's velocity is finite after it, it was before, and the impulse is finite; and so a body that no impulse
-- moves stays at a zero. Assumes nothing.
use mathlib.Core.Path.{◌≡◌, refl, sym, ◌∙◌}
use mathlib.Core.Bool.{true, ◌&&◌}
use lib.Ieee.{Float, neg}
use Rattle.elem_leaves.specs.Finite.{finite}
use Rattle.elem_leaves.specs.Floats.{◌+f◌, ◌-f◌, ◌*f◌}
use Rattle.elem_leaves.specs.declared.Vec2.{Vec2}
use Rattle.base_words.proofs.Said.{all_l, all_r}
use Rattle.elem_velocity.specs.Velocity.{moved, push}
use Rattle.elem_velocity.specs.declared.SolverVel.{SolverVel}
use Rattle.elem_velocity.specs.declared.Vels.{Vels}
use Rattle.elem_normal.specs.Pair.{pair_push}
use Rattle.elem_normal.specs.declared.ContactConstraintNormalPart.{ContactConstraintNormalPart}
use Rattle.step_values.specs.Values.{finite_vel}
use Rattle.quick_tested.proofs.Zeros.{Zero}
use Rattle.quick_tested.proofs.Zeros.{both, zero_finite, times_zero, zero_times}
use Rattle.quick_tested.proofs.Implied.{Two, neg_finite, of_product, of_sum, opposite}

-- the two bodies of a contact
pub data Side : Type 0 where
  first second : Side

abbrev pub pick : {A : Type 0} → Side → A → A → A
pick first x y = x
pick second x y = y

abbrev pub vel : Side → Vels → SolverVel
vel side v = pick side v.v1 v.v2

-- every number is a zero
pub record Still (v : SolverVel) : Type 0 where
  pub along_x : Zero v.linear.x
  pub along_y : Zero v.linear.y
  pub turning : Zero v.angular

pub still_finite : (v : SolverVel) → Still v → finite_vel v ≡ true
unfolding finite_vel
still_finite v s = rw (zero_finite s.along_x, zero_finite s.along_y, zero_finite s.turning)

-- a direction that is finite
pub record Direction (d : Vec2) : Type 0 where
  pub x_finite : finite d.x ≡ true
  pub y_finite : finite d.y ≡ true

pub record Unmoved (im : Vec2) : Type 0 where
  pub x_zero : Zero im.x
  pub y_zero : Zero im.y

-- one body
module _ (v : SolverVel) (d im : Vec2) (l turn : Float) where
  moved_tells : finite_vel (moved v d im l turn) ≡ true → (finite_vel v ≡ true) × (finite l ≡ true)
  unfolding finite_vel moved
  moved_tells h =
      let a = d.x *f im.x *f l in
      let b = d.y *f im.y *f l in
      let fx = finite (v.linear.x +f a) in
      let fy = finite (v.linear.y +f b) in
      let fw = finite (v.angular +f turn) in
      let x = of_sum v.linear.x a (all_l fx fy (all_l (fx && fy) fw h)) in
      let y = of_sum v.linear.y b (all_r fx fy (all_l (fx && fy) fw h)) in
      let w = of_sum v.angular turn (all_r (fx && fy) fw h) in
      (rw (x.0, y.0, w.0) refl, (of_product (d.x *f im.x) l x.1).1)

  moved_still : Direction d → Unmoved im → finite l ≡ true → Zero turn → Still v → Still (moved v d im l turn)
  unfolding moved
  moved_still fd no-im fl no_turn s = record {
    along_x = both s.along_x (zero_times l (times_zero d.x fd.x_finite no-im.x_zero) fl);
    along_y = both s.along_y (zero_times l (times_zero d.y fd.y_finite no-im.y_zero) fl);
    turning = both s.turning no_turn;
  }

-- what is told of the velocities before, v, and after, w: a side that has G stays still
pub record Told (x : Side) (v w : Vels) (G : Side → Type 0) : Type 0 where
  pub before : finite_vel (vel x v) ≡ true
  pub stays : (y : Side) → G y → Still (vel y v) → Still (vel y w)

pub told_by : {x : Side} {v w : Vels} {G H : Side → Type 0} → ((y : Side) → H y → G y) → Told x v w G → Told x v w H
told_by f t = record { before = t.before; stays = λ y h. t.stays y (f y h) }

pub told_then : {x : Side} {u v w : Vels} {G : Side → Type 0} → Told x u v G → Told x v w G → Told x u w G
told_then s t = record { before = s.before; stays = λ y g r. t.stays y g (s.stays y g r) }

-- one impulse, on both
module _ (d im1 im2 : Vec2) (ii1 ii2 l : Float) (v : Vels) where
  abbrev after : Vels
  after = push d im1 im2 ii1 ii2 l v

  push_finite : (x : Side) → finite_vel (vel x after) ≡ true → (finite_vel (vel x v) ≡ true) × (finite l ≡ true)
  unfolding push
  push_finite first h = moved_tells v.v1 d im1 l (ii1 *f l) h
  push_finite second h = let t = moved_tells v.v2 d im2 (neg l) (ii2 *f l) h in (t.0, sym (neg_finite l) ∙ t.1)

  push_still : finite l ≡ true → (y : Side) → Direction d → Unmoved (pick y im1 im2) → Zero (pick y ii1 ii2) → Still (vel y v) → Still (vel y after)
  unfolding push
  push_still fl first fd no-im no-ii s = moved_still v.v1 d im1 l (ii1 *f l) fd no-im fl (zero_times l no-ii fl) s
  push_still fl second fd no-im no-ii s = moved_still v.v2 d im2 (neg l) (ii2 *f l) fd no-im (neg_finite l ∙ fl) (zero_times l no-ii fl) s

  pub push_tells : (x : Side) → finite_vel (vel x after) ≡ true → (finite l ≡ true) × Told x v after (λ y. Direction d × Unmoved (pick y im1 im2) × Zero (pick y ii1 ii2))
  push_tells x h = let t = push_finite x h in (t.1, record { before = t.0; stays = λ y g. push_still t.1 y g.0 g.1 g.2 })

-- two impulses at once, on both
module _ (a b : ContactConstraintNormalPart) (x y : Float) (d im1 im2 : Vec2) (v : Vels) where
  abbrev pair-after : Vels
  pair-after = pair_push a b x y d im1 im2 v

  abbrev turns : Side → Float
  turns side = pick side a.ii_torque_dir1 a.ii_torque_dir2 *f x +f pick side b.ii_torque_dir1 b.ii_torque_dir2 *f y

  abbrev pub NoTurn : Side → Type 0
  NoTurn side = Zero (pick side a.ii_torque_dir1 a.ii_torque_dir2) × Zero (pick side b.ii_torque_dir1 b.ii_torque_dir2)

  pair_finite : (side : Side) → finite_vel (vel side pair-after) ≡ true → (finite_vel (vel side v) ≡ true) × (finite (x +f y) ≡ true)
  unfolding pair_push
  pair_finite first h = moved_tells v.v1 d im1 (x +f y) (turns first) h
  pair_finite second h = let t = moved_tells v.v2 d im2 (neg x -f y) (turns second) h in (t.0, sym (opposite x y) ∙ t.1)

  no_turn : (side : Side) → Two x y → NoTurn side → Zero (turns side)
  no_turn side two zs = both (zero_times x zs.0 two.0) (zero_times y zs.1 two.1)

  pair_still : finite (x +f y) ≡ true → (side : Side) → Direction d → Unmoved (pick side im1 im2) → NoTurn side → Still (vel side v) → Still (vel side pair-after)
  unfolding pair_push
  pair_still f first fd no-im zs s = moved_still v.v1 d im1 (x +f y) (turns first) fd no-im f (no_turn first (of_sum x y f) zs) s
  pair_still f second fd no-im zs s =
      moved_still v.v2 d im2 (neg x -f y) (turns second) fd no-im (opposite x y ∙ f) (no_turn second (of_sum x y f) zs) s

  pub pair_tells : (side : Side) → finite_vel (vel side pair-after) ≡ true → Two x y × Told side v pair-after (λ y. Direction d × Unmoved (pick y im1 im2) × NoTurn y)
  pair_tells side h = let t = pair_finite side h in (of_sum x y t.1, record { before = t.0; stays = λ y g. pair_still t.1 y g.0 g.1 g.2 })
