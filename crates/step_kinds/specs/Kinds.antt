-- Document 01, "Arithmetic": the routines, each with a contact and the velocities of its bodies. A rule is said once, at one point; then
-- over the points below count, a then b. Which kind of step has which routine stands in Table.antt. Assumes nothing.
use Rattle.std.specs.Prelude.{ℕ, None, Some, ltb}
use Rattle.base_words.specs.Choice.{if◌then◌otherwise◌}
use Rattle.elem_leaves.specs.Floats.{◌*f◌}
use Rattle.elem_leaves.specs.Leaves.{tangent}
use Rattle.elem_velocity.specs.declared.Vels.{Vels}
use Rattle.elem_tangent.specs.Tangent.{friction, tangent_warm}
use Rattle.elem_normal.specs.Normal.{normal, normal_warm, restitution}
use Rattle.elem_normal.specs.Pair.{pair}
use Rattle.elem_normal.specs.declared.NormalSolved.{NormalSolved}
use Rattle.step_contact.specs.declared.Contact.{Contact}
use Rattle.step_contact.specs.declared.ContactHead.{ContactHead}
use Rattle.step_contact.specs.declared.ContactPoint.{ContactPoint}
use Rattle.step_kinds.specs.declared.ContactSolved.{ContactSolved}
use Rattle.step_kinds.specs.declared.PointSolved.{PointSolved}
use Rattle.step_kinds.specs.declared.Rule.{Rule}
use Rattle.step_kinds.specs.declared.Rule.TheVariants.{WarmNormal, WarmTangent, Normal, Friction, Restitution}

-- Warm start: push each point's normal impulse ..
unfoldable pub warm_normal_at : ContactHead → ContactPoint → Vels → PointSolved
warm_normal_at h p v = record { point = p; vels = normal_warm p.normal_part h.dir1 h.im1 h.im2 v }

-- .. then tangent impulses
unfoldable pub warm_tangent_at : ContactHead → ContactPoint → Vels → PointSolved
warm_tangent_at h p v = record { point = p; vels = tangent_warm p.tangent_part (tangent h.dir1) h.im1 h.im2 v }

-- a point whose normal part was solved
unfoldable pub normal_left : ContactPoint → NormalSolved → PointSolved
normal_left p s = record { point = record { normal_part = s.part; tangent_part = p.tangent_part }; vels = s.vels }

-- Normal, per point
unfoldable pub normal_at : ContactHead → ContactPoint → Vels → PointSolved
normal_at h p v = normal_left p (normal p.normal_part h.dir1 h.im1 h.im2 v)

-- Friction, per point: L = friction · that point's normal impulse
unfoldable pub friction_at : ContactHead → ContactPoint → Vels → PointSolved
friction_at h p v =
    let L = h.friction *f p.normal_part.impulse in
    let s = friction p.tangent_part (tangent h.dir1) h.im1 h.im2 L v in
    record { point = record { normal_part = p.normal_part; tangent_part = s.part }; vels = s.vels }

-- Restitution, per point
unfoldable pub restitution_at : ContactHead → ContactPoint → Vels → PointSolved
restitution_at h p v = normal_left p (restitution p.normal_part h.dir1 h.im1 h.im2 v)

unfoldable pub at_point : Rule → ContactHead → ContactPoint → Vels → PointSolved
at_point WarmNormal = warm_normal_at
at_point WarmTangent = warm_tangent_at
at_point Normal = normal_at
at_point Friction = friction_at
at_point Restitution = restitution_at

-- only on points below count: a has place 0, b has place 1
unfoldable pub turn : Rule → ℕ → ContactHead → ContactPoint → Vels → PointSolved
turn rule place h p v = if ltb place h.count then at_point rule h p v otherwise (record { point = p; vels = v })

-- a then b
unfoldable pub over_points : Rule → Contact → Vels → ContactSolved
over_points rule c v =
    let a = turn rule 0 c.head c.a v in
    let b = turn rule 1 c.head c.b a.vels in
    record { branch = None; contact = record { head = c.head; a = a.point; b = b.point }; vels = b.vels }

-- Warm start: the normal impulses, a then b; then the tangent impulses, a then b
unfoldable pub warm_start : Contact → Vels → ContactSolved
warm_start c v = let pushed = over_points WarmNormal c v in over_points WarmTangent pushed.contact pushed.vels

-- Pair
unfoldable pub pair_of : Contact → Vels → ContactSolved
pair_of c v =
    let h = c.head in
    let s = pair c.a.normal_part c.b.normal_part h.dir1 h.im1 h.im2 h.k12 h.flag v in
    record {
      branch = Some s.branch;
      contact = record {
        head = h;
        a = record { normal_part = s.a; tangent_part = c.a.tangent_part };
        b = record { normal_part = s.b; tangent_part = c.b.tangent_part };
      };
      vels = s.vels;
    }
