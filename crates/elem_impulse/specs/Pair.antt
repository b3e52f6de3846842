-- Document 01, "Arithmetic": the new normal impulses of two points, from plain floats: when the block choice is used, and what
-- stands in for it. Assumes nothing.
use Rattle.std.specs.Prelude.{Float}
use Rattle.base_words.specs.Choice.{if◌then◌otherwise◌}
use Rattle.elem_leaves.specs.Floats.{◌+f◌, ◌-f◌, ◌*f◌, ◌>f◌, half}
use Rattle.elem_leaves.specs.Leaves.{vec}
use Rattle.elem_leaves.specs.declared.Vec2.{Vec2}
use Rattle.elem_impulse.specs.Block.{block_choice}
use Rattle.elem_impulse.specs.Point.{normal_impulse}
use Rattle.elem_impulse.specs.declared.Branch.TheVariants.{Degraded}
use Rattle.elem_impulse.specs.declared.PairChoice.{PairChoice}

-- degraded: n_a = cfm_a·max0(p − r_a·degraded dvel); n_b = cfm_b·max0(q − r_b·(dvel_b + k12·(n_a − p)))
unfoldable pub degraded : Vec2 → Float → Vec2 → Float → Float → Float → Vec2 → PairChoice
degraded dvel degraded_dvel prev ra rb k12 cfm =
    let na = normal_impulse cfm.x prev.x ra degraded_dvel in
    let nb = normal_impulse cfm.y prev.y rb (dvel.y +f k12 *f (na -f prev.x)) in
    record { branch = Degraded; impulse = vec na nb }

-- The block choice is used only if flag > 0.5. Otherwise degraded
unfoldable pub choice : Vec2 → Float → Vec2 → Float → Float → Float → Float → Vec2 → PairChoice
choice dvel degraded_dvel prev ra rb k12 flag cfm =
    if flag >f half then block_choice dvel prev ra rb k12 cfm otherwise degraded dvel degraded_dvel prev ra rb k12 cfm
