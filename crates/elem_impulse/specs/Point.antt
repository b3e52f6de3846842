-- Document 01, "Arithmetic": the new normal impulse of one point, from plain floats, as every device with normal parts shares it. What dvel is, and what
-- the change pushes, is the part's matter. Assumes nothing.
use Rattle.std.specs.Prelude.{◌&&◌, Float}
use Rattle.base_words.specs.Choice.{if◌then◌otherwise◌}
use Rattle.elem_leaves.specs.Floats.{◌-f◌, ◌*f◌, ◌<f◌, ◌>f◌, zero}
use Rattle.elem_leaves.specs.Leaves.{max0}

-- Normal: n = cfm·max0(impulse − r·dvel)
unfoldable pub normal_impulse : Float → Float → Float → Float → Float
normal_impulse cfm impulse r dvel = cfm *f max0 (impulse -f r *f dvel)

-- Restitution: if seed < 0 and accumulator + impulse > 0, which is the total, n = max0(impulse − r·dvel), without cfm; else n = impulse
unfoldable pub restitution_impulse : Float → Float → Float → Float → Float → Float
restitution_impulse seed total impulse r dvel = if (seed <f zero) && (total >f zero) then max0 (impulse -f r *f dvel) otherwise impulse
