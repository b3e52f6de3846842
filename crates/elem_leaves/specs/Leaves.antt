-- Document 01, "Arithmetic": its first two rules, the leaves. Assumes nothing.
use Rattle.std.specs.Prelude.{◌&&◌, Float}
use Rattle.std.specs.Float.{binary32}
use Rattle.std.specs.Float.Ieee.{neg, of_bits}
use Rattle.base_words.specs.Choice.{if◌then◌otherwise◌}
use Rattle.elem_leaves.specs.Floats.{◌+f◌, ◌*f◌, ◌/f◌, ◌<f◌, ◌>f◌, zero, one}
use Rattle.elem_leaves.specs.declared.Vec2.{Vec2}

-- two numbers side by side
abbrev pub vec : Float → Float → Vec2
vec x y = record { x = x; y = y }

-- dot is x·x + y·y
unfoldable pub dot : Vec2 → Vec2 → Float
dot a b = a.x *f b.x +f a.y *f b.y

-- max0(x) is x if x > 0, else plus zero
unfoldable pub max0 : Float → Float
max0 x = if x >f zero then x otherwise zero

-- clamp(x, L): below −L gives −L; else above L gives L; a number at or inside the two ends is kept, and so is NaN
unfoldable pub clamp : Float → Float → Float
clamp x L = if x <f neg L then neg L otherwise if x >f L then L otherwise x

-- e is f32 1e-20 (bits 1e3ce508)
abbrev pub e : Float
e = of_bits binary32 0x1e3c_e508

-- inv(x): zero if −e < x and x < e, else 1/x
unfoldable pub inv : Float → Float
inv x = if (neg e <f x) && (x <f e) then zero otherwise one /f x

-- tangent is (−dir.y, dir.x)
unfoldable pub tangent : Vec2 → Vec2
tangent dir = vec (neg dir.y) dir.x
