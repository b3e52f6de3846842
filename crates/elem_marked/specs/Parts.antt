-- Parts for worked examples. Assumes nothing.
use Rattle.std.specs.Prelude.{Float}
use Rattle.elem_leaves.specs.Numbers.{num}
use Rattle.elem_normal.specs.declared.ContactConstraintNormalPart.{ContactConstraintNormalPart}

-- a normal part that turns no body; t1 is what the first body's turning adds to its dvel
abbrev pub part : (t1 rhs impulse accumulator r cfm seed : Float) → ContactConstraintNormalPart
part t1 rhs impulse accumulator r cfm seed = record {
  torque_dir1 = t1;
  torque_dir2 = num 0;
  ii_torque_dir1 = num 0;
  ii_torque_dir2 = num 0;
  rhs = rhs;
  impulse = impulse;
  impulse_accumulator = accumulator;
  r = r;
  cfm_factor = cfm;
  seed = seed;
}
