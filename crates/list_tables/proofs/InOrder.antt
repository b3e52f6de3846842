-- The statements of specs/InOrder.antt: each place computes. Assumes nothing.
use mathlib.Core.Path.{refl}
use Rattle.list_tables.specs.InOrder.{HeadInOrder, NormalInOrder, TangentInOrder}
use Rattle.list_tables.specs.Tables.{head_of, normal_of, tangent_of}

pub head_in_order : HeadInOrder
unfolding head_of
head_in_order one two n dx dy ax ay bx by friction k12 flag = refl

pub normal_in_order : NormalInOrder
unfolding normal_of
normal_in_order t1 t2 i1 i2 rhs impulse total r cfm seed = refl

pub tangent_in_order : TangentInOrder
unfolding tangent_of
tangent_in_order t1 t2 i1 i2 rhs impulse total r = refl
