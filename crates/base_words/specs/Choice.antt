-- A choice by a test, as the documents write it: "if .. then .. else ..". A chain of choices leans to the right. Assumes nothing.
use Rattle.std.specs.Prelude.{Bool, cond}

infixr 1 if◌then◌otherwise◌
abbrev pub if◌then◌otherwise◌ : {A : Type 0} → Bool → A → A → A
if test then x otherwise y = cond test x y
