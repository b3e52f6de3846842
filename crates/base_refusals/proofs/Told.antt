-- What may refuse, compared in code, is compared by its number. Assumes nothing.
use mathlib.Core.Bool.{Bool, true, false, not}
use mathlib.Core.Path.{◌≡◌, refl, sym, ◌∙◌, ap}
use lib.Dec.{eqb}
use Rattle.std.proofs.Common.{Option, None, Some}
use Rattle.std.specs.Option.{is_some, option_eq}
use Rattle.base_refusals.specs.Numbers.{number_of, refusal_number}
use Rattle.base_refusals.specs.contracts.RefusalPartialEq.TheImpl as Same
use Rattle.base_refusals.specs.declared.Refusal.{Refusal}
use Rattle.base_refusals.specs.declared.Refusal.TheVariants.{KindAbove, NoContact, NoRoom, NotFinite, OutOfRange, PairOfOne, Unwritable, WrongBodies, WrongCount, WrongSizes}

-- each by each
same : (a b : Refusal) → Same.eq-value.it a b ≡ eqb (refusal_number a) (refusal_number b)
same WrongSizes WrongSizes = refl
same WrongSizes b = refl
same NoContact WrongSizes = refl
same NoContact b = refl
same KindAbove WrongSizes = refl
same KindAbove b = refl
same NoRoom WrongSizes = refl
same NoRoom b = refl
same WrongBodies WrongSizes = refl
same WrongBodies b = refl
same WrongCount WrongSizes = refl
same WrongCount b = refl
same PairOfOne WrongSizes = refl
same PairOfOne b = refl
same NotFinite WrongSizes = refl
same NotFinite b = refl
same OutOfRange WrongSizes = refl
same OutOfRange b = refl
same Unwritable WrongSizes = refl
same Unwritable b = refl

-- no refusal has success's number
pub not_success : (r : Refusal) → eqb (refusal_number r) 0 ≡ false
not_success WrongSizes = refl
not_success r = refl

-- `o == Some(r)`
abbrev pub is : Option Refusal → Refusal → Bool
is o r = option_eq Same.eq-value.it o (Some r)

pub by_number : (o : Option Refusal) (r : Refusal) → is o r ≡ eqb (number_of o) (refusal_number r)
by_number None WrongSizes = refl
by_number None r = refl
by_number (Some a) r = same a r

-- `o.is_none()`
pub none_told : (o : Option Refusal) {none : Bool} → is_some o ≡ not none → none ≡ eqb (number_of o) 0
none_told o {none} e = twice none ∙ ap not (sym e) ∙ by_case o
  where
    twice : (b : Bool) → b ≡ not (not b)
    twice true = refl
    twice false = refl

    by_case : (o : Option Refusal) → not (is_some o) ≡ eqb (number_of o) 0
    by_case None = refl
    by_case (Some WrongSizes) = refl
    by_case (Some r) = refl
