-- The first of four candidates that passes, as a chain of `or` finds it. Assumes nothing.
use Rattle.std.proofs.Common.{◌≡◌, Bool, true, false, Option, [], ◌∷◌, unwrap_or, refl}
use Rattle.std.specs.Option.{option_or}
use Rattle.elem_impulse.specs.Block.{Candidate, first_passing, passing}
use Rattle.elem_impulse.specs.declared.PairChoice.{PairChoice}

abbrev candidate : Bool → PairChoice → Candidate
candidate passes choice = record { passes = passes; choice = choice }

-- an earlier one is taken before a later one
first_of_four : (p q r s : Bool) (w x y z kept : PairChoice)
    → unwrap_or (option_or (option_or (option_or (passing (candidate p w)) (passing (candidate q x))) (passing (candidate r y))) (passing (candidate s z))) kept
    ≡ first_passing (candidate p w ∷ candidate q x ∷ candidate r y ∷ candidate s z ∷ []) kept
unfolding first_passing
first_of_four true q r s w x y z kept = refl
first_of_four false true r s w x y z kept = refl
first_of_four false false true s w x y z kept = refl
first_of_four false false false true w x y z kept = refl
first_of_four false false false false w x y z kept = refl

-- so is what the calls come to: each premise is what a callee ensures
pub chosen : (w x y z : Candidate) (kept : PairChoice) {both a b none both_a both_b all : Option PairChoice} {r : PairChoice}
    → both ≡ passing w → a ≡ passing x → b ≡ passing y → none ≡ passing z → both_a ≡ option_or both a → both_b ≡ option_or both_a b
    → all ≡ option_or both_b none → r ≡ unwrap_or all kept → r ≡ first_passing (w ∷ x ∷ y ∷ z ∷ []) kept
chosen w x y z kept p q s t u v last is =
    rw (is, last, v, u, p, q, s, t) (first_of_four w.passes x.passes y.passes z.passes w.choice x.choice y.choice z.choice kept)
