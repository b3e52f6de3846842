-- What a look at a contact comes to, return by return: nothing is found, and the contact is trusted; or the first condition that holds
-- turns the step away. Assumes nothing.
use Prim.Native.Nat.{ℕ, ◌≤◌, ◌<◌}
use native.Mathlib.Omega.{arith}
use mathlib.Core.Bool.{Bool, true, false, not, ◌&&◌, ◌||◌}
use mathlib.Core.List.{List, [], ◌∷◌}
use mathlib.Core.Path.{◌≡◌, refl, sym, ap, ◌∙◌}
use borrow.Author.Tests.{eqb-true, le-ltb, lt-ltb}
use lib.Dec.{eqb}
use lib.Ieee.{Float}
use Rattle.base_places.specs.Places.{body_width, floats_width}
use Rattle.base_words.specs.Choice.{if◌then◌otherwise◌}
use Rattle.base_words.proofs.Pick.{never, pass, take}
use Rattle.base_words.proofs.Said.{all_l, all_r, none_l, none_r, not_so}
use Rattle.std.proofs.Common.{Option}
use Rattle.std.specs.Option.{is_some}
use Rattle.base_refusals.proofs.Told.{by_number, is, none_told}
use Rattle.base_refusals.specs.Numbers.{number_of}
use Rattle.base_refusals.specs.Refusals.{Condition, ◌when◌, first}
use Rattle.base_refusals.specs.declared.Refusal.{Refusal}
use Rattle.base_refusals.specs.declared.Refusal.TheVariants.{NotFinite, WrongBodies, WrongCount}
use Rattle.elem_velocity.specs.declared.Vels.{Vels}
use Rattle.step_contact.specs.declared.Contact.{Contact}
use Rattle.step_kinds.specs.declared.ContactSolved.{ContactSolved}
use Rattle.step_shape.specs.Shape.{kind_above, pair_of_one, wrong_bodies, wrong_count}
use Rattle.step_values.specs.Values.{not_finite, not_finite_vels, out_of_range}
use Rattle.step_rules.proofs.Chain.{hit, miss}
use Rattle.step_rules.specs.Step.{Outcome, Refused, checks, first_or}
use Rattle.base_rows.specs.Rows.{rows}
use Rattle.list_tables.specs.declared.Step.{Step}
use Rattle.list_rules.specs.Sweep.{Tables, if_there, tables, vels_at}
use Rattle.quick_flaws.specs.Flaws.{asked_knowing, flaw, half_at, holds_knowing, of_contact, tried_knowing, vouched}
use Rattle.quick_flaws.proofs.Knowing.{judged_by_flaw}
use Rattle.quick_step.specs.Trusted.{Looked, Trusted}
use Rattle.quick_step.proofs.AsRead.{away, its, raw, vels}

-- 5 and 6, by the flaw, in one test
module _ (f : ℕ) (cs : List Condition) (made : ContactSolved) where
  one_of_two : (eqb f 5 || eqb f 6) ≡ true → Refused f ≡ first_or (5 when eqb f 5 ∷ 6 when eqb f 6 ∷ cs) made
  unfolding first_or
  one_of_two e = by_case (eqb f 5) (eqb f 6) refl refl e
    where
      by_case : (five six : Bool) → eqb f 5 ≡ five → eqb f 6 ≡ six → (five || six) ≡ true
          → Refused f ≡ (if five then Refused 5 otherwise if six then Refused 6 otherwise first_or cs made)
      by_case true six p q e = ap (λ (n : ℕ). Refused n) (eqb-true f 5 p)
      by_case false true p q e = ap (λ (n : ℕ). Refused n) (eqb-true f 6 q)
      by_case false false p q e = never (sym e)

  neither_of_two : {o : Outcome} → (eqb f 5 || eqb f 6) ≡ false → o ≡ first_or cs made → o ≡ first_or (5 when eqb f 5 ∷ 6 when eqb f 6 ∷ cs) made
  unfolding first_or
  neither_of_two none later = rw (none_l (eqb f 5) (eqb f 6) none, none_r (eqb f 5) (eqb f 6) none) later

-- no contact has another flaw than 5, 6, 8 and 9
abbrev one_of : Bool → Bool → Bool → Bool → ℕ
one_of five six eight nine = first (5 when five ∷ 6 when six ∷ 8 when eight ∷ 9 when nine ∷ [])

last_flaw : (n : ℕ) (c : Contact) → eqb (flaw n c) 0 ≡ false → (eqb (flaw n c) 5 || eqb (flaw n c) 6) ≡ false → eqb (flaw n c) 8 ≡ false
    → eqb (flaw n c) 9 ≡ true
unfolding flaw of_contact checks half_at first
last_flaw n c = by_case (wrong_bodies c.head n) (wrong_count c.head) (not_finite c) (out_of_range c)
  where
    by_case : (five six eight nine : Bool) → eqb (one_of five six eight nine) 0 ≡ false
        → (eqb (one_of five six eight nine) 5 || eqb (one_of five six eight nine) 6) ≡ false → eqb (one_of five six eight nine) 8 ≡ false
        → eqb (one_of five six eight nine) 9 ≡ true
    by_case true six eight nine some e e8 = sym e
    by_case false true eight nine some e e8 = sym e
    by_case false false true nine some e e8 = sym e8
    by_case false false false true some e e8 = refl
    by_case false false false false some e e8 = sym some

-- some flaw, or a velocity that is not finite
some_flaw : (a lost : Bool) → (a && not lost) ≡ false → lost ≡ false → a ≡ false
some_flaw a lost e f = by_case a lost f e
  where
    by_case : (a lost : Bool) → lost ≡ false → (a && not lost) ≡ false → a ≡ false
    by_case true false f e = e
    by_case true true f e = f
    by_case false lost f e = refl

module _ (bodies : List Float) (numbers : List ℕ) (floats : List Float) (s : Step) (found : Option Refusal) {d : Contact} {v : Vels} {lost : Bool}
    (read : d ≡ its bodies numbers floats s) (flawed : number_of found ≡ flaw (rows body_width bodies) d) (moving : v ≡ vels_at bodies d.head) (told : lost ≡ not_finite_vels v) where
  abbrev t : Tables
  t = tables bodies numbers floats

  abbrev f : ℕ
  f = number_of found

  is_flaw : f ≡ flaw (rows body_width bodies) (its bodies numbers floats s)
  is_flaw = flawed ∙ ap (flaw (rows body_width bodies)) read

  is_lost : lost ≡ not_finite_vels (vels bodies numbers floats s)
  is_lost = cc

  pub is_trusted : (none : Bool) → is_some found ≡ not none → (none && not lost) ≡ true → Looked s t 0
  unfolding vouched
  is_trusted none n e =
      let no_flaw : eqb f 0 ≡ true = sym (none_told found n) ∙ all_l none (not lost) e in
      record {
        trusted = λ _. record { sound = rw (← is_flaw) no_flaw; moving = sym is_lost ∙ not_so lost (all_r none (not lost) e) };
        only = λ _. refl;
        turned = λ none. absurd (none refl);
      }

  module _ (none : Bool) (n : is_some found ≡ not none) (not_both : (none && not lost) ≡ false) where
    -- where something was found the contact is not trusted
    not_either : (eqb f 0 && not lost) ≡ false
    not_either = ap (λ (b : Bool). b && not lost) (sym (none_told found n)) ∙ not_both

    untrusted : Trusted t s.contact → ⊥
    unfolding vouched
    untrusted trust =
        let none : eqb f 0 ≡ true = rw is_flaw trust.sound in
        let moves : lost ≡ false = is_lost ∙ trust.moving in
        never (sym (rw (none, moves) refl) ∙ not_either)

    turned_by : (n : ℕ) → (n ≡ 0 → ⊥) → Refused n ≡ raw bodies numbers floats s → Looked s t n
    turned_by n some e = record { trusted = λ none. absurd (some none); only = λ trust. absurd (untrusted trust); turned = λ _. away bodies numbers floats s n e }

    pub is_missing : rows floats_width floats ≤ s.contact → Looked s t 2
    unfolding if_there
    is_missing past = turned_by 2 (λ e. omega arith) (pass _ (le-ltb _ _ past) refl)

    module _ (there : s.contact < rows floats_width floats) {above : Bool} (e3 : above ≡ kind_above s.kind) where
      by_chain : (n : ℕ) → (n ≡ 0 → ⊥) → Refused n ≡ tried_knowing (its bodies numbers floats s) s.kind (vels bodies numbers floats s) f → Looked s t n
      unfolding if_there
      by_chain n some e =
          turned_by n some
          (take _ (lt-ltb _ _ there) (e ∙ ap (tried_knowing (its bodies numbers floats s) s.kind (vels bodies numbers floats s)) is_flaw
          ∙ judged_by_flaw (rows body_width bodies) (its bodies numbers floats s) s.kind (vels bodies numbers floats s)))

      pub no_such_kind : above ≡ true → Looked s t 3
      unfolding tried_knowing asked_knowing checks holds_knowing
      no_such_kind h = by_chain 3 (λ e. omega arith) (hit 3 _ _ e3 h)

      module _ (n3 : above ≡ false) {five six : Bool} (is5 : five ≡ is found WrongBodies) (is6 : six ≡ is found WrongCount) where
        by_two : (five || six) ≡ (eqb f 5 || eqb f 6)
        by_two = rw (is5, is6, by_number found WrongBodies, by_number found WrongCount)

        pub by_flaw : (five || six) ≡ true → Looked s t f
        unfolding tried_knowing asked_knowing checks holds_knowing
        by_flaw h = by_chain f (by_case (eqb f 5) (eqb f 6) refl refl (sym by_two ∙ h)) (miss 3 _ _ e3 n3 (one_of_two f _ _ (sym by_two ∙ h)))
          where
            by_case : (five six : Bool) → eqb f 5 ≡ five → eqb f 6 ≡ six → (five || six) ≡ true → f ≡ 0 → ⊥
            by_case true six p q e none = let z : f ≡ 5 = eqb-true f 5 p in omega arith
            by_case false true p q e none = let z : f ≡ 6 = eqb-true f 6 q in omega arith
            by_case false false p q e none = never (sym e)

        module _ (no5 : (five || six) ≡ false) {paired : Bool} (e7 : paired ≡ pair_of_one s.kind d.head) where
          n5 : (eqb f 5 || eqb f 6) ≡ false
          n5 = sym by_two ∙ no5

          its_pair : paired ≡ pair_of_one s.kind (its bodies numbers floats s).head
          its_pair = cc

          pub by_pair : paired ≡ true → Looked s t 7
          unfolding tried_knowing asked_knowing checks holds_knowing
          by_pair h = by_chain 7 (λ e. omega arith) (miss 3 _ _ e3 n3 (neither_of_two f _ _ n5 (hit 7 _ _ its_pair h)))

          module _ (n7 : paired ≡ false) {eight : Bool} (is8 : eight ≡ is found NotFinite) where
            by_eight : (eight || lost) ≡ (eqb f 8 || not_finite_vels (vels bodies numbers floats s))
            by_eight = rw (is8, by_number found NotFinite) (ap (λ (b : Bool). eqb f 8 || b) is_lost)

            pub by_loss : (eight || lost) ≡ true → Looked s t 8
            unfolding tried_knowing asked_knowing checks holds_knowing
            by_loss h = by_chain 8 (λ e. omega arith) (miss 3 _ _ e3 n3 (neither_of_two f _ _ n5 (miss 7 _ _ its_pair n7 (hit 8 _ _ by_eight h))))

            pub by_range : (eight || lost) ≡ false → Looked s t 9
            unfolding tried_knowing asked_knowing checks holds_knowing
            by_range n8 =
                let not_eight : eqb f 8 ≡ false = sym (is8 ∙ by_number found NotFinite) ∙ none_l eight lost n8 in
                let nine : eqb f 9 ≡ true =
                ap (λ (n : ℕ). eqb n 9) flawed
                ∙ last_flaw (rows body_width bodies) d (ap (λ (n : ℕ). eqb n 0) (sym flawed) ∙ some_flaw (eqb f 0) lost not_either (none_r eight lost n8))
                (ap (λ (n : ℕ). eqb n 5 || eqb n 6) (sym flawed) ∙ n5) (ap (λ (n : ℕ). eqb n 8) (sym flawed) ∙ not_eight) in
                by_chain 9 (λ e. omega arith)
                (miss 3 _ _ e3 n3 (neither_of_two f _ _ n5 (miss 7 _ _ its_pair n7 (miss 8 _ _ by_eight n8 (hit 9 _ _ refl nine)))))
