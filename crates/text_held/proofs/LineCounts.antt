-- How many numbers a good line says: as many of each form as its letter has. Assumes nothing.
use Prim.Native.Nat.{ℕ, zero, suc, ◌+◌}
use native.Mathlib.Omega.{arith}
use mathlib.Core.List.{List, [], ◌∷◌, ◌++◌}
use mathlib.Core.Path.{◌≡◌, refl}
use lib.ListN.{length, length-append}
use Rattle.std.specs.Prelude.{Option, Some, None, option_and_then}
use Rattle.text_fields.specs.Fields.{Says, Taken, These, ended, fields, in_form, takes, then_bits, values}
use Rattle.text_fields.specs.Letters.{after_letter, asked, says}
use Rattle.text_fields.specs.declared.Form.{Form}
use Rattle.text_fields.specs.declared.Form.TheVariants.{Decimal, Hex}
use Rattle.text_fields.specs.declared.Letter.{Letter}

-- k fields of a form were taken: so many numbers
module _ (form : Form) where
  one : (got : List ℕ) (k : ℕ) (fs : List (List ℕ)) (got' : List ℕ) (rest : List (List ℕ)) (x : Option ℕ)
      → ((n : ℕ) → takes form (got ++ (n ∷ [])) k fs ≡ Some (These got' rest) → length got' ≡ length (got ++ (n ∷ [])) + k)
      → option_and_then (λ n. takes form (got ++ (n ∷ [])) k fs) x ≡ Some (These got' rest) → length got' ≡ length got + suc k
  one got k fs got' rest (Some n) later e = omega (arith, later n e, length-append got (n ∷ []))
  one got k fs got' rest None later e = absurd (let z : ◌≡◌ {A = ℕ} 0 1 = cc in omega arith)

  took : (k : ℕ) (got : List ℕ) (fs : List (List ℕ)) (got' : List ℕ) (rest : List (List ℕ)) → takes form got k fs ≡ Some (These got' rest)
      → length got' ≡ length got + k
  unfolding takes
  took zero got fs got' rest e = let p : got ≡ got' = cc in rw (← p) (omega arith)
  took (suc k) got [] got' rest e = absurd (let z : ◌≡◌ {A = ℕ} 0 1 = cc in omega arith)
  took (suc k) got (f ∷ fs) got' rest e = one got k fs got' rest (in_form form f) (λ n. took k (got ++ (n ∷ [])) fs got' rest) e

-- what the fields after the letter say
pub record Told (d k : ℕ) (numbers bits : List ℕ) : Type 0 where
  pub counted : length numbers ≡ d
  pub measured : length bits ≡ k

told_bits : (d k : ℕ) (fs : List (List ℕ)) (numbers bits got : List ℕ) (rest : List (List ℕ)) → takes Decimal [] d fs ≡ Some (These got rest)
    → (x : Option Taken) → takes Hex [] k rest ≡ x → ended got x ≡ Some (Says numbers bits) → Told d k numbers bits
unfolding ended
told_bits d k fs numbers bits got rest p (Some (These bits' [])) q e =
    let u : got ≡ numbers = cc in
    let v : bits' ≡ bits = cc in
    rw (← u, ← v) (record {
      counted = omega (arith, took Decimal d [] fs got rest p);
      measured = omega (arith, took Hex k [] rest bits' [] q);
    })
told_bits d k fs numbers bits got rest p (Some (These bits' (f ∷ more))) q e = absurd (let z : ◌≡◌ {A = ℕ} 0 1 = cc in omega arith)
told_bits d k fs numbers bits got rest p None q e = absurd (let z : ◌≡◌ {A = ℕ} 0 1 = cc in omega arith)

told_by : (d k : ℕ) (fs : List (List ℕ)) (numbers bits : List ℕ) (x : Option Taken) → takes Decimal [] d fs ≡ x → then_bits k x ≡ Some (Says numbers bits)
    → Told d k numbers bits
unfolding then_bits
told_by d k fs numbers bits (Some (These got rest)) p e = told_bits d k fs numbers bits got rest p (takes Hex [] k rest) refl e
told_by d k fs numbers bits None p e = absurd (let z : ◌≡◌ {A = ℕ} 0 1 = cc in omega arith)

told : (d k : ℕ) (fs : List (List ℕ)) (numbers bits : List ℕ) → values d k fs ≡ Some (Says numbers bits) → Told d k numbers bits
unfolding values
told d k fs numbers bits e = told_by d k fs numbers bits (takes Decimal [] d fs) refl e

abbrev pub GoodLine : Letter → List ℕ → List ℕ → Type 0
GoodLine l = Told (asked Decimal l) (asked Hex l)

pub good_line : (line : List ℕ) (l : Letter) (numbers bits : List ℕ) → says l line ≡ Some (Says numbers bits) → GoodLine l numbers bits
unfolding says
good_line line l numbers bits e = told (asked Decimal l) (asked Hex l) (after_letter (fields line)) numbers bits e
