-- A float's field by its eight digits: a byte that is a digit is no tab, so the field ends where a tab, or the line's end, comes after
-- them. Assumes nothing.
use Prim.Native.Nat.{ℕ, suc, ◌+◌, ◌-◌, ◌*◌, ◌≤◌, ◌<◌}
use native.Mathlib.Nat.{add-sub_cancel_left}
use native.Mathlib.Omega.{arith}
use borrow.Author.Tests.{eqb-false, eqb-true}
use mathlib.Core.Bool.{Bool, true, false}
use mathlib.Core.List.{List, [], ◌∷◌}
use mathlib.Core.Path.{◌≡◌, refl, ap, sym, ◌∙◌}
use lib.Dec.{eqb}
use lib.ListN.{drop, length, length-drop, take, take-append-drop}
use lib.Seq.{drop-drop, length-take-le}
use Rattle.std.specs.Prelude.{Option, Some, None}
use Rattle.text_digits.specs.Digits.{digit_of, hex_of, number_from}
use Rattle.text_digits.proofs.Accepted.{hex_other}
use Rattle.text_digits.proofs.Came.{came_digit, came_hex}
use Rattle.text_fields.specs.Fields.{Free, until}
use Rattle.text_fields.specs.Got.{ReadField}
use Rattle.text_fields.specs.declared.Form.TheVariants.{Hex}
use Rattle.text_fields.proofs.Runs.{until_past, until_stays, until_within}
use Rattle.text_fields.proofs.Turn.{holds, no_number}
use Rattle.text_fields.proofs.Until.{until_nil, until_on}

tab_counts : digit_of 9 ≡ 16
unfolding digit_of
tab_counts = refl

digits_free : (base limit m n : ℕ) (s : List ℕ) → base ≤ 16 → number_from base limit m s ≡ Some n → Free 9 s
digits_free base limit m n [] h e = until_nil 9
digits_free base limit m n (b ∷ s) h e =
    let d = came_digit base limit m b s n e in
    let other : b ≡ 9 → ⊥ = λ z. omega (arith, d.digit, ap digit_of z, tab_counts) in
    until_on s other ∙ ap suc (digits_free base limit (m * base + digit_of b) n s h d.rest)

-- eight digits, after which a field may end, are the whole field
whole_field : (d : List ℕ) (x : ℕ) → 8 ≤ length d → until 9 (drop 8 d) ≡ 0 → hex_of (take 8 d) ≡ Some x → until 9 d ≡ 8
whole_field d x h o e =
    let free = digits_free 16 0xffff_ffff 0 x (take 8 d) (omega arith) (came_hex (take 8 d) x e).1 in
    let on : until 9 d ≡ length (take 8 d) + until 9 (drop 8 d) =
    ap (until 9) (sym (take-append-drop 8 d)) ∙ until_past 9 (take 8 d) (drop 8 d) free in
    let long : length (take 8 d) ≡ 8 = length-take-le 8 d h in
    omega arith

module _ (s : List ℕ) (at : ℕ) (h : at ≤ length s) where
  not_eight : (until 9 (drop at s) ≡ 8 → ⊥) → ReadField Hex s at None
  not_eight p =
      let k = until 9 (drop at s) in
      let long : length (take k (drop at s)) ≡ k = length-take-le k (drop at s) (until_within 9 (drop at s)) in
      let none : None ≡ hex_of (take k (drop at s)) = hex_other (take k (drop at s)) (λ e. p (sym long ∙ e)) in
      no_number Hex s at h (at + k) refl (rw add-sub_cancel_left none) refl

  pub eight_short : length s - at < 8 → ReadField Hex s at None
  eight_short k = not_eight (λ e. omega (arith, until_within 9 (drop at s), length-drop at s, e))

  module _ (k : 8 ≤ length s - at) {t : Bool} (at_end : t ≡ eqb (until 9 (drop (at + 8) s)) 0) where
    pub eight_go_on : t ≡ false → ReadField Hex s at None
    eight_go_on e =
        let goes : until 9 (drop (at + 8) s) ≡ 0 → ⊥ = eqb-false _ _ (sym at_end ∙ e) in
        not_eight (λ q. goes (rw (q, drop-drop 8 at s) at (until_stays 9 (drop at s))))

    module _ (over : t ≡ true) {v : Option ℕ} (said : v ≡ hex_of (take (at + 8 - at) (drop at s))) where
      pub eight_held : (x : ℕ) → v ≡ Some x → ReadField Hex s at (Some (record { value = x; next = at + 8 + 1 }))
      eight_held x e =
          let o : until 9 (drop 8 (drop at s)) ≡ 0 = rw (drop-drop 8 at s) (eqb-true _ _ (sym at_end ∙ over)) in
          let is : hex_of (take 8 (drop at s)) ≡ Some x = rw add-sub_cancel_left at (sym said ∙ e) in
          let q = whole_field (drop at s) x (rw length-drop k) o is in
          holds Hex s at h (at + 8) (ap (λ (u : ℕ). at + u) (sym q)) said x e

      none_by : (b : Bool) → eqb (until 9 (drop at s)) 8 ≡ b → v ≡ None → ReadField Hex s at None
      none_by true q e = no_number Hex s at h (at + 8) (ap (λ (u : ℕ). at + u) (sym (eqb-true _ _ q))) said e
      none_by false q e = not_eight (eqb-false _ _ q)

      pub eight_no : v ≡ None → ReadField Hex s at None
      eight_no e = none_by (eqb (until 9 (drop at s)) 8) refl e
