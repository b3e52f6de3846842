-- One field read, and one field more: what is left to read comes to the same from where the turn leaves off. For fields of either form.
-- Assumes nothing.
use Prim.Native.Nat.{ℕ, suc, ◌+◌, ◌-◌, ◌≤◌, ◌<◌}
use native.Mathlib.Nat.{add-sub_cancel_left}
use native.Mathlib.Numerals.{add-one}
use native.Mathlib.Omega.{arith}
use mathlib.Core.List.{List, [], ◌∷◌}
use mathlib.Core.Path.{◌≡◌, sym, ◌∙◌}
use lib.ListN.{drop, length, length-set, set, take}
use lib.Seq.{take-suc-set}
use Rattle.std.specs.Prelude.{Option, Some, None}
use Rattle.std.proofs.lemmas.List.{take_all}
use Rattle.text_fields.specs.Fields.{fields_from, in_form, takes, until}
use Rattle.text_fields.specs.Got.{ReadField, ReadFields, Small, most}
use Rattle.text_fields.specs.declared.Field.{Field}
use Rattle.text_fields.specs.declared.Form.{Form}
use Rattle.text_fields.proofs.Small.{both_small, in_form_small}
use Rattle.text_fields.proofs.Until.{first, past}

none_some : {A : Type 0} (f : Field) → None ≡ Some f → A
none_some f e = absurd (let z : ◌≡◌ {A = ℕ} 0 1 = cc in omega arith)

-- one field
module _ (form : Form) (s : List ℕ) (at : ℕ) where
  pub no_field : length s < at → ReadField form s at None
  unfolding takes
  no_field h = record {
    more = λ got k f e. none_some f e;
    none = λ got k e. rw (past s at h);
    small = λ f e. none_some f e;
  }

  module _ (h : at ≤ length s) (end : ℕ) (at_end : end ≡ at + until 9 (drop at s)) {v : Option ℕ}
      (said : v ≡ in_form form (take (end - at) (drop at s))) where
    split : fields_from s at ≡ take (end - at) (drop at s) ∷ fields_from s (end + 1)
    split = rw (at_end, add-sub_cancel_left) (first s at h)

    pub holds : (x : ℕ) → v ≡ Some x → ReadField form s at (Some (record { value = x; next = end + 1 }))
    unfolding takes
    holds x e = record {
      more = λ got k f q. let p : x ≡ f.value = cc in let p' : end + 1 ≡ f.next = cc in rw (split, ← said, e, p, p');
      none = λ got k q. none_some (record { value = x; next = end + 1 }) (sym q);
      small = λ f q. let p : x ≡ f.value = cc in rw (← p) (in_form_small form (take (end - at) (drop at s)) x (sym said ∙ e));
    }

    pub no_number : v ≡ None → ReadField form s at None
    unfolding takes
    no_number e = record {
      more = λ got k f q. none_some f q;
      none = λ got k q. rw (split, ← said, e);
      small = λ f q. none_some f q;
    }

-- after i of n fields in a form, what is left from byte `at` on comes to the same as all from byte `from` on
pub record Left (form : Form) (n i : ℕ) (values s : List ℕ) (at from : ℕ) : Type 0 where
  pub same : takes form (take i values) (n - i) (fields_from s at) ≡ takes form [] n (fields_from s from)
  pub small : Small (most form) (take i values)
  pub long : length values ≡ n

module _ {form : Form} {n i : ℕ} {values s : List ℕ} {at from : ℕ} (v : Left form n i values s at from) where
  module _ (h : i < n) {r : Option Field} (d : ReadField form s at r) where
    left : n - i ≡ suc (n - (i + 1))
    left = omega (arith, v.long)

    pub turn : (f : Field) → r ≡ Some f → Left form n (i + 1) (set values i f.value) s f.next from
    turn f e =
        let on = rw (left, d.more (take i values) (n - (i + 1)) f e) at v.same in
        record {
          same = rw (add-one, take-suc-set values i f.value (omega (arith, v.long))) (rw add-one at on);
          small = rw (add-one, take-suc-set values i f.value (omega (arith, v.long))) (both_small (most form) (take i values) (f.value ∷ []) v.small (d.small f e, tt));
          long = rw (length-set) v.long;
        }

    pub stop : r ≡ None → {w : List ℕ} → ReadFields form s from n w None
    unfolding takes
    stop e = record { is = rw (left, d.none (take i values) (n - (i + 1)) e) at v.same; small = tt }

  pub all_got : n ≤ i → ReadFields form s from n values (Some at)
  unfolding takes
  all_got h =
      let e : n - i ≡ 0 = omega (arith, v.long) in
      let all : take i values ≡ values = take_all i values (omega (arith, v.long)) in
      record { is = rw (e, all) at v.same; small = rw all at v.small }
