-- A day's line, field by field. Assumes nothing.
use Prim.Native.Nat.{ℕ, zero, suc, ◌≤◌}
use mathlib.Core.Logic.{◌≢◌}
use mathlib.Core.Path.{◌≡◌, sym, ◌∙◌}
use Rattle.std.proofs.Common.{Option, None, Some, suc-ne-zero, unwrap_or}
use mathlib.Core.List.{List, [], ◌∷◌, ◌++◌, append-nil}
use lib.ListN.{length, take}
use Rattle.text_digits.specs.Digits.{dec_bytes, dec_field}
use Rattle.text_digits.specs.declared.Page.{Page}
use Rattle.text_digits.specs.Wrote.{Writes}
use Rattle.text_digits.proofs.Then.{onward}
use Rattle.text_write.specs.Lines.{joined}
use Rattle.text_write.proofs.Fields.{all_of_them}
use Rattle.replay_days.specs.Judged.{day_line}
use Rattle.replay_days.specs.Going.{counted_verdict}

-- the day's number, its fields, and byte 10
pub day_written : {p q r s : Page} (day : ℕ) (fields : List ℕ) (i : ℕ) → Writes p (dec_bytes day) q → length fields ≤ i
    → Writes q (joined dec_field (take i fields)) r → Writes r (10 ∷ []) s → Writes p (day_line day (joined dec_field fields)) s
unfolding day_line
day_written day fields i v h w x = onward (onward v (all_of_them dec_field fields i h w)) x

-- one field, and two
pub one_field : {p q : Page} (day n : ℕ) → Writes p (day_line day (joined dec_field (n ∷ []))) q → Writes p (day_line day (dec_field n)) q
unfolding joined
one_field day n v = rw append-nil at v

pub two_fields : {p q : Page} (day m n : ℕ) → Writes p (day_line day (joined dec_field (m ∷ n ∷ []))) q
    → Writes p (day_line day (dec_field m ++ dec_field n)) q
unfolding joined
two_fields day m n v = rw append-nil at v

-- no line differs; one does
pub none_told : {p q : Page} (day : ℕ) (d : Option ℕ) {n : ℕ} → n ≡ unwrap_or d 0 → n ≡ 0 → Writes p (day_line day (dec_field 0)) q → Writes p (counted_verdict day d) q
unfolding counted_verdict
none_told day None e z v = v
none_told day (Some zero) e z v = v
none_told day (Some (suc m)) e z v = absurd (suc-ne-zero _ (sym e ∙ z))

pub line_told : {p q : Page} (day : ℕ) (d : Option ℕ) {n : ℕ} → n ≡ unwrap_or d 0 → n ≢ 0 → Writes p (day_line day (joined dec_field (1 ∷ n ∷ []))) q
    → Writes p (counted_verdict day d) q
unfolding counted_verdict
line_told day None e ne v = absurd (ne e)
line_told day (Some zero) e ne v = absurd (ne e)
line_told day (Some (suc m)) e ne v = two_fields day 1 (suc m) (rw e at v)
