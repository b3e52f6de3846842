-- The search for a byte by blocks that lack it. Assumes nothing.
use Prim.Native.Nat.{ℕ, suc, ◌+◌, ◌≤◌, ◌<◌}
use native.Mathlib.Numerals.{add-one}
use native.Mathlib.Omega.{arith}
use borrow.Author.Tests.{eq-eqb, eqb-false, eqb-true, ne_eqb}
use mathlib.Core.Bool.{Bool, true, false, ◌&&◌, not}
use mathlib.Core.List.{List, [], ◌∷◌, ◌++◌}
use mathlib.Core.Path.{◌≡◌, refl, sym, ap, ◌∙◌}
use lib.Dec.{eqb}
use lib.ListN.{drop, drop_of_length-le, get_or, length, length-append, length-drop}
use lib.Seq.{drop-append_seam, drop-cons, drop-drop}
use Rattle.std.specs.declared.slice.ChunksExact.{ChunksExact}
use Rattle.text_fields.specs.Fields.{Free, until}
use Rattle.text_fields.proofs.Runs.{until_past}
use Rattle.text_fields.proofs.Until.{On, until_here, until_nil, until_on}

-- whether a run is free
abbrev is_free : ℕ → List ℕ → Bool
is_free e s = eqb (until e s) (length s)

free_nil : (e : ℕ) → is_free e [] ≡ true
free_nil e = eq-eqb _ _ (until_nil e)

free_by : (e b : ℕ) (s : List ℕ) (t : Bool) → eqb b e ≡ t → is_free e (b ∷ s) ≡ (not t && is_free e s)
free_by e b s true q = rw (until_here s (eqb-true _ _ q)) (ne_eqb _ _ (λ (z : 0 ≡ length (b ∷ s)). omega arith))
free_by e b s false q = by (is_free e s) refl
  where
    by : (t : Bool) → is_free e s ≡ t → is_free e (b ∷ s) ≡ is_free e s
    by true h = eq-eqb _ _ (until_on s (eqb-false b e q) ∙ ap suc (eqb-true (until e s) (length s) h)) ∙ sym h
    by false h =
        let on = until_on s (eqb-false b e q) in
        let other : until e (b ∷ s) ≡ length (b ∷ s) → ⊥ = λ z. eqb-false (until e s) (length s) h (omega arith) in
        ne_eqb _ _ other ∙ sym h

-- after i bytes, none of which is e if `free` says so
pub record Clear (e : ℕ) (s : List ℕ) (i : ℕ) (free : Bool) : Type 0 where
  pub same : (free && is_free e (drop i s)) ≡ is_free e s

regroup : (p q r : Bool) → (p && q && r) ≡ (p && (q && r))
regroup true q r = refl
regroup false q r = refl

all_true : (p : Bool) → (p && true) ≡ p
all_true true = refl
all_true false = refl

module _ {e : ℕ} {s : List ℕ} {i : ℕ} {free : Bool} (v : Clear e s i free) where
  pub clear_on : i < length s → Clear e s (i + 1) (free && not (eqb (get_or s i 0) e))
  clear_on h =
      let b = get_or s i 0 in
      let here : (free && is_free e (b ∷ drop (i + 1) s)) ≡ is_free e s =
      ap (λ l. free && is_free e l) (rw add-one (sym (drop-cons s i 0 h))) ∙ v.same in
      let apart = free_by e b (drop (i + 1) s) (eqb b e) refl in
      record { same = regroup free (not (eqb b e)) (is_free e (drop (i + 1) s)) ∙ ap (λ t. free && t) (sym apart) ∙ here }

  pub clear_all : length s ≤ i → free ≡ is_free e s
  clear_all h = sym (all_true free) ∙ rw (drop_of_length-le s h, free_nil e) at v.same

-- the search by blocks has come to i: no byte e was passed, and the blocks to come are those of what is left
pub record Come (s : List ℕ) (at e i : ℕ) (blocks : ChunksExact ℕ) : Type 0 where
  pub passed : On s at e i
  pub left : drop i s ≡ blocks.rest.now
  pub from : at ≤ i
  pub within : i ≤ length s
  pub wide : blocks.size ≡ 16

-- and goes on after a block that lacks e
pub over_block : {s : List ℕ} {at e i : ℕ} {blocks more : ChunksExact ℕ} (v : Come s at e i blocks) (block : List ℕ)
    → blocks.rest.now ≡ block ++ more.rest.now → length block ≡ blocks.size → more.size ≡ blocks.size
    → {free : Bool} → free ≡ is_free e block → free ≡ true → Come s at e (i + 16) more
over_block {s} {at} {e} {i} {blocks} {more} v block cut long same f t =
    let wide : length block ≡ 16 = long ∙ v.wide in
    let lacking : Free e block = eqb-true (until e block) (length block) (sym f ∙ t) in
    let parts : drop i s ≡ block ++ more.rest.now = v.left ∙ cut in
    let on : until e (drop i s) ≡ length block + until e more.rest.now = rw parts (until_past e block more.rest.now lacking) in
    let left : drop (i + 16) s ≡ more.rest.now = sym (drop-drop 16 i s) ∙ rw (parts, ← wide) (drop-append_seam block more.rest.now) in
    let room : length (drop i s) ≡ length block + length more.rest.now = rw parts (length-append block more.rest.now) in
    record {
      passed = record { same = rw left (omega (arith, on, wide, v.passed.same)) };
      left = left;
      from = omega (arith, v.from);
      within = omega (arith, room, wide, length-drop i s);
      wide = same ∙ v.wide;
    }
