-- Bytes written to a buffer from a place on, as far as it has room. Assumes nothing.
use Rattle.std.specs.Prelude.{ℕ, ◌+◌, min, List, ◌≡◌, length}
use Rattle.std.proofs.lemmas.List.Edits.{sets}
use Rattle.text_digits.specs.declared.Page.{Page}

-- o became o': the bytes w stand in it from place `at` on, all else is as it was; `next` is the place after them, or the buffer's end
pub record Wrote (o : List ℕ) (at : ℕ) (w o' : List ℕ) (next : ℕ) : Type 0 where
  pub bytes : o' ≡ sets o at w
  pub place : next ≡ min (length o) (at + length w)

-- a page's buffer stays where it is, and as long
pub record SameBuffer (p p' : Page) : Type 0 where
  pub same : p'.out.ghost_name ≡ p.out.ghost_name
  pub long : length p'.out.now ≡ length p.out.now

-- bytes written on a page
pub record Writes (p : Page) (w : List ℕ) (p' : Page) : Type 0 where
  pub wrote : Wrote p.out.now p.at w p'.out.now p'.at
  pub buffer : SameBuffer p p'
