-- What `Reordered` comes to: chains of swaps of two neighbours that share nothing. Each statement is proved in proofs/Swaps.antt, for
-- every kind of step S and every `Shares`. Assumes nothing.
use Rattle.std.specs.Prelude.{List, ◌∷◌, ◌++◌}
use Rattle.base_order.specs.Reordered.{Reordered}

module _ {S : Type 0} (Shares : S → S → Type 0) where
  -- a list, and what swaps of neighbours that share nothing make of it, one after the other
  pub data Swaps : List S → List S → Type 0 where
    none : {xs : List S} → Swaps xs xs
    swap : {ys : List S} (ps : List S) (s t : S) (qs : List S) → ¬ Shares s t → Swaps (ps ++ t ∷ s ∷ qs) ys → Swaps (ps ++ s ∷ t ∷ qs) ys

  module _ (d : S) where
    -- a swap of two neighbours that share nothing is a reordering
    abbrev pub SwapReorders : Type 0
    SwapReorders = (ps : List S) (s t : S) (qs : List S) → ¬ Shares s t → Reordered Shares d (ps ++ s ∷ t ∷ qs) (ps ++ t ∷ s ∷ qs)

    -- a reordering of a reordering is one
    abbrev pub Composes : Type 0
    Composes = (xs ys zs : List S) → Reordered Shares d xs ys → Reordered Shares d ys zs → Reordered Shares d xs zs

    -- so every chain of such swaps is covered ..
    abbrev pub ChainsCovered : Type 0
    ChainsCovered = (xs ys : List S) → Swaps xs ys → Reordered Shares d xs ys

    -- .. and nothing else is: every reordering is such a chain
    abbrev pub NothingElse : Type 0
    NothingElse = (xs ys : List S) → Reordered Shares d xs ys → Swaps xs ys
