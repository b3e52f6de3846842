-- Two steps of a device that reads and writes only places of its own commute where they share none; so its lists may be reordered.
-- Assumes nothing.
use mathlib.Core.Bool.{Bool, true, false}
use mathlib.Core.List.{List}
use mathlib.Core.Path.{◌≡◌, refl, sym, ap, ◌∙◌}
use Rattle.base_order.specs.Reordered.{Commute, Reordered, SameOutcome}
use Rattle.base_order.specs.Local.{Agree, Device, Local, SameDone, Shared}
use Rattle.base_order.proofs.Reorder.{reorder}

module _ (D : Device) (local : Local D) where
  -- s done on t
  abbrev after : D.Step → D.State → D.State
  after s t = (D.step s t).after

  shared_sym : (sh : D.Shape) (s u : D.Step) → Shared D sh s u → Shared D sh u s
  shared_sym sh s u x = record { place = x.place; first = x.second; second = x.first }

  -- a place of the one is no place of the other
  only_one : (sh : D.Shape) (s u : D.Step) → ¬ Shared D sh s u → (p : D.Place) → D.touches sh s p ≡ true → D.touches sh u p ≡ false
  only_one sh s u free p h = by_case (D.touches sh u p) refl
    where
      by_case : (b : Bool) → D.touches sh u p ≡ b → D.touches sh u p ≡ false
      by_case true e = absurd (free (record { place = p; first = h; second = e }))
      by_case false e = e

  -- so s finds its places as they were, after u
  agree : (s u : D.Step) (t : D.State) → ¬ Shared D (D.shape t) s u → Agree D s t (after u t)
  agree s u t free = record {
    same_shape = local.shape_kept u t;
    same_there = λ p h. local.writes_own u t p (only_one (D.shape t) s u free p h);
  }

  -- a place that u does not touch is as it was, after s and then u
  passes : (s u : D.Step) (t : D.State) (p : D.Place) → D.touches (D.shape t) u p ≡ false → D.look p (after u (after s t)) ≡ D.look p (after s t)
  passes s u t p h = local.writes_own u (after s t) p (ap (λ (sh : D.Shape). D.touches sh u p) (local.shape_kept s t) ∙ h)

  module _ (s u : D.Step) (t : D.State) (free : ¬ Shared D (D.shape t) s u) where
    other_way : ¬ Shared D (D.shape t) u s
    other_way x = free (shared_sym (D.shape t) u s x)

    s_done : SameDone D s t (after u t)
    s_done = local.reads_own s t (after u t) (agree s u t free)

    u_done : SameDone D u t (after s t)
    u_done = local.reads_own u t (after s t) (agree u s t other_way)

    same_look : (p : D.Place) → D.look p (after s (after u t)) ≡ D.look p (after u (after s t))
    same_look p = by_case (D.touches (D.shape t) s p) (D.touches (D.shape t) u p) refl refl
      where
        by_case : (b c : Bool) → D.touches (D.shape t) s p ≡ b → D.touches (D.shape t) u p ≡ c
            → D.look p (after s (after u t)) ≡ D.look p (after u (after s t))
        by_case true c hs hu = s_done.left p hs ∙ sym (passes s u t p (only_one (D.shape t) s u free p hs))
        by_case false true hs hu = passes u s t p hs ∙ sym (u_done.left p hu)
        by_case false false hs hu =
            passes u s t p hs ∙ local.writes_own u t p hu ∙ sym (passes s u t p hu ∙ local.writes_own s t p hs)

    pub commutes : Commute D.step s u t
    commutes = record {
      first = s_done.answer;
      second = u_done.answer;
      ends =
          local.all_there (after u (after s t)) (after s (after u t))
          (local.shape_kept s (after u t) ∙ local.shape_kept u t ∙ sym (local.shape_kept u (after s t) ∙ local.shape_kept s t))
          same_look;
    }

  -- demand 3, of any such device: what two steps share is read off the state that both lists start from
  pub any_order : (d : D.Step) (e : D.Answer) (xs ys : List D.Step) (t : D.State) (m : Reordered (Shared D (D.shape t)) d xs ys)
      → SameOutcome D.step m.there e xs ys t
  any_order d e xs ys t m =
      reorder D.step (Shared D (D.shape t)) (λ t'. D.shape t' ≡ D.shape t) d e
      (λ s t' h. local.shape_kept s t' ∙ h)
      (λ s u t' h free. commutes s u t' (λ x. free (record { place = x.place; first = at h s x x.first; second = at h u x x.second })))
      xs ys m t refl
    where
      at : {t' : D.State} → D.shape t' ≡ D.shape t → (s : D.Step) {u v : D.Step} (x : Shared D (D.shape t') u v)
          → D.touches (D.shape t') s x.place ≡ true → D.touches (D.shape t) s x.place ≡ true
      at h s x q = ap (λ (sh : D.Shape). D.touches sh s x.place) (sym h) ∙ q
