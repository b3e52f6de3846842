-- Rows that are both steps' own are what the user's words say, and nothing else. Assumes nothing.
use Prim.Native.Nat.{ℕ}
use mathlib.Core.Bool.{true}
use mathlib.Core.Path.{◌≡◌, sym, ◌∙◌, subst}
use borrow.Author.Tests.{eqb-false, ne_eqb}
use Rattle.list_tables.specs.declared.Step.{Step}
use Rattle.list_rules.specs.Sweep.{Tables}
use Rattle.base_order.specs.Local.{Shared}
use Rattle.list_sharing.specs.Own.{Place, SharedMeans, body, contact, feet, shape, touches}
use Rattle.list_sharing.specs.Sharing.{Shares, There, a_body, a_contact}
use Rattle.list_sharing.proofs.Own.{body_own, contact_own, own_body, own_contact}

module _ (t : Tables) (s u : Step) where
  -- what the words say is both steps' own
  from_words : Shares t s u → Shared feet (shape t) s u
  from_words (a_contact h e) = record {
    place = contact s.contact;
    first = own_contact t s h;
    second = subst (λ (k : ℕ). touches (shape t) u (contact k) ≡ true) (sym e) (own_contact t u (subst (There t) e h));
  }
  from_words (a_body b h real n m) = record {
    place = body b;
    first = own_body t s b n (ne_eqb b 65535 real) h;
    second = own_body t u b m (ne_eqb b 65535 real) h;
  }

  -- a place of both
  in_words : (p : Place) → touches (shape t) s p ≡ true → touches (shape t) u p ≡ true → Shares t s u
  in_words (contact k) e f =
      let of_s = contact_own t s k e in
      a_contact (subst (There t) of_s.0 of_s.1) (sym of_s.0 ∙ (contact_own t u k f).0)
  in_words (body b) e f =
      let of_s = body_own t s b e in
      a_body b of_s.2 (eqb-false b 65535 of_s.1) of_s.0 (body_own t u b f).0

pub shared_means : SharedMeans
shared_means t s u = (λ x. in_words t s u x.place x.first x.second, from_words t s u)
