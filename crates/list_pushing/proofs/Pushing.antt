-- The statements of specs/Pushing.antt: a step changes no contact but its own, and that one as the step on copies does. Assumes nothing.
use Prim.Native.Nat.{ℕ, ◌<◌}
use mathlib.Core.List.{List, [], ◌∷◌}
use mathlib.Core.Logic.{◌⊎◌, inl, inr}
use mathlib.Core.Path.{◌≡◌, refl, ap, ◌∙◌}
use lib.Ieee.{Float}
use Rattle.base_places.specs.Places.{body_width, floats_width}
use Rattle.base_rows.specs.Rows.{rows}
use Rattle.base_order.specs.OneByOne.{finish}
use Rattle.elem_leaves.specs.Signs.{AtLeast0, NotBelow0}
use Rattle.elem_leaves.proofs.Signs.{not_below}
use Rattle.elem_impulse.specs.Pushing.{Pushes}
use Rattle.elem_impulse.proofs.Pushing.{carried, pushed_on}
use Rattle.step_contact.specs.Places.{Place, number}
use Rattle.step_contact.specs.declared.Contact.{Contact}
use Rattle.step_kinds.specs.declared.ContactSolved.{ContactSolved}
use Rattle.step_promises.specs.Pushing.{AllPush}
use Rattle.step_promises.proofs.Promises.{same_head_kept}
use Rattle.step_promises.proofs.Pushing.{done_loads, done_pushes}
use Rattle.list_tables.specs.Tables.{contact_at}
use Rattle.list_tables.specs.declared.Step.{Step}
use Rattle.list_rules.specs.Sweep.{Tables, its_contact, outcome, step_on, vels_at}
use Rattle.list_rules.proofs.Answered.{done_of}
use Rattle.list_rules.proofs.Done.{done_there, its_contact_lem}
use Rattle.list_rules.proofs.Rows.{after_floats, floats_as_many}
use Rattle.list_readback.specs.ReadBack.{Own}
use Rattle.list_readback.proofs.ReadBack.{contact_read_back, each_contact}
use Rattle.list_pushing.specs.Pushing.{AllLoads, ListsPush, StaySo, load_at}
use Rattle.step_rules.specs.Step.{Done}

-- what may become of a contact
pub record Changed (old new : Contact) : Type 0 where
  pub head : new.head ≡ old.head
  pub loads : AllPush old new

-- one step: it changes no contact but its own
module _ (s : Step) (t : Tables) where
  abbrev after : Tables
  after = (step_on s t).after

  abbrev old : ℕ → Contact
  old k = contact_at t.numbers t.floats k

  abbrev new : ℕ → Contact
  new k = contact_at after.numbers after.floats k

  as_many : rows floats_width after.floats ≡ rows floats_width t.floats
  as_many = ap (λ l. rows floats_width l) (after_floats s t) ∙ floats_as_many s (outcome s t) t.floats

  pub step_changed : (k : ℕ) → Changed (old k) (new k)
  step_changed k = by_case (each_contact s t k)
    where
      by_case : (new k ≡ old k) ⊎ Own s t k (new k) → Changed (old k) (new k)
      by_case (inl same) = rw same (record { head = refl; loads = λ x. inl refl })
      by_case (inr mine) =
          let c = its_contact s t in
          let v = vels_at t.bodies c.head in
          let many = rows body_width t.bodies in
          let copies = (done_there s t mine.gave mine.done).1 in
          rw (mine.is, mine.own, ← its_contact_lem s t)
          (record { head = same_head_kept c s.kind v many mine.gave copies; loads = done_pushes c s.kind v many mine.gave copies })

  -- where it is done, the loads in use are 0 or above
  own_loads : (d : ContactSolved) → outcome s t ≡ Done d → (x : Place) → number x < (its_contact s t).head.count → AtLeast0 (load_at s.contact x after)
  own_loads d done x below =
      let c = its_contact s t in
      rw (← its_contact_lem s after, contact_read_back s t d done)
      (done_loads c s.kind (vels_at t.bodies c.head) (rows body_width t.bodies) d (done_there s t d done).1 x below)

-- a list
each_load : (steps : List Step) (t : Tables) (k : ℕ) (x : Place) → Pushes (load_at k x t) (load_at k x (finish step_on steps t))
unfolding finish
each_load [] t k x = inl refl
each_load (s ∷ ss) t k x = pushed_on ((step_changed s t k).loads x) (each_load ss (step_on s t).after k x)

-- what every number of 0 or above has
module _ (P : Float → Type 0) (wide : (x : Float) → AtLeast0 x → P x) where
  pub step_stays : (s : Step) (t : Tables) → AllLoads P t → AllLoads P (step_on s t).after
  step_stays s t old k there x = carried P wide ((step_changed s t k).loads x) (old k (rw (← as_many s t) there) x)

  stay_so : StaySo P
  unfolding finish
  stay_so [] t old = old
  stay_so (s ∷ ss) t old = stay_so ss (step_on s t).after (step_stays s t old)

-- a step that was answered 0 was done, and its loads in use are 0 or above
pub loads_after : (s : Step) (t : Tables) → (step_on s t).answer.number ≡ 0 → (x : Place) → number x < (its_contact s t).head.count
    → AtLeast0 (load_at s.contact x (step_on s t).after)
loads_after s t zero x below = let was = done_of s t zero in own_loads s t was.0 was.1 x below

after_done : (s : Step) (steps : List Step) (t : Tables) → (step_on s t).answer.number ≡ 0 → (x : Place) → number x < (its_contact s t).head.count
    → AtLeast0 (load_at s.contact x (finish step_on steps (step_on s t).after))
after_done s steps t zero x below =
    carried AtLeast0 (λ n h. h) (each_load steps (step_on s t).after s.contact x) (loads_after s t zero x below)

pub lists_push : ListsPush
lists_push = record {
  not_below = stay_so NotBelow0 not_below;
  at_least = stay_so AtLeast0 (λ x h. h);
  each_load = each_load;
  after_done = after_done;
}
