-- A line goes on with a run of bytes, in each part of a day. Assumes nothing.
use Prim.Native.Nat.{ℕ}
use mathlib.Core.List.{List, ◌++◌}
use mathlib.Core.Path.{◌≡◌, ◌∙◌, subst}
use lib.ListN.{take}
use Rattle.text_fields.specs.Fields.{Free}
use Rattle.replay_days.specs.Going as going
use Rattle.replay_compare.specs.Spots.{compared_all, longer_by, shape_of}
use Rattle.replay_compare.specs.declared.LineSoFar.{LineSoFar}
use Rattle.replay_compare.specs.declared.Spot.{Spot}
use Rattle.replay_compare.proofs.Runs.{longer_shape, run_beside}
use Rattle.replay_judge.specs.Carried.{Buffers}
use Rattle.replay_judge.specs.Stands.{FeedsInput, GoesOn, StandsPart}
use Rattle.replay_judge.specs.declared.Feeding.{Feeding}
use Rattle.replay_judge.specs.declared.Judge.{Judge}
use Rattle.replay_judge.specs.declared.Part.{Part}
use Rattle.replay_judge.specs.declared.Part.TheVariants.{Comparing, Differing, Input}
use Rattle.replay_judge.proofs.LineEnd.{in_comparing, in_differing, in_input}

-- the part goes on, whatever the part of the day
module _ (j : Judge) (run : List ℕ) (input : Buffers) (out : List ℕ) {line : LineSoFar} (is : line ≡ longer_by j.line run) where
  part_on : {input' : Buffers} (part part' : Part) → j.part ≡ part
      → ((q : going.Part) (l : List ℕ) → j.line ≡ shape_of l → StandsPart part input out q l → StandsPart part' input' out q (l ++ run))
      → GoesOn j run input out (record { day = j.day; line = line; part = part' }) input'
  part_on {input'} part part' e on g s = record {
    day = s.day;
    line = is ∙ rw s.line (longer_shape g.line run);
    part = on g.part g.line s.line (subst (λ (x : Part). StandsPart x input out g.part g.line) e s.part);
  }

  pub input_on : {f f' : Feeding} {input' : Buffers} → j.part ≡ Input f → FeedsInput j.line line f run input f' input'
      → GoesOn j run input out (record { day = j.day; line = line; part = Input f' }) input'
  unfolding StandsPart
  input_on {f} {f'} {input'} e v =
      part_on (Input f) (Input f') e
      (λ q l was.
      in_input (λ q. StandsPart (Input f') input' out q (l ++ run)) input out l f
      (λ x h. v x l was (is ∙ rw was (longer_shape l run)) h) q)

  pub comparing_on : {p q : Spot} → Free 10 run → j.part ≡ Comparing p → q ≡ compared_all p (take p.len out) run
      → GoesOn j run input out (record { day = j.day; line = line; part = Comparing q }) input
  unfolding StandsPart
  comparing_on {p} {q} free e c =
      part_on (Comparing p) (Comparing q) e
      (λ r l was.
      in_comparing (λ r. StandsPart (Comparing q) input out r (l ++ run)) input out l p
      (λ left k m. rw c (run_beside run p out l left k m free)) r)

  pub differing_on : j.part ≡ Differing → GoesOn j run input out (record { day = j.day; line = line; part = Differing }) input
  unfolding StandsPart
  differing_on e =
      part_on Differing Differing e (λ r l was. in_differing (λ r. StandsPart Differing input out r (l ++ run)) input out l tt r)
