-- What was read and what was written, where the bytes of both are known. Assumes nothing.
use Rattle.std.specs.Prelude.{ℕ, Bool, true, false, ◌&&◌, ◌+◌, ◌*◌, ◌≤◌, List, [], ◌++◌, ◌≡◌, None, Some, IfSome, Option, Result, Ok, Err, OnOk, IsOk, length, ltb, take}
use Rattle.std.proofs.Common.{ap, arith, append-nil, length-append, length-take, subst, sym, ◌∙◌}
use Rattle.std.proofs.KnownBytes.{Appends-nil, Appends-trans, Consumes-nil, Consumes-trans}
use Rattle.std.specs.Io.KnownBytes.{Appends, Consumes, IsAtEnd}
use Rattle.base_places.specs.Lengths.{largest, portion_bytes}
use Rattle.replay_days.specs.Judged.{judged}
use Rattle.replay_days.specs.Going.{feeds, finish, start, tells}
use Rattle.replay_days.proofs.Bytes.{byte_by_byte}
use Rattle.replay_days.proofs.Portions.{days_few, feeds_append, tells_append}
use Rattle.replay_judge.specs.Carried.{Buffers}
use Rattle.replay_judge.specs.Stands.{Begins, Finishes, Stands}
use Rattle.replay_judge.specs.declared.Judge.{Judge}
use Rattle.replay.specs.ReadOnce.{Onward, ReadOnce}

-- the bytes that 2^51 portions can have
abbrev pub most_bytes : ℕ
most_bytes = 9223372036854775808

-- what was read of the file so far is what j stands for, and what it tells was written; with so many turns left the days' numbers stay small
pub record Run (old now begun to : Option (List ℕ)) (j : Judge) (input : Buffers) (out : List ℕ) (turns : ℕ) : Type 0 where
  pub so_far : List ℕ
  pub stands : Stands j input out (feeds start so_far)
  pub took : Consumes old now so_far
  pub wrote : Appends begun to (tells start so_far)
  pub few : length so_far + portion_bytes * turns ≤ most_bytes

-- the number of a day, with some bytes more
days : (s : List ℕ) (n : ℕ) → length s + n ≤ most_bytes + 1 → (feeds start s).day + n ≤ largest
unfolding start
days s n h = omega (arith, days_few start s, h)

pub run_begins : (old to : Option (List ℕ)) (j : Judge) (input : Buffers) (out : List ℕ) → Begins j → Run old old to to j input out 2251799813685248
unfolding feeds tells
run_begins old to j input out b = record {
  so_far = [];
  stands = b input out;
  took = Consumes-nil old;
  wrote = Appends-nil to;
  few = omega arith;
}

pub run_on : {old now now' begun to to' : Option (List ℕ)} {j : Judge} {input : Buffers} {out told : List ℕ} {turns : ℕ} {r : Onward} {portion' : List ℕ}
    {input' : Buffers} {out' told' : List ℕ} (left : ℕ) → Run old now begun to j input out turns → ReadOnce j input out told r portion' input' out' told'
    → Consumes now now' (take r.read portion') → Appends to to' (take r.count told') → length portion' ≡ portion_bytes → left + 1 ≡ turns
    → Run old now' begun to' r.judge input' out' left
run_on {turns = turns} {r = r} {portion' = portion'} left f once took wrote long e =
    let short : length (take r.read portion') ≤ portion_bytes = omega (arith, length-take r.read portion', long) in
    let product : portion_bytes * turns ≡ portion_bytes + portion_bytes * left = omega (arith, e) in
    let few : length f.so_far + length (take r.read portion') ≤ most_bytes + 1 = omega (arith, f.few, short, product) in
    let at = days f.so_far (length (take r.read portion')) few in
    record {
      so_far = f.so_far ++ take r.read portion';
      stands = rw (feeds_append start f.so_far (take r.read portion')) (once.call.turns.goes _ f.stands at);
      took = Consumes-trans _ _ _ _ _ f.took took;
      wrote = rw (tells_append start f.so_far (take r.read portion'))
          (Appends-trans _ _ _ _ _ f.wrote (subst (Appends _ _) (once.call.whole _ f.stands at) wrote));
      few = omega (arith, f.few, short, product, length-append f.so_far (take r.read portion'));
    }

-- nothing is left to read, and what the end tells was written
pub run_ends : (old now begun to to' : Option (List ℕ)) {j : Judge} {input : Buffers} {out told told' : List ℕ} {turns at : ℕ}
    → Run old now begun to j input out turns → IsAtEnd now → Finishes j input out told told' at → Appends to to' (take at told')
    → IfSome old (λ file. Appends begun to' (judged file))
run_ends None now begun to to' f end done wrote = tt
run_ends (Some file) None begun to to' f end done wrote = absurd f.took
run_ends (Some file) (Some rest) begun to to' {told' = told'} {at = at} f end done wrote =
    let whole : file ≡ f.so_far = f.took ∙ ap (λ l. f.so_far ++ l) end ∙ append-nil f.so_far in
    let last : take at told' ≡ finish (feeds start f.so_far) = done.whole _ f.stands (days f.so_far 1 (omega (arith, f.few))) in
    let all : Appends begun to' (tells start f.so_far ++ finish (feeds start f.so_far)) =
    Appends-trans _ _ _ _ _ f.wrote (subst (Appends to to') last wrote) in
    subst (Appends begun to') (byte_by_byte f.so_far ∙ ap judged (sym whole)) all

-- what the last write says where it went well
pub well_written : {E A : Type 0} (r : Result Unit E) → OnOk r A → IsOk r → A
well_written (Ok x) a well = a
well_written (Err e) a well = absurd cc

-- a turn that went well, after which no more is read
pub nothing_left : (more well : Bool) (n : ℕ) → more ≡ false → well ≡ true → more ≡ well && ltb 0 n → n ≡ 0
nothing_left more well n m w e = grind arith
