-- How many lines of each letter a night was read from, by its tables and its place; and one line more. Assumes nothing.
use Prim.Native.Nat.{ℕ, ◌+◌, ◌*◌, ◌≤◌}
use native.Mathlib.Omega.{arith}
use mathlib.Core.Bool.{Bool, true, false, cond, ◌&&◌}
use mathlib.Core.List.{List, ◌++◌}
use mathlib.Core.Path.{◌≡◌, refl, ◌∙◌}
use borrow.Author.Tests.{eqb-true, ltb-false}
use lib.Dec.{eqb}
use lib.ListN.{length, length-append, take}
use lib.Seq.{length-take-le}
use Rattle.std.specs.Prelude.{Option, Some, None}
use Rattle.base_places.specs.Places.{body_width, head_width, normal_width, numbers_width, step_width, tangent_width}
use Rattle.base_places.specs.Lengths.{program_bodies, program_contacts, program_steps}
use Rattle.base_words.proofs.Pick.{never}
use Rattle.base_words.proofs.Said.{all_l, all_r}
use Rattle.text_fields.specs.Fields.{Says, Values}
use Rattle.text_fields.specs.Letters.{adds, line_letter, says}
use Rattle.text_fields.specs.declared.Letter.{Letter}
use Rattle.text_fields.specs.declared.Letter.TheVariants.{Body, Contact, Normal, Tangent, Step, Other}
use Rattle.text_line.specs.Night.{Night, blank, of_program}
use Rattle.text_line.specs.Lines.{LineCame, bad, filled, full, good, in_contact, is, lacks, next_place, ordered, put, read_letter, read_line}
use Rattle.text_line.specs.declared.Place.{Place}
use Rattle.text_line.specs.declared.Place.TheVariants.{Bodies, NormalA, TangentA, NormalB, TangentB, Contacts, Steps}
use Rattle.text_line.proofs.Room.{roomy}
use Rattle.text_held.specs.Held.{most_lines}
use Rattle.text_held.proofs.LineCounts.{GoodLine, good_line}

-- so many lines B, C, N, T and S
pub record Lines : Type 0 where
  pub b : ℕ
  pub c : ℕ
  pub n : ℕ
  pub t : ℕ
  pub s : ℕ

abbrev one : Letter → Lines
one Body = record { b = 1; c = 0; n = 0; t = 0; s = 0 }
one Contact = record { b = 0; c = 1; n = 0; t = 0; s = 0 }
one Normal = record { b = 0; c = 0; n = 1; t = 0; s = 0 }
one Tangent = record { b = 0; c = 0; n = 0; t = 1; s = 0 }
one Step = record { b = 0; c = 0; n = 0; t = 0; s = 1 }
one Other = record { b = 0; c = 0; n = 0; t = 0; s = 0 }

abbrev plus : Lines → Lines → Lines
plus x y = record { b = x.b + y.b; c = x.c + y.c; n = x.n + y.n; t = x.t + y.t; s = x.s + y.s }

-- the floats of contacts in such lines
abbrev floats_in : Lines → ℕ
floats_in x = x.c * head_width + x.n * normal_width + x.t * tangent_width

abbrev lines_in : Lines → ℕ
lines_in x = x.b + x.c + x.n + x.t + x.s

-- the N lines and the T lines that a contact still lacks at a place
abbrev pub normals_left : Place → ℕ
normals_left Bodies = 0
normals_left NormalA = 2
normals_left TangentA = 1
normals_left NormalB = 1
normals_left TangentB = 0
normals_left Contacts = 0
normals_left Steps = 0

abbrev pub tangents_left : Place → ℕ
tangents_left Bodies = 0
tangents_left NormalA = 2
tangents_left TangentA = 2
tangents_left NormalB = 1
tangents_left TangentB = 1
tangents_left Contacts = 0
tangents_left Steps = 0

-- t was read from the lines before line n
pub record Spent (t : Night) (n : ℕ) : Type 0 where
  pub read : Lines
  pub bodies : length t.bodies ≡ read.b * body_width
  pub numbers : length t.numbers ≡ read.c * numbers_width
  pub floats : length t.floats ≡ floats_in read
  pub steps : length t.steps ≡ read.s * step_width
  pub few : (read.b ≤ program_bodies) × (read.c ≤ program_contacts) × (read.s ≤ program_steps)
  pub normals : read.n + normals_left t.place ≡ 2 * read.c
  pub tangents : read.t + tangents_left t.place ≡ 2 * read.c
  pub all : n ≡ lines_in read + 1

pub nothing_spent : Spent blank 1
unfolding blank
nothing_spent = record {
  read = record { b = 0; c = 0; n = 0; t = 0; s = 0 };
  bodies = omega arith;
  numbers = omega arith;
  floats = omega arith;
  steps = omega arith;
  few = (omega arith, omega arith, omega arith);
  normals = omega arith;
  tangents = omega arith;
  all = omega arith;
}

-- the tables hold no more lines
pub spent_most : (t : Night) (n : ℕ) → Spent t n → n ≤ most_lines + 1
spent_most t n p = omega (arith, p.all, p.few, p.normals, p.tangents)

-- what a line of a letter adds
record Row (l : Letter) : Type 0 where
  bodies : (adds l).bodies ≡ (one l).b * body_width
  numbers : (adds l).numbers ≡ (one l).c * numbers_width
  floats : (adds l).floats ≡ floats_in (one l)
  steps : (adds l).steps ≡ (one l).s * step_width
  line : is l Other ≡ false → lines_in (one l) ≡ 1

row : (l : Letter) → Row l
row Body = record { bodies = refl; numbers = refl; floats = refl; steps = refl; line = λ known. refl }
row Contact = record { bodies = refl; numbers = refl; floats = refl; steps = refl; line = λ known. refl }
row Normal = record { bodies = refl; numbers = refl; floats = refl; steps = refl; line = λ known. refl }
row Tangent = record { bodies = refl; numbers = refl; floats = refl; steps = refl; line = λ known. refl }
row Step = record { bodies = refl; numbers = refl; floats = refl; steps = refl; line = λ known. refl }
row Other = record { bodies = refl; numbers = refl; floats = refl; steps = refl; line = λ known. never known }

-- a letter in order leaves a contact with the lines that it lacked, but itself; a C opens one
abbrev leaves : Letter → Place → Option Place → Bool
leaves l p None = true
leaves l p (Some q) =
    eqb ((one l).n + normals_left q) (normals_left p + 2 * (one l).c) && eqb ((one l).t + tangents_left q) (tangents_left p + 2 * (one l).c)

each : (f : Place → Bool) → f Bodies ≡ true → f NormalA ≡ true → f TangentA ≡ true → f NormalB ≡ true → f TangentB ≡ true
    → f Contacts ≡ true → f Steps ≡ true → (p : Place) → f p ≡ true
each f a b c d e g h Bodies = a
each f a b c d e g h NormalA = b
each f a b c d e g h TangentA = c
each f a b c d e g h NormalB = d
each f a b c d e g h TangentB = e
each f a b c d e g h Contacts = g
each f a b c d e g h Steps = h

all_leave : (l : Letter) (p : Place) → leaves l p (next_place l p) ≡ true
all_leave Body = each (λ p. leaves Body p (next_place Body p)) refl refl refl refl refl refl refl
all_leave Contact = each (λ p. leaves Contact p (next_place Contact p)) refl refl refl refl refl refl refl
all_leave Normal = each (λ p. leaves Normal p (next_place Normal p)) refl refl refl refl refl refl refl
all_leave Tangent = each (λ p. leaves Tangent p (next_place Tangent p)) refl refl refl refl refl refl refl
all_leave Step = each (λ p. leaves Step p (next_place Step p)) refl refl refl refl refl refl refl
all_leave Other = each (λ p. leaves Other p (next_place Other p)) refl refl refl refl refl refl refl

left : (l : Letter) (p q : Place) → next_place l p ≡ Some q
    → ((one l).n + normals_left q ≡ normals_left p + 2 * (one l).c) × ((one l).t + tangents_left q ≡ tangents_left p + 2 * (one l).c)
left l p q e =
    let n = eqb ((one l).n + normals_left q) (normals_left p + 2 * (one l).c) in
    let t = eqb ((one l).t + tangents_left q) (tangents_left p + 2 * (one l).c) in
    let both : (n && t) ≡ true = rw e at (all_leave l p) in
    (eqb-true _ _ (all_l n t both), eqb-true _ _ (all_r n t both))

-- where no contact is cut short, no line is lacking
pub none_left : (p : Place) → in_contact p ≡ false → (normals_left p ≡ 0) × (tangents_left p ≡ 0)
none_left Bodies e = (refl, refl)
none_left NormalA e = never e
none_left TangentA e = never e
none_left NormalB e = never e
none_left TangentB e = never e
none_left Contacts e = (refl, refl)
none_left Steps e = (refl, refl)

-- a table with the first k of what was said at its end
longer : (l more : List ℕ) (k : ℕ) {n : ℕ} → k ≤ n → length more ≡ n → length (l ++ take k more) ≡ length l + k
longer l more k h e = length-append l (take k more) ∙ rw (length-take-le k more (rw e h))

-- a table that does not lack room
has : (room more : ℕ) (l : List ℕ) → lacks room more l ≡ false → length l + more ≤ room
unfolding lacks
has room more l e = ltb-false _ _ e

module _ (t : Night) (numbers bits : List ℕ) (n : ℕ) (before : Spent t n) where
  spent_on : (l : Letter) (q : Place) → is l Other ≡ false → next_place l t.place ≡ Some q → full of_program l t ≡ false
      → GoodLine l numbers bits → Spent (put l q numbers bits t) (n + 1)
  unfolding put of_program
  spent_on l q known order room g =
      let r = row l in
      let h = roomy of_program l t room in
      let f = left l t.place q order in
      record {
        read = plus before.read (one l);
        bodies = longer t.bodies bits (adds l).bodies (omega arith) g.measured ∙ omega (arith, before.bodies, r.bodies);
        numbers = longer t.numbers numbers (adds l).numbers (omega arith) g.counted ∙ omega (arith, before.numbers, r.numbers);
        floats = longer t.floats bits (adds l).floats (omega arith) g.measured ∙ omega (arith, before.floats, r.floats);
        steps = longer t.steps numbers (adds l).steps (omega arith) g.counted ∙ omega (arith, before.steps, r.steps);
        few = (
          omega (arith, before.bodies, r.bodies, has (program_bodies * body_width) (adds l).bodies t.bodies h.0),
          omega (arith, before.numbers, r.numbers, has (program_contacts * numbers_width) (adds l).numbers t.numbers h.1),
          omega (arith, before.steps, r.steps, has (program_steps * step_width) (adds l).steps t.steps h.3),
        );
        normals = omega (arith, before.normals, f.0);
        tangents = omega (arith, before.tangents, f.1);
        all = omega (arith, before.all, r.line known);
      }

-- where a test would make a line bad, and it is good, the test failed
passed : (test : Bool) (reason : ℕ) (x : LineCame) (t : Night) → cond test (bad reason) x ≡ good t → (test ≡ false) × (x ≡ good t)
passed true reason x t e = absurd (let z : ◌≡◌ {A = ℕ} 0 1 = cc in omega arith)
passed false reason x t e = (refl, e)

module _ (t : Night) (line : List ℕ) (n : ℕ) (before : Spent t n) (t' : Night) (l : Letter) (known : is l Other ≡ false) where
  spent_filled : (q : Place) → next_place l t.place ≡ Some q → (v : Option Values) → says l line ≡ v → filled of_program l q t v ≡ good t'
      → Spent t' (n + 1)
  unfolding filled
  spent_filled q order (Some (Says numbers bits)) said e =
      let room = passed (full of_program l t) 5 (good (put l q numbers bits t)) t' e in
      let same : put l q numbers bits t ≡ t' = cc room.1 in
      rw same at (spent_on t numbers bits n before l q known order room.0 (good_line line l numbers bits said))
  spent_filled q order None said e = absurd (let z : ◌≡◌ {A = ℕ} 0 1 = cc in omega arith)

  spent_ordered : (next : Option Place) → next_place l t.place ≡ next → ordered of_program l next t (says l line) ≡ good t'
      → Spent t' (n + 1)
  unfolding ordered
  spent_ordered (Some q) order e = spent_filled q order (says l line) refl e
  spent_ordered None order e = absurd (let z : ◌≡◌ {A = ℕ} 0 1 = cc in omega arith)

-- one line more
pub line_spent : (t : Night) (line : List ℕ) (n : ℕ) → Spent t n → (t' : Night) → read_line of_program t line ≡ good t' → Spent t' (n + 1)
unfolding read_line read_letter
line_spent t line n before t' e =
    let l = line_letter line in
    let known = passed (is l Other) 2 (ordered of_program l (next_place l t.place) t (says l line)) t' e in
    spent_ordered t line n before t' l known.0 (next_place l t.place) refl known.1
