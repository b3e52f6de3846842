-- What a list leaves in the room: each step's answer in its own row, every later row as it was. Assumes nothing.
use Prim.Native.Nat.{ℕ, zero, suc, ◌≤◌, ◌<◌}
use native.Mathlib.Omega.{arith}
use native.Mathlib.Nat.{add-zero, eq-or-lt_of_le, le_of_suc-le-suc, not-suc-le-zero}
use mathlib.Core.List.{List, [], ◌∷◌, ◌++◌}
use mathlib.Core.Logic.{⊎_elim}
use mathlib.Core.Path.{◌≡◌, refl, sym, ◌∙◌, ap}
use lib.ListN.{get_or-append, get_or, length}
use lib.Seq.{get_or-append-add}
use Rattle.base_places.specs.Places.{answer_width, step_width}
use Rattle.base_rows.specs.Rows.{row, rows}
use Rattle.list_tables.specs.Tables.{step_at}
use Rattle.list_cells.specs.Cells.{answer_of, answer_row, put_answer}
use Rattle.list_cells.specs.declared.Answer.{Answer}
use Rattle.list_cells.proofs.Answers.{answer_elsewhere, answer_there, read_answer, room_as_long}
use Rattle.base_order.specs.OneByOne.{answers, count, finish}
use Rattle.base_order.proofs.Snoc.{answers_none, answers_snoc, length_answers}
use Rattle.list_tables.specs.declared.Step.{Step}
use Rattle.list_rules.specs.Sweep.{Swept, Tables, first_steps, is_refused, laid, step_on, sweep}
use Rattle.list_rules.proofs.Going.{first_more, length-first, sweep_suc}

module _ (steps : List ℕ) (t : Tables) (room : List ℕ) where
  -- after n steps: the tables, the room, and the answer of the next step
  abbrev tables_after : ℕ → Tables
  tables_after n = (sweep steps n t room).tables

  abbrev room_after : ℕ → List ℕ
  room_after n = (sweep steps n t room).room

  abbrev next_answer : ℕ → Answer
  next_answer n = (step_on (step_at steps n) (tables_after n)).answer

  -- the tables are those that the steps leave, one after the other
  pub tables_are : (n : ℕ) → tables_after n ≡ finish step_on (first_steps steps n) t
  unfolding sweep
  tables_are n = refl

  room_none : room_after 0 ≡ room
  unfolding sweep first_steps laid
  room_none = rw (answers_none step_on t)

  room_suc : (n : ℕ) → n < rows step_width steps → room_after (suc n) ≡ put_answer (room_after n) n (next_answer n)
  room_suc n within = ap (λ (w : Swept). w.room) (sweep_suc steps t room n within)

  pub tables_suc : (n : ℕ) → n < rows step_width steps → tables_after (suc n) ≡ (step_on (step_at steps n) (tables_after n)).after
  tables_suc n within = ap (λ (w : Swept). w.tables) (sweep_suc steps t room n within)

  as_many_rows : (n : ℕ) → n ≤ rows step_width steps → length (room_after n) ≡ length room
  as_many_rows zero within = ap length room_none
  as_many_rows (suc n) within =
      ap length (room_suc n within) ∙ room_as_long (room_after n) n (next_answer n) ∙ as_many_rows n (omega arith)

  -- row i has the answer of step i, once that is done
  pub answer_row_lem : (n i : ℕ) → i < n → n ≤ rows step_width steps → n ≤ rows answer_width room → row answer_width i (room_after n) ≡ answer_row (next_answer i)
  answer_row_lem zero i h within fits = absurd (not-suc-le-zero h)
  answer_row_lem (suc n) i h within fits =
      ap (row answer_width i) (room_suc n within)
      ∙ ⊎_elim
      (λ e. rw e (answer_there (room_after n) n (next_answer n) (rw (as_many_rows n (omega arith)) (fits))))
      (λ lt. answer_elsewhere (room_after n) n (next_answer n) i (λ e. omega arith) ∙ answer_row_lem n i lt (omega arith) (omega arith))
      (eq-or-lt_of_le (le_of_suc-le-suc h))

  pub answer_read : (n i : ℕ) → i < n → n ≤ rows step_width steps → n ≤ rows answer_width room → answer_of (row answer_width i (room_after n)) ≡ next_answer i
  answer_read n i h within fits = ap answer_of (answer_row_lem n i h within fits) ∙ read_answer (next_answer i)

  -- room past the steps done isn't touched
  pub room_past : (n i : ℕ) → n ≤ i → n ≤ rows step_width steps → row answer_width i (room_after n) ≡ row answer_width i room
  room_past zero i h within = ap (row answer_width i) room_none
  room_past (suc n) i h within =
      ap (row answer_width i) (room_suc n within)
      ∙ answer_elsewhere (room_after n) n (next_answer n) i (λ e. omega arith)
      ∙ room_past n i (omega arith) (omega arith)

  -- step i's answer is the i-th of the answers, and that is what row i says
  given_at : (d : Answer) (n i : ℕ) → i < n → n ≤ rows step_width steps → get_or (answers step_on (first_steps steps n) t) i d ≡ next_answer i
  given_at d zero i h within = absurd (not-suc-le-zero h)
  given_at d (suc n) i h within =
      ap (λ (l : List Answer). get_or l i d) (ap (λ (ss : List Step). answers step_on ss t) (first_more steps n within) ∙ answers_snoc step_on (first_steps steps n) (step_at steps n) t)
      ∙ ⊎_elim at_end (λ lt. at_front lt ∙ given_at d n i lt (omega arith)) (eq-or-lt_of_le (le_of_suc-le-suc h))
    where
      before : List Answer
      before = answers step_on (first_steps steps n) t

      many : length before ≡ n
      many = length_answers step_on (first_steps steps n) t ∙ length-first steps n (omega arith)

      last : Answer
      last = (step_on (step_at steps n) (finish step_on (first_steps steps n) t)).answer

      at_end : i ≡ n → get_or (before ++ (last ∷ [])) i d ≡ next_answer i
      at_end e =
          ap (λ (j : ℕ). get_or (before ++ (last ∷ [])) j d) (e ∙ sym many ∙ sym (add-zero (length before)))
          ∙ get_or-append-add before (last ∷ []) 0 d
          ∙ sym (ap (λ (w : Tables). (step_on (step_at steps n) w).answer) (tables_are n))
          ∙ ap next_answer (sym e)

      at_front : i < n → get_or (before ++ (last ∷ [])) i d ≡ get_or before i d
      at_front lt = get_or-append before (last ∷ []) d i (rw many lt)

  pub answer_told : (d : Answer) (n i : ℕ) → i < n → n ≤ rows step_width steps → n ≤ rows answer_width room → answer_of (row answer_width i (room_after n)) ≡ get_or (answers step_on (first_steps steps n) t) i d
  answer_told d n i h within fits = answer_read n i h within fits ∙ sym (given_at d n i h within)

  -- as many are refused as have such an answer
  pub refused_are : (n : ℕ) → (sweep steps n t room).refused ≡ count is_refused (answers step_on (first_steps steps n) t)
  unfolding sweep
  refused_are n = refl
