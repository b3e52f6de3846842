-- A line taken apart, test by test, in the order of the reasons. Assumes nothing.
use Prim.Native.Nat.{ℕ}
use denote.Enum.Bare.{sameb}
use mathlib.Core.Bool.{Bool, true, false}
use mathlib.Core.List.{List}
use mathlib.Core.Path.{◌≡◌, refl, sym, ◌∙◌}
use Rattle.std.specs.Prelude.{Err, None, Ok, Option, Result, Some, ok_or}
use Rattle.text_fields.specs.Got.{ReadRow, row_says}
use Rattle.text_fields.specs.Letters.{line_letter}
use Rattle.text_fields.specs.contracts.Letter.{the_type}
use Rattle.text_fields.specs.declared.Letter.{Letter}
use Rattle.text_fields.specs.declared.Letter.TheVariants.{Body, Contact, Normal, Tangent, Step, Other}
use Rattle.text_fields.specs.declared.Row.{Row}
use Rattle.text_line.specs.Lines.{filled, is, next_place, ordered, read_letter, read_line}
use Rattle.text_line.specs.Filled.{Cells, Full, Put, ReadLine, came_of, night_of}
use Rattle.text_line.specs.declared.BadLine.{BadLine}
use Rattle.text_line.specs.declared.BadLine.TheVariants.{NoLetter, OutOfOrder, BadField, NoRoom}
use Rattle.text_line.specs.declared.Place.{Place}
use Rattle.text_line.specs.declared.State.{State}

-- the code's test of a letter
is_other : (l : Letter) → sameb the_type l Other ≡ is l Other
is_other Body = refl
is_other Contact = refl
is_other Normal = refl
is_other Tangent = refl
is_other Step = refl
is_other Other = refl

-- what is there, or an error in its stead
module _ {A : Type 0} where
  there : (x : Option A) (e : BadLine) (a : A) → ok_or x e ≡ Ok a → x ≡ Some a
  there None e a q = cc
  there (Some b) e a q = cc

  not_there : (x : Option A) (e e' : BadLine) → ok_or x e ≡ Err e' → (x ≡ None) × (e' ≡ e)
  not_there None e e' q = (refl, cc)
  not_there (Some b) e e' q = cc

module _ (st : State) (line : List ℕ) (w : Cells) (l : Letter) (letter : l ≡ line_letter line) {u : Bool} (e : u ≡ sameb the_type l Other) where
  -- 2
  pub no_letter : u ≡ true → ReadLine st line w (Err NoLetter) w
  unfolding read_line read_letter came_of
  no_letter h = record { is = rw (← letter, ← (is_other l), ← e, h) refl; left = refl }

  -- 3
  module _ (known : u ≡ false) {next : Option Place} (leads : next ≡ next_place l st.place) {o : Result Place BadLine} (q : o ≡ ok_or next OutOfOrder) where
    pub no_order : (x : BadLine) → o ≡ Err x → {r : Result State BadLine} → r ≡ Err x → ReadLine st line w r w
    unfolding read_line read_letter ordered came_of night_of
    no_order x p a =
        let n = not_there next OutOfOrder x (sym q ∙ p) in
        rw (a, n.1) (record { is = rw (← letter, ← (is_other l), ← e, known, ← leads, n.0) refl; left = refl })

    -- 4
    module _ {place : Place} (p : o ≡ Ok place) {row : Option Row} (told : ReadRow l line row) {o' : Result Row BadLine} (q' : o' ≡ ok_or row BadField) where
      leads_on : next ≡ Some place
      leads_on = there next OutOfOrder place (sym q ∙ p)

      pub no_form : (x : BadLine) → o' ≡ Err x → {r : Result State BadLine} → r ≡ Err x → ReadLine st line w r w
      unfolding read_line read_letter ordered came_of night_of filled row_says
      no_form x p' a =
          let n = not_there row BadField x (sym q' ∙ p') in
          rw (a, n.1) (record { is = rw (← letter, ← (is_other l), ← e, known, ← leads, leads_on, ← told.is, n.0) refl; left = refl })

      -- 5
      module _ {said : Row} (p' : o' ≡ Ok said) {x : Bool} (filling : Full l st w x) where
        formed : row ≡ Some said
        formed = there row BadField said (sym q' ∙ p')

        pub no_room : x ≡ true → ReadLine st line w (Err NoRoom) w
        unfolding read_line read_letter ordered came_of night_of filled row_says
        no_room h = record {
          is = rw (← letter, ← (is_other l), ← e, known, ← leads, leads_on, ← told.is, formed, ← filling.is, h) refl;
          left = refl;
        }

        pub stored : x ≡ false → (st' : State) (w' : Cells)
            → Put l place st said.numbers said.bits w st' w' → ReadLine st line w (Ok st') w'
        unfolding read_line read_letter ordered came_of night_of filled row_says
        stored h st' w' v = record {
          is = rw (← letter, ← (is_other l), ← e, known, ← leads, leads_on, ← told.is, formed, ← filling.is, h, v.is) refl;
          left = v.grown;
        }
