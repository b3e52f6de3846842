-- What the functions that read fields hand to each other, and to those that read lines. For the functions of this crate and of those
-- above. Assumes nothing.
use Rattle.std.specs.Prelude.{ℕ, suc, ◌+◌, ◌≤◌, List, [], ◌∷◌, ◌++◌, ◌≡◌, take, Option, Some, None, IfSome, OnSome, option_map}
use Rattle.base_places.specs.Places.{normal_width}
use Rattle.text_fields.specs.Fields.{Says, These, Values, fields_from, takes}
use Rattle.text_fields.specs.Letters.{adds, asked, says}
use Rattle.text_fields.specs.declared.Counts.{Counts}
use Rattle.text_fields.specs.declared.Field.{Field}
use Rattle.text_fields.specs.declared.Form.{Form}
use Rattle.text_fields.specs.declared.Form.TheVariants.{Decimal, Hex}
use Rattle.text_fields.specs.declared.Letter.{Letter}
use Rattle.text_fields.specs.declared.Row.{Row}

-- no number in a form is larger
abbrev pub most : Form → ℕ
most Decimal = 65535
most Hex = 0xffff_ffff

-- no number of a list is larger
abbrev pub Small : ℕ → List ℕ → Type 0
Small m [] = Unit
Small m (n ∷ l) = (n ≤ m) × Small m l

-- what a letter adds, no more of either form than an N line has
pub record Adds (l : Letter) (r : Counts) : Type 0 where
  pub bodies : r.bodies ≡ (adds l).bodies
  pub numbers : r.numbers ≡ (adds l).numbers
  pub floats : r.floats ≡ (adds l).floats
  pub steps : r.steps ≡ (adds l).steps
  pub few : (r.numbers + r.steps ≤ normal_width) × (r.bodies + r.floats ≤ normal_width)

-- one field was read: one more is taken with its number, or none
pub record ReadField (form : Form) (s : List ℕ) (at : ℕ) (r : Option Field) : Type 0 where
  pub more : (got : List ℕ) (k : ℕ) (f : Field) → r ≡ Some f
      → takes form got (suc k) (fields_from s at) ≡ takes form (got ++ (f.value ∷ [])) k (fields_from s f.next)
  pub none : (got : List ℕ) (k : ℕ) → r ≡ None → takes form got (suc k) (fields_from s at) ≡ None
  pub small : (f : Field) → r ≡ Some f → f.value ≤ most form

-- n fields were read: their values, and the fields of s after them
pub record ReadFields (form : Form) (s : List ℕ) (from n : ℕ) (values : List ℕ) (r : Option ℕ) : Type 0 where
  pub is : option_map (λ next. These values (fields_from s next)) r ≡ takes form [] n (fields_from s from)
  pub small : OnSome r (Small (most form) values)

-- what a row's first numbers say
unfoldable pub row_says : Letter → Option Row → Option Values
row_says l (Some r) = Some (Says (take (asked Decimal l) r.numbers) (take (asked Hex l) r.bits))
row_says l None = None

-- a whole line was read
pub record ReadRow (l : Letter) (line : List ℕ) (r : Option Row) : Type 0 where
  pub is : row_says l r ≡ says l line
  pub small : IfSome r (λ row. Small (most Decimal) row.numbers)
