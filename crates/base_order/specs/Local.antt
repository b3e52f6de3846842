-- A device whose steps read and write only places of their own, and what two of its steps share. Assumes nothing.
use Rattle.std.specs.Prelude.{Bool, true, false, ◌≡◌}
use Rattle.base_order.specs.OneByOne.{Stepped}

-- A device: what its steps do to its states; what no step changes of a state, its shape; what stands at each place of a state; and
-- whether a place is one of a step's own, which is read off the shape.
pub record Device : Type 1 where
  pub Step : Type 0
  pub State : Type 0
  pub Answer : Type 0
  pub Shape : Type 0
  pub Place : Type 0
  pub Row : Type 0
  pub step : Step → State → Stepped Answer State
  pub shape : State → Shape
  pub look : Place → State → Row
  pub touches : Shape → Step → Place → Bool

module _ (D : Device) where
  -- two steps share a place
  pub record Shared (sh : D.Shape) (s u : D.Step) : Type 0 where
    pub place : D.Place
    pub first : D.touches sh s place ≡ true
    pub second : D.touches sh u place ≡ true

  -- two states of one shape have the same at all places of a step
  pub record Agree (s : D.Step) (t t' : D.State) : Type 0 where
    pub same_shape : D.shape t' ≡ D.shape t
    pub same_there : (p : D.Place) → D.touches (D.shape t) s p ≡ true → D.look p t' ≡ D.look p t

  -- no step changes the shape
  abbrev pub ShapeKept : Type 0
  ShapeKept = (s : D.Step) (t : D.State) → D.shape (D.step s t).after ≡ D.shape t

  -- the frame: a step writes only its own places
  abbrev pub WritesOwn : Type 0
  WritesOwn =
      (s : D.Step) (t : D.State) (p : D.Place) → D.touches (D.shape t) s p ≡ false
      → D.look p (D.step s t).after ≡ D.look p t

  -- locality: a step reads only its own places. So its answer, and what it leaves there, hang on nothing else
  pub record SameDone (s : D.Step) (t t' : D.State) : Type 0 where
    pub answer : (D.step s t').answer ≡ (D.step s t).answer
    pub left : (p : D.Place) → D.touches (D.shape t) s p ≡ true → D.look p (D.step s t').after ≡ D.look p (D.step s t).after

  abbrev pub ReadsOwn : Type 0
  ReadsOwn = (s : D.Step) (t t' : D.State) → Agree s t t' → SameDone s t t'

  -- a state is its shape and what stands at its places
  abbrev pub AllThere : Type 0
  AllThere = (t t' : D.State) → D.shape t' ≡ D.shape t → ((p : D.Place) → D.look p t' ≡ D.look p t) → t' ≡ t

  pub record Local : Type 0 where
    pub shape_kept : ShapeKept
    pub writes_own : WritesOwn
    pub reads_own : ReadsOwn
    pub all_there : AllThere
