-- Numbers put one by one to the end of a table, and a line's to the ends of all. Assumes nothing.
use Prim.Native.Nat.{ℕ, ◌+◌, ◌-◌, ◌≤◌, ◌<◌}
use native.Mathlib.Omega.{arith}
use mathlib.Core.List.{List}
use mathlib.Core.Path.{◌≡◌, refl, sym, ap, ◌∙◌}
use lib.ListN.{get_or, length, take}
use borrow.Rule.Slice.PartMut.{drop_put, mid_len, put_mid, same_len_mid}
use Rattle.std.proofs.lemmas.Slice.{take-put_mid}
use lib.Seq.{take-take}
use Rattle.text_fields.specs.Got.{Adds, Small, most}
use Rattle.text_fields.specs.Letters.{adds, asked}
use Rattle.text_fields.specs.declared.Counts.{Counts}
use Rattle.text_fields.specs.declared.Form.TheVariants.{Decimal, Hex}
use Rattle.text_fields.specs.declared.Letter.{Letter}
use Rattle.text_fields.proofs.Small.{small_at}
use Rattle.text_line.specs.Lines.{put}
use Rattle.text_line.specs.Filled.{Appended, Put, cells, night_of}
use Rattle.text_line.specs.declared.Place.{Place}
use Rattle.text_line.specs.declared.State.{State}

-- more numbers copied to the end of a table
pub copied : {A : Type 0} {t more back : List A} (at : ℕ) → back ≡ more → at + length more ≤ length t
    → Appended t at more (put_mid at (at + length more - at) t back) (at + length more)
copied {t = t} {more = more} {back = back} at e h =
    let k : length back ≡ at + length more - at = omega (arith, ap length e) in
    let wide : at ≤ length t = omega arith in
    record {
      is = take-put_mid at (at + length more - at) t back (at + length more) (omega (arith, ap length e)) wide ∙ rw e;
      far = refl;
      grown = record {
        more = omega arith;
        fits = omega (arith, same_len_mid at (at + length more - at) t back (k ∙ sym (mid_len at (at + length more) t h)));
        past = drop_put at (at + length more) t back (omega arith) h k;
        long = same_len_mid at (at + length more - at) t back (k ∙ sym (mid_len at (at + length more) t h));
      };
    }

-- numbers copied one by one
-- a decimal number fits in 16 bits
pub sixteen : (row : List ℕ) (i : ℕ) → Small (most Decimal) row → get_or row i 0 < 65536
sixteen row i h = omega (arith, small_at 65535 row i h)

-- a line's numbers at the ends of all tables
pub put_all : (l : Letter) (place : Place) (st : State) (said bits bodies numbers floats steps : List ℕ)
    {b n f s : ℕ} {narrow bodies' numbers' floats' steps' : List ℕ} {counts : Counts} → Adds l counts → narrow ≡ said
    → Appended bodies st.bodies (take counts.bodies bits) bodies' b → Appended numbers st.numbers (take counts.numbers narrow) numbers' n
    → Appended floats st.floats (take counts.floats bits) floats' f → Appended steps st.steps (take counts.steps narrow) steps' s
    → Put l place st said bits (cells bodies numbers floats steps)
    (record { place = place; bodies = b; numbers = n; floats = f; steps = s }) (cells bodies' numbers' floats' steps')
unfolding night_of put
put_all l place st said bits bodies numbers floats steps a same p q r t =
    record {
      is =
          rw (
            take-take (adds l).bodies (asked Hex l) bits (omega arith),
            take-take (adds l).numbers (asked Decimal l) said (omega arith),
            take-take (adds l).floats (asked Hex l) bits (omega arith),
            take-take (adds l).steps (asked Decimal l) said (omega arith),
            ← a.bodies,
            ← a.numbers,
            ← a.floats,
            ← a.steps,
            p.is,
            q.is,
            r.is,
            t.is,
            same,
          );
      grown = record { bodies = p.grown; numbers = q.grown; floats = r.grown; steps = t.grown };
    }
