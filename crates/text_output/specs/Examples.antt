-- Document 01, "Text form": its own night with its output, and the empty text. A text stands by its bytes: 9 is a tab, 10 ends a line, 48 to 57 are '0' to
-- '9', 97 to 102 'a' to 'f', and a letter stands by its number. Proved in proofs/Examples.antt. Assumes nothing.
use Rattle.std.specs.Prelude.{ℕ, List, [], ◌∷◌, ◌++◌, ◌≡◌}
use Rattle.text_output.specs.Output.{output}

-- floats after their tab: 00000000, one and four times; 3f800000 and 40000000, which are 1 and 2; c0000000, which is −2
abbrev pub z : List ℕ
z = 9 ∷ 48 ∷ 48 ∷ 48 ∷ 48 ∷ 48 ∷ 48 ∷ 48 ∷ 48 ∷ []

abbrev pub zzzz : List ℕ
zzzz = z ++ z ++ z ++ z

abbrev pub one : List ℕ
one = 9 ∷ 51 ∷ 102 ∷ 56 ∷ 48 ∷ 48 ∷ 48 ∷ 48 ∷ 48 ∷ []

abbrev pub two : List ℕ
two = 9 ∷ 52 ∷ 48 ∷ 48 ∷ 48 ∷ 48 ∷ 48 ∷ 48 ∷ 48 ∷ []

abbrev pub minus_two : List ℕ
minus_two = 9 ∷ 99 ∷ 48 ∷ 48 ∷ 48 ∷ 48 ∷ 48 ∷ 48 ∷ 48 ∷ []

abbrev pub end : List ℕ
end = 10 ∷ []

-- B, C 0 65535 1, N, T, N, T, S 0 1
abbrev pub sample_night : List ℕ
sample_night =
    (66 ∷ []) ++ z ++ minus_two ++ z ++ end
    ++ (67 ∷ 9 ∷ 48 ∷ 9 ∷ 54 ∷ 53 ∷ 53 ∷ 51 ∷ 53 ∷ 9 ∷ 49 ∷ []) ++ z ++ one ++ one ++ one ++ zzzz ++ z ++ end
    ++ (78 ∷ []) ++ zzzz ++ z ++ z ++ z ++ one ++ one ++ z ++ end
    ++ (84 ∷ []) ++ zzzz ++ zzzz ++ end
    ++ (78 ∷ []) ++ zzzz ++ zzzz ++ z ++ z ++ end
    ++ (84 ∷ []) ++ zzzz ++ zzzz ++ end
    ++ (83 ∷ 9 ∷ 48 ∷ 9 ∷ 49 ∷ []) ++ end

-- A 0 0, B, I 0 0, E 1 0
abbrev pub sample_output : List ℕ
sample_output =
    (65 ∷ 9 ∷ 48 ∷ 9 ∷ 48 ∷ []) ++ end
    ++ (66 ∷ []) ++ z ++ z ++ z ++ end
    ++ (73 ∷ 9 ∷ 48 ∷ 9 ∷ 48 ∷ []) ++ two ++ z ++ end
    ++ (69 ∷ 9 ∷ 49 ∷ 9 ∷ 48 ∷ []) ++ end

-- E 0 0
abbrev pub e_0_0 : List ℕ
e_0_0 = 69 ∷ 9 ∷ 48 ∷ 9 ∷ 48 ∷ 10 ∷ []

-- S 0 0, a step that names a contact which is not there; R 2
abbrev pub step_alone : List ℕ
step_alone = 83 ∷ 9 ∷ 48 ∷ 9 ∷ 48 ∷ 10 ∷ []

abbrev pub r_2 : List ℕ
r_2 = 82 ∷ 9 ∷ 50 ∷ 10 ∷ []

pub record Examples : Type 0 where
  pub sample : output sample_night ≡ sample_output
  -- "An empty input writes E with two zeros."
  pub empty : output [] ≡ e_0_0
  -- "A whole-call refusal writes only R and its number."
  pub refused : output step_alone ≡ r_2
