-- Document 01, "Text form": the text program, from the input's bytes to the output's. Assumes nothing.
use Rattle.std.specs.Prelude.{ℕ, List}
use Rattle.text_line.specs.Night.{of_program}
use Rattle.text_read.specs.Text.{Text, reading, refused, text_of}
use Rattle.text_write.specs.Lines.{x_line}
use Rattle.text_output.specs.Answer.{answer}

-- "Bad text writes only X"
unfoldable pub output_of : Text → List ℕ
output_of (reading line n t) = answer t
output_of (refused number reason t) = x_line number reason

unfoldable pub output : List ℕ → List ℕ
output input = output_of (text_of of_program input)
