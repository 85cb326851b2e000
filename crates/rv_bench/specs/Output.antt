-- The output of the bench for an input: an image, the line `--`, and a script. (This project's own format.)
use Rattle.std.specs.Prelude.{ℕ, List, Result, Ok, Err}
use Rattle.rv_streams.specs.Image.{image_in}
use Rattle.rv_streams.specs.Separator.{after_separator}
use Rattle.rv_streams.specs.declared.fault.BenchFault.{BenchFault}
use Rattle.rv_bench.specs.Replies.{bench_line, replies}
use Rattle.rv_word.specs.Cases.{result_case}
use Rattle.rv_text.specs.Lines.{lines_of}
use Rattle.rv_bench.specs.Loaded.{started}
use Rattle.rv_command_line.specs.declared.setup.Setup.{Setup}
use Rattle.rv_debug.specs.BenchState.{BenchState}

-- the replies of a bench that has started, or the error
abbrev pub replies_of : Result BenchState BenchFault → List (List ℕ) → Result (List ℕ) BenchFault
replies_of bench script = result_case bench (λ state. Ok (replies bench_line state script)) Err

-- `bench_in` is the bench that the image of an input starts, or the first error: of the image's text, the RAM's size or the image
abbrev pub bench_in : Setup → List ℕ → Result BenchState BenchFault
bench_in setup input = result_case (image_in input) (λ image. started image setup) Err

-- the replies to the script of an input, or the error
abbrev pub output : Setup → List ℕ → Result (List ℕ) BenchFault
output setup input = replies_of (bench_in setup input) (lines_of (after_separator input))
