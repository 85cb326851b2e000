-- A closed instance of the law of declassification from input to output. Two scripts poke two secrets into an enclave. It loads its secret to a0, the
-- timer interrupts it there, and the host resumes it. (An instance of this project's own law; declassification: Sabelfeld and Sands, JCS 2009.)
use Rattle.std.specs.Prelude.{◌≡◌, ℕ, true, List, ◌++◌, codes, IsOkAnd}
use Rattle.rv_text.specs.Lines.{lines_of}
use Rattle.rv_memory.specs.declared.harts.Harts.TheVariants.{One}
use Rattle.rv_debug.specs.SecretRun.{secret_bench}
use Rattle.rv_command_line.specs.declared.image_kind.ImageKind.TheVariants.{Raw}
use Rattle.rv_command_line.specs.declared.setup.Setup.{Setup}
use Rattle.rv_streams.specs.Separator.{after_separator}
use Rattle.rv_bench.specs.Declassification.{DifferInEnclave, observed_output}
use Rattle.rv_bench.specs.Output.{bench_in}
use Rattle.rv_bench.specs.Replies.{bench_line, state_after}

-- `secret_setup` has the options --monitor --ram 131072 --kind raw
abbrev pub secret_setup : Setup
secret_setup = record { kind = Raw; ram = 131072; monitored = true; harts = One }

-- the code of the host as an image; then the code of the enclave, and the arguments of a create of the page at 80018000 without a window
abbrev pub secret_prefix : List ℕ
secret_prefix =
    codes "730000001308300073000000130500001308400073000000\n--\n"
    ++ (codes "poke 80018000 03\npoke 80018001 25\npoke 80018002 05\npoke 80018003 10\npoke 80018004 13\npoke 80018005 05\n"
    ++ codes "setreg 10 80018000\nsetreg 11 1000\nsetreg 14 80018000\nsetreg 16 1\nsetreg 17 a454e43\n")

-- create; the secret, as two digits; run; the load to a0; the interrupt; the registers of the host; resume, and one step
abbrev pub secret_script : List ℕ → List ℕ
secret_script digits =
    codes "step 1\npoke 80018100 " ++ (digits ++ codes "\nstep 2\nstep 1\ntimer on\nstep 1\nregs\nstep 3\nstep 1\n")

-- an input has the image and the first lines, and then the script with the secret
abbrev pub secret_input : List ℕ → List ℕ
secret_input digits = secret_prefix ++ secret_script digits

-- the first lines lead to the bench of the instance for commands; the inputs satisfy the premise of the law, and their observed outputs are equal
pub record SecretScriptLaw : Type 0 where
  -- the first lines lead to the bench of the instance for commands
  pub starts : IsOkAnd (bench_in secret_setup secret_prefix) (λ bench.
      state_after bench_line bench (lines_of (after_separator secret_prefix)) ≡ secret_bench)
  -- the two inputs differ only in the secret that they poke
  pub differ : DifferInEnclave 0 secret_setup (secret_input (codes "41")) (secret_input (codes "5a"))
  -- the observed outputs of the two inputs are equal
  pub alike : observed_output 0 secret_setup (secret_input (codes "41")) ≡ observed_output 0 secret_setup (secret_input (codes "5a"))
