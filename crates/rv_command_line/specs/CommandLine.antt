-- The command line of the program, and the arguments that it accepts, based on the crate `clap`.
use Rattle.std.specs.Prelude.{List, [], ◌∷◌, codes, fold, map, Some, pos}
use Rattle.std.specs.Borrow.{Bor}
use Rattle.clap.specs.Kinds.{Kinds}
use Rattle.clap.specs.Words.{App, Rule, Text, fault_of, new_app, new_rule, with_rule, with_subcommand}
use Rattle.clap.specs.declared.builder.action.ArgAction.TheVariants as action
use Rattle.clap.specs.declared.builder.value_parser.ValueParser.{ValueParser}
use Rattle.clap.specs.declared.builder.value_parser.ValueParser.TheVariants as parser
use Rattle.rv_command_line.specs.declared.image_kind.ImageKind.{ImageKind}
use Rattle.rv_command_line.specs.declared.image_kind.ImageKind.TheVariants as image

-- `kinds` has the kinds of image, and their names in the command line
abbrev pub kinds : List (Text × ImageKind)
kinds = (codes "auto", image.Auto) ∷ (codes "raw", image.Raw) ∷ (codes "elf", image.Elf) ∷ []

-- `kind_names` has the names of the image kinds
abbrev pub kind_names : List Text
kind_names = map (λ row. row.0) kinds

-- names at some address in memory
abbrev pub Names : Type 0
Names = Bor (List (Bor Text))

-- `valued` is the rule of an option `--NAME VALUE`, with a value that this parser accepts
abbrev pub valued : Text → ValueParser → Rule
valued name parser = record (new_rule name) { long = Some name; value_names = 1; parser = Some parser }

-- `flag_rule` is the rule of a flag, which is an option without a value
abbrev pub flag_rule : Text → Rule
flag_rule name = record (new_rule name) { long = Some name; action = Some action.SetTrue }

-- the value of `--kind NAME` is one of the names of the image kinds
abbrev pub kind : Names → Rule
kind names = valued (codes "kind") (parser.Names names)

-- the value of `--ram BYTES` is a number of 32 bits, from 0 to 4294967295
abbrev pub ram : Rule
ram = valued (codes "ram") (parser.Signed (pos 0) (pos 4294967295))

-- `--monitor` is a flag
abbrev pub monitor : Rule
monitor = flag_rule (codes "monitor")

-- the value of `--harts HARTS` is a number, 1 or 2
abbrev pub harts : Rule
harts = valued (codes "harts") (parser.Signed (pos 1) (pos 2))

-- the value of `--slot K` is a number from 0 to 12
abbrev pub slot : Rule
slot = valued (codes "slot") (parser.Signed (pos 0) (pos 12))

-- `command` is a command with this name and these options
abbrev pub command : Text → List Rule → App
command name options = fold with_rule (new_app name) options

-- `program` is the program with its subcommands
abbrev pub program : Names → App
program names = fold with_subcommand (new_app (codes "rvbench"))
    ((command (codes "run") (kind names ∷ ram ∷ monitor ∷ harts ∷ [])).top
    ∷ (command (codes "twin") (slot ∷ kind names ∷ ram ∷ harts ∷ [])).top
    ∷ (command (codes "asm") []).top
    ∷ (command (codes "dis") []).top
    ∷ [])

-- `lent` is a value borrowed at address 0; the reading of a command line does not depend on the address of names
abbrev pub lent : {X : Type 0} → X → Bor X
lent x = record { ref_ptr = (0, 0); now = x }

-- `rvbench` is the program, with the names of the image kinds as values of its options
abbrev pub rvbench : App
rvbench = program (lent (map lent kind_names))

-- The errors of the arguments. The first argument is the program's name. The list is empty if the arguments are accepted. It has the request for
-- help if they make one.
abbrev pub faults_of : List Text → Kinds
faults_of = fault_of rvbench
