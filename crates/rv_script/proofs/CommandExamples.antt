-- Examples of the script language: lines with their commands, or their errors.
use Rattle.std.proofs.Common.{◌≡◌, ℕ, true, false, List, [], ◌∷◌, Result, Ok, Err, map, refl}
use Rattle.std.specs.Prelude.{codes}
use Rattle.rv_text.specs.GoodLines.{is_text}
use Rattle.rv_text.specs.Words.{words_of}
use Rattle.rv_script.specs.Numbers.{decimal_of, hexadecimal_of, csr_number_of, byte_of_text}
use Rattle.rv_text.specs.Numbers.{number_of_digits}
use Rattle.rv_script.specs.declared.command.Command.{Command}
use Rattle.rv_script.specs.declared.command.Command.TheVariants.{Blank, Step, Run, Break, Clear, Watch, Unwatch, Reg, Regs, SetReg, Csr, Mem, Poke, Dis, Pmp}
use Rattle.rv_script.specs.declared.command.Command.TheVariants.{Enclaves, Access, Timer}
use Rattle.rv_pmp.specs.declared.access.Access.TheVariants.{Fetch, Read, Write}
use Rattle.rv_pmp.specs.declared.mode.Mode.TheVariants.{U, S, M}
use Rattle.rv_word.specs.declared.width.Width.TheVariants.{Byte, Half, Word}
use Rattle.rv_script.specs.declared.command.CommandFault.{CommandFault}
use Rattle.rv_script.specs.declared.command.CommandFault.TheVariants.{BadLine, UnknownCommand, BadOperand}
use Rattle.rv_script.specs.Command.{keyword_of, meaning_of, parse_of}

-- ---- lines, and their commands

-- `examples` has lines, and the command or the error of each
abbrev examples : List (List ℕ × Result Command CommandFault)
examples =
    (codes "", Ok Blank)
    ∷ (codes "\t", Ok Blank)
    ∷ (codes "# x", Ok Blank)
    ∷ (codes "#step 1", Ok Blank)
    ∷ (codes "step 1", Ok (Step 1))
    ∷ (codes " step\t 1000000 ", Ok (Step 1000000))
    ∷ (codes "step 0000001", Ok (Step 1))
    ∷ (codes "run 1", Ok (Run 1))
    ∷ (codes "run 1000000", Ok (Run 1000000))
    ∷ (codes "break 80000004", Ok (Break 0x80000004))
    ∷ (codes "break 0x0", Ok (Break 0))
    ∷ (codes "clear FFFFFFFF", Ok (Clear 0xffffffff))
    ∷ (codes "watch 80000103", Ok (Watch 0x80000103))
    ∷ (codes "\tunwatch 1 ", Ok (Unwatch 1))
    ∷ (codes "reg 1", Ok (Reg 1))
    ∷ (codes "reg 31", Ok (Reg 31))
    ∷ (codes "regs", Ok Regs)
    ∷ (codes "\tregs ", Ok Regs)
    ∷ (codes "setreg 5 0x1F", Ok (SetReg 5 0x1f))
    ∷ (codes "setreg 0 ffffffff", Ok (SetReg 0 0xffffffff))
    ∷ (codes "setreg 0000031 00000000", Ok (SetReg 31 0))
    ∷ (codes "csr 0", Ok (Csr 0))
    ∷ (codes "csr 7b0", Ok (Csr 0x7b0))
    ∷ (codes " csr\tFFf ", Ok (Csr 0xfff))
    ∷ (codes "csr 03A", Ok (Csr 0x3a))
    ∷ (codes "mem 8000000e 4", Ok (Mem 0x8000000e 4))
    ∷ (codes "mem 0x8000000E 64", Ok (Mem 0x8000000e 64))
    ∷ (codes "mem 0 1", Ok (Mem 0 1))
    ∷ (codes "poke 80000000 fF", Ok (Poke 0x80000000 0xff))
    ∷ (codes "poke 0x1 0", Ok (Poke 1 0))
    ∷ (codes "dis 8000000e", Ok (Dis 0x8000000e))
    ∷ (codes "\tdis  0x8000000E ", Ok (Dis 0x8000000e))
    ∷ (codes "dis 0", Ok (Dis 0))
    ∷ (codes "pmp", Ok Pmp)
    ∷ (codes " pmp\t", Ok Pmp)
    ∷ (codes "enclaves", Ok Enclaves)
    ∷ (codes "access M r 80000100 4", Ok (Access M Read 0x80000100 Word))
    ∷ (codes "access S w 0x8000010E 2", Ok (Access S Write 0x8000010e Half))
    ∷ (codes "access U x 0 1", Ok (Access U Fetch 0 Byte))
    ∷ (codes "timer on", Ok (Timer true))
    ∷ (codes "timer off", Ok (Timer false))
    -- ---- no command
    ∷ (codes "fly", Err UnknownCommand)
    ∷ (codes "Step 1", Err UnknownCommand)
    ∷ (codes "Run 1", Err UnknownCommand)
    ∷ (codes "Break 0", Err UnknownCommand)
    ∷ (codes "breaks", Err UnknownCommand)
    ∷ (codes "unWatch 0", Err UnknownCommand)
    ∷ (codes "enclave", Err UnknownCommand)
    ∷ (codes "Poke 0 0", Err UnknownCommand)
    ∷ (codes "Regs", Err UnknownCommand)
    ∷ (codes "setReg 1 1", Err UnknownCommand)
    ∷ (codes "set 1 1", Err UnknownCommand)
    ∷ (codes "csrs 0", Err UnknownCommand)
    ∷ (codes "CSR 300", Err UnknownCommand)
    ∷ (codes "Dis 0", Err UnknownCommand)
    ∷ (codes "disasm 0", Err UnknownCommand)
    ∷ (codes "Pmp", Err UnknownCommand)
    ∷ (codes "pmps", Err UnknownCommand)
    ∷ (codes "Access M r 0 1", Err UnknownCommand)
    ∷ (codes "Timer on", Err UnknownCommand)
    ∷ (codes "--", Err UnknownCommand)
    -- ---- invalid operands
    ∷ (codes "step 0", Err BadOperand)
    ∷ (codes "step 1000001", Err BadOperand)
    ∷ (codes "step 00000001", Err BadOperand)
    ∷ (codes "step +1", Err BadOperand)
    ∷ (codes "step 1 # x", Err BadOperand)
    ∷ (codes "run", Err BadOperand)
    ∷ (codes "run 0", Err BadOperand)
    ∷ (codes "run 1000001", Err BadOperand)
    ∷ (codes "run 1 1", Err BadOperand)
    ∷ (codes "break", Err BadOperand)
    ∷ (codes "break 180000000", Err BadOperand)
    ∷ (codes "break pc", Err BadOperand)
    ∷ (codes "break 0 4", Err BadOperand)
    ∷ (codes "clear", Err BadOperand)
    ∷ (codes "clear all", Err BadOperand)
    ∷ (codes "watch 0X0", Err BadOperand)
    ∷ (codes "watch 80000000 4", Err BadOperand)
    ∷ (codes "unwatch", Err BadOperand)
    ∷ (codes "unwatch -1", Err BadOperand)
    ∷ (codes "reg", Err BadOperand)
    ∷ (codes "reg 32", Err BadOperand)
    ∷ (codes "regs 1", Err BadOperand)
    ∷ (codes "regs # x", Err BadOperand)
    ∷ (codes "setreg", Err BadOperand)
    ∷ (codes "setreg 1", Err BadOperand)
    ∷ (codes "setreg 1 2 3", Err BadOperand)
    ∷ (codes "setreg 32 0", Err BadOperand)
    ∷ (codes "setreg 0x1 0", Err BadOperand)
    ∷ (codes "setreg 1 100000000", Err BadOperand)
    ∷ (codes "setreg 1 0x", Err BadOperand)
    ∷ (codes "setreg 1 0X1", Err BadOperand)
    ∷ (codes "csr", Err BadOperand)
    ∷ (codes "csr 0300", Err BadOperand)
    ∷ (codes "csr 0x300", Err BadOperand)
    ∷ (codes "csr 0x3", Err BadOperand)
    ∷ (codes "csr 3g0", Err BadOperand)
    ∷ (codes "csr +30", Err BadOperand)
    ∷ (codes "csr mepc", Err BadOperand)
    ∷ (codes "csr 300 0", Err BadOperand)
    ∷ (codes "mem 80000000 0", Err BadOperand)
    ∷ (codes "mem 80000000 65", Err BadOperand)
    ∷ (codes "mem 0x 4", Err BadOperand)
    ∷ (codes "mem 0X80000000 4", Err BadOperand)
    ∷ (codes "mem 080000000 4", Err BadOperand)
    ∷ (codes "poke 80000000", Err BadOperand)
    ∷ (codes "poke 80000000 100", Err BadOperand)
    ∷ (codes "poke 80000000 001", Err BadOperand)
    ∷ (codes "poke 80000000 0x1", Err BadOperand)
    ∷ (codes "poke 80000000 1 2", Err BadOperand)
    ∷ (codes "dis", Err BadOperand)
    ∷ (codes "dis 80000000 4", Err BadOperand)
    ∷ (codes "dis 080000000", Err BadOperand)
    ∷ (codes "dis 0x", Err BadOperand)
    ∷ (codes "dis pc", Err BadOperand)
    ∷ (codes "pmp 0", Err BadOperand)
    ∷ (codes "pmp # x", Err BadOperand)
    ∷ (codes "enclaves 0", Err BadOperand)
    ∷ (codes "access", Err BadOperand)
    ∷ (codes "access M r 80000000", Err BadOperand)
    ∷ (codes "access M r 80000000 4 4", Err BadOperand)
    ∷ (codes "access m r 80000000 4", Err BadOperand)
    ∷ (codes "access H r 80000000 4", Err BadOperand)
    ∷ (codes "access M R 80000000 4", Err BadOperand)
    ∷ (codes "access M rw 80000000 4", Err BadOperand)
    ∷ (codes "access r M 80000000 4", Err BadOperand)
    ∷ (codes "access M r 0X80000000 4", Err BadOperand)
    ∷ (codes "access M r 180000000 4", Err BadOperand)
    ∷ (codes "access M r 80000000 04", Err BadOperand)
    ∷ (codes "access M r 80000000 3", Err BadOperand)
    ∷ (codes "access M r 80000000 8", Err BadOperand)
    ∷ (codes "timer", Err BadOperand)
    ∷ (codes "timer maybe", Err BadOperand)
    ∷ (codes "timer ON", Err BadOperand)
    ∷ (codes "timer o", Err BadOperand)
    ∷ (codes "timer 1", Err BadOperand)
    ∷ (codes "timer on off", Err BadOperand)
    ∷ (codes "step 1\r", Err BadLine)
    ∷ (0 ∷ [], Err BadLine)
    ∷ []

-- ---- by computation

-- each example line has the command or the error beside it, by computation
pub examples_hold : map (λ example. parse_of example.0) examples ≡ map (λ example. example.1) examples
unfolding parse_of meaning_of keyword_of words_of is_text number_of_digits decimal_of hexadecimal_of csr_number_of byte_of_text
examples_hold = refl

-- a line with a tab and several spaces has the words between them
pub words_of-example : words_of (codes " mem\t0  64 ") ≡ codes "mem" ∷ codes "0" ∷ codes "64" ∷ []
unfolding words_of
words_of-example = refl
