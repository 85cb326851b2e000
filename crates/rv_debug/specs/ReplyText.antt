-- The reply lines of commands: ASCII, ISO/IEC 646, each ended by a line feed. Hexadecimal numbers are in lower case, with leading zeros. (This
-- project's own replies.)
use Rattle.std.specs.Prelude.{ℕ, List, ◌++◌, Option, Some, None, codes, decimal}
use Rattle.std.specs.List.{flat_map, range_with_len}
use Rattle.rv_pmp.specs.declared.verdict.Verdict.{Verdict}
use Rattle.rv_pmp.specs.declared.verdict.Verdict.TheVariants.{Allowed, AllowedFree, Denied, DeniedPartial, DeniedFree}
use Rattle.rv_state.specs.Causes.{cause_code}
use Rattle.rv_disassembler.specs.Spelling.{spelling}
use Rattle.rv_script.specs.declared.command.CommandFault.TheVariants.{BadLine, UnknownCommand, BadOperand}
use Rattle.rv_debug.specs.Prelude.{Break, CommandFault, Done, Entries, HartRan, M, Mode, Ran, S, Stop, Trap, U, Watch, addr_of, cfg_of}
use Rattle.rv_debug.specs.Prelude.{hex2, hex3, hex8, register}

-- a reply shows a trap as `-` if there is none, or as `cause:tval`
unfoldable pub trap_text : Option Trap → List ℕ
trap_text None = codes "-"
trap_text (Some trap) = hex8 (cause_code trap.cause) ++ codes ":" ++ hex8 trap.tval

-- `mode_text` is the letter of a mode
abbrev pub mode_text : Mode → List ℕ
mode_text U = codes "U"
mode_text S = codes "S"
mode_text M = codes "M"

-- a reply shows the reason for the end of a run as `done`, `break`, or `watch:hhhhhhhh`
unfoldable pub stop_text : Stop → List ℕ
stop_text Done = codes "done"
stop_text Break = codes "break"
stop_text (Watch address) = codes "watch:" ++ hex8 address

-- a reply shows the summary of a run as `ran S pc=hhhhhhhh mode=m world=w why=r trap=t`
unfoldable pub ran_text : ℕ → Mode → List ℕ → Ran → List ℕ
ran_text pc mode world ran =
    codes "ran " ++ decimal ran.steps ++ codes " pc=" ++ hex8 pc ++ codes " mode=" ++ mode_text mode
    ++ codes " world=" ++ world ++ codes " why=" ++ stop_text ran.stop ++ codes " trap=" ++ trap_text ran.trap ++ codes "\n"

-- a reply shows the summary of a hart after a schedule as `hart H S pc=hhhhhhhh mode=m world=w trap=t`
unfoldable pub hart_text : ℕ → ℕ → Mode → List ℕ → HartRan → List ℕ
hart_text hart pc mode world ran =
    codes "hart " ++ decimal hart ++ codes " " ++ decimal ran.steps ++ codes " pc=" ++ hex8 pc ++ codes " mode=" ++ mode_text mode
    ++ codes " world=" ++ world ++ codes " trap=" ++ trap_text ran.trap ++ codes "\n"

-- a reply shows a register as `xN=hhhhhhhh`
unfoldable pub register_text : ℕ → ℕ → List ℕ
register_text number value = codes "x" ++ decimal number ++ codes "=" ++ hex8 value ++ codes "\n"

-- a reply shows the pc as `pc=hhhhhhhh`
unfoldable pub pc_text : ℕ → List ℕ
pc_text pc = codes "pc=" ++ hex8 pc ++ codes "\n"

-- `registers_text` has the 32 registers in their order, and pc
unfoldable pub registers_text : List ℕ → ℕ → List ℕ
registers_text regs pc =
    flat_map (λ number. register_text number (register regs number)) (range_with_len 0 32) ++ pc_text pc

-- a reply shows a control and status register as `csr ccc=hhhhhhhh`
unfoldable pub csr_text : ℕ → ℕ → List ℕ
csr_text number word = codes "csr " ++ hex3 number ++ codes "=" ++ hex8 word ++ codes "\n"

-- a reply shows bytes of memory as `hhhhhhhh:`, and a space and two digits for each byte
unfoldable pub memory_text : ℕ → List ℕ → List ℕ
memory_text address bytes = hex8 address ++ codes ":" ++ flat_map (λ byte. codes " " ++ hex2 byte) bytes ++ codes "\n"

-- a reply shows a word and its disassembly as `hhhhhhhh: wwwwwwww text`
unfoldable pub dis_text : ℕ → ℕ → List ℕ
dis_text address word = hex8 address ++ codes ": " ++ hex8 word ++ codes " " ++ spelling word ++ codes "\n"

-- a reply shows a PMP entry as `pmp I cfg=hh addr=hhhhhhhh`
unfoldable pub entry_text : ℕ → ℕ → ℕ → List ℕ
entry_text number cfg addr = codes "pmp " ++ decimal number ++ codes " cfg=" ++ hex2 cfg ++ codes " addr=" ++ hex8 addr ++ codes "\n"

-- `pmp_text` has the sixteen entries in their order
unfoldable pub pmp_text : Entries → List ℕ
pmp_text entries =
    flat_map (λ number. entry_text number (cfg_of entries number) (addr_of entries number)) (range_with_len 0 16)

-- a reply shows the verdict on an access, with the entry that decides it, or `free` if none does
unfoldable pub verdict_text : Verdict → List ℕ
verdict_text (Allowed number) = codes "allowed entry " ++ decimal number ++ codes "\n"
verdict_text AllowedFree = codes "allowed free\n"
verdict_text (Denied number) = codes "denied entry " ++ decimal number ++ codes "\n"
verdict_text (DeniedPartial number) = codes "denied partial " ++ decimal number ++ codes "\n"
verdict_text DeniedFree = codes "denied free\n"

-- `denied_outside_text` is the reply to `access` if a byte of the access is outside RAM
unfoldable pub denied_outside_text : List ℕ
denied_outside_text = codes "denied outside\n"

-- `ok_text` is the reply of a command that was executed and shows nothing
unfoldable pub ok_text : List ℕ
ok_text = codes "ok\n"

-- `full_text` is the reply if a set of 32 addresses has no room for another
unfoldable pub full_text : List ℕ
full_text = codes "error full\n"

-- `command_fault_text` is the text of the error of a line
abbrev pub command_fault_text : CommandFault → List ℕ
command_fault_text BadLine = codes "error line\n"
command_fault_text UnknownCommand = codes "error command\n"
command_fault_text BadOperand = codes "error operand\n"

-- `no_csr_text` is the reply if no CSR has the number
unfoldable pub no_csr_text : List ℕ
no_csr_text = codes "error csr\n"

-- `no_hart_text` is the reply if no hart has the number
unfoldable pub no_hart_text : List ℕ
no_hart_text = codes "error hart\n"

-- `outside_text` is the reply if a byte that the command accesses is outside RAM
unfoldable pub outside_text : List ℕ
outside_text = codes "error outside\n"
