-- Examples of replies: the text of each kind of reply for given values, by computation.
use Rattle.std.proofs.Common.{◌≡◌, ℕ, ◌+◌, ◌/◌, ◌%◌, List, ◌∷◌, [], ◌++◌, Some, None, true, refl, ◌<◌, ◌≤◌, arith}
use Rattle.std.specs.Prelude.{codes, decimal, replicate, nat_lt, if◌then◌else◌}
use Rattle.std.specs.Fmt.{digits}
use Rattle.std.proofs.lemmas.Fmt.{decimal_digit, decimal_step}
use Rattle.rv_state.specs.Bits.{kept_bits}
use Rattle.rv_state.specs.CsrState.{CsrState, at_reset}
use Rattle.rv_pmp.specs.Covers.{covers}
use Rattle.rv_pmp.specs.Verdicts.{matching_entry, verdict}
use Rattle.rv_pmp.specs.declared.access.Access.TheVariants.{Fetch, Read, Write}
use Rattle.rv_pmp.specs.declared.verdict.Verdict.TheVariants.{Allowed, AllowedFree, Denied, DeniedPartial, DeniedFree}
use Rattle.rv_word.specs.declared.width.Width.TheVariants.{Byte, Half, Word}
use Rattle.rv_disassembler.specs.Spelling.{spelling, instr_text, line_text, word_text}
use Rattle.rv_word.specs.Logic.{by_bits}
use Rattle.rv_encoding.specs.Decoding.{decoded}
use Rattle.rv_state.specs.declared.cause.Cause.TheVariants.{Exception}
use Rattle.rv_state.specs.declared.cause.Exception.TheVariants.{IllegalInstruction}
use Rattle.rv_debug.specs.Prelude.{Bare, Break, Done, Entries, M, S, Target, U, Watch, csr_listing, csr_numbered, csr_of, hex_digits, read}
use Rattle.rv_debug.specs.Prelude.{read_result}
use Rattle.rv_debug.proofs.Prelude.{access_reply, csr_reply, csr_text, denied_outside_text, dis_reply, dis_text, entry_text, full_text, memory_text}
use Rattle.rv_debug.proofs.Prelude.{nat_tests, no_csr_text, ok_text, outside_text, pc_text, pmp_text, ran_text, register_text, registers_text}
use Rattle.rv_debug.proofs.Prelude.{stop_text, trap_text, verdict_text}

-- `shown` is the decimal text of a number, in a form that computes for numbers of one or two digits (48 is the character `0`)
abbrev shown : ℕ → List ℕ
shown n = if nat_lt n 10 then (48 + n) ∷ [] else (if nat_lt n 100 then (48 + n / 10) ∷ (48 + n % 10) ∷ [] else decimal n)

-- the decimal text of a number is its form that computes
decimal-shown : (number : ℕ) → decimal number ≡ shown number
decimal-shown number =
    let one_digit : number < 10 → decimal number ≡ (48 + number) ∷ [] = decimal_digit number in
    let two_digits : 10 ≤ number → number < 100 → decimal number ≡ (48 + number / 10) ∷ (48 + number % 10) ∷ [] =
    λ at_least_10 below_100. rw (decimal_step number at_least_10 (omega arith), decimal_digit (number / 10) (omega arith)) in
    grind (arith, nat_tests, one_digit, two_digits)

-- the replies of `step` and `run` show the number of steps, the pc, the mode, the reason for the end, and the last trap
pub ran_text-examples :
    ran_text 0x80000010 M (codes "bare") (record { steps = 4; trap = None; stop = Done; entered = 0 })
    ++ ran_text 0 M (codes "bare")
    (record { steps = 30; trap = Some (record { cause = Exception IllegalInstruction; tval = 0xffffffff }); stop = Done; entered = 0 })
    ++ ran_text 0x80000004 U (codes "bare") (record { steps = 2; trap = None; stop = Break; entered = 0 })
    ++ ran_text 0x80000004 S (codes "bare") (record { steps = 1; trap = None; stop = Watch 0x8000010a; entered = 0 }) ≡
    codes "ran 4 pc=80000010 mode=M world=bare why=done trap=-\nran 30 pc=00000000 mode=M world=bare why=done trap=00000002:ffffffff\n"
    ++ codes "ran 2 pc=80000004 mode=U world=bare why=break trap=-\nran 1 pc=80000004 mode=S world=bare why=watch:8000010a trap=-\n"
unfolding ran_text stop_text trap_text hex_digits
ran_text-examples = simp decimal-shown

-- the reply to `reg` shows x30 with FFFF00E2
pub register_text-example : register_text 30 0xffff00e2 ≡ codes "x30=ffff00e2\n"
unfolding register_text hex_digits
register_text-example = simp decimal-shown

-- the reply to `regs` shows x0 to x31 and pc, a line each
pub registers_text-example : registers_text (0 ∷ 0xffffffff ∷ 0 ∷ 0 ∷ 0 ∷ 0x1f ∷ (replicate 25 0 ++ 0xabcdef01 ∷ [])) 0x80000010 ≡
    codes "x0=00000000\nx1=ffffffff\nx2=00000000\nx3=00000000\nx4=00000000\nx5=0000001f\nx6=00000000\nx7=00000000\n"
    ++ codes "x8=00000000\nx9=00000000\nx10=00000000\nx11=00000000\nx12=00000000\nx13=00000000\nx14=00000000\nx15=00000000\n"
    ++ codes "x16=00000000\nx17=00000000\nx18=00000000\nx19=00000000\nx20=00000000\nx21=00000000\nx22=00000000\nx23=00000000\n"
    ++ codes "x24=00000000\nx25=00000000\nx26=00000000\nx27=00000000\nx28=00000000\nx29=00000000\nx30=00000000\nx31=abcdef01\n"
    ++ codes "pc=80000010\n"
unfolding registers_text register_text pc_text hex_digits
registers_text-example = simp decimal-shown

-- the reply to `csr` shows the register 034 with 80000ABC
pub csr_text-example : csr_text 0x34 0x80000AbC ≡ codes "csr 034=80000abc\n"
unfolding csr_text hex_digits
csr_text-example = refl

-- the reply to `csr` is an error for a number that is not the number of a CSR
pub no_csr_text-example : no_csr_text ≡ codes "error csr\n"
unfolding no_csr_text
no_csr_text-example = refl

-- the reply to `mem` shows the four bytes at 8000000E
pub memory_text-example : memory_text 0x8000000e (0xe2 ∷ 0 ∷ 0xff ∷ 0xff ∷ []) ≡ codes "8000000e: e2 00 ff ff\n"
unfolding memory_text hex_digits
memory_text-example = refl

-- the replies to dis for an addi, and for a word that encodes no instruction
pub dis_text-examples : dis_text 0x8000000e 0xfff08093 ++ dis_text 0x80000000 0x8330000f
    ≡ codes "8000000e: fff08093 addi x1, x1, -1\n80000000: 8330000f .word 0x8330000f\n"
unfolding dis_text spelling instr_text line_text word_text decoded digits hex_digits by_bits
dis_text-examples = refl

-- the reply of `dis` over six bytes of memory: at any alignment, and outside if one of the four bytes is
pub dis_reply-examples :
    dis_reply (0 ∷ 0 ∷ 0x93 ∷ 0x80 ∷ 0xf0 ∷ 0xff ∷ []) 0x80000000 ++ dis_reply (0 ∷ 0 ∷ 0x93 ∷ 0x80 ∷ 0xf0 ∷ 0xff ∷ []) 0x80000002
    ++ dis_reply (0 ∷ 0 ∷ 0x93 ∷ 0x80 ∷ 0xf0 ∷ 0xff ∷ []) 0x80000003
    ++ dis_reply (0 ∷ 0 ∷ 0x93 ∷ 0x80 ∷ 0xf0 ∷ 0xff ∷ []) 0x7fffffff ≡
    codes "80000000: 80930000 .word 0x80930000\n80000002: fff08093 addi x1, x1, -1\nerror outside\nerror outside\n"
unfolding read dis_text outside_text spelling instr_text line_text word_text decoded digits hex_digits by_bits
dis_reply-examples = refl

-- the reply to `pmp` shows the cfg byte and the address of each of the 16 entries
pub pmp_text-example : pmp_text (record { cfgs = 0x17 ∷ (replicate 14 0 ++ 0x9f ∷ []); addrs = 0x20000040 ∷ (replicate 14 0 ++ 0xffffffff ∷ []) }) ≡
    codes "pmp 0 cfg=17 addr=20000040\npmp 1 cfg=00 addr=00000000\npmp 2 cfg=00 addr=00000000\npmp 3 cfg=00 addr=00000000\n"
    ++ codes "pmp 4 cfg=00 addr=00000000\npmp 5 cfg=00 addr=00000000\npmp 6 cfg=00 addr=00000000\npmp 7 cfg=00 addr=00000000\n"
    ++ codes "pmp 8 cfg=00 addr=00000000\npmp 9 cfg=00 addr=00000000\npmp 10 cfg=00 addr=00000000\npmp 11 cfg=00 addr=00000000\n"
    ++ codes "pmp 12 cfg=00 addr=00000000\npmp 13 cfg=00 addr=00000000\npmp 14 cfg=00 addr=00000000\npmp 15 cfg=9f addr=ffffffff\n"
unfolding pmp_text entry_text hex_digits
pmp_text-example = simp decimal-shown

-- the replies of `access` show the verdict and its entry
pub verdict_text-examples :
    verdict_text (Allowed 0) ++ verdict_text AllowedFree ++ verdict_text (Denied 15)
    ++ verdict_text (DeniedPartial 9) ++ verdict_text DeniedFree ++ denied_outside_text ≡
    codes "allowed entry 0\nallowed free\ndenied entry 15\ndenied partial 9\ndenied free\ndenied outside\n"
unfolding verdict_text denied_outside_text
verdict_text-examples = simp decimal-shown

-- the reply to a command that was executed and shows nothing, and the reply if a set of addresses is full
pub ok_text-example : ok_text ++ full_text ≡ codes "ok\nerror full\n"
unfolding ok_text full_text
ok_text-example = refl

-- `alone` is a bare machine with the given CSRs
abbrev alone : CsrState → Target
alone csrs = Bare (record { hart = record { regs = []; pc = 0; mode = M; csrs = csrs }; memory = [] })

-- the reply of `csr` at reset: misa, mcycle, a number without a register, and mhartid; and mip if the timer line is raised
pub csr_reply-examples :
    csr_reply (alone at_reset) 0x301 ++ csr_reply (alone at_reset) 0xb00 ++ csr_reply (alone at_reset) 0x41 ++ csr_reply (alone at_reset) 0xf14
    ++ csr_reply (alone (record at_reset { timer = true })) 0x344 ≡
    codes "csr 301=40141100\ncsr b00=00000000\nerror csr\ncsr f14=00000000\ncsr 344=00000080\n"
unfolding csr_text no_csr_text hex_digits read_result csr_numbered csr_listing csr_of kept_bits
csr_reply-examples = refl

-- an entry for four bytes from 80000100 on, with permission to read and to execute
abbrev four_bytes : Entries
four_bytes = record { cfgs = 0x15 ∷ replicate 15 0; addrs = 0x20000040 ∷ replicate 15 0 }

-- `four_locked` is the entry of `four_bytes` with the L bit set
abbrev four_locked : Entries
four_locked = record { cfgs = 0x95 ∷ replicate 15 0; addrs = 0x20000040 ∷ replicate 15 0 }

-- the reply of `access` over 264 bytes of memory: the mode decides, and an address outside RAM comes first
pub access_reply-examples :
    access_reply (replicate 264 0) four_bytes M Read 0x800000fe Word ++ access_reply (replicate 264 0) four_bytes M Read 0x80000100 Word
    ++ access_reply (replicate 264 0) four_bytes U Fetch 0x80000102 Half ++ access_reply (replicate 264 0) four_bytes S Write 0x80000103 Byte
    ++ access_reply (replicate 264 0) four_bytes U Write 0x800000fc Word ++ access_reply (replicate 264 0) four_bytes M Write 0x800000fc Word
    ++ access_reply (replicate 264 0) four_bytes M Write 0x80000104 Word ++ access_reply (replicate 264 0) four_bytes M Write 0x80000105 Word
    ++ access_reply (replicate 258 0) four_bytes U Read 0x80000101 Half ++ access_reply (replicate 264 0) four_bytes U Read 0xfffffffe Word
    ++ access_reply (replicate 264 0) four_locked M Write 0x80000100 Word ≡
    codes "denied partial 0\nallowed entry 0\nallowed entry 0\ndenied entry 0\ndenied free\nallowed free\n"
    ++ codes "allowed free\ndenied outside\ndenied outside\ndenied outside\ndenied entry 0\n"
unfolding read verdict matching_entry covers verdict_text denied_outside_text
access_reply-examples = simp decimal-shown
