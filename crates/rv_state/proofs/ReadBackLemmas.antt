-- After a CSR write the register reads the kept bits of the written word (`kept`), mostly the word under the register's mask.
use Rattle.std.proofs.Common.{◌≡◌, ℕ, zero, suc, ◌+◌, ◌*◌, ◌/◌, ◌^◌, ◌<◌, Bool, true, false}
use Rattle.std.proofs.Common.{Option, Some, None, Ok, Err, refl, sym, ap, ◌∙◌, arith}
use Rattle.std.specs.Prelude.{nat_lt, ◌==◌, if◌then◌else◌}
use Rattle.std.proofs.Math.Nat.{pow-suc}
use Rattle.rv_word.specs.Logic.{bit_list, word_of_bits, digit, and_by_bits}
use Rattle.rv_pmp.specs.Mode.{mode_number}
use Rattle.rv_word.specs.BitFields.{bits, is_set, flag}
use Rattle.rv_state.specs.Bits.{aligned_to_4}
use Rattle.rv_state.specs.Mstatus.{mstatus_word, mstatus_of, mode_of_mpp, sstatus_word, with_sstatus}
use Rattle.rv_state.specs.declared.mstatus.Mstatus.{Mstatus}
use Rattle.rv_state.specs.Counters.{with_low_half, with_high_half}
use Rattle.rv_state.specs.CsrState.{CsrState}
use Rattle.rv_state.specs.CsrTable.{vector_of, csr_of, reading, written, is_trapped, on_register, csr_numbered, least_mode}
use Rattle.rv_state.specs.CsrTable.{read_result, write_result}
use Rattle.rv_state.specs.Laws.{mstatus_mask, kept, kept_at, ReadsBack}
use Rattle.rv_state.specs.declared.csr_name.CsrName.{CsrName}
use Rattle.rv_state.specs.declared.csr_name.CsrName.TheVariants.{Sstatus, Stvec, Sscratch, Sepc, Scause, Stval, Satp}
use Rattle.rv_state.specs.declared.csr_name.CsrName.TheVariants.{Mstatus as NameMstatus, Misa, Mie, Mtvec, Mscratch, Mepc, Mcause, Mtval, Mip}
use Rattle.rv_state.specs.declared.csr_name.CsrName.TheVariants.{Pmpcfg, Pmpaddr, Mcycle, Minstret, Mcycleh, Minstreth, Mcountinhibit, Zero}
use Rattle.rv_state.specs.declared.csr_fault.CsrFault.TheVariants.{Privilege, Trapped}
use Rattle.rv_pmp.specs.declared.mode.Mode.{Mode}
use Rattle.rv_state.proofs.MaskLemmas.{digit_is_remainder, bits_from, bit_list-from, masked_word_is, enabled_is, software_is, software_again}
use Rattle.rv_state.proofs.MaskLemmas.{inhibited_is, mstatus_bits, mstatus_bits_without_mpp, sstatus_bits}
use Rattle.rv_state.proofs.MachinePartsLemmas.{checked_write, passed-checks}

-- ---- addresses (bits 1:0 cleared) and trap vectors (bit 1 cleared)

-- a word below 2 ^ count is the number of its `count` lowest bits; by induction over the bits
word_of_bit_list : (count word : ℕ) → word < 2 ^ count → word_of_bits (bit_list count word) ≡ word
word_of_bit_list zero word fits_count = omega arith
word_of_bit_list (suc count) word fits_count =
    let upper_bits = word_of_bit_list count (word / 2) (omega (arith, pow-suc 2 count)) in
    omega (arith, upper_bits, digit_is_remainder word)

-- the bits of a word from bit 2 up are the bits of the word shifted right by 2
bits_from_2 : (word : ℕ) → word < 2 ^ 32 → word_of_bits (bits_from 30 2 word) ≡ word / 4
bits_from_2 word is_32_bits = ap word_of_bits (sym (bit_list-from 30 2 word)) ∙ word_of_bit_list 30 (word / 4) (omega arith)

-- a word rounded down to a multiple of 4 is the word under the mask that clears bits 1:0
pub aligned-is : (word : ℕ) → word < 2 ^ 32 → aligned_to_4 word ≡ and_by_bits word 0xFFFFFFFC
aligned-is word is_32_bits = omega (arith, bits_from_2 word is_32_bits, masked_word_is word 0xFFFFFFFC)

-- a trap vector is the written word under the mask that clears bit 1
vector-is : (word : ℕ) → word < 2 ^ 32 → vector_of word ≡ and_by_bits word 0xFFFFFFFD
vector-is word is_32_bits = omega (arith, bits_from_2 word is_32_bits, masked_word_is word 0xFFFFFFFD, digit_is_remainder (word / 2 ^ 0))

-- ---- sstatus and mstatus

-- sstatus reads as the written word under its mask, which has the bits SIE, SPIE, SPP and MXR
pub sstatus-kept : (status : Mstatus) (word : ℕ) → sstatus_word (with_sstatus status word) ≡ and_by_bits word sstatus_bits
sstatus-kept status word = omega (arith, masked_word_is word sstatus_bits)

-- a write of the two bits of MPP stores the mode with this number; 2 is no mode's number, and U (number 0) is stored instead
mpp-number : (two_bits : ℕ) → two_bits < 4 → mode_number (mode_of_mpp two_bits) ≡ (if two_bits == 2 then 0 else two_bits)
mpp-number zero is_below_4 = refl
mpp-number (suc zero) is_below_4 = refl
mpp-number (suc (suc zero)) is_below_4 = refl
mpp-number (suc (suc (suc zero))) is_below_4 = refl
mpp-number (suc (suc (suc (suc beyond)))) is_below_4 = absurd (omega arith)

-- MPP (bits 12:11) is bit 11 plus twice bit 12
mpp-digits : (word : ℕ) → bits word 12 11 ≡ digit (is_set word 11) + 2 * digit (is_set word 12)
mpp-digits word = omega (arith, digit_is_remainder (word / 2 ^ 11), digit_is_remainder (word / 2 ^ 12))

-- mstatus reads as the written word under its mask. The mask has bits 12:11 (MPP), unless the word has the number 2 there: then MPP reads 0.
mstatus-kept-by : (word : ℕ) (is_two : Bool) → (bits word 12 11 == 2) ≡ is_two
    → mstatus_word (mstatus_of word) ≡ and_by_bits word (if is_two then mstatus_bits_without_mpp else mstatus_bits)
mstatus-kept-by word true mpp_test =
    let stored_mpp : mode_number (mode_of_mpp (bits word 12 11)) ≡ 0 =
    mpp-number (bits word 12 11) (omega arith) ∙ ap (λ (is_two : Bool). if is_two then 0 else bits word 12 11) mpp_test
    in
    omega (arith, stored_mpp, masked_word_is word mstatus_bits_without_mpp)
mstatus-kept-by word false mpp_test =
    let stored_mpp : mode_number (mode_of_mpp (bits word 12 11)) ≡ bits word 12 11 =
    mpp-number (bits word 12 11) (omega arith) ∙ ap (λ (is_two : Bool). if is_two then 0 else bits word 12 11) mpp_test
    in
    omega (arith, stored_mpp, mpp-digits word, masked_word_is word mstatus_bits)

-- mstatus reads as the written word under its mask, for each value of MPP
pub mstatus-kept : (word : ℕ) → mstatus_word (mstatus_of word) ≡ and_by_bits word (mstatus_mask word)
mstatus-kept word = mstatus-kept-by word (bits word 12 11 == 2) refl

-- ---- every register

-- the low half of a counter after a write of the low half is the written word
low-half : (counter word : ℕ) → word < 2 ^ 32 → bits (with_low_half counter word) 31 0 ≡ word
low-half counter word is_32_bits = omega arith

-- the high half of a counter after a write of the high half is the written word
high-half : (counter word : ℕ) → word < 2 ^ 32 → bits (with_high_half counter word) 63 32 ≡ word
high-half counter word is_32_bits = omega arith

-- after a write each register reads as the kept bits of the written word; many hold by computation
reading-written : (name : CsrName) (word : ℕ) (csrs : CsrState) → word < 2 ^ 32 → reading name (written name word csrs) ≡ kept name word csrs
unfolding csr_of
reading-written Sstatus word csrs is_32_bits = sstatus-kept csrs.mstatus word
reading-written Stvec word csrs is_32_bits = vector-is word is_32_bits
reading-written Sscratch word csrs is_32_bits = refl
reading-written Sepc word csrs is_32_bits = aligned-is word is_32_bits
reading-written Scause word csrs is_32_bits = refl
reading-written Stval word csrs is_32_bits = refl
reading-written Satp word csrs is_32_bits = refl
reading-written NameMstatus word csrs is_32_bits = mstatus-kept word
reading-written Misa word csrs is_32_bits = refl
reading-written Mie word csrs is_32_bits = sym (enabled_is word)
reading-written Mtvec word csrs is_32_bits = vector-is word is_32_bits
reading-written Mscratch word csrs is_32_bits = refl
reading-written Mepc word csrs is_32_bits = aligned-is word is_32_bits
reading-written Mcause word csrs is_32_bits = refl
reading-written Mtval word csrs is_32_bits = refl
reading-written Mip word csrs is_32_bits = ap (λ software_bits. software_bits + flag 7 csrs.timer) (software_again word ∙ sym (software_is word))
reading-written (Pmpcfg register) word csrs is_32_bits = refl
reading-written (Pmpaddr entry) word csrs is_32_bits = refl
reading-written Mcycle word csrs is_32_bits = low-half csrs.mcycle word is_32_bits
reading-written Minstret word csrs is_32_bits = low-half csrs.minstret word is_32_bits
reading-written Mcycleh word csrs is_32_bits = high-half csrs.mcycle word is_32_bits
reading-written Minstreth word csrs is_32_bits = high-half csrs.minstret word is_32_bits
reading-written Mcountinhibit word csrs is_32_bits = sym (inhibited_is word)
reading-written Zero word csrs is_32_bits = refl

-- If TVM does not trap an access before a write to this register, it does not after the write. Only accesses to satp can be trapped, and a write
-- to satp changes nothing.
trapped-after : (name : CsrName) (word : ℕ) (mode : Mode) (csrs : CsrState) → is_trapped name mode csrs ≡ false
    → is_trapped name mode (written name word csrs) ≡ false
unfolding csr_of
trapped-after Satp word mode csrs not_trapped = not_trapped
trapped-after _ word mode csrs not_trapped = refl

-- a write that is Ok is read back; `register` is the register of the number, if there is one
register-reads-back : (register : Option CsrName) (before after : CsrState) (number word : ℕ) (mode : Mode) → word < 2 ^ 32
    → on_register register (checked_write before number word mode) ≡ Ok after
    → on_register register (λ name.
    if nat_lt (mode_number mode) (least_mode number) then Err Privilege
    else (if is_trapped name mode after then Err Trapped else Ok (reading name after)))
    ≡ Ok (kept_at register word before)
register-reads-back None before after number word mode is_32_bits write_is = cc
register-reads-back (Some name) before after number word mode is_32_bits write_is =
    let passed = passed-checks before number word mode name after write_is in
    let not_trapped_after = trapped-after name word mode before passed.not_trapped in
    rw (passed.mode_allows, ← passed.written_is, not_trapped_after, reading-written name word before is_32_bits) refl

-- after a CSR write that is Ok, a read in the same mode returns the kept bits of the written word
pub write_reads_back : (before after : CsrState) (number word : ℕ) (mode : Mode) → word < 2 ^ 32
    → write_result before number word mode ≡ Ok after → ReadsBack before after number word mode
unfolding write_result read_result ReadsBack
write_reads_back before after number word mode is_32_bits write_is =
    register-reads-back (csr_numbered number) before after number word mode is_32_bits write_is
