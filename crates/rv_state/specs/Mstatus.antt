-- The fields of mstatus and sstatus (RISC-V Privileged Architecture 20211203, sections 3.1.6 and 4.1.1). Every bit outside these fields reads 0
-- and ignores writes: SUM, FS, VS, XS, SD and UBE are 0.
use Rattle.std.specs.Prelude.{ℕ, ◌+◌, ◌*◌, ◌^◌, ◌==◌, false, if◌then◌else◌}
use Rattle.rv_pmp.specs.declared.mode.Mode.{Mode}
use Rattle.rv_pmp.specs.declared.mode.Mode.TheVariants.{U, S, M}
use Rattle.rv_pmp.specs.Mode.{mode_number}
use Rattle.rv_word.specs.BitFields.{bits, is_set, flag}
use Rattle.rv_state.specs.declared.mstatus.Mstatus.{Mstatus}

-- ---- the bit of each field (figure 3.6); for MPP the lower of its two bits

-- SIE: interrupts are enabled in mode S
abbrev pub sie_bit : ℕ
sie_bit = 1

-- MIE: interrupts are enabled in mode M
abbrev pub mie_bit : ℕ
mie_bit = 3

-- SPIE: SIE before the trap to mode S
abbrev pub spie_bit : ℕ
spie_bit = 5

-- MPIE: MIE before the trap to mode M
abbrev pub mpie_bit : ℕ
mpie_bit = 7

-- SPP: the mode before the trap to mode S (one bit)
abbrev pub spp_bit : ℕ
spp_bit = 8

-- MPP: the mode before the trap to mode M (two bits)
abbrev pub mpp_bit : ℕ
mpp_bit = 11

-- MPRV: loads and stores are checked in the mode MPP
abbrev pub mprv_bit : ℕ
mprv_bit = 17

-- MXR: loads from executable pages are permitted
abbrev pub mxr_bit : ℕ
mxr_bit = 19

-- TVM: satp is trapped in mode S
abbrev pub tvm_bit : ℕ
tvm_bit = 20

-- TW: wfi is trapped below mode M
abbrev pub tw_bit : ℕ
tw_bit = 21

-- TSR: sret is trapped in mode S
abbrev pub tsr_bit : ℕ
tsr_bit = 22

-- ---- mstatus

-- the word that mstatus reads
abbrev pub mstatus_word : Mstatus → ℕ
mstatus_word status =
    flag sie_bit status.sie + flag mie_bit status.mie + flag spie_bit status.spie + flag mpie_bit status.mpie + flag spp_bit status.spp
    + mode_number status.mpp * 2 ^ mpp_bit + flag mprv_bit status.mprv + flag mxr_bit status.mxr + flag tvm_bit status.tvm + flag tw_bit status.tw
    + flag tsr_bit status.tsr

-- the mode after a write to MPP; 2 is no mode, and 0 is stored instead
abbrev pub mode_of_mpp : ℕ → Mode
mode_of_mpp two_bits = if two_bits == 3 then M else (if two_bits == 1 then S else U)

-- the fields after a write to mstatus
abbrev pub mstatus_of : ℕ → Mstatus
mstatus_of word = record {
  sie = is_set word sie_bit;
  mie = is_set word mie_bit;
  spie = is_set word spie_bit;
  mpie = is_set word mpie_bit;
  spp = is_set word spp_bit;
  mpp = mode_of_mpp (bits word (mpp_bit + 1) mpp_bit);
  mprv = is_set word mprv_bit;
  mxr = is_set word mxr_bit;
  tvm = is_set word tvm_bit;
  tw = is_set word tw_bit;
  tsr = is_set word tsr_bit;
}

-- all fields of mstatus are 0 at reset
abbrev pub mstatus_at_reset : Mstatus
mstatus_at_reset = record {
  sie = false;
  mie = false;
  spie = false;
  mpie = false;
  spp = false;
  mpp = U;
  mprv = false;
  mxr = false;
  tvm = false;
  tw = false;
  tsr = false;
}

-- ---- sstatus

-- the word that sstatus reads: four of the fields
abbrev pub sstatus_word : Mstatus → ℕ
sstatus_word status = flag sie_bit status.sie + flag spie_bit status.spie + flag spp_bit status.spp + flag mxr_bit status.mxr

-- the fields after a write to sstatus: it changes those four only
abbrev pub with_sstatus : Mstatus → ℕ → Mstatus
with_sstatus status word =
    record status { sie = is_set word sie_bit; spie = is_set word spie_bit; spp = is_set word spp_bit; mxr = is_set word mxr_bit }
