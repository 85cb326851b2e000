-- The listing has exactly the rows of the instructions: each row is listed, and each line of the listing is the row of an instruction.
use Rattle.std.proofs.Common.{◌≡◌, refl}
use Rattle.std.specs.Prelude.{map}
use Rattle.rv_encoding.specs.Listing.{listing, listed_of, IsListed}
use Rattle.rv_encoding.specs.Decoding.{samples}
use Rattle.rv_encoding.specs.declared.kind.BranchKind.TheVariants.{Beq, Bne, Blt, Bge, Bltu, Bgeu}
use Rattle.rv_encoding.specs.declared.kind.LoadKind.TheVariants.{Lb, Lh, Lw, Lbu, Lhu}
use Rattle.rv_encoding.specs.declared.kind.StoreKind.TheVariants.{Sb, Sh, Sw}
use Rattle.rv_encoding.specs.declared.kind.OpImmKind.TheVariants.{Addi, Slti, Sltiu, Xori, Ori, Andi}
use Rattle.rv_encoding.specs.declared.kind.ShiftKind.TheVariants.{Slli, Srli, Srai}
use Rattle.rv_encoding.specs.declared.kind.OpKind.TheVariants.{Add, Sub, Sll, Slt, Sltu, Xor, Srl, Sra, Or, And}
use Rattle.rv_encoding.specs.declared.kind.OpKind.TheVariants.{Mul, Mulh, Mulhsu, Mulhu, Div, Divu, Rem, Remu}
use Rattle.rv_encoding.specs.declared.kind.CsrKind.TheVariants.{Write, Set, Clear}
use Rattle.rv_encoding.specs.declared.instr.Instr.{Instr}
use Rattle.rv_encoding.specs.declared.instr.Instr.TheVariants.{Lui, Auipc, Jal, Jalr, Branch, Load, Store, OpImm, ShiftImm, Op, Fence}
use Rattle.rv_encoding.specs.declared.instr.Instr.TheVariants.{Csr, CsrImm, Ecall, Ebreak, Sret, Mret, Wfi, SfenceVma}

-- each row of the listing is that of one sample instruction, in the same order
pub listing_of_samples : listing ≡ map listed_of samples
unfolding listing
listing_of_samples = refl

-- each instruction has a row in the listing, with its name, mask and match; the number is the position of the row, from 0
pub is_listed : (instr : Instr) → IsListed instr
unfolding listing
is_listed (Lui rd imm) = (0, refl)
is_listed (Auipc rd imm) = (1, refl)
is_listed (Jal rd offset) = (2, refl)
is_listed (Jalr rd rs1 offset) = (3, refl)
is_listed (Branch Beq rs1 rs2 offset) = (4, refl)
is_listed (Branch Bne rs1 rs2 offset) = (5, refl)
is_listed (Branch Blt rs1 rs2 offset) = (6, refl)
is_listed (Branch Bge rs1 rs2 offset) = (7, refl)
is_listed (Branch Bltu rs1 rs2 offset) = (8, refl)
is_listed (Branch Bgeu rs1 rs2 offset) = (9, refl)
is_listed (Load Lb rd rs1 offset) = (10, refl)
is_listed (Load Lh rd rs1 offset) = (11, refl)
is_listed (Load Lw rd rs1 offset) = (12, refl)
is_listed (Load Lbu rd rs1 offset) = (13, refl)
is_listed (Load Lhu rd rs1 offset) = (14, refl)
is_listed (Store Sb rs1 rs2 offset) = (15, refl)
is_listed (Store Sh rs1 rs2 offset) = (16, refl)
is_listed (Store Sw rs1 rs2 offset) = (17, refl)
is_listed (OpImm Addi rd rs1 imm) = (18, refl)
is_listed (OpImm Slti rd rs1 imm) = (19, refl)
is_listed (OpImm Sltiu rd rs1 imm) = (20, refl)
is_listed (OpImm Xori rd rs1 imm) = (21, refl)
is_listed (OpImm Ori rd rs1 imm) = (22, refl)
is_listed (OpImm Andi rd rs1 imm) = (23, refl)
is_listed (ShiftImm Slli rd rs1 shamt) = (24, refl)
is_listed (ShiftImm Srli rd rs1 shamt) = (25, refl)
is_listed (ShiftImm Srai rd rs1 shamt) = (26, refl)
is_listed (Op Add rd rs1 rs2) = (27, refl)
is_listed (Op Sub rd rs1 rs2) = (28, refl)
is_listed (Op Sll rd rs1 rs2) = (29, refl)
is_listed (Op Slt rd rs1 rs2) = (30, refl)
is_listed (Op Sltu rd rs1 rs2) = (31, refl)
is_listed (Op Xor rd rs1 rs2) = (32, refl)
is_listed (Op Srl rd rs1 rs2) = (33, refl)
is_listed (Op Sra rd rs1 rs2) = (34, refl)
is_listed (Op Or rd rs1 rs2) = (35, refl)
is_listed (Op And rd rs1 rs2) = (36, refl)
is_listed (Fence fm pred succ rd rs1) = (37, refl)
is_listed Ecall = (38, refl)
is_listed Ebreak = (39, refl)
-- Zicsr
is_listed (Csr Write rd rs1 csr) = (40, refl)
is_listed (Csr Set rd rs1 csr) = (41, refl)
is_listed (Csr Clear rd rs1 csr) = (42, refl)
is_listed (CsrImm Write rd uimm csr) = (43, refl)
is_listed (CsrImm Set rd uimm csr) = (44, refl)
is_listed (CsrImm Clear rd uimm csr) = (45, refl)
-- RV32M
is_listed (Op Mul rd rs1 rs2) = (46, refl)
is_listed (Op Mulh rd rs1 rs2) = (47, refl)
is_listed (Op Mulhsu rd rs1 rs2) = (48, refl)
is_listed (Op Mulhu rd rs1 rs2) = (49, refl)
is_listed (Op Div rd rs1 rs2) = (50, refl)
is_listed (Op Divu rd rs1 rs2) = (51, refl)
is_listed (Op Rem rd rs1 rs2) = (52, refl)
is_listed (Op Remu rd rs1 rs2) = (53, refl)
is_listed Sret = (54, refl)
is_listed Mret = (55, refl)
is_listed Wfi = (56, refl)
is_listed (SfenceVma rs1 rs2) = (57, refl)
