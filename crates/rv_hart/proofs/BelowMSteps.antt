-- Below mode M, with MPRV 0, a step depends on no register of mode M. It depends on the PMP entries only by what they permit.
use Rattle.std.proofs.Common.{◌≡◌, ℕ, Bool, List, Option, Some, None, Result, Ok, Err, true, false, refl, sym, ◌∙◌, subst, ap}
use Rattle.std.specs.Prelude.{◌%◌, ◌==◌, IfNone, IfSome, if◌then◌else◌}
use Rattle.rv_word.specs.BitFields.{sign_extended}
use Rattle.rv_word.specs.declared.width.Width.{Width}
use Rattle.rv_encoding.specs.declared.instr.Instr.{Instr}
use Rattle.rv_encoding.specs.declared.instr.Instr.TheVariants.{Lui, Auipc, Jal, Jalr, Branch, Load, Store, OpImm, ShiftImm, Op, Fence}
use Rattle.rv_encoding.specs.declared.instr.Instr.TheVariants.{Csr, CsrImm, Ecall, Ebreak, Sret, Mret, Wfi, SfenceVma}
use Rattle.rv_encoding.specs.declared.kind.CsrKind.{CsrKind}
use Rattle.rv_memory.specs.Accesses.{loaded, fetched, stored}
use Rattle.rv_memory.specs.declared.touched.Touched.{Touched}
use Rattle.rv_state.specs.CsrState.{CsrState}
use Rattle.rv_state.specs.CsrTable.{write_result}
use Rattle.rv_state.specs.Interrupts.{is_machine, pending}
use Rattle.rv_state.specs.Registers.{register, with_register}
use Rattle.rv_state.specs.declared.csr_fault.CsrFault.{CsrFault}
use Rattle.rv_hart.specs.Arithmetic.{sum_of, is_taken}
use Rattle.rv_hart.specs.CsrInstructions.{is_read, is_written, changed_word, old_word, new_csrs, unless_fault, csr_changed, written_csr}
use Rattle.rv_memory.specs.declared.access_fault.AccessFault.{AccessFault}
use Rattle.rv_state.specs.declared.cause.Exception.TheVariants.{InstructionAccessFault, LoadAccessFault, StoreAccessFault}
use Rattle.rv_hart.specs.Exceptions.{access_fault, illegal, misaligned}
use Rattle.rv_hart.specs.Hart.{advanced, branched, jumped, step_counted, trapped, with_result}
use Rattle.rv_hart.specs.HartRecord.{Hart}
use Rattle.rv_hart.specs.Instructions.{request, executed, where_allowed, unless_refused, unless_illegal, returned_from_machine}
use Rattle.rv_hart.specs.Instructions.{returned_from_supervisor, address_of, made_even}
use Rattle.rv_hart.specs.Machine.{Machine, Stepped, over}
use Rattle.rv_hart.specs.Step.{step, from_access, from_decode, from_fetch, retired_or_trapped, data_mode, from_execute, fetch_of, load_of}
use Rattle.rv_hart.specs.Step.{nothing, store_of, trap_end}
use Rattle.rv_hart.specs.declared.request.Request.{Request}
use Rattle.rv_hart.specs.declared.request.Request.TheVariants as requests
use Rattle.rv_hart.specs.StepLaws.{StaysBelow}
use Rattle.rv_hart.specs.declared.trap.StepOutcome.{StepOutcome}
use Rattle.rv_hart.specs.declared.trap.Trap.{Trap}
use Rattle.rv_hart.proofs.StepLaws.{keeps_machine_parts, trap_keeps}
use Rattle.rv_state.specs.MachineParts.{machine_parts}
use Rattle.rv_hart.proofs.StepCases.{Requests, requested_step, step_ways}
use Rattle.rv_hart.specs.GuestView.{DependsBelowM, SameAccess, SameBelowM, below_m_hart, given, guest_hart}
use Rattle.rv_state.specs.GuestCsrs.{below_m_csrs}
use Rattle.rv_state.proofs.BelowMLemmas.{read_same, visible_csrs, write_same}

-- ---- an instruction

-- `seen` is the result of an instruction as modes S and U see it: the hart without the registers of mode M, or the trap
abbrev seen : Result Hart Trap → Result Hart Trap
seen (Ok hart) = Ok (below_m_hart hart)
seen (Err trap) = Err trap

-- the results that one test selects in two harts are seen alike if the harts are equal without the registers of mode M
picked-alike : (holds : Bool) (first second : Hart) (trap : Trap) → below_m_hart first ≡ below_m_hart second
    → seen (if holds then Ok first else Err trap) ≡ seen (if holds then Ok second else Err trap)
picked-alike true first second trap same_below_m = ap (λ (hart : Hart). let result : Result Hart Trap = Ok hart in result) same_below_m
picked-alike false first second trap same_below_m = refl

-- an instruction of a hart below mode M
module _ (hart : Hart) (below_m : is_machine hart.mode ≡ false) where
  -- `stripped` is the hart without the registers of mode M
  abbrev stripped : Hart
  stripped = below_m_hart hart

  -- a jump has the same result, as S and U see it, in the hart and in the stripped hart
  jumped_same : (rd target : ℕ) → seen (jumped stripped rd target) ≡ seen (jumped hart rd target)
  jumped_same rd target =
      picked-alike (target % 4 == 0) (record stripped { regs = with_register stripped.regs rd (sum_of stripped.pc 4); pc = target })
      (record hart { regs = with_register hart.regs rd (sum_of hart.pc 4); pc = target }) (misaligned target) refl

  -- a branch has the same result in both harts
  branched_same : (taken : Bool) (target : ℕ) → seen (branched stripped taken target) ≡ seen (branched hart taken target)
  branched_same false target = refl
  branched_same true target = picked-alike (target % 4 == 0) (record stripped { pc = target }) (record hart { pc = target }) (misaligned target) refl

  -- an instruction that needs a permission has the same result in two harts
  abbrev allows : Bool → ℕ → Hart → Hart → Type 0
  allows allowed word first second = seen (where_allowed allowed word first) ≡ seen (where_allowed allowed word second)

  -- an instruction that needs a permission has the same result in two harts that are equal without the registers of mode M
  allowed_same : (allowed : Bool) (word : ℕ) (first second : Hart) → below_m_hart first ≡ below_m_hart second → allows allowed word first second
  allowed_same allowed word first second same_below_m = picked-alike allowed first second (illegal word) same_below_m

  -- an instruction that needs mode M is illegal below mode M, in both harts
  machine_same : (machine : Bool) (word : ℕ) (first second : Hart) → machine ≡ false → allows machine word first second
  machine_same machine word first second not_machine = rw not_machine refl

  -- a CSR instruction of the hart
  module _ (kind : CsrKind) (rd source operand csr word : ℕ) where
    -- the word that a CSR instruction reads is the same in both harts
    old_same : old_word stripped kind rd csr ≡ old_word hart kind rd csr
    old_same = ap (λ (read : Result ℕ CsrFault). if is_read kind rd then read else Ok 0) (read_same hart.csrs csr hart.mode below_m)

    -- the registers after a CSR instruction are the same in both harts, as S and U see them, whether it writes or not
    new_if : (writes : Bool) (written : ℕ) → visible_csrs (if writes then write_result stripped.csrs csr written stripped.mode else Ok stripped.csrs)
        ≡ visible_csrs (if writes then write_result hart.csrs csr written hart.mode else Ok hart.csrs)
    new_if true written = write_same hart.csrs csr written hart.mode
    new_if false written = refl

    -- the hart after a CSR instruction is seen alike, if the registers after its write are
    same-after-write : (old : ℕ) (stripped_result result : Result CsrState CsrFault) → visible_csrs stripped_result ≡ visible_csrs result
        → seen (unless_illegal word (unless_fault stripped_result (λ csrs. Ok (with_result (record stripped { csrs = csrs }) rd old))))
        ≡ seen (unless_illegal word (unless_fault result (λ csrs. Ok (with_result (record hart { csrs = csrs }) rd old))))
    same-after-write old (Ok first) (Ok second) same_csrs =
        let below_m_csrs_is : below_m_csrs first ≡ below_m_csrs second = cc in
        ap (λ (csrs : CsrState). let result : Result Hart Trap = Ok (with_result (record hart { csrs = csrs }) rd old) in result) below_m_csrs_is
    same-after-write old (Err first) (Err second) same_csrs = refl
    same-after-write old (Ok first) (Err second) same_csrs = cc
    same-after-write old (Err first) (Ok second) same_csrs = cc

    -- the hart after a CSR instruction is seen alike, whatever the read of the old word returns
    same-after-read : (read : Result ℕ CsrFault)
        → seen (unless_illegal word (unless_fault read (λ old. unless_fault (new_csrs stripped kind source (changed_word kind old operand) csr)
        (λ csrs. Ok (with_result (record stripped { csrs = csrs }) rd old)))))
        ≡ seen (unless_illegal word (unless_fault read (λ old. unless_fault (new_csrs hart kind source (changed_word kind old operand) csr)
        (λ csrs. Ok (with_result (record hart { csrs = csrs }) rd old)))))
    same-after-read (Err fault) = refl
    same-after-read (Ok old) =
        same-after-write old (new_csrs stripped kind source (changed_word kind old operand) csr)
        (new_csrs hart kind source (changed_word kind old operand) csr) (new_if (is_written kind source) (changed_word kind old operand))

    -- a CSR instruction has the same result in both harts
    csr_same : seen (unless_illegal word (csr_changed stripped kind rd source operand csr)) ≡ seen
        (unless_illegal word (csr_changed hart kind rd source operand csr))
    unfolding csr_changed
    csr_same =
        ap (λ (read : Result ℕ CsrFault). seen (unless_illegal word (unless_fault read (λ old.
        unless_fault (new_csrs stripped kind source (changed_word kind old operand) csr)
        (λ csrs. Ok (with_result (record stripped { csrs = csrs }) rd old)))))) old_same ∙ same-after-read (old_word hart kind rd csr)

  -- each instruction has the same result in both harts, as S and U see it
  executed_same : (instr : Instr) (word loaded : ℕ) → seen (executed stripped word loaded instr) ≡ seen (executed hart word loaded instr)
  unfolding executed
  executed_same (Lui rd imm) word loaded = refl
  executed_same (Auipc rd imm) word loaded = refl
  executed_same (Jal rd offset) word loaded = jumped_same rd (sum_of hart.pc (sign_extended offset 21))
  executed_same (Jalr rd rs1 offset) word loaded = jumped_same rd (made_even (address_of hart rs1 offset))
  executed_same (Branch kind rs1 rs2 offset) word loaded =
      branched_same (is_taken kind (register hart.regs rs1) (register hart.regs rs2)) (sum_of hart.pc (sign_extended offset 13))
  executed_same (Load kind rd rs1 offset) word loaded = refl
  executed_same (Store kind rs1 rs2 offset) word loaded = refl
  executed_same (OpImm kind rd rs1 imm) word loaded = refl
  executed_same (ShiftImm kind rd rs1 shamt) word loaded = refl
  executed_same (Op kind rd rs1 rs2) word loaded = refl
  executed_same (Fence fm pred succ rd rs1) word loaded = refl
  executed_same (Csr kind rd rs1 csr) word loaded = csr_same kind rd rs1 (register hart.regs rs1) csr word
  executed_same (CsrImm kind rd uimm csr) word loaded = csr_same kind rd uimm uimm csr word
  executed_same Ecall word loaded = refl
  executed_same Ebreak word loaded = refl
  executed_same Sret word loaded =
      allowed_same (unless_refused hart.mode hart.csrs.mstatus.tsr) word (returned_from_supervisor stripped) (returned_from_supervisor hart) refl
  executed_same Mret word loaded = machine_same (is_machine hart.mode) word (returned_from_machine stripped) (returned_from_machine hart) below_m
  executed_same Wfi word loaded = allowed_same (unless_refused hart.mode hart.csrs.mstatus.tw) word (advanced stripped) (advanced hart) refl
  executed_same (SfenceVma rs1 rs2) word loaded =
      allowed_same (unless_refused hart.mode hart.csrs.mstatus.tvm) word (advanced stripped) (advanced hart) refl

-- ---- the step

-- `merged_csrs` has the registers of `seen_csrs`, but those of mode M from `m_csrs`
abbrev merged_csrs : CsrState → CsrState → CsrState
merged_csrs seen_csrs m_csrs = record seen_csrs {
  mstatus = record seen_csrs.mstatus { mpie = m_csrs.mstatus.mpie; mpp = m_csrs.mstatus.mpp };
  mie = m_csrs.mie;
  mtvec = m_csrs.mtvec;
  mcountinhibit = m_csrs.mcountinhibit;
  mscratch = m_csrs.mscratch;
  mepc = m_csrs.mepc;
  mcause = m_csrs.mcause;
  mtval = m_csrs.mtval;
  software_pending = m_csrs.software_pending;
  pmp = m_csrs.pmp;
  mcycle = m_csrs.mcycle;
  minstret = m_csrs.minstret;
}

-- `with_m_csrs` is the hart with the registers of mode M from `m_csrs`
abbrev with_m_csrs : Hart → CsrState → Hart
with_m_csrs hart m_csrs = record hart { csrs = merged_csrs hart.csrs m_csrs }

-- the access that an instruction requests does not depend on the registers of mode M
same_request : (instr : Instr) (hart : Hart) (m_csrs : CsrState) → request instr (with_m_csrs hart m_csrs) ≡ request instr hart
unfolding request
same_request (Load kind rd rs1 offset) hart m_csrs = refl
same_request (Store kind rs1 rs2 offset) hart m_csrs = refl
same_request _ hart m_csrs = refl

-- if `given` finds a value in a result, the result is Ok with this value
ok-if-given : {A : Type 0} (result : Result A AccessFault) (value : A) → Some value ≡ given result → result ≡ Ok value
ok-if-given (Ok found) value given_is = let value_is : value ≡ found = cc in ap (λ found_value. Ok found_value) (sym value_is)
ok-if-given (Err fault) value given_is = cc

-- two steps end alike, as S and U see them, if the results of their instructions are seen alike
ends-alike : (hart other_hart : Hart) (memory : List ℕ) (touched : Touched) (written : Option ℕ) (other_result result : Result Hart Trap)
    → seen other_result ≡ seen result
    → SameBelowM (over memory (retired_or_trapped hart touched written result))
    (over memory (retired_or_trapped other_hart touched written other_result))
unfolding retired_or_trapped
ends-alike hart other_hart memory touched written (Ok other_after) (Ok after) seen_alike =
    let below_m_hart_is : below_m_hart other_after ≡ below_m_hart after = cc in
    record { outcome = refl; memory = refl; hart = λ no_trap. sym below_m_hart_is }
ends-alike hart other_hart memory touched written (Err other_trap) (Err trap) seen_alike =
    let same_trap : other_trap ≡ trap = cc in rw same_trap (record { outcome = refl; memory = refl; hart = λ no_trap. cc })
ends-alike hart other_hart memory touched written (Ok other_after) (Err trap) seen_alike = cc
ends-alike hart other_hart memory touched written (Err other_trap) (Ok after) seen_alike = cc

-- a step of a machine below mode M with MPRV 0
module _ (state : Machine) (m_csrs : CsrState) (below_m : is_machine state.hart.mode ≡ false) (mprv_is_0 : state.hart.csrs.mstatus.mprv ≡ false) where
  -- `other` is the machine with other registers of mode M
  abbrev other : Machine
  other = record state { hart = with_m_csrs state.hart m_csrs }

  -- both machines have the same pending interrupt, and permit the same accesses
  module _ (access : SameAccess state other) where
    -- the instruction has the same result in both machines, as S and U see it
    both_executed : (instr : Instr) (word loaded : ℕ) → seen (executed other.hart word loaded instr) ≡ seen (executed state.hart word loaded instr)
    both_executed instr word loaded =
        sym (executed_same other.hart below_m instr word loaded) ∙ executed_same state.hart below_m instr word loaded

    -- the steps end alike, if the step of the other machine ends with the same instruction
    by_executed : (memory : List ℕ) (touched : Touched) (word loaded : ℕ) (instr : Instr) (other_step : Stepped)
        → other_step ≡ over memory (from_execute other.hart touched word instr loaded)
        → SameBelowM (over memory (from_execute state.hart touched word instr loaded)) other_step
    by_executed memory touched word loaded instr other_step other_step_is =
        rw other_step_is (ends-alike state.hart other.hart memory touched (written_csr instr) (executed other.hart word loaded instr)
        (executed state.hart word loaded instr) (both_executed instr word loaded))

    -- the fetch returns the same word in both machines
    fetches_too : (word : ℕ) → fetched state.memory state.hart.csrs.pmp state.hart.mode state.hart.pc ≡ Ok word
        → fetched other.memory other.hart.csrs.pmp other.hart.mode other.hart.pc ≡ Ok word
    fetches_too word fetch_is = ok-if-given _ word (sym (ap given fetch_is) ∙ access.fetched)

    -- the fetched word decodes to the same instruction, which requests the same access, in both machines
    requests_too : (word : ℕ) (instr : Instr) (access_requested : Request) → Requests state word instr access_requested
        → Requests other word instr access_requested
    requests_too word instr access_requested requested = record {
      decode = record {
        fetch = record { pending = sym access.pending ∙ requested.decode.fetch.pending; fetched = fetches_too word requested.decode.fetch.fetched };
        decoded = requested.decode.decoded;
      };
      request = same_request instr state.hart m_csrs ∙ requested.request;
    }

    -- the step of the other machine ends in this trap
    abbrev Trapped : Touched → Trap → Type 0
    Trapped touched trap = SameBelowM (over state.memory (trap_end state.hart touched trap)) (step other)

    -- if the fetch of the other machine fails, its step ends in the trap of this fault
    no_fetch : (result : Result ℕ AccessFault) → fetched other.memory other.hart.csrs.pmp other.hart.mode other.hart.pc ≡ result → None ≡ given result
        → pending other.hart.csrs other.hart.mode ≡ None → Trapped nothing (access_fault InstructionAccessFault state.hart.pc)
    unfolding step from_fetch
    no_fetch (Ok word) fetch_is none_given none_pending = cc
    no_fetch (Err fault) fetch_is none_given none_pending =
        rw (none_pending, fetch_is) (record { outcome = refl; memory = refl; hart = λ no_trap. cc })

    -- if the load of the other machine fails, its step ends in the trap of this fault
    no_load : (word : ℕ) (instr : Instr) (address : ℕ) (width : Width) (result : Result ℕ AccessFault)
        → loaded other.memory other.hart.csrs.pmp (data_mode other.hart) address width ≡ result → None ≡ given result
        → step other ≡ from_access other.hart other.memory word instr (requests.Load address width)
        → Trapped (fetch_of state.hart) (access_fault LoadAccessFault address)
    unfolding from_access
    no_load word instr address width (Ok number) load_is none_given other_step_is = cc
    no_load word instr address width (Err fault) load_is none_given other_step_is =
        let ended = rw load_is at other_step_is in rw ended (record { outcome = refl; memory = refl; hart = λ no_trap. cc })

    -- if the store of the other machine fails, its step ends in the trap of this fault
    no_store : (word : ℕ) (instr : Instr) (address : ℕ) (width : Width) (value : ℕ) (result : Result (List ℕ) AccessFault)
        → stored other.memory other.hart.csrs.pmp (data_mode other.hart) address width value ≡ result → None ≡ given result
        → step other ≡ from_access other.hart other.memory word instr (requests.Store address width value)
        → Trapped (fetch_of state.hart) (access_fault StoreAccessFault address)
    unfolding from_access
    no_store word instr address width value (Ok memory) store_is none_given other_step_is = cc
    no_store word instr address width value (Err fault) store_is none_given other_step_is =
        let ended = rw store_is at other_step_is in rw ended (record { outcome = refl; memory = refl; hart = λ no_trap. cc })

    -- the steps of both machines are the same, as S and U see them: the other machine takes the same case
    both_step : SameBelowM (step state) (step other)
    unfolding step from_fetch from_decode from_access
    -- in each case, the first machine takes a way and the other machine takes the same one
    both_step = step_ways state (λ after. SameBelowM after (step other)) (record {
      interrupt = λ interrupt pending_is.
          let same_pending : pending other.hart.csrs other.hart.mode ≡ Some interrupt = sym access.pending ∙ pending_is in
          rw same_pending (record { outcome = refl; memory = refl; hart = λ no_trap. cc });
      fetch_refused = λ fault fetch_is. no_fetch _ refl (sym (ap given fetch_is.fetched) ∙ access.fetched) (sym access.pending ∙ fetch_is.pending);
      illegal = λ word decode_is.
          let none_pending : pending other.hart.csrs other.hart.mode ≡ None = sym access.pending ∙ decode_is.fetch.pending in
          let word_is_fetched = fetches_too word decode_is.fetch.fetched in
          rw (none_pending, word_is_fetched, decode_is.decoded) (record { outcome = refl; memory = refl; hart = λ no_trap. cc });
      no_access = λ word instr requested.
          by_executed state.memory (fetch_of state.hart) word 0 instr (step other)
          (requested_step other word instr requests.Nothing (requests_too word instr requests.Nothing requested));
      load = λ word instr address width number requested loads_number.
          let other_step_is = requested_step other word instr (requests.Load address width)
          (requests_too word instr (requests.Load address width) requested) in
          let load_is = ok-if-given (loaded other.memory other.hart.csrs.pmp (data_mode other.hart) address width) number
          (sym (ap given loads_number) ∙ access.loaded address width) in
          by_executed state.memory (load_of state.hart address width) word number instr (step other) (rw load_is at other_step_is);
      load_refused = λ word instr address width fault requested not_loaded.
          no_load word instr address width _ refl (sym (ap given not_loaded) ∙ access.loaded address width)
          (requested_step other word instr (requests.Load address width) (requests_too word instr (requests.Load address width) requested));
      store = λ word instr address width value memory requested stores_memory.
          let other_step_is = requested_step other word instr (requests.Store address width value)
          (requests_too word instr (requests.Store address width value) requested) in
          let store_is = ok-if-given (stored other.memory other.hart.csrs.pmp (data_mode other.hart) address width value) memory
          (sym (ap given stores_memory) ∙ access.stored address width value) in
          by_executed memory (store_of state.hart address width) word 0 instr (step other) (rw store_is at other_step_is);
      store_refused = λ word instr address width value fault requested not_stored.
          no_store word instr address width value _ refl (sym (ap given not_stored) ∙ access.stored address width value)
          (requested_step other word instr (requests.Store address width value)
          (requests_too word instr (requests.Store address width value) requested));
    })

-- below mode M, a step depends on no register of mode M, and on the PMP entries only by what they permit
pub depends_below_m : (machine : Machine) → DependsBelowM machine (step machine)
depends_below_m machine other below_m mprv_is_0 same_below_m same_memory same_access =
    let with_hart : Hart → Machine = λ hart. record { hart = hart; memory = machine.memory } in
    let hart_is : with_m_csrs machine.hart other.hart.csrs ≡ other.hart = ap (λ (hart : Hart). with_m_csrs hart other.hart.csrs) same_below_m in
    let other_is : record machine { hart = with_m_csrs machine.hart other.hart.csrs } ≡ other =
    ap with_hart hart_is ∙ ap (λ (memory : List ℕ). let state : Machine = record { hart = other.hart; memory = memory } in state) same_memory in
    subst (λ (state : Machine). SameBelowM (step machine) (step state)) other_is
    (both_step machine other.hart.csrs below_m mprv_is_0 (subst (SameAccess machine) (sym other_is) same_access))

-- ---- the registers that a trap writes

-- the outcomes and the memories are equal, and so are the harts, except for the counters and the registers that a trap to mode M writes
pub record SameToGuests (first second : Stepped) : Type 0 where
  -- the outcomes are equal
  pub outcome : first.outcome ≡ second.outcome
  -- the memories are equal
  pub memory : first.state.memory ≡ second.state.memory
  -- the harts are equal in the guest view
  pub hart : guest_hart first.state.hart ≡ guest_hart second.state.hart

-- `guest_machine` is the machine with its hart in the guest view
abbrev pub guest_machine : Machine → Machine
guest_machine machine = record machine { hart = guest_hart machine.hart }

-- `with_parts` is the hart with those registers of mode M from `m_csrs` that no trap writes
abbrev with_parts : Hart → CsrState → Hart
with_parts hart m_csrs = record hart {
  csrs = record hart.csrs {
    mie = m_csrs.mie;
    mtvec = m_csrs.mtvec;
    mcountinhibit = m_csrs.mcountinhibit;
    mscratch = m_csrs.mscratch;
    software_pending = m_csrs.software_pending;
    pmp = m_csrs.pmp;
  };
}

-- the harts after two steps are equal in the guest view, whether both trap, and so write the same registers, or neither does
same-guest-view : (before after other : Machine) (trap : Option Trap) → is_machine before.hart.mode ≡ false → before.hart.csrs.mstatus.mprv ≡ false
    → IfSome trap (λ trap. (after.hart ≡ step_counted (trapped before.hart trap) false before.hart.csrs.mcountinhibit None)
    × (after.memory ≡ before.memory))
    → IfSome trap (λ trap. (other.hart ≡ step_counted (trapped (guest_hart before.hart) trap) false before.hart.csrs.mcountinhibit None)
    × (other.memory ≡ before.memory))
    → IfNone trap (StaysBelow before.hart after.hart) → IfNone trap (StaysBelow (guest_hart before.hart) other.hart)
    → (trap ≡ None → below_m_hart after.hart ≡ below_m_hart other.hart) → guest_hart after.hart ≡ guest_hart other.hart
unfolding machine_parts
same-guest-view before after other None below_m mprv_is_0 _ _ stays other_stays same_below_m =
    ap (with_parts (guest_hart after.hart)) stays.0 ∙ ap (λ (hart : Hart). with_parts hart before.hart.csrs) (same_below_m refl)
    ∙ sym (ap (with_parts (guest_hart other.hart)) other_stays.0)
same-guest-view before after other (Some trap) below_m mprv_is_0 keeps other_keeps _ _ same_below_m = let after_is = keeps.0 in let other_is =
    other_keeps.0 in rw (after_is, other_is) refl

-- a step below mode M has the same outcome, memory and guest view of the hart from the guest view of the machine
pub guest_step : (machine : Machine) → is_machine machine.hart.mode ≡ false → machine.hart.csrs.mstatus.mprv ≡ false
    → SameToGuests (step machine) (step (guest_machine machine))
guest_step machine below_m mprv_is_0 =
    let other = guest_machine machine in
    let same_step = depends_below_m machine other below_m mprv_is_0 refl refl
    (record { pending = refl; fetched = refl; loaded = λ address width. rw mprv_is_0 refl; stored = λ address width value. rw mprv_is_0 refl }) in
    record {
      outcome = same_step.outcome;
      memory = same_step.memory;
      hart = same-guest-view machine (step machine).state (step other).state (step machine).outcome.trap below_m mprv_is_0 (trap_keeps machine)
          (subst (λ (trap : Option Trap). IfSome trap (λ trap. ((step other).state.hart
          ≡ step_counted (trapped other.hart trap) false machine.hart.csrs.mcountinhibit None) × ((step other).state.memory ≡ machine.memory)))
          (sym (ap (λ (outcome : StepOutcome). outcome.trap) same_step.outcome)) (trap_keeps other)) (keeps_machine_parts machine below_m mprv_is_0)
          (subst (λ (trap : Option Trap). IfNone trap (StaysBelow other.hart (step other).state.hart))
          (sym (ap (λ (outcome : StepOutcome). outcome.trap) same_step.outcome)) (keeps_machine_parts other below_m mprv_is_0))
          same_step.hart;
    }
