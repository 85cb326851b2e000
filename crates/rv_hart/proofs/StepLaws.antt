-- This file proves the theorems about a step, each proved by the cases of a step.
use Rattle.std.proofs.Common.{◌≡◌, Bool, true, false, refl, sym, subst, ◌∙◌}
use Rattle.std.specs.Prelude.{◌&&◌}
use Rattle.std.proofs.lemmas.Bool.{false≢true}
use Rattle.rv_memory.proofs.AccessLaws.{store_done}
use Rattle.rv_memory.proofs.MemoryLaws.{store_changes_only}
use Rattle.rv_state.specs.Interrupts.{is_machine}
use Rattle.rv_state.specs.MachineParts.{machine_parts}
use Rattle.rv_state.specs.Traps.{mode_of_spp}
use Rattle.rv_state.proofs.MachinePartsLemmas.{write_keeps_parts, same_mprv}
use Rattle.rv_hart.specs.HartRecord.{Hart}
use Rattle.rv_hart.specs.Instructions.{returned_from_supervisor}
use Rattle.rv_hart.specs.Permitted.{TouchesPermitted}
use Rattle.rv_hart.specs.Machine.{Machine, Stepped}
use Rattle.rv_hart.specs.Step.{step, data_mode}
use Rattle.rv_hart.specs.StepLaws.{TrapKeeps, MprvIsClear, KeepsMprvClear, StaysBelow, KeepsMachineParts, ChangesStored}
use Rattle.rv_hart.proofs.InstructionCases.{Changes, by_changes}
use Rattle.rv_hart.proofs.StepCases.{step_cases, by_hart}

-- a trap changes only the state that every trap changes
pub trap_keeps : (state : Machine) → TrapKeeps state (step state)
trap_keeps state = by_hart state (TrapKeeps state) (λ touched trap. (refl, refl)) (λ memory touched instr word loaded after executed_is. tt)

-- a step accesses only bytes that the PMP entries permit
pub touches_permitted : (state : Machine) → TouchesPermitted state (step state)
touches_permitted state = step_cases state (TouchesPermitted state) (record {
  trap = λ touched trap is_permitted no_store. is_permitted;
  no_access = λ instr word after is_permitted executed_is. is_permitted;
  load = λ instr word address width number after is_permitted access_is executed_is. is_permitted;
  store = λ instr word address width value memory after is_permitted access_is executed_is. is_permitted;
})

-- ---- MPRV stays 0 below mode M

-- an and whose second part is false is false
and-false : (first : Bool) → (first && false) ≡ false
and-false true = refl
and-false false = refl

-- each way in which an instruction changes the hart leaves MPRV 0 below mode M
changes-keep-mprv : (hart : Hart) → Changes hart (λ after. MprvIsClear hart → MprvIsClear after)
changes-keep-mprv hart = record {
  computes = λ regs pc mprv_is_0. mprv_is_0;
  writes = λ csr word csrs regs pc written mprv_is_0 below_m. same_mprv _ _ (write_keeps_parts _ _ _ _ _ below_m written) ∙ mprv_is_0 below_m;
  mret = λ is_machine_mode mprv_is_0 below_m. rw below_m (and-false hart.csrs.mstatus.mprv);
  sret = λ mprv_is_0 below_m. refl;
}

-- proves that each step leaves MPRV 0 below mode M, if it was 0
pub keeps_mprv_clear : (state : Machine) → KeepsMprvClear state (step state)
keeps_mprv_clear state = by_hart state (KeepsMprvClear state) (λ touched trap mprv_is_0 below_m. cc)
    (λ memory touched instr word loaded after executed_is. by_changes state.hart _ (changes-keep-mprv state.hart) instr word loaded after executed_is)

-- ---- below mode M the machine's parts do not change

-- the mode in SPP is below M
spp-below : (spp : Bool) → is_machine (mode_of_spp spp) ≡ false
spp-below true = refl
spp-below false = refl

-- sret keeps the parts of mode M, if MPRV is 0
sret-keeps-parts : (hart : Hart) → hart.csrs.mstatus.mprv ≡ false → StaysBelow hart (returned_from_supervisor hart)
unfolding machine_parts
sret-keeps-parts hart mprv_is_0 = (rw mprv_is_0 refl, spp-below hart.csrs.mstatus.spp)

-- each way in which an instruction below mode M changes the hart keeps the parts of mode M and the mode below M
changes-keep-parts : (hart : Hart) → is_machine hart.mode ≡ false → hart.csrs.mstatus.mprv ≡ false → Changes hart (StaysBelow hart)
changes-keep-parts hart below_m mprv_is_0 = record {
  computes = λ regs pc. (refl, below_m);
  writes = λ csr word csrs regs pc written. (write_keeps_parts _ _ _ _ _ below_m written, below_m);
  mret = λ in_machine_mode. absurd (false≢true (sym below_m ∙ in_machine_mode));
  sret = sret-keeps-parts hart mprv_is_0;
}

-- proves that a step below mode M without a trap keeps the parts of mode M and the mode below M
pub keeps_machine_parts : (state : Machine) → KeepsMachineParts state (step state)
unfolding machine_parts
keeps_machine_parts state = by_hart state (KeepsMachineParts state) (λ touched trap below_m mprv_is_0. tt)
    (λ memory touched instr word loaded after executed_is below_m mprv_is_0.
    by_changes state.hart _ (changes-keep-parts state.hart below_m mprv_is_0) instr word loaded after executed_is)

-- ---- the memory changes only in the bytes that the step stored

-- proves that a step changes only the bytes that it stores
pub changes_stored : (state : Machine) → ChangesStored state (step state)
changes_stored state = step_cases state (ChangesStored state) (record {
  trap = λ touched trap is_permitted no_store. (refl, rw no_store refl);
  no_access = λ instr word after is_permitted executed_is. (refl, refl);
  load = λ instr word address width number after is_permitted access_is executed_is. (refl, refl);
  store = λ instr word address width value memory after is_permitted access_is executed_is.
      let store_is = store_done state.memory state.hart.csrs.pmp (data_mode state.hart) address width value memory access_is in
      let changes_only = store_changes_only state.memory address value width memory store_is.0 (sym store_is.2) in
      (changes_only.size, changes_only);
})

-- what holds of each step holds of a step whose result is `after`
pub after_step : (P : Machine → Stepped → Type 0) → ((state : Machine) → P state (step state))
    → {before : Machine} {after : Stepped} → step before ≡ after → P before after
after_step P law {before} step_is = subst (P before) step_is (law before)
