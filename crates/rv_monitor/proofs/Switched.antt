-- The effect of a step on the world of the hart and on the saved context of the host. The step continues the world, enters an enclave, or exits to
-- the host.
use Rattle.std.proofs.Common.{◌≡◌, ℕ, ◌==◌, ◌⊎◌, true, false, List, Option, Some, None, IfSome, refl, sym, ap, ◌∙◌, subst, inl, inr, arith}
use Rattle.std.specs.Prelude.{◌%◌, ◌&&◌, is_some, not}
use Rattle.rv_state.specs.declared.s_context.SContext.{SContext}
use Rattle.rv_monitor.specs.Prelude.{Context, CsrState, Enclave, Host, IsLegal, KeepsOwn, Mode, S, HartState, Shared, StepOutcome, Trap, World}
use Rattle.rv_monitor.specs.Prelude.{aligned_to_4, can_go_on, is_host, is_machine, s_context, step, with_return_values, with_s_context}
use Rattle.rv_monitor.proofs.Prelude.{Handled, HostContextIsLegal, HostContextInvariant, HartView, StaysOrSwitches, a0, and_parts, bare_machine}
use Rattle.rv_monitor.proofs.Prelude.{both_ways, entered_slot, handled, saved_host, left, monitored_step, nat_tests, past_call, reason, returned}
use Rattle.rv_monitor.proofs.Prelude.{saved, value}
use Rattle.rv_monitor.proofs.TrapSteps.{step_cases, hart_state_after}
use Rattle.rv_monitor.proofs.HandlerCases.{handler_cases}

-- ---- the effect of the trap handler on the state of a hart

-- the trap handler continues the world: it keeps the world and the saved context of the host, and enters no enclave
pub record StaysIn (hart_state : HartState) (result : Handled) : Type 0 where
  -- the hart keeps its world
  pub world : result.hart_state.world ≡ hart_state.world
  -- the saved context of the host is unchanged
  pub host : result.hart_state.host_context ≡ hart_state.host_context
  -- no slot is entered
  pub entered : result.next.entered ≡ None

-- the trap handler enters an enclave from the host, and saves the context of the host
pub record EntersFrom (hart_state : HartState) (result : Handled) : Type 0 where
  -- the slot of the enclave that the trap handler enters
  pub slot : ℕ
  -- the host runs before the trap, and the enclave runs after the trap handler
  pub from_host : hart_state.world ≡ Host
  pub world : result.hart_state.world ≡ Enclave slot
  -- the hart saves the context of the host, which will continue in S after its ecall
  pub host : result.hart_state.host_context ≡ Some (saved hart_state.hart (past_call hart_state) S)
  -- the result reports the entry of the slot
  pub entered : result.next.entered ≡ Some slot

-- the trap handler exits to the host: it restores the saved context of the host, with a reason in a0 and a value in a1
pub record LeavesFor (hart_state : HartState) (trap : Trap) (result : Handled) : Type 0 where
  -- the host runs after the trap handler
  pub world : result.hart_state.world ≡ Host
  -- the registers are those of the saved context of the host, with the reason in a0 and the value in a1
  pub regs : result.hart_state.hart.regs
      ≡ with_return_values (saved_host hart_state).regs (reason trap.cause hart_state.hart.regs) (value trap.cause hart_state.hart.regs)
  -- the hart continues at the pc and in the mode of the saved context
  pub pc : result.next.pc ≡ (saved_host hart_state).pc
  pub mode : result.next.mode ≡ (saved_host hart_state).mode
  -- the S-mode registers are those of the saved context
  pub supervisor : s_context result.hart_state.hart.csrs ≡ s_context (with_s_context hart_state.hart.csrs (saved_host hart_state).supervisor)
  -- the hart no longer has a saved context of the host
  pub forgotten : result.hart_state.host_context ≡ None
  -- no slot is entered
  pub entered : result.next.entered ≡ None

-- the trap handler continues the world, enters an enclave, or exits to the host
abbrev pub StaysEntersOrExits : HartState → Trap → Handled → Type 0
StaysEntersOrExits hart_state trap result =
    StaysIn hart_state result ⊎ (EntersFrom hart_state result ⊎ LeavesFor hart_state trap result)

-- each trap continues the world, enters an enclave, or exits to the host
pub handled_stays_or_switches : (hart_state : HartState) (shared : Shared) (trap : Trap)
    → StaysEntersOrExits hart_state trap (handled hart_state shared trap)
unfolding entered_slot left
handled_stays_or_switches hart_state shared trap =
    -- an entry enters an enclave, an exit leaves for the host, and every other case continues the world
    handler_cases hart_state trap shared (StaysEntersOrExits hart_state trap) (record {
      answers = λ status result. inl (record { world = refl; host = refl; entered = refl });
      creates = λ requests no_refusal. inl (record { world = refl; host = refl; entered = refl });
      destroys = λ requests slot_accepted. inl (record { world = refl; host = refl; entered = refl });
      measures = λ requests no_refusal. inl (record { world = refl; host = refl; entered = refl });
      enters =
          λ call requests is_entry_call from_host slot_accepted. inr
          (inl (record { slot = a0 hart_state; from_host = from_host; world = refl; host = refl; entered = refl }));
      leaves =
          inr (inr (record { world = refl; regs = refl; pc = refl; mode = refl; supervisor = refl; forgotten = refl; entered = refl }));
      redirects = inl (record { world = refl; host = refl; entered = refl });
    })

-- ---- the S-mode registers of the host's saved context are as a hart stores them

-- the S-mode registers of a hart are legal in a saved context, if each holds a value that the hart can store
pub own_context_legal : (csrs : CsrState) → KeepsOwn csrs → IsLegal (s_context csrs)
own_context_legal csrs keeps_own =
    record { stvec = ap (λ (csrs : CsrState). csrs.stvec) keeps_own; sepc = ap (λ (csrs : CsrState). csrs.sepc) keeps_own }

-- the saved context of the host, if there is one, is legal
abbrev pub KeptStored : Option Context → Type 0
KeptStored maybe_context = IfSome maybe_context (λ context. IsLegal context.supervisor)

-- each kind of result leaves a legal saved context of the host
context_legal_by_result : (hart_state : HartState) (trap : Trap) (result : Handled)
    → StaysEntersOrExits hart_state trap result
    → HostContextIsLegal hart_state
    → KeepsOwn hart_state.hart.csrs
    → HostContextIsLegal result.hart_state
-- the world continues, and the saved context of the host is unchanged
context_legal_by_result hart_state trap result (inl stays) legal keeps_own = subst KeptStored (sym stays.host) legal
-- an entry saves the S-mode registers of the hart, whose values the hart can store
context_legal_by_result hart_state trap result (inr (inl enters)) legal keeps_own =
    subst KeptStored (sym enters.host) (own_context_legal hart_state.hart.csrs keeps_own)
-- an exit leaves no saved context of the host
context_legal_by_result hart_state trap result (inr (inr leaves)) legal keeps_own =
    subst KeptStored (sym leaves.forgotten) tt

-- the trap handler leaves a legal saved context of the host
pub handler_keeps_legal : (hart_state : HartState) (shared : Shared) (trap : Trap) → HostContextIsLegal hart_state
    → KeepsOwn hart_state.hart.csrs
    → HostContextIsLegal (handled hart_state shared trap).hart_state
handler_keeps_legal hart_state shared trap legal keeps_own =
    context_legal_by_result hart_state trap (handled hart_state shared trap) (handled_stays_or_switches hart_state shared trap) legal keeps_own

-- ---- if an enclave runs before and after, the host's saved context is unchanged

-- a result after which an enclave runs keeps the saved context of the host, if an enclave ran before
host_context_unchanged : (hart_state : HartState) (trap : Trap) (result : Handled) → StaysEntersOrExits hart_state trap result
    → is_host hart_state.world ≡ false
    → is_host result.hart_state.world ≡ false
    → result.hart_state.host_context ≡ hart_state.host_context
host_context_unchanged hart_state trap result (inl stays) enclave_runs enclave_runs_after = stays.host
-- an enclave runs before the trap, so the result is not an entry from the host
host_context_unchanged hart_state trap result (inr (inl enters)) enclave_runs enclave_runs_after =
    absurd (both_ways _ enclave_runs (ap is_host enters.from_host))
-- an enclave runs after the trap handler, so the result is not an exit to the host
host_context_unchanged hart_state trap result (inr (inr leaves)) enclave_runs enclave_runs_after =
    absurd (both_ways _ enclave_runs_after (ap is_host leaves.world))

-- a step before and after which an enclave runs keeps the saved context of the host
pub enclave_step_keeps_host : (view : HartView) → is_host view.hart_state.world ≡ false
    → is_host (monitored_step view).state.hart_state.world ≡ false
    → (monitored_step view).state.hart_state.host_context ≡ view.hart_state.host_context
enclave_step_keeps_host view enclave_runs =
    step_cases view
    (λ after. is_host after.state.hart_state.world ≡ false → after.state.hart_state.host_context ≡ view.hart_state.host_context)
    (λ no_trap enclave_runs_after. refl)
    (λ trap trapped enclave_runs_after.
    let hart_state = hart_state_after view.hart_state trap in
    host_context_unchanged hart_state trap (handled hart_state view.shared trap)
    (handled_stays_or_switches hart_state view.shared trap) enclave_runs enclave_runs_after)

-- ---- the step

-- a legal context has the same S-mode registers after the monitor restores and saves it
pub restored_context_same : (csrs : CsrState) (supervisor : SContext) → IsLegal supervisor
    → s_context (with_s_context csrs supervisor) ≡ supervisor
-- a restore makes stvec and sepc legal, so both are unchanged if they are legal already
restored_context_same csrs supervisor legal =
    let stvec_unchanged = legal.stvec in let sepc_unchanged = legal.sepc in rw (stvec_unchanged, sepc_unchanged) refl

-- the pc of a context with which a hart can continue is unchanged if it is rounded down to a multiple of 4
pub pc_is_aligned : (mode : Mode) (pc : ℕ) → (not (is_machine mode) && pc % 4 == 0) ≡ true → aligned_to_4 pc ≡ pc
pc_is_aligned mode pc can_continue =
    let (_, is_multiple_test) = and_parts (not (is_machine mode)) (pc % 4 == 0) can_continue in
    let multiple : pc % 4 ≡ 0 = grind (arith, nat_tests) in
    omega arith

-- a context with the pc, the mode and the S-mode registers of the host's context is this context with other registers
same_context : (host : Context) (regs : List ℕ) (pc : ℕ) (mode : Mode) (supervisor : SContext) (new_regs : List ℕ) → regs ≡ new_regs
    → pc ≡ host.pc → mode ≡ host.mode
    → supervisor ≡ host.supervisor
    → (let context : Context = record { regs = regs; pc = pc; mode = mode; supervisor = supervisor } in context) ≡ record host { regs = new_regs }
same_context host regs pc mode supervisor new_regs regs_is pc_is mode_is supervisor_is =
    rw (regs_is, pc_is, mode_is, supervisor_is) refl

-- the saved context of the host is legal and agrees with the world, and the step has this trap
module _ (view : HartView) (host_invariant : HostContextInvariant view.hart_state) (legal : HostContextIsLegal view.hart_state) (trap : Trap) where
  -- the return from an exit to the host satisfies `StaysOrSwitches`
  return_leaves : (outcome : StepOutcome) (result : Handled) → outcome.trap ≡ Some trap
      → LeavesFor (hart_state_after view.hart_state trap) trap result
      → (world : World) (saved_host : Option Context) → view.hart_state.world ≡ world
      → view.hart_state.host_context ≡ saved_host
      → is_some saved_host ≡ not (is_host world)
      → StaysOrSwitches view (returned outcome result)
  -- the hart runs the host: the host has no saved context, and nothing switches
  return_leaves outcome result outcome_trap_is leaves Host None world_is host_context_is saved_if_enclave =
      inl (record { world = leaves.world ∙ sym world_is; host = leaves.forgotten ∙ sym host_context_is; entered = leaves.entered })
  -- the host runs if and only if the hart has no saved host context, so these two cases have a false premise
  return_leaves outcome result outcome_trap_is leaves Host (Some host) world_is host_context_is saved_if_enclave = cc
  return_leaves outcome result outcome_trap_is leaves (Enclave slot) None world_is host_context_is saved_if_enclave = cc
  -- the hart runs an enclave: the exit restores the saved context of the host
  return_leaves outcome result outcome_trap_is leaves (Enclave slot) (Some host) world_is host_context_is saved_if_enclave =
      let CanGoOnIfSome : Option Context → Type 0 =
      λ saved_host. IfSome saved_host (λ some_context. can_go_on some_context ≡ true) in
      let can_continue : can_go_on host ≡ true = subst CanGoOnIfSome host_context_is host_invariant.held in
      let host_context_legal : IsLegal host.supervisor = subst KeptStored host_context_is legal in
      let leaves_for_host = rw host_context_is at leaves in
      inr (inr (record {
        slot = slot;
        host = host;
        trap = trap;
        from_enclave = world_is;
        kept = host_context_is;
        trapped = outcome_trap_is;
        world = leaves_for_host.world;
        -- the registers, pc, mode and S-mode registers of the hart are those of the saved context, except for a0 and a1
        again =
            same_context host result.hart_state.hart.regs (aligned_to_4 result.next.pc) result.next.mode
            (s_context result.hart_state.hart.csrs) _ leaves_for_host.regs
            (ap aligned_to_4 leaves_for_host.pc ∙ pc_is_aligned host.mode host.pc can_continue) leaves_for_host.mode
            (leaves_for_host.supervisor ∙ restored_context_same view.hart_state.hart.csrs host.supervisor host_context_legal);
        forgotten = leaves_for_host.forgotten;
        entered = leaves_for_host.entered;
      }))

  -- the return from each kind of result satisfies `StaysOrSwitches`
  return_stays_or_switches : (outcome : StepOutcome) (result : Handled) → outcome.trap ≡ Some trap
      → StaysEntersOrExits (hart_state_after view.hart_state trap) trap result
      → StaysOrSwitches view (returned outcome result)
  return_stays_or_switches outcome result outcome_trap_is (inl stays) =
      inl (record { world = stays.world; host = stays.host; entered = stays.entered })
  -- the trap handler entered an enclave from the host
  return_stays_or_switches outcome result outcome_trap_is (inr (inl enters)) =
      inr (inl (record { slot = enters.slot; from_host = enters.from_host; world = enters.world; host = enters.host; entered = enters.entered }))
  -- the trap handler exited to the host
  return_stays_or_switches outcome result outcome_trap_is (inr (inr leaves)) =
      return_leaves outcome result outcome_trap_is leaves view.hart_state.world view.hart_state.host_context refl refl host_invariant.kept

-- proves that each step continues its world, enters an enclave, or exits to the host
pub switch_law : (view : HartView) → HostContextInvariant view.hart_state → HostContextIsLegal view.hart_state
    → StaysOrSwitches view (monitored_step view)
switch_law view host_invariant legal = step_cases view (StaysOrSwitches view)
    (λ no_trap. inl (record { world = refl; host = refl; entered = refl }))
    (λ trap trapped. return_stays_or_switches view host_invariant legal trap (step (bare_machine view)).outcome _ trapped
    (handled_stays_or_switches (hart_state_after view.hart_state trap) view.shared trap))
