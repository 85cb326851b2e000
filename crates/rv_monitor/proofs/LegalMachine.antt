-- Every event leaves a machine legal: pc, stvec and sepc of each hart and of each saved context have values that the hart can store.
use Rattle.std.proofs.Common.{◌≡◌, ℕ, ◌==◌, Bool, true, false, List, length, Option, None, IfSome, refl, sym, ◌∙◌, ap, subst}
use Rattle.std.proofs.Common.{inl, inr, arith}
use Rattle.std.proofs.lemmas.List.{get_or_past, get_or-replicate}
use Rattle.std.specs.Prelude.{if◌then◌else◌}
use Rattle.rv_state.specs.CsrTable.{vector_of}
use Rattle.rv_state.specs.declared.cause.Cause.TheVariants as causes
use Rattle.rv_state.specs.declared.s_context.SContext.{SContext}
use Rattle.rv_state.proofs.StoredLemmas.{with_s_context_stored}
use Rattle.rv_hart.proofs.Stored.{keeps_stored}
use Rattle.rv_enclaves.specs.Contexts.{no_contexts}
use Rattle.rv_enclaves.specs.SlotNumbers.{slot_count}
use Rattle.rv_monitor.specs.Events.{Event, LineOf, StepOf, event_of}
use Rattle.rv_monitor.specs.MonitoredMachine.{timer_line_set}
use Rattle.rv_monitor.specs.LegalMachine.{IsLegalHartState, IsLegalMachine, LegalLaw}
use Rattle.rv_monitor.specs.Prelude.{Cause, Context, Contexts, CsrState, Exit, HartState, IsLegal, Shared, Trap, aligned_to_4, call_number, context_at}
use Rattle.rv_monitor.specs.Prelude.{create_args_of, created, destroyed, exited_context, first_context, measured, recorded, register, s_context, saved_context, with_context, with_s_context}
use Rattle.rv_monitor.proofs.Prelude.{Handled, HartView, HartViewInvariant, HartViewStepped, Invariant, MonitoredMachine, MonitoredStepped, a0, at_other_slot, at_written_slot}
use Rattle.rv_monitor.proofs.Prelude.{at_start, bare_machine, cases_eq, cases_lt, count_of, entered_slot, with_redirected_trap, handled, hart_state_at_start, hart_state_of}
use Rattle.rv_monitor.proofs.Prelude.{hart_view, left, monitored_step, saved_host, set_past, step_of, stopped_context}
use Rattle.rv_monitor.proofs.HandlerCases.{handler_cases, context_saved_by}
use Rattle.rv_monitor.proofs.HartCases.{outside, other_harts_keep, step_of_view}
use Rattle.rv_monitor.proofs.InvariantLemmas.{change_preserves, hart_view_invariant}
use Rattle.rv_monitor.proofs.Start.{start_state_cases}
use Rattle.rv_monitor.proofs.TrapSteps.{hart_state_after, step_cases}
use Rattle.rv_monitor.proofs.Alignment.{aligned_twice}
use Rattle.rv_monitor.proofs.StepInvariant.{without_trap}

-- the S-mode registers of the hart are legal in a context
abbrev RegistersAreLegal : CsrState → Type 0
RegistersAreLegal csrs = IsLegal (s_context csrs)

-- ---- the trap handler

-- every saved context is legal
abbrev ContextsAreLegal : Contexts → Type 0
ContextsAreLegal saved_contexts = (slot : ℕ) → IfSome (context_at saved_contexts slot) (λ context. IsLegal context.supervisor)

-- every saved context stays legal after a write of a legal context to one slot
legal_after_write : (saved_contexts : Contexts) (written_slot : ℕ) (maybe_context : Option Context) → ContextsAreLegal saved_contexts
    → IfSome maybe_context (λ context. IsLegal context.supervisor)
    → ContextsAreLegal (with_context saved_contexts written_slot maybe_context)
legal_after_write saved_contexts written_slot maybe_context contexts_legal legal slot =
    let LegalIfSome : Option Context → Type 0 =
    λ maybe_context. IfSome maybe_context (λ context. IsLegal context.supervisor) in
    elim (cases_lt written_slot (length saved_contexts)) [
      -- a write outside the list changes nothing
      | inr past_last ↦
          subst (λ (contexts : Contexts). LegalIfSome (context_at contexts slot)) (sym (set_past saved_contexts written_slot maybe_context past_last))
          (contexts_legal slot)
      | inl in_range ↦ elim (cases_eq slot written_slot) [
        -- the written slot has the new context, which is legal
        | inl is_written_slot ↦
            subst (λ (some_slot : ℕ). LegalIfSome (context_at (with_context saved_contexts written_slot maybe_context) some_slot))
            (sym is_written_slot)
            (subst LegalIfSome (sym (at_written_slot saved_contexts written_slot maybe_context in_range)) legal)
        -- every other slot keeps its context
        | inr is_other_slot ↦
            subst LegalIfSome (sym (at_other_slot saved_contexts written_slot slot maybe_context is_other_slot)) (contexts_legal slot)
      ]
    ]

-- the S-mode registers are legal after the monitor restores a context
restored_registers_legal : (csrs : CsrState) (supervisor : SContext) → RegistersAreLegal (with_s_context csrs supervisor)
restored_registers_legal csrs supervisor =
    let restored_registers = with_s_context_stored csrs supervisor in record { stvec = restored_registers.stvec; sepc = restored_registers.sepc }

-- a context whose stvec and sepc are 0 is legal
zero_context_legal : (context : Context) → context.supervisor.stvec ≡ 0
    → context.supervisor.sepc ≡ 0 → IsLegal context.supervisor
zero_context_legal context stvec sepc =
    let zero_vector : vector_of 0 ≡ 0 = omega arith in
    let zero_aligned : aligned_to_4 0 ≡ 0 = omega arith in
    record { stvec = ap vector_of stvec ∙ zero_vector ∙ sym stvec; sepc = ap aligned_to_4 sepc ∙ zero_aligned ∙ sym sepc }

-- the context that an exit saves is legal
exit_saves_legal_context : (cause : Cause) (hart_state : HartState) → RegistersAreLegal hart_state.hart.csrs
    → IsLegal (context_saved_by cause hart_state).supervisor
exit_saves_legal_context (causes.Interrupt interrupt) hart_state legal = legal
exit_saves_legal_context (causes.Exception exception) hart_state legal =
    stopped_or_exited_legal (register hart_state.hart.regs 16 == call_number Exit) where
      -- both the empty context and the context that stop saves are legal
      stopped_or_exited_legal : (is_exit : Bool)
          → IsLegal (if is_exit then exited_context else stopped_context hart_state).supervisor
      stopped_or_exited_legal true = zero_context_legal exited_context refl refl
      stopped_or_exited_legal false = legal

-- the S-mode registers and all saved contexts are legal after the trap handler
record LegalAfterHandler (result : Handled) : Type 0 where
  -- the S-mode registers of the hart are legal
  supervisor : RegistersAreLegal result.hart_state.hart.csrs
  -- every saved context is legal
  contexts : ContextsAreLegal result.shared.contexts

-- the S-mode registers, mepc and all saved contexts are legal at the trap
module _ (hart_state : HartState) (shared : Shared) (trap : Trap) (legal : RegistersAreLegal hart_state.hart.csrs)
    (mepc_aligned : aligned_to_4 hart_state.hart.csrs.mepc ≡ hart_state.hart.csrs.mepc) (contexts_legal : ContextsAreLegal shared.contexts) where
  -- the trap handler leaves legal S-mode registers and legal saved contexts
  handler_keeps_legal : LegalAfterHandler (handled hart_state shared trap)
  unfolding created destroyed measured entered_slot left with_redirected_trap first_context
  handler_keeps_legal =
      -- create and an exit save a legal context, an entry and a destroy clear the saved context, and a redirection moves mepc to sepc
      handler_cases hart_state trap shared LegalAfterHandler (record {
        answers =
            λ status result. record { supervisor = record { stvec = legal.stvec; sepc = legal.sepc }; contexts = contexts_legal };
        -- a create saves the first context, whose S-mode registers are 0
        creates = λ requests no_refusal. record {
          supervisor = record { stvec = legal.stvec; sepc = legal.sepc };
          contexts = legal_after_write shared.contexts _ _ contexts_legal
              (zero_context_legal (first_context (recorded shared.memory (create_args_of hart_state.hart.regs))) refl refl);
        };
        -- a destroy clears the saved context of the slot
        destroys = λ requests slot_accepted. record {
          supervisor = record { stvec = legal.stvec; sepc = legal.sepc };
          contexts = legal_after_write shared.contexts _ None contexts_legal tt;
        };
        measures =
            λ requests no_refusal. record { supervisor = record { stvec = legal.stvec; sepc = legal.sepc }; contexts = contexts_legal };
        -- an entry loads the S-mode registers of the saved context, and clears this saved context
        enters = λ call requests is_entry_call from_host slot_accepted.
            let registers_legal =
            restored_registers_legal hart_state.hart.csrs (saved_context shared.contexts (a0 hart_state)).supervisor in
            record {
              supervisor = record { stvec = registers_legal.stvec; sepc = registers_legal.sepc };
              contexts = legal_after_write shared.contexts _ None contexts_legal tt;
            };
        -- an exit loads the S-mode registers of the host, and saves the context of the enclave
        leaves =
            let registers_legal = restored_registers_legal hart_state.hart.csrs (saved_host hart_state).supervisor in
            record {
              supervisor = record { stvec = registers_legal.stvec; sepc = registers_legal.sepc };
              contexts = legal_after_write shared.contexts _ _ contexts_legal (exit_saves_legal_context trap.cause hart_state legal);
            };
        -- a redirection moves mepc, which is a multiple of 4, to sepc
        redirects = record { supervisor = record { stvec = legal.stvec; sepc = mepc_aligned }; contexts = contexts_legal };
      })

-- ---- the step of one hart

-- pc, the S-mode registers and the saved contexts of the view are legal
record ViewIsLegal (view : HartView) : Type 0 where
  -- pc is a multiple of 4
  pc : aligned_to_4 view.hart_state.hart.pc ≡ view.hart_state.hart.pc
  -- the S-mode registers of the hart are legal
  supervisor : IsLegal (s_context view.hart_state.hart.csrs)
  -- every saved context is legal
  contexts : ContextsAreLegal view.shared.contexts

-- a step of a view leaves pc, the S-mode registers and the saved contexts legal
step_keeps_view_legal : (view : HartView) → HartViewInvariant view → ViewIsLegal view
    → ViewIsLegal (monitored_step view).state
step_keeps_view_legal view view_invariant legal = step_cases view (λ after. ViewIsLegal after.state)
    -- without a trap, the hart stores only legal values
    (λ no_trap.
    let legal_hart = without_trap _ _ no_trap (keeps_stored (bare_machine view) view_invariant.hart.layout.mode (record {
      pc = legal.pc;
      csrs = record { stvec = legal.supervisor.stvec; sepc = legal.supervisor.sepc };
    })) in
    record { pc = legal_hart.pc; supervisor = record { stvec = legal_hart.csrs.stvec; sepc = legal_hart.csrs.sepc }; contexts = legal.contexts })
    -- with a trap, the trap handler leaves legal registers and legal saved contexts
    (λ trap trapped.
    let hart_state = hart_state_after view.hart_state trap in
    let legal_after = handler_keeps_legal hart_state view.shared trap
    (record { stvec = legal.supervisor.stvec; sepc = legal.supervisor.sepc }) (aligned_twice view.hart_state.hart.pc) legal.contexts in
    record {
      pc = aligned_twice (handled hart_state view.shared trap).next.pc;
      supervisor = record { stvec = legal_after.supervisor.stvec; sepc = legal_after.supervisor.sepc };
      contexts = legal_after.contexts;
    })

-- ---- the machine

-- a step of a legal machine leaves a legal machine
step_keeps_legal : (hart : ℕ) (machine : MonitoredMachine) → Invariant machine → IsLegalMachine machine
    → IsLegalMachine (step_of hart machine).state
step_keeps_legal hart machine invariant legal = elim (cases_lt hart (count_of machine)) [
  -- a step with the number of no hart changes nothing
  | inr past_last ↦
      subst (λ (after : MonitoredStepped). IsLegalMachine after.state) (sym (outside hart machine past_last)) legal
  | inl in_range ↦
      let view = hart_view hart machine in
      let legal_hart = legal.harts hart in
      let view_legal_after = step_keeps_view_legal view (hart_view_invariant hart machine invariant in_range)
      (record { pc = legal_hart.pc; supervisor = legal_hart.supervisor; contexts = legal.contexts }) in
      let view_legal =
      subst (λ (stepped : HartViewStepped). ViewIsLegal stepped.state) (sym (step_of_view hart machine in_range)) view_legal_after in
      record {
        harts = λ other_hart. elim (cases_eq other_hart hart) [
          -- the stepping hart is legal, because the step of its view leaves legal registers
          | inl is_stepping_hart ↦
              subst (λ (some_hart : ℕ). IsLegalHartState (hart_state_of some_hart (step_of hart machine).state)) (sym is_stepping_hart)
              (record { pc = view_legal.pc; supervisor = view_legal.supervisor })
          -- every other hart keeps its pc and its S-mode registers
          | inr is_other_hart ↦
              let pc_unchanged =
              other_harts_keep (λ (hart_state : HartState). hart_state.hart.pc) (λ table hart_state. refl) hart other_hart machine is_other_hart in
              let supervisor_unchanged =
              other_harts_keep (λ (hart_state : HartState). s_context hart_state.hart.csrs)
              (λ table hart_state. refl) hart other_hart machine is_other_hart in
              record {
                pc = ap aligned_to_4 pc_unchanged ∙ (legal.harts other_hart).pc ∙ sym pc_unchanged;
                supervisor = subst IsLegal (sym supervisor_unchanged) (legal.harts other_hart).supervisor;
              }
        ];
        contexts = view_legal.contexts;
      }
]

-- an event of a legal machine leaves a legal machine
pub event_stored : (event : Event) (machine : MonitoredMachine) → Invariant machine → IsLegalMachine machine
    → IsLegalMachine (event_of event machine).state
event_stored (StepOf hart) machine invariant legal = step_keeps_legal hart machine invariant legal
-- a change of a timer line changes neither pc, nor an S-mode register, nor a saved context
event_stored (LineOf hart raised) machine invariant legal = record {
  harts = λ other_hart.
      let pc_unchanged =
      change_preserves (λ (hart_state : HartState). hart_state.hart.pc) (timer_line_set raised) (λ hart_state. refl) hart other_hart machine in
      let supervisor_unchanged =
      change_preserves (λ (hart_state : HartState). s_context hart_state.hart.csrs) (timer_line_set raised)
      (λ hart_state. refl) hart other_hart machine in
      record {
        pc = ap aligned_to_4 pc_unchanged ∙ (legal.harts other_hart).pc ∙ sym pc_unchanged;
        supervisor = subst IsLegal (sym supervisor_unchanged) (legal.harts other_hart).supervisor;
      };
  contexts = legal.contexts;
}

-- ---- at reset

-- a hart at reset is legal, if its entry point is a multiple of 4
reset_is_legal : (entry : ℕ) → aligned_to_4 entry ≡ entry → IsLegalHartState (hart_state_at_start entry)
reset_is_legal entry aligned = record {
  pc = aligned;
  supervisor = record { stvec = omega arith; sepc = omega arith };
}

-- no slot has a saved context at reset
no_context_at_reset : (slot : ℕ) → context_at no_contexts slot ≡ None
no_context_at_reset slot = elim (cases_lt slot slot_count) [
  | inl in_range ↦ get_or-replicate {A = Option Context} slot_count slot None None in_range
  | inr past_last ↦ get_or_past {X = Option Context} no_contexts slot None past_last
]

-- the saved contexts at reset are legal, because there are none
absent_contexts_legal : (slot : ℕ) → IfSome (context_at no_contexts slot) (λ context. IsLegal context.supervisor)
absent_contexts_legal slot =
    subst (λ (maybe_context : Option Context). IfSome maybe_context (λ context. IsLegal context.supervisor)) (sym (no_context_at_reset slot)) tt

-- the machine at reset is legal, if the entry point is a multiple of 4
start_is_legal : (memory : List ℕ) (entry hart_count : ℕ) → aligned_to_4 entry ≡ entry
    → IsLegalMachine (at_start memory entry hart_count)
unfolding at_start
start_is_legal memory entry hart_count aligned =
    let reset_state = reset_is_legal entry aligned in
    record {
      harts = λ hart.
          start_state_cases hart_count entry hart IsLegalHartState (λ some_hart. record { pc = reset_state.pc; supervisor = reset_state.supervisor })
          (reset_is_legal 0 refl);
      contexts = absent_contexts_legal;
    }

-- proves that the machine at reset is legal, and that each event leaves a machine legal
pub legal_law : LegalLaw
legal_law = record { start = start_is_legal; keeps = event_stored }
