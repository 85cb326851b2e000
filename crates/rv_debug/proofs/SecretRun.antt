-- The closed instance of the law of declassification, by computing its steps. The machines and moves are defined in specs/SecretRun.
use Rattle.std.proofs.Common.{◌≡◌, ◌≢◌, ℕ, zero, suc, ◌+◌, true, false, List, [], ◌∷◌, ◌++◌, length, replicate, Some, refl, sym, ◌∙◌, ap, inl, inr}
use Rattle.std.proofs.Common.{arith}
use Rattle.std.specs.Prelude.{not, slice_index}
use Rattle.rv_memory.specs.Memory.{read, ram_base}
use Rattle.rv_word.specs.Logic.{by_bits}
use Rattle.rv_state.specs.Bits.{kept_bits}
use Rattle.rv_encoding.specs.Decoding.{decoded}
use Rattle.rv_pmp.specs.Covers.{covers, ones_at_end}
use Rattle.rv_pmp.specs.Verdicts.{matching_entry, verdict}
use Rattle.rv_hart.specs.Step.{from_access, from_decode, from_fetch, retired_or_trapped, step}
use Rattle.rv_hart.specs.Instructions.{executed, request}
use Rattle.rv_hart.specs.CsrInstructions.{csr_changed, written_csr}
use Rattle.rv_enclaves.specs.Layout.{entry_at, layout}
use Rattle.rv_memory.specs.Blocks.{has, no_block}
use Rattle.rv_memory.specs.declared.block.Block.{Block}
use Rattle.rv_enclaves.specs.Table.{free_slot, is_live, is_window, region, runs, window}
use Rattle.rv_enclaves.specs.declared.world.World.TheVariants.{Host}
use Rattle.rv_enclaves.specs.Create.{create_refusals, created, is_entry, overlaps}
use Rattle.rv_enclaves.specs.Refusals.{state_refusals}
use Rattle.rv_enclaves.specs.ValidBlocks.{is_valid_block}
use Rattle.rv_enclaves.specs.Calls.{call_requested}
use Rattle.rv_enclaves.specs.Contexts.{first_context}
use Rattle.rv_monitor.specs.Availability.{timer_trap}
use Rattle.rv_monitor.specs.Declassification.{AreMoves, AreRelated, ExitsAlike, may_differ}
use Rattle.rv_monitor.specs.EquivExcept.{runs_on}
use Rattle.rv_monitor.specs.MonitoredMachine.{Invariant, MonitoredMachine, at_start, hart_state_of}
use Rattle.rv_monitor.specs.Step.{call_handled, called, handled, monitored_step, performed, step_of, timer_stopped}
use Rattle.rv_monitor.specs.Switches.{entered_slot, left}
use Rattle.rv_monitor.proofs.Declassification.{declassification_law}
use Rattle.rv_monitor.proofs.InvariantLemmas.{invariant_by_size, invariant_law, written_invariant}
use Rattle.rv_monitor.proofs.RelatedChanges.{memory_related, related_itself}
use Rattle.rv_monitor.proofs.Start.{start_invariant}
use Rattle.rv_debug.proofs.Prelude.{both_ways, cases_eq, nat_tests}
use Rattle.rv_debug.specs.SecretRun.{IsConcealed, secret_asking, before_secret, secret_entered, secret_interrupted, secret_moves, secret_new}
use Rattle.rv_debug.specs.SecretRun.{secret_next, secret_raised, secret_ram, secret_reset, secret_resumed, secret_start}

-- ---- what is computed

-- the address of the secret, which is in the region
abbrev pub secret_address : ℕ
secret_address = 0x80018100

-- the offset of the secret in RAM
abbrev secret_offset : ℕ
secret_offset = 98560

-- the address at which the host's code begins, after the monitor's range
abbrev pub host_code : ℕ
host_code = 0x80010000

-- the number of bytes of RAM after the secret
abbrev pub bytes_after_secret : ℕ
bytes_after_secret = 32511

-- the enclave of slot 0 does not run on hart 0, the only hart, and its state is not Running
pub record IsIdle (machine : MonitoredMachine) : Type 0 where
  pub not_on_hart : runs_on 0 0 machine ≡ false
  pub not_running : runs machine.shared.table 0 ≡ false

-- The facts of the example that are computed, for each secret. RAM has 131072 bytes. The first five hold after create. They state
-- the size and the bytes of the memory, and that the enclave is live. Its region has the address of the secret, whose byte may differ. The other
-- fields follow the moves.
-- These are the call run (`run_1`, `run_2`), the load of the secret (`before_load`, `after_load`), and the exit by the timer interrupt
-- (`runs_before_interrupt` to `host_runs_after`). Then come the call resume (`resume_1` to `resume_3`) and one more step of the enclave
-- (`before_last`, `after_last`).
pub record SecretRunFacts (secret : ℕ) : Type 0 where
  same_size : length (secret_next secret_start).shared.memory ≡ length (secret_ram secret)
  pub memory_is : (secret_next secret_start).shared.memory ≡ secret_ram 0
  enclave_is_live : is_live (secret_next secret_start).shared.table 0 ≡ true
  pub region_has : has (region (secret_next secret_start).shared.table 0) secret_address ≡ true
  secret_in_region : may_differ (secret_next secret_start).shared.table 0 secret_address ≡ true
  -- the two steps of the host that call run
  run_1 : IsIdle (secret_new secret)
  run_2 : IsIdle (secret_next (secret_new secret))
  -- the enclave runs before and after it loads the secret
  before_load : runs_on 0 0 (secret_entered secret) ≡ true
  after_load : runs_on 0 0 (secret_next (secret_entered secret)) ≡ true
  -- the timer interrupt: the enclave runs before the interrupt, has no window, and exits to the host
  runs_before_interrupt : runs_on 0 0 (secret_raised secret) ≡ true
  window_is_empty : window (secret_raised secret).shared.table 0 ≡ no_block
  memory_size : length (secret_raised secret).shared.memory ≡ 131072
  trap_is : (step_of 0 (secret_raised secret)).outcome.step.trap ≡ Some timer_trap
  host_runs_after : (hart_state_of 0 (secret_interrupted secret)).world ≡ Host
  -- the three steps of the host that call resume
  resume_1 : IsIdle (secret_interrupted secret)
  resume_2 : IsIdle (secret_next (secret_interrupted secret))
  resume_3 : IsIdle (secret_next (secret_next (secret_interrupted secret)))
  -- the enclave runs before and after its last step
  before_last : runs_on 0 0 (secret_resumed secret) ≡ true
  after_last : runs_on 0 0 (secret_next (secret_resumed secret)) ≡ true

-- Proves the facts of the example by computation of the steps, for each secret.
pub secret_run_facts : (secret : ℕ) → SecretRunFacts secret
unfolding at_start step_of monitored_step handled call_handled called performed created create_refusals is_valid_block is_window overlaps is_entry
    free_slot call_requested first_context layout entry_at step request executed retired_or_trapped from_access from_decode from_fetch
    written_csr csr_changed
    decoded by_bits read verdict matching_entry covers ones_at_end kept_bits state_refusals entered_slot left timer_stopped
secret_run_facts secret = record {
  same_size = refl;
  memory_is = refl;
  enclave_is_live = refl;
  region_has = refl;
  secret_in_region = refl;
  run_1 = record { not_on_hart = refl; not_running = refl };
  run_2 = record { not_on_hart = refl; not_running = refl };
  before_load = refl;
  after_load = refl;
  runs_before_interrupt = refl;
  window_is_empty = refl;
  memory_size = refl;
  trap_is = refl;
  host_runs_after = refl;
  resume_1 = record { not_on_hart = refl; not_running = refl };
  resume_2 = record { not_on_hart = refl; not_running = refl };
  resume_3 = record { not_on_hart = refl; not_running = refl };
  before_last = refl;
  after_last = refl;
}

-- the byte of the secret is in a0 when the timer line is set
pub is_in_a0 : slice_index (hart_state_of 0 (secret_raised 0x41)).hart.regs 10 ≡ 0x41
unfolding at_start step_of monitored_step handled call_handled called performed created create_refusals is_valid_block is_window overlaps is_entry
    free_slot call_requested first_context layout entry_at step request executed retired_or_trapped from_access from_decode from_fetch
    written_csr csr_changed
    decoded by_bits read verdict matching_entry covers ones_at_end kept_bits state_refusals entered_slot left timer_stopped
is_in_a0 = refl

-- the enclave of slot 0 does not run before create
pub start_idle : IsIdle secret_start
unfolding at_start
start_idle = record { not_on_hart = refl; not_running = refl }

-- ---- the two machines

-- the machine before create has the invariant
pub invariant_before_create : Invariant secret_start
invariant_before_create = written_invariant 0 secret_asking false secret_reset (start_invariant (secret_ram 0) host_code 1 refl)

-- the machine with a secret has the invariant
invariant_after_create : (secret : ℕ) → Invariant (secret_new secret)
invariant_after_create secret =
    invariant_by_size (secret_next secret_start) (secret_ram secret) (invariant_law 0 secret_start invariant_before_create)
    (secret_run_facts secret).same_size

-- two lists that differ only in the byte after the list `before` are equal at every other index
pub other_byte : (before after : List ℕ) (byte changed index : ℕ) → index ≢ length before
    → slice_index (before ++ (byte ∷ after)) index ≡ slice_index (before ++ (changed ∷ after)) index
other_byte [] after byte changed zero not_at_byte = absurd (not_at_byte refl)
other_byte [] after byte changed (suc index) not_at_byte = refl
other_byte (first ∷ before) after byte changed zero not_at_byte = refl
other_byte (first ∷ before) after byte changed (suc index) not_at_byte =
    other_byte before after byte changed index (λ equal. not_at_byte (ap suc equal))

-- the secret is at `secret_offset` in RAM
pub secret_is_at_offset : length before_secret ≡ secret_offset
secret_is_at_offset = refl

-- the machines with two secrets are related
machines_related : (secret other_secret : ℕ) → AreRelated 0 (secret_new secret) (secret_new other_secret)
machines_related secret other_secret =
    memory_related 0 (secret_next secret_start) (secret_next secret_start) (secret_ram secret) (secret_ram other_secret)
    (related_itself 0 (secret_next secret_start)) (record {
      size = sym (secret_run_facts secret).same_size ∙ (secret_run_facts other_secret).same_size;
      bytes = λ index not_hidden. elim (cases_eq index secret_offset) [
        -- the index of the secret: its address may differ, against the premise
        | inl is_secret ↦
            let secret_shown =
            ap (λ (any_index : ℕ). may_differ (secret_next secret_start).shared.table 0 (ram_base + any_index)) (sym is_secret) ∙ not_hidden in
            absurd (both_ways _ secret_shown (secret_run_facts secret).secret_in_region)
        -- every other index: the two lists have the same byte
        | inr is_other ↦
            other_byte before_secret (replicate bytes_after_secret 0) secret other_secret index (λ equal. is_other (equal ∙ secret_is_at_offset))
      ];
    }) (λ not_live. absurd (both_ways _ not_live (secret_run_facts secret).enclave_is_live))

-- the empty block has no byte
no_byte : (byte : ℕ) → has no_block byte ≡ false
no_byte byte = grind (arith, nat_tests)

-- ---- the moves

-- the interrupt exits from both machines and hands over the same
timer_exits_alike : (secret other_secret : ℕ) → ExitsAlike 0 0 (secret_raised secret) (secret_raised other_secret)
timer_exits_alike secret other_secret = record {
  runs = (secret_run_facts secret).runs_before_interrupt;
  window = record {
    size = (secret_run_facts secret).memory_size ∙ sym (secret_run_facts other_secret).memory_size;
    bytes = λ index in_window.
        let not_in_window =
        ap not (ap (λ (block : Block). has block (ram_base + index)) (secret_run_facts secret).window_is_empty ∙ no_byte (ram_base + index)) in
        absurd (both_ways _ in_window not_in_window);
  };
  trap = timer_trap;
  handover = tt;
  first = (secret_run_facts secret).trap_is;
  second = (secret_run_facts other_secret).trap_is;
  first_exits = (secret_run_facts secret).host_runs_after;
  second_exits = (secret_run_facts other_secret).host_runs_after;
}

-- the proof that the first move is permitted, followed by the proof for the other moves
abbrev pub and_then : {A B : Type 0} → A → B → A × B
and_then first_move others = (first_move, others)

-- the moves of the example are permitted, for any two secrets
pub moves_permitted : (secret other_secret : ℕ) → AreMoves 0 secret_moves (secret_new secret) (secret_new other_secret)
moves_permitted secret other_secret =
    let first_facts = secret_run_facts secret in
    let second_facts = secret_run_facts other_secret in
    -- the host calls run
    and_then (inl (record { low = first_facts.run_1.not_on_hart; window = λ running. absurd (both_ways _ first_facts.run_1.not_running running) }))
    (and_then (inl (record { low = first_facts.run_2.not_on_hart; window = λ running. absurd (both_ways _ first_facts.run_2.not_running running) }))
    -- the load of the secret in each machine
    (and_then (record { before = first_facts.before_load; after = first_facts.after_load })
    (and_then (record { before = second_facts.before_load; after = second_facts.after_load })
    -- the timer line is set, and the timer interrupt exits from both machines
    (and_then tt
    (and_then (inr (timer_exits_alike secret other_secret))
    -- the host calls resume
    (and_then
    (inl (record { low = first_facts.resume_1.not_on_hart; window = λ running. absurd (both_ways _ first_facts.resume_1.not_running running) }))
    (and_then
    (inl (record { low = first_facts.resume_2.not_on_hart; window = λ running. absurd (both_ways _ first_facts.resume_2.not_running running) }))
    (and_then
    (inl (record { low = first_facts.resume_3.not_on_hart; window = λ running. absurd (both_ways _ first_facts.resume_3.not_running running) }))
    -- the last step of the enclave in each machine
    (and_then (record { before = first_facts.before_last; after = first_facts.after_last })
    (and_then (record { before = second_facts.before_last; after = second_facts.after_last }) tt))))))))))

-- proves that the steps of the example have equal outcomes for any two secrets
pub steps_concealed : (secret other_secret : ℕ) → IsConcealed secret other_secret
steps_concealed secret other_secret =
    record {
      moves_permitted = moves_permitted secret other_secret;
      outcomes_equal = declassification_law 0 secret_moves (secret_new secret) (secret_new other_secret) (invariant_after_create secret)
          (invariant_after_create other_secret) (machines_related secret other_secret) (moves_permitted secret other_secret);
    }
