-- The proof obligations of `step_in` (src/monitored_machine.rt).
use Rattle.std.proofs.Common.{sym, ◌∙◌, rules}
use Rattle.rv_monitor.proofs.Held.{element_step}
use Rattle.rv_monitor.proofs.monitored_machine.step_in.Goals as goal

-- the call of `program_other_pmp` meets its `requires`
pub program_other_pmp-requires : goal.program_other_pmp-requires
program_other_pmp-requires g c =
    -- the facts about the step of this array element, whose result is the step of its view (`meaning`)
    let step_facts = element_step c.args.by_hart.now c.args.harts c.args.hart c.args.shared.now _ c.index-by_hart-hart.result _ _ (search rules)
    c.requires.has c.requires.few c.requires.kept c.step_hart-outcome.ensures.meaning in
    record { has = c.requires.has; few = c.requires.few; own = step_facts.stepped_hart_is_programmed; unlocked = step_facts.others_unlocked }

-- `step_in` meets its contract in the arm `None`
pub returns-in-None : goal.returns-in-None
returns-in-None g c =
    -- the facts about the step of this array element, whose result is the step of its view (`meaning`)
    let step_facts = element_step c.args.by_hart.now c.args.harts c.args.hart c.args.shared.now _ c.index-by_hart-hart.result _ _ (search rules)
    c.requires.has c.requires.few c.requires.kept c.step_hart-outcome.ensures.meaning in
    let step_is = step_facts.step_without_trap c.in-None.is in
    record { meaning = step_is; kept = step_facts.full_invariant_preserved _ c.step_hart-outcome.ensures.legal step_is }

-- `step_in` meets its contract if the test `is_redirected` holds
pub returns-then-is_redirected : goal.returns-then-is_redirected
returns-then-is_redirected g c =
    -- the facts about the step of this array element, whose result is the step of its view (`meaning`)
    let step_facts = element_step c.args.by_hart.now c.args.harts c.args.hart c.args.shared.now _ c.index-by_hart-hart.result _ _ (search rules)
    c.requires.has c.requires.few c.requires.kept c.step_hart-outcome.ensures.meaning in
    let step_is = step_facts.redirected_step _ c.in-Some.is (sym c.is_redirected.ensures ∙ c.if-is_redirected.true) in
    record { meaning = step_is; kept = step_facts.full_invariant_preserved _ c.step_hart-outcome.ensures.legal step_is }

-- `step_in` meets its contract if the test `is_redirected` fails
pub returns-else-is_redirected : goal.returns-else-is_redirected
returns-else-is_redirected g c =
    -- the facts about the step of this array element, whose result is the step of its view (`meaning`)
    let step_facts = element_step c.args.by_hart.now c.args.harts c.args.hart c.args.shared.now _ c.index-by_hart-hart.result _ _ (search rules)
    c.requires.has c.requires.few c.requires.kept c.step_hart-outcome.ensures.meaning in
    let step_is = step_facts.step_with_programmed_harts _ _ c.in-Some.is c.program_other_pmp.ensures in
    record { meaning = step_is; kept = step_facts.full_invariant_preserved _ c.step_hart-outcome.ensures.legal step_is }
