-- The loop over a schedule: each iteration is one step of the hart that its digit names.
use Rattle.std.proofs.Common.{◌≡◌, ◌<◌, ◌≤◌, ℕ, ◌+◌, true, List, [], ◌∷◌, map, drop, get_or, length, refl, sym, ◌∙◌, ap, arith}
use Rattle.std.specs.Prelude.{◌&&◌, nat_lt}
use Rattle.rv_debug.specs.Prelude.{Bare, Monitored, Target, hart_of_digit, has_all}
use Rattle.rv_debug.proofs.Prelude.{AfterSchedule, IsBare, and_parts, drop_all, drop_more, harts_of, nat_tests, step_count, target_stepped}
use Rattle.rv_debug.proofs.Prelude.{scheduled_steps, with_selected, with_scheduled_step}
use Rattle.rv_debug.proofs.ScheduledSteps.{after_schedule, bare_target, step_stays_bare}

-- ---- the number of harts

-- a step keeps the number of harts
stepped_harts : (target : Target) → harts_of (target_stepped target).state ≡ harts_of target
stepped_harts (Bare machine) = refl
stepped_harts (Monitored machine) = step_count machine.hart machine.state

-- the selection of a hart keeps the number of harts
selected_harts : (hart : ℕ) (target : Target) → harts_of (with_selected hart target) ≡ harts_of target
selected_harts hart (Bare machine) = refl
selected_harts hart (Monitored machine) = refl

-- a step does not change the number of harts of a target
pub step_harts : (hart : ℕ) (target : Target) → harts_of (target_stepped (with_selected hart target)).state ≡ harts_of target
step_harts hart target = stepped_harts (with_selected hart target) ∙ selected_harts hart target

-- `after_step_of` is the target after one step of a hart of the schedule
abbrev after_step_of : ℕ → AfterSchedule → AfterSchedule
after_step_of hart before = with_scheduled_step hart before (target_stepped (with_selected hart before.state))

-- scheduled steps do not change the number of harts of a target
pub schedule_harts : (harts : List ℕ) (before : AfterSchedule) → harts_of (scheduled_steps harts before).state ≡ harts_of before.state
unfolding scheduled_steps
schedule_harts [] before = refl
schedule_harts (hart ∷ harts) before = schedule_harts harts (after_step_of hart before) ∙ step_harts hart before.state

-- ---- a bare machine enters no enclave

-- a step of a bare machine enters no slot
step_enters_none : (hart : ℕ) (before : AfterSchedule) → IsBare before.state → (after_step_of hart before).did.entered ≡ before.did.entered
step_enters_none hart before =
    bare_target (λ (target : Target). (after_step_of hart (after_schedule target before.did)).did.entered ≡ before.did.entered)
    (λ machine. refl) before.state

-- the steps of a bare machine enter no slot
pub schedule_enters_none : (harts : List ℕ) (before : AfterSchedule) → IsBare before.state
    → (scheduled_steps harts before).did.entered ≡ before.did.entered
unfolding scheduled_steps
schedule_enters_none [] before is_bare = refl
schedule_enters_none (hart ∷ harts) before is_bare =
    schedule_enters_none harts (after_step_of hart before) (step_stays_bare hart before.state is_bare) ∙ step_enters_none hart before is_bare

-- ---- all scheduled steps

-- `harts_from` has the harts of the digits from an index on
abbrev pub harts_from : ℕ → List ℕ → List ℕ
harts_from index digits = map hart_of_digit (drop index digits)

-- the harts from an index on are the hart of the digit at this index, and the harts of the digits after it
next_digit : (digits : List ℕ) (index digit : ℕ) → index < length digits → digit ≡ get_or digits index 0
    → harts_from index digits ≡ hart_of_digit digit ∷ harts_from (index + 1) digits
next_digit digits index digit in_bounds digit_is =
    ap (map hart_of_digit)
    (drop_more digits index 0 in_bounds ∙ ap (λ (first_hart_digit : ℕ). first_hart_digit ∷ drop (index + 1) digits) (sym digit_is))

-- the steps of a schedule are the step of its first hart, and then the steps of the other harts
schedule_is_first_and_rest : (hart : ℕ) (harts : List ℕ) (before : AfterSchedule)
    → scheduled_steps (hart ∷ harts) before ≡ scheduled_steps harts (after_step_of hart before)
unfolding scheduled_steps
schedule_is_first_and_rest hart harts before = refl

-- the steps from the digit at an index on are the step of its hart, and then the steps from the next digit on
pub scheduled_step_more : (digits : List ℕ) (index digit hart : ℕ) (before after : AfterSchedule) → index < length digits
    → digit ≡ get_or digits index 0
    → hart ≡ hart_of_digit digit → with_scheduled_step hart before (target_stepped (with_selected hart before.state)) ≡ after
    → scheduled_steps (harts_from index digits) before ≡ scheduled_steps (harts_from (index + 1) digits) after
scheduled_step_more digits index digit hart before after in_bounds digit_is hart_is next_is =
    ap (λ (harts : List ℕ). scheduled_steps harts before) (next_digit digits index digit in_bounds digit_is
    ∙ ap (λ (first_hart : ℕ). first_hart ∷ harts_from (index + 1) digits) (sym hart_is))
    ∙ schedule_is_first_and_rest hart (harts_from (index + 1) digits) before ∙ ap (scheduled_steps (harts_from (index + 1) digits)) next_is

-- all harts of a schedule exist if its first hart exists and the others do
has_all_is_first_and_rest : (count hart : ℕ) (harts : List ℕ) → has_all count (hart ∷ harts) ≡ (nat_lt hart count && has_all count harts)
unfolding has_all
has_all_is_first_and_rest count hart harts = refl

-- if all harts from an index on exist, then the hart at the index exists, and so do all harts after it
pub has_next : (count : ℕ) (digits : List ℕ) (index digit : ℕ) → index < length digits → digit ≡ get_or digits index 0
    → has_all count (harts_from index digits) ≡ true → (hart_of_digit digit < count) × (has_all count (harts_from (index + 1) digits) ≡ true)
has_next count digits index digit in_bounds digit_is all_exist =
    let (next_exists, later_exist) = and_parts (nat_lt (hart_of_digit digit) count) (has_all count (harts_from (index + 1) digits))
    (sym (has_all_is_first_and_rest count (hart_of_digit digit) (harts_from (index + 1) digits))
    ∙ ap (has_all count) (sym (next_digit digits index digit in_bounds digit_is)) ∙ all_exist) in
    (grind (arith, nat_tests, next_exists), later_exist)

-- after the last digit, the steps of the schedule are done
pub no_digits_left : (digits : List ℕ) (index : ℕ) (before : AfterSchedule) → length digits ≤ index
    → scheduled_steps (harts_from index digits) before ≡ before
unfolding scheduled_steps
no_digits_left digits index before all_passed =
    ap (λ (digits_left : List ℕ). scheduled_steps (map hart_of_digit digits_left) before) (drop_all index digits all_passed)
