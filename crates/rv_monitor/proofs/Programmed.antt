-- The loop that programs the PMP entries and mie of the other harts. Before the loop handles a hart, the harts with a lower number are
-- programmed, and the others are unchanged.
use Rattle.std.proofs.Common.{◌≡◌, ◌<◌, ◌≤◌, ℕ, ◌+◌, List, length, slice_set, refl, sym, ◌∙◌, ap, subst, below_more, arith}
use Rattle.std.specs.Prelude.{map, take}
use Rattle.std.proofs.lemmas.List.{length-take-le}
use Rattle.rv_monitor.specs.Prelude.{HartState, Slots}
use Rattle.rv_monitor.proofs.Prelude.{get_or-map, get_or-set_at, get_or-set_other, get_or-take, get_or_default, hart_state_at_start, hart_state_in, length-map}
use Rattle.rv_monitor.proofs.Prelude.{length-set, reprogrammed, same_lists}

-- the state of the loop: the first `count` hart states are reprogrammed, and the others are unchanged
pub record AreProgrammed (table : Slots) (original current : List HartState) (count : ℕ) : Type 0 where
  -- the loop keeps the number of hart states
  pub size : length current ≡ length original
  -- each hart state below `count` is reprogrammed
  pub done : (hart : ℕ) → hart < count → hart_state_in current hart ≡ reprogrammed table (hart_state_in original hart)
  -- the other hart states are unchanged
  pub rest : (hart : ℕ) → count ≤ hart → hart_state_in current hart ≡ hart_state_in original hart

-- at the start of the loop, no hart state is reprogrammed
pub none_programmed : (table : Slots) (original : List HartState) → AreProgrammed table original original 0
none_programmed table original =
    record { size = refl; done = λ hart below. absurd (omega (arith, below)); rest = λ hart not_below. refl }

-- the loop is about to handle the hart `hart`
module _ (table : Slots) (original current : List HartState) (hart : ℕ) (so_far : AreProgrammed table original current hart) where
  -- one iteration of the loop programs the next hart
  pub one_programmed : hart < length current
      → AreProgrammed table original (slice_set current hart (reprogrammed table (hart_state_in current hart))) (hart + 1)
  one_programmed in_array =
      let programmed = reprogrammed table (hart_state_in current hart) in
      record {
        size = length-set current hart programmed ∙ so_far.size;
        -- the harts below `hart` are still programmed, and now `hart` is programmed too
        done = below_more _ _
            (λ other_hart below. get_or-set_other current hart other_hart programmed (hart_state_at_start 0)
            (λ harts_equal. omega (arith, harts_equal, below)) ∙ so_far.done other_hart below)
            (get_or-set_at current hart hart programmed (hart_state_at_start 0) refl in_array
            ∙ ap (reprogrammed table) (so_far.rest hart (omega arith)));
        -- the harts above `hart` are still unchanged
        rest = λ other_hart above.
            get_or-set_other current hart other_hart programmed (hart_state_at_start 0) (λ harts_equal. omega (arith, harts_equal, above))
            ∙ so_far.rest other_hart (omega (arith, above));
      }

  -- one iteration of the loop changes nothing if the next hart is already programmed
  pub next_hart_unchanged : reprogrammed table (hart_state_in original hart) ≡ hart_state_in original hart
      → AreProgrammed table original current (hart + 1)
  next_hart_unchanged reprogrammed_is = record {
    size = so_far.size;
    done = below_more _ _ so_far.done (so_far.rest hart (omega arith) ∙ sym reprogrammed_is);
    rest = λ other_hart above. so_far.rest other_hart (omega (arith, above));
  }

  -- at the end of the loop, all harts of the machine are reprogrammed
  pub all_programmed : hart ≤ length original → take hart current ≡ map (reprogrammed table) (take hart original)
  all_programmed in_array =
      let default = hart_state_at_start 0 in
      let current_length = length-take-le hart current (omega (arith, so_far.size, in_array)) in
      let original_length = length-take-le hart original in_array in
      same_lists (take hart current) (map (reprogrammed table) (take hart original))
      (current_length ∙ sym (length-map (take hart original) (reprogrammed table) ∙ original_length))
      (λ index some_default in_range.
      let below : index < hart = omega (arith, current_length, in_range) in
      get_or-take hart current index some_default below
      ∙ get_or_default current index some_default default (omega (arith, so_far.size, in_array, below)) ∙ so_far.done index below
      ∙ ap (reprogrammed table) (sym (get_or-take hart original index default below))
      ∙ sym (get_or-map (reprogrammed table) (take hart original) index default some_default (omega (arith, original_length, below))))

-- the loop changes nothing on a machine with one hart that is already programmed
pub single_hart_unchanged : (table : Slots) (state_array : List HartState) (hart_count hart : ℕ)
    → hart < hart_count → hart_count ≤ 1
    → hart_count ≤ length state_array
    → reprogrammed table (hart_state_in state_array hart) ≡ hart_state_in state_array hart
    → take hart_count state_array ≡ map (reprogrammed table) (take hart_count state_array)
single_hart_unchanged table state_array hart_count hart in_range at_most_one in_array is_programmed =
    let hart_is_0 : hart ≡ 0 = omega (arith, in_range, at_most_one) in
    let one_hart : 1 ≡ hart_count = omega (arith, in_range, at_most_one) in
    let IsProgrammed : ℕ → Type 0 =
    λ hart. reprogrammed table (hart_state_in state_array hart) ≡ hart_state_in state_array hart in
    let programmed : AreProgrammed table state_array state_array 1 =
    next_hart_unchanged table state_array state_array 0 (none_programmed table state_array) (subst IsProgrammed hart_is_0 is_programmed) in
    subst (λ (count : ℕ). take count state_array ≡ map (reprogrammed table) (take count state_array)) one_hart
    (all_programmed table state_array state_array 1 programmed (omega (arith, one_hart, in_array)))
