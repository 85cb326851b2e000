-- This file proves obligations of `Schedule::new`, which returns the schedule of a word of 1 to 64 digits, each 0 or 1.
use Rattle.std.proofs.Common.{◌≡◌, ◌∙◌, ◌-◌, ℕ, List, ◌++◌, drop, length, replicate, Some, sym, ap, ap₂}
use Rattle.std.proofs.lemmas.List.{drop-replicate}
use Rattle.rv_script.specs.Schedules.{schedule_of}
use Rattle.rv_script.specs.declared.schedule.Schedule.{Schedule}
use Rattle.rv_script.proofs.schedule.Schedule.new.Goals as goal

-- if a word is copied over the first of `most` zeros, the other zeros follow it
copied : (most : ℕ) (word prefix : List ℕ) → prefix ≡ word
    → prefix ++ drop (length word) (replicate most 0) ≡ word ++ replicate (most - length word) 0
copied most word prefix prefix_is = ap₂ (λ (digits zeros : List ℕ). digits ++ zeros) prefix_is (drop-replicate (length word) most 0)

-- a valid word is copied to the 64 digits of the schedule, followed by zeros, and its length is the number of steps
pub returns : goal.returns
unfolding schedule_of
returns c =
    let word = c.args.word.now in
    let is_valid = sym c.is_schedule.ensures ∙ c.if-not-is_schedule.false in
    rw is_valid (ap (λ (digits : List ℕ). Some (let made : Schedule = record { digits = digits; steps = length word } in made))
    (copied 64 word c.copy_from_slice.new.self c.copy_from_slice.ensures.after))
