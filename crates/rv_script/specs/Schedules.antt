-- Schedules: the hart of each step, as a word of digits. (This project's own commands.)
use Rattle.std.specs.Prelude.{ℕ, ◌-◌, ◌==◌, Bool, ◌||◌, ◌&&◌, nat_lt, nat_le, List, ◌++◌, map, take, length}
use Rattle.std.specs.Prelude.{replicate, Option, Some, None, codes, if◌then◌else◌}
use Rattle.std.specs.List.{list_all}
use Rattle.std.specs.Str.{bytes_eq}
use Rattle.rv_script.specs.declared.schedule.Schedule.{Schedule}

-- `hart_named` is the hart with this number as its text
abbrev pub hart_named : List ℕ → Option ℕ
hart_named operand = if bytes_eq operand (codes "0") then Some 0 else (if bytes_eq operand (codes "1") then Some 1 else None)

-- a digit of a schedule is 0 or 1
unfoldable pub is_hart_digit : ℕ → Bool
is_hart_digit byte = byte == 48 || byte == 49

-- `hart_of_digit` is the hart of a digit of the schedule: 1 for the digit 1 (code 49), and otherwise 0
unfoldable pub hart_of_digit : ℕ → ℕ
hart_of_digit digit = if digit == 49 then 1 else 0

-- a schedule has 1 to 64 digits 0 and 1
abbrev pub is_schedule : List ℕ → Bool
is_schedule word = nat_le 1 (length word) && nat_le (length word) 64 && list_all is_hart_digit word

-- `schedule_of` is the schedule of a word: its digits, followed by zeros up to 64
unfoldable pub schedule_of : List ℕ → Option Schedule
schedule_of word =
    if is_schedule word then Some (record { digits = word ++ replicate (64 - length word) 0; steps = length word }) else None

-- `harts_in` has the harts of a schedule, in the order of their steps
abbrev pub harts_in : Schedule → List ℕ
harts_in schedule = map hart_of_digit (take schedule.steps schedule.digits)

-- each of the harts is one of `count` harts
unfoldable pub has_all : ℕ → List ℕ → Bool
has_all count harts = list_all (λ hart. nat_lt hart count) harts
