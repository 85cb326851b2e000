-- Permission of the accesses of a step: they are in RAM, and the PMP entries permit them in the mode of the access. (RISC-V Privileged
-- Architecture 20211203, sections 3.1.6.3 (MPRV) and 3.7.1.)
use Rattle.std.specs.Prelude.{◌≡◌, true, Option, Some, None}
use Rattle.rv_word.specs.Widths.{bytes_in}
use Rattle.rv_pmp.specs.Verdicts.{permits}
use Rattle.rv_pmp.specs.declared.access.Access.{Access}
use Rattle.rv_pmp.specs.declared.access.Access.TheVariants.{Fetch, Read, Write}
use Rattle.rv_pmp.specs.declared.mode.Mode.{Mode}
use Rattle.rv_memory.specs.Accesses.{verdict_on}
use Rattle.rv_memory.specs.Memory.{is_inside}
use Rattle.rv_memory.specs.declared.touched.Span.{Span}
use Rattle.rv_memory.specs.declared.touched.Touched.{Touched}
use Rattle.rv_hart.specs.Machine.{Machine, Stepped}
use Rattle.rv_hart.specs.Step.{data_mode}

-- the bytes of a span, if there is one, are in RAM, and the PMP entries permit an access of this kind to them
abbrev pub MayTouch : Machine → Mode → Access → Option Span → Type 0
MayTouch state mode access None = Unit {0}
MayTouch state mode access (Some span) =
    (is_inside state.memory span.addr (bytes_in span.len) ≡ true)
    × (permits (verdict_on state.hart.csrs.pmp mode access span.addr span.len) ≡ true)

-- PMP permits each access of the step: the fetch in the mode of the hart, loads and stores in the mode for data
pub record MayTouchAll (state : Machine) (touched : Touched) : Type 0 where
  -- the fetch is permitted in the mode of the hart
  pub fetched : MayTouch state state.hart.mode Fetch touched.fetched
  -- a load is permitted in the mode for data
  pub loaded : MayTouch state (data_mode state.hart) Read touched.loaded
  -- a store is permitted in the mode for data
  pub stored : MayTouch state (data_mode state.hart) Write touched.stored

-- a step makes only such accesses
abbrev pub TouchesPermitted : Machine → Stepped → Type 0
TouchesPermitted before after = MayTouchAll before after.outcome.touched
