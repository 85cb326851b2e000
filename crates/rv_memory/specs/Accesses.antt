-- The accesses of a hart, at any alignment. An access is refused as a whole if one of its bytes is outside RAM, and then if the PMP entries do
-- not permit it. RISC-V Unprivileged ISA 20191213, sections 1.4, 1.5 and 2.6; Privileged Architecture 20211203, section 3.7.1.
use Rattle.std.specs.Prelude.{ℕ, List, Result, Ok, Err, if◌then◌else◌}
use Rattle.rv_word.specs.Cases.{option_case}
use Rattle.rv_word.specs.Widths.{bytes_in}
use Rattle.rv_word.specs.declared.width.Width.{Width}
use Rattle.rv_word.specs.declared.width.Width.TheVariants.{Word}
use Rattle.rv_pmp.specs.Entries.{Entries}
use Rattle.rv_pmp.specs.Verdicts.{bytes_from, permits, verdict}
use Rattle.rv_pmp.specs.declared.access.Access.{Access}
use Rattle.rv_pmp.specs.declared.access.Access.TheVariants.{Fetch, Read, Write}
use Rattle.rv_pmp.specs.declared.mode.Mode.{Mode}
use Rattle.rv_pmp.specs.declared.verdict.Verdict.{Verdict}
use Rattle.rv_memory.specs.Memory.{read, write, number_of_bytes, bytes_of}
use Rattle.rv_memory.specs.declared.access_fault.AccessFault.{AccessFault}
use Rattle.rv_memory.specs.declared.access_fault.AccessFault.TheVariants.{Outside, Refused}

-- `verdict_on` is the verdict on an access of this width
abbrev pub verdict_on : Entries → Mode → Access → ℕ → Width → Verdict
verdict_on entries mode access address width = verdict entries mode access (bytes_from address (bytes_in width))

-- `where_permitted` is the value of an access if the verdict permits it, otherwise the refusal
abbrev pub where_permitted : {A : Type 0} → Verdict → A → Result A AccessFault
where_permitted given value = if permits given then Ok value else Err (Refused given)

-- `loaded` is the number that a load reads, or the access fault
abbrev pub loaded : List ℕ → Entries → Mode → ℕ → Width → Result ℕ AccessFault
loaded memory entries mode address width =
    option_case (read memory address (bytes_in width)) (Err Outside)
    (λ bytes. where_permitted (verdict_on entries mode Read address width) (number_of_bytes bytes))

-- `fetched` is the word that a fetch reads, or the access fault
abbrev pub fetched : List ℕ → Entries → Mode → ℕ → Result ℕ AccessFault
fetched memory entries mode address =
    option_case (read memory address (bytes_in Word)) (Err Outside)
    (λ bytes. where_permitted (verdict_on entries mode Fetch address Word) (number_of_bytes bytes))

-- `stored` is the memory after a store of the lowest bytes of a word, or the access fault
abbrev pub stored : List ℕ → Entries → Mode → ℕ → Width → ℕ → Result (List ℕ) AccessFault
stored memory entries mode address width value =
    option_case (write memory address (bytes_of (bytes_in width) value)) (Err Outside)
    (λ after. where_permitted (verdict_on entries mode Write address width) after)
