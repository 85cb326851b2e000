-- Fetches, loads and stores. An access succeeds if and only if its bytes are in RAM and the PMP entries permit it. Two memories of the same size
-- accept and refuse the same accesses.
use Rattle.std.proofs.Common.{◌≡◌, ℕ, ◌-◌, List, length, Option, Some, None, Result, Ok, Err, Bool, true, false, refl}
use Rattle.std.specs.Option.{option_map}
use Rattle.std.specs.Prelude.{if◌then◌else◌}
use Rattle.rv_word.specs.Cases.{option_case}
use Rattle.rv_word.specs.Widths.{bytes_in}
use Rattle.rv_word.specs.declared.width.Width.{Width}
use Rattle.rv_word.specs.declared.width.Width.TheVariants.{Word}
use Rattle.rv_pmp.specs.Entries.{Entries}
use Rattle.rv_pmp.specs.Verdicts.{permits}
use Rattle.rv_pmp.specs.declared.access.Access.TheVariants.{Fetch, Read, Write}
use Rattle.rv_pmp.specs.declared.mode.Mode.{Mode}
use Rattle.rv_pmp.specs.declared.verdict.Verdict.{Verdict}
use Rattle.rv_memory.specs.Accesses.{loaded, fetched, stored, where_permitted, verdict_on}
use Rattle.rv_memory.specs.Memory.{ram_base, is_inside, read, write, write_bytes, number_of_bytes, number_at, bytes_of}
use Rattle.rv_memory.specs.declared.access_fault.AccessFault.{AccessFault}
use Rattle.rv_memory.specs.declared.access_fault.AccessFault.TheVariants.{Outside, Refused}
use Rattle.rv_memory.proofs.MemoryLaws.{length-bytes_of}

-- ---- an access that succeeds is in RAM and permitted

-- The result of an access. `in_ram` is what the access finds in RAM, or None if one of its bytes is outside. If the verdict permits the access, its
-- value is given by `result_of`.
abbrev judged : {A B : Type 0} → Option B → Verdict → (B → A) → Result A AccessFault
judged in_ram verdict result_of = option_case in_ram (Err Outside) (λ found. where_permitted verdict (result_of found))

-- a result that needs a permission and is Ok was permitted, and is the value of the access
ok-permitted : {A : Type 0} (permitted : Bool) (verdict : Verdict) (value result : A)
    → (if permitted then Ok value else Err (Refused verdict)) ≡ Ok result → (permitted ≡ true) × (value ≡ result)
ok-permitted true verdict value result result_is = (refl, cc)
ok-permitted false verdict value result result_is = cc

-- a judged access that is Ok is in RAM and permitted, and its result is the value of the access
judged-ok : {A B : Type 0} (inside : Bool) (found : B) (verdict : Verdict) (result_of : B → A) (result : A)
    → judged (if inside then Some found else None) verdict result_of ≡ Ok result
    → (inside ≡ true) × (permits verdict ≡ true) × (result_of found ≡ result)
judged-ok true found verdict result_of result access_is =
    let ok = ok-permitted (permits verdict) verdict (result_of found) result access_is in (refl, ok.0, ok.1)
judged-ok false found verdict result_of result access_is = cc

-- a fetch from a memory that succeeds is in RAM and permitted
pub fetch_done : (memory : List ℕ) (entries : Entries) (mode : Mode) (address word : ℕ) → fetched memory entries mode address ≡ Ok word
    → (is_inside memory address (bytes_in Word) ≡ true) × (permits (verdict_on entries mode Fetch address Word) ≡ true)
unfolding read
fetch_done memory entries mode address word fetch_is = let ok = judged-ok _ _ _ number_of_bytes word fetch_is in (ok.0, ok.1)

-- a load from a memory that succeeds is in RAM and permitted
pub load_done : (memory : List ℕ) (entries : Entries) (mode : Mode) (address : ℕ) (width : Width) (number : ℕ)
    → loaded memory entries mode address width ≡ Ok number
    → (is_inside memory address (bytes_in width) ≡ true) × (permits (verdict_on entries mode Read address width) ≡ true)
unfolding read
load_done memory entries mode address width number load_is =
    let ok = judged-ok _ _ _ number_of_bytes number load_is in (ok.0, ok.1)

-- a store to a memory that succeeds is in RAM and permitted, and writes the bytes of its value
pub store_done : (memory : List ℕ) (entries : Entries) (mode : Mode) (address : ℕ) (width : Width) (value : ℕ) (after : List ℕ)
    → stored memory entries mode address width value ≡ Ok after
    → (is_inside memory address (bytes_in width) ≡ true) × (permits (verdict_on entries mode Write address width) ≡ true)
    × (write_bytes memory (address - ram_base) (bytes_of (bytes_in width) value) ≡ after)
unfolding write
store_done memory entries mode address width value after store_is =
    let ok = judged-ok _ _ _ (λ (after : List ℕ). after) after store_is in
    (rw length-bytes_of at ok.0, ok.1, ok.2)

-- ---- an access that is in RAM and permitted succeeds

-- if the bytes that an access finds in RAM have this number, and the verdict permits the access, its result is the number
number-judged : (bytes : Option (List ℕ)) (verdict : Verdict) (number : ℕ) → option_map number_of_bytes bytes ≡ Some number
    → permits verdict ≡ true → judged bytes verdict number_of_bytes ≡ Ok number
number-judged None verdict number number_is is_permitted = cc
number-judged (Some bytes) verdict number number_is is_permitted =
    let number_of_bytes_is : number_of_bytes bytes ≡ number = cc in
    rw (is_permitted, number_of_bytes_is) refl

-- a fetch that is in RAM and permitted returns the word there
pub fetch_permitted : (memory : List ℕ) (entries : Entries) (mode : Mode) (address word : ℕ) → number_at memory address (bytes_in Word) ≡ Some word
    → permits (verdict_on entries mode Fetch address Word) ≡ true → fetched memory entries mode address ≡ Ok word
fetch_permitted memory entries mode address word number_is is_permitted =
    number-judged (read memory address (bytes_in Word)) (verdict_on entries mode Fetch address Word) word number_is is_permitted

-- a load that is in RAM and permitted returns the number there
pub load_permitted : (memory : List ℕ) (entries : Entries) (mode : Mode) (address : ℕ) (width : Width) (number : ℕ)
    → number_at memory address (bytes_in width) ≡ Some number → permits (verdict_on entries mode Read address width) ≡ true
    → loaded memory entries mode address width ≡ Ok number
load_permitted memory entries mode address width number number_is is_permitted =
    number-judged (read memory address (bytes_in width)) (verdict_on entries mode Read address width) number number_is is_permitted

-- a store that is in RAM and permitted leaves the written memory
pub store_permitted : (memory : List ℕ) (entries : Entries) (mode : Mode) (address : ℕ) (width : Width) (value : ℕ) (after : List ℕ)
    → write memory address (bytes_of (bytes_in width) value) ≡ Some after → permits (verdict_on entries mode Write address width) ≡ true
    → stored memory entries mode address width value ≡ Ok after
store_permitted memory entries mode address width value after write_is is_permitted = rw (write_is, is_permitted) refl

-- ---- an access that one memory refuses or accepts has the same outcome in every other memory of the same size

-- a result that needs a permission and is refused is refused with the same fault for every other value
refused-for-every-value : {A : Type 0} (permitted : Bool) (verdict : Verdict) (value other : A) (fault : AccessFault)
    → (if permitted then Ok value else Err (Refused verdict)) ≡ Err fault → (if permitted then Ok other else Err (Refused verdict)) ≡ Err fault
refused-for-every-value true verdict value other fault result_is = cc
refused-for-every-value false verdict value other fault result_is = cc

-- a judged access that fails has the same fault, whatever it finds in RAM at the same addresses
judged-refused : {A B : Type 0} (inside : Bool) (found other : B) (verdict : Verdict) (result_of : B → A) (fault : AccessFault)
    → judged (if inside then Some found else None) verdict result_of ≡ Err fault
    → judged (if inside then Some other else None) verdict result_of ≡ Err fault
judged-refused true found other verdict result_of fault access_is =
    refused-for-every-value (permits verdict) verdict (result_of found) (result_of other) fault access_is
judged-refused false found other verdict result_of fault access_is = cc

-- a fetch that fails in a memory fails with the same fault in each memory of the same size
pub fetch_refused_too : (memory other_memory : List ℕ) (entries : Entries) (mode : Mode) (address : ℕ) (fault : AccessFault)
    → length memory ≡ length other_memory
    → fetched memory entries mode address ≡ Err fault → fetched other_memory entries mode address ≡ Err fault
unfolding read
fetch_refused_too memory other_memory entries mode address fault same_length fetch_is =
    judged-refused _ _ _ _ number_of_bytes fault (rw same_length at fetch_is)

-- a load that fails in a memory fails with the same fault in each memory of the same size
pub load_refused_too : (memory other_memory : List ℕ) (entries : Entries) (mode : Mode) (address : ℕ) (width : Width) (fault : AccessFault)
    → length memory ≡ length other_memory → loaded memory entries mode address width ≡ Err fault
    → loaded other_memory entries mode address width ≡ Err fault
unfolding read
load_refused_too memory other_memory entries mode address width fault same_length load_is =
    judged-refused _ _ _ _ number_of_bytes fault (rw same_length at load_is)

-- a store that fails in a memory fails with the same fault in each memory of the same size
pub store_refused_too : (memory other_memory : List ℕ) (entries : Entries) (mode : Mode) (address : ℕ) (width : Width) (value : ℕ)
    (fault : AccessFault)
    → length memory ≡ length other_memory → stored memory entries mode address width value ≡ Err fault
    → stored other_memory entries mode address width value ≡ Err fault
unfolding write
store_refused_too memory other_memory entries mode address width value fault same_length store_is =
    judged-refused _ _ _ _ (λ (after : List ℕ). after) fault (rw same_length at store_is)

-- a store that succeeds in a memory also succeeds in each memory of the same size, and writes the same bytes
pub store_done_too : (memory other_memory : List ℕ) (entries : Entries) (mode : Mode) (address : ℕ) (width : Width) (value : ℕ) (after : List ℕ)
    → length memory ≡ length other_memory → stored memory entries mode address width value ≡ Ok after
    → stored other_memory entries mode address width value ≡ Ok (write_bytes other_memory (address - ram_base) (bytes_of (bytes_in width) value))
unfolding write
store_done_too memory other_memory entries mode address width value after same_length store_is =
    let ok = store_done memory entries mode address width value after store_is in
    let inside : is_inside other_memory address (length (bytes_of (bytes_in width) value)) ≡ true = rw (length-bytes_of, ← same_length) ok.0 in
    rw (inside, ok.1) refl

-- ---- an access has the same result in two memories with the same bytes there

-- a fetch has the same result in two memories with the same bytes at the address
pub fetch_same : (memory other_memory : List ℕ) (entries : Entries) (mode : Mode) (address : ℕ)
    → read memory address (bytes_in Word) ≡ read other_memory address (bytes_in Word)
    → fetched memory entries mode address ≡ fetched other_memory entries mode address
fetch_same memory other_memory entries mode address same_bytes = rw same_bytes refl

-- a load has the same result in two memories with the same bytes at the address
pub load_same : (memory other_memory : List ℕ) (entries : Entries) (mode : Mode) (address : ℕ) (width : Width)
    → read memory address (bytes_in width) ≡ read other_memory address (bytes_in width)
    → loaded memory entries mode address width ≡ loaded other_memory entries mode address width
load_same memory other_memory entries mode address width same_bytes = rw same_bytes refl
