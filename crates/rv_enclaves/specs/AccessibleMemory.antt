-- The memory that each world can access, as sets of bytes, and the law that the PMP entries of its layout permit exactly these accesses.
-- (Keystone, EuroSys 2020, in this project's profile. Only the law refers to PMP entries.)
use Rattle.std.specs.Prelude.{ℕ, ◌+◌, ◌≡◌, ◌≢◌, ◌≤◌, ◌<◌, ◌&&◌, Bool, true, false, not, List, [], ◌∷◌}
use Rattle.std.specs.List.{list_any, list_all}
use Rattle.rv_word.specs.Widths.{bytes_in}
use Rattle.rv_word.specs.declared.width.Width.{Width}
use Rattle.rv_pmp.specs.Verdicts.{bytes_from, permits, verdict}
use Rattle.rv_pmp.specs.declared.access.Access.{Access}
use Rattle.rv_pmp.specs.declared.access.Access.TheVariants.{Fetch, Read, Write}
use Rattle.rv_pmp.specs.declared.mode.Mode.{Mode}
use Rattle.rv_pmp.specs.declared.mode.Mode.TheVariants.{M}
use Rattle.rv_memory.specs.Memory.{is_inside}
use Rattle.rv_memory.specs.Blocks.{has, monitor_block}
use Rattle.rv_enclaves.specs.Layout.{layout}
use Rattle.rv_enclaves.specs.Table.{Slots, IsValid, region, window, is_in_region, is_world_of}
use Rattle.rv_enclaves.specs.declared.world.World.{World}
use Rattle.rv_enclaves.specs.declared.world.World.TheVariants.{Host, Enclave}

-- the host accesses RAM without the monitor's range and the live regions
abbrev pub host_has : List ℕ → Slots → ℕ → Bool
host_has memory table byte =
    is_inside memory byte 1 && (not (has monitor_block byte) && not (is_in_region table byte))

-- an enclave accesses its window by loads and stores
abbrev pub windows_accessible : Slots → ℕ → Access → List (ℕ → Bool)
windows_accessible table slot Fetch = []
windows_accessible table slot Read = has (window table slot) ∷ []
windows_accessible table slot Write = has (window table slot) ∷ []

-- the sets of bytes that a world can access
abbrev pub sets_accessible : List ℕ → Slots → World → Access → List (ℕ → Bool)
sets_accessible memory table Host access = host_has memory table ∷ []
sets_accessible memory table (Enclave slot) access = has (region table slot) ∷ windows_accessible table slot access

-- an access is accessible if all its bytes are in one of the sets
unfoldable pub is_accessible : List ℕ → Slots → World → Access → List ℕ → Bool
is_accessible memory table world access bytes = list_any (λ set. list_all set bytes) (sets_accessible memory table world access)

-- S and U are permitted an access to bytes in RAM if and only if it is accessible
abbrev pub LayoutAccessLaw : Type 0
LayoutAccessLaw =
    (memory : List ℕ) (table : Slots) (world : World) (mode : Mode) (access : Access) (address : ℕ) (width : Width)
    → IsValid memory table → mode ≢ M → is_inside memory address (bytes_in width) ≡ true
    → permits (verdict (layout table world) mode access (bytes_from address (bytes_in width)))
    ≡ is_accessible memory table world access (bytes_from address (bytes_in width))

-- no permitted access of S or U has a byte in the region of an enclave other than the one that runs
abbrev pub ApartLaw : Type 0
ApartLaw =
    (memory : List ℕ) (table : Slots) (world : World) (mode : Mode) (access : Access) (address : ℕ) (width : Width) (slot byte : ℕ)
    → IsValid memory table → mode ≢ M → is_inside memory address (bytes_in width) ≡ true
    → is_world_of slot world ≡ false → permits (verdict (layout table world) mode access (bytes_from address (bytes_in width))) ≡ true
    → address ≤ byte → byte < address + bytes_in width → has (region table slot) byte ≡ false
