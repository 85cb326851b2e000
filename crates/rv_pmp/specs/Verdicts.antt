-- The verdict of the PMP entries on an access, by the addresses of its bytes (RISC-V Privileged Architecture 20211203, section 3.7.1, Priority
-- and Matching Logic).
use Rattle.std.specs.Prelude.{ℕ, Bool, true, false, if◌then◌else◌, List, Option, Some, None}
use Rattle.std.specs.List.{range_with_len, list_any, list_all, find}
use Rattle.rv_pmp.specs.declared.mode.Mode.{Mode}
use Rattle.rv_pmp.specs.declared.mode.Mode.TheVariants.{U, S, M}
use Rattle.rv_pmp.specs.declared.access.Access.{Access}
use Rattle.rv_pmp.specs.declared.verdict.Verdict.{Verdict}
use Rattle.rv_pmp.specs.declared.verdict.Verdict.TheVariants.{Allowed, AllowedFree, Denied, DeniedPartial, DeniedFree}
use Rattle.rv_pmp.specs.Cfg.{grants}
use Rattle.rv_pmp.specs.Entries.{Entries, cfg_of}
use Rattle.rv_pmp.specs.Covers.{covers}

-- the addresses of `count` bytes from one on; they do not wrap
abbrev pub bytes_from : ℕ → ℕ → List ℕ
bytes_from address count = range_with_len address count

-- The matching entry: the lowest that covers some byte of the access, or none.
unfoldable pub matching_entry : Entries → List ℕ → Option ℕ
matching_entry entries bytes = find (λ entry. list_any (covers entries entry) bytes) (range_with_len 0 16)

-- the verdict if this entry is the matching entry, and covers all bytes or not
abbrev pub match_verdict : Entries → Mode → Access → ℕ → Bool → Verdict
match_verdict entries mode access entry covers_all =
    if covers_all
    then (if grants mode access (cfg_of entries entry) then Allowed entry else Denied entry)
    else DeniedPartial entry

-- the verdict if no entry matches
abbrev pub no_match_verdict : Mode → Verdict
no_match_verdict M = AllowedFree
no_match_verdict S = DeniedFree
no_match_verdict U = DeniedFree

-- the verdict by the matching entry, which must match all bytes, or by the mode if no entry matches
abbrev pub verdict_by : Entries → Mode → Access → List ℕ → Option ℕ → Verdict
verdict_by entries mode access bytes None = no_match_verdict mode
verdict_by entries mode access bytes (Some entry) = match_verdict entries mode access entry (list_all (covers entries entry) bytes)

-- The verdict on an access to these bytes.
unfoldable pub verdict : Entries → Mode → Access → List ℕ → Verdict
verdict entries mode access bytes = verdict_by entries mode access bytes (matching_entry entries bytes)

-- whether an access with this verdict is permitted
abbrev pub permits : Verdict → Bool
permits (Allowed entry) = true
permits AllowedFree = true
permits (Denied entry) = false
permits (DeniedPartial entry) = false
permits DeniedFree = false
