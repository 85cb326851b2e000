-- The fields of a cfg byte: RISC-V Privileged Architecture 20211203, section 3.7.1.
use Rattle.std.specs.Prelude.{ℕ, ◌+◌, ◌*◌, ◌^◌, Bool, not, ◌&&◌, ◌||◌, ◌==◌, if◌then◌else◌}
use Rattle.rv_word.specs.BitFields.{bits, is_set, flag}
use Rattle.rv_pmp.specs.declared.mode.Mode.{Mode}
use Rattle.rv_pmp.specs.declared.mode.Mode.TheVariants.{U, S, M}
use Rattle.rv_pmp.specs.declared.access.Access.{Access}
use Rattle.rv_pmp.specs.declared.access.Access.TheVariants.{Fetch, Read, Write}
use Rattle.rv_pmp.specs.declared.address_matching.AddressMatching.{AddressMatching}
use Rattle.rv_pmp.specs.declared.address_matching.AddressMatching.TheVariants.{Off, Tor, Na4, Napot}

-- the fields of a cfg byte are L, A of two bits, X, W and R
pub record Cfg : Type 0 where
  -- L: the entry is locked
  pub l : Bool
  -- A: the address matching, from 0 to 3
  pub a : ℕ
  -- X: fetches are permitted
  pub x : Bool
  -- W: stores are permitted
  pub w : Bool
  -- R: loads are permitted
  pub r : Bool

-- the fields of a cfg byte are L in bit 7, A in bits 4:3, and X, W and R in bits 2 to 0
abbrev pub fields_of : ℕ → Cfg
fields_of cfg = record { l = is_set cfg 7; a = bits cfg 4 3; x = is_set cfg 2; w = is_set cfg 1; r = is_set cfg 0 }

-- the byte with these fields; its bits 6 and 5 are 0
abbrev pub cfg_with : Cfg → ℕ
cfg_with fields = flag 7 fields.l + fields.a * 2 ^ 3 + flag 2 fields.x + flag 1 fields.w + flag 0 fields.r

-- The stored form of a written byte: bits 6 and 5 are cleared, and W is cleared if R is 0.
unfoldable pub stored_cfg : ℕ → ℕ
stored_cfg cfg = let fields = fields_of cfg in cfg_with (record fields { w = fields.w && fields.r })

-- the address matching that A encodes
abbrev pub matching_of : ℕ → AddressMatching
matching_of cfg =
    let a = (fields_of cfg).a in
    if a == 0 then Off
    else (if a == 1 then Tor
    else (if a == 2 then Na4
    else Napot))

-- whether A is TOR
abbrev pub is_tor : ℕ → Bool
is_tor cfg = (fields_of cfg).a == 1

-- whether L is set
abbrev pub is_locked : ℕ → Bool
is_locked cfg = (fields_of cfg).l

-- whether the permission bit for this kind of access is set
abbrev pub has_permission : Access → ℕ → Bool
has_permission Fetch cfg = (fields_of cfg).x
has_permission Read cfg = (fields_of cfg).r
has_permission Write cfg = (fields_of cfg).w

-- Whether a mode is granted an access. Only the permissions of a locked entry bind mode M.
abbrev pub grants : Mode → Access → ℕ → Bool
grants M access cfg = not (is_locked cfg) || has_permission access cfg
grants S access cfg = has_permission access cfg
grants U access cfg = has_permission access cfg
