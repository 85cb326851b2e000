-- This file has examples of verdicts and ranges, computed by the definitions alone.
use Rattle.std.proofs.Common.{◌≡◌, [], ◌∷◌, true, false, refl}
use Rattle.rv_pmp.specs.declared.mode.Mode.TheVariants.{U, S, M}
use Rattle.rv_pmp.specs.declared.access.Access.TheVariants.{Fetch, Read, Write}
use Rattle.rv_pmp.specs.declared.verdict.Verdict.TheVariants.{Allowed, AllowedFree, Denied, DeniedPartial, DeniedFree}
use Rattle.rv_pmp.specs.Entries.{Entries}
use Rattle.rv_pmp.specs.Covers.{covers, ones_at_end}
use Rattle.rv_pmp.specs.Verdicts.{bytes_from, matching_entry, verdict}

-- The entries are NA4 at 80000100 with R and W, NAPOT from 80000000 to 80000FFF with all permissions, and a locked TOR from there to 80002000 with
-- R.
entries : Entries
entries = record {
  cfgs = 0x13 ∷ 0x1f ∷ 0x00 ∷ 0x89 ∷ [];
  addrs = 0x20000040 ∷ 0x200001ff ∷ 0x20000400 ∷ 0x20000800 ∷ [];
}

-- an NA4 entry permits a write of its word
word_of_na4 : verdict entries U Write (bytes_from 0x80000100 4) ≡ Allowed 0
unfolding verdict matching_entry covers entries ones_at_end
word_of_na4 = refl

-- the NA4 entry has no X, so a fetch of its bytes is denied
fetch_of_na4 : verdict entries S Fetch (bytes_from 0x80000102 2) ≡ Denied 0
unfolding verdict matching_entry covers entries ones_at_end
fetch_of_na4 = refl

-- an access with only one half in the NA4 entry is denied in mode M too
half_in_na4 : verdict entries M Read (bytes_from 0x800000fe 4) ≡ DeniedPartial 0
unfolding verdict matching_entry covers entries ones_at_end
half_in_na4 = refl

-- the last word of the NAPOT block is permitted
last_of_napot : verdict entries U Fetch (bytes_from 0x80000ffc 4) ≡ Allowed 1
unfolding verdict matching_entry covers entries ones_at_end
last_of_napot = refl

-- a word that ends past the NAPOT block is denied
past_napot : verdict entries U Fetch (bytes_from 0x80000ffd 4) ≡ DeniedPartial 1
unfolding verdict matching_entry covers entries ones_at_end
past_napot = refl

-- a locked entry without permission denies an access in mode M
locked_binds_m : verdict entries M Write (bytes_from 0x80001000 4) ≡ Denied 3
unfolding verdict matching_entry covers entries ones_at_end
locked_binds_m = refl

-- mode U without a matching entry is denied
none_for_u : verdict entries U Read (bytes_from 0x80002000 1) ≡ DeniedFree
unfolding verdict matching_entry covers entries ones_at_end
none_for_u = refl

-- mode M without a matching entry is permitted
none_for_m : verdict entries M Read (bytes_from 0x80002000 1) ≡ AllowedFree
unfolding verdict matching_entry covers entries ones_at_end
none_for_m = refl

-- NAPOT of all ones covers the 2^35 bytes from 0 on
all_ones : Entries
all_ones = record { cfgs = 0x18 ∷ []; addrs = 0xffffffff ∷ [] }

-- a NAPOT entry with all ones matches the last byte of 2 ^ 35
all_ones_covers : covers all_ones 0 0x7ffffffff ≡ true
unfolding covers all_ones ones_at_end
all_ones_covers = refl

-- the entry `all_ones` does not match the byte after its range
all_ones_ends : covers all_ones 0 0x800000000 ≡ false
unfolding covers all_ones ones_at_end
all_ones_ends = refl
