-- Writes of entries, and the locks that make them ignored: RISC-V Privileged Architecture 20211203, section 3.7.1, Locking and Privilege Mode.
use Rattle.std.specs.Prelude.{ℕ, ◌+◌, ◌/◌, ◌%◌, ◌<◌, ◌==◌, ◌≡◌, nat_lt, Bool, false, not, ◌&&◌, ◌||◌, if◌then◌else◌, List, map, slice_set, [], ◌∷◌, ◌*◌}
use Rattle.std.specs.List.{range_with_len}
use Rattle.rv_word.specs.ByteOrder.{word_of_bytes, byte_of}
use Rattle.rv_pmp.specs.Cfg.{is_tor, is_locked, stored_cfg}
use Rattle.rv_pmp.specs.Entries.{Entries, cfg_of}

-- whether writes of the cfg byte of an entry are ignored
abbrev pub is_cfg_locked : Entries → ℕ → Bool
is_cfg_locked entries entry = is_locked (cfg_of entries entry)

-- the L bit of no entry is set
abbrev pub HasNoLock : Entries → Type 0
HasNoLock entries = (entry : ℕ) → entry < 16 → is_cfg_locked entries entry ≡ false

-- whether an entry is a locked TOR entry, even if it covers no byte
abbrev pub is_locked_tor : Entries → ℕ → Bool
is_locked_tor entries entry = is_locked (cfg_of entries entry) && is_tor (cfg_of entries entry)

-- Whether a write to the pmpaddr of an entry is ignored: the entry is locked, or there is a next one and that is a locked TOR entry.
abbrev pub is_addr_locked : Entries → ℕ → Bool
is_addr_locked entries entry = is_cfg_locked entries entry || (nat_lt entry 15 && is_locked_tor entries (entry + 1))

-- the entries after a write of a cfg byte
abbrev pub with_cfg : Entries → ℕ → ℕ → Entries
with_cfg entries entry cfg =
    if is_cfg_locked entries entry then entries
    else record { cfgs = slice_set entries.cfgs entry (stored_cfg cfg); addrs = entries.addrs }

-- the entries after a write of a pmpaddr
abbrev pub with_addr : Entries → ℕ → ℕ → Entries
with_addr entries entry addr =
    if is_addr_locked entries entry then entries
    else record { cfgs = entries.cfgs; addrs = slice_set entries.addrs entry addr }

-- `with_entry` has the entries with one entry as given, its cfg byte in its stored form
abbrev pub with_entry : Entries → ℕ → ℕ → ℕ → Entries
with_entry entries entry cfg addr =
    record { cfgs = slice_set entries.cfgs entry (stored_cfg cfg); addrs = slice_set entries.addrs entry addr }

-- `with_entries` has the entries with all sixteen as given, their cfg bytes in their stored forms
abbrev pub with_entries : List ℕ → List ℕ → Entries
with_entries cfgs addrs = record { cfgs = map stored_cfg cfgs; addrs = addrs }

-- `cfg_word` is the value of a pmpcfg register: the cfg bytes of four entries, the lowest first
abbrev pub cfg_word : Entries → ℕ → ℕ
cfg_word entries register =
    word_of_bytes (cfg_of entries (4 * register) ∷ cfg_of entries (4 * register + 1) ∷ cfg_of entries (4 * register + 2)
    ∷ cfg_of entries (4 * register + 3) ∷ [])

-- the cfg byte of an entry after a write of a word to a pmpcfg register: byte k of the word is for entry 4 * register + k
abbrev pub cfg_after : Entries → ℕ → ℕ → ℕ → ℕ
cfg_after entries register word entry =
    if entry / 4 == register && not (is_cfg_locked entries entry) then stored_cfg (byte_of word (entry % 4))
    else cfg_of entries entry

-- The entries after that write. The lock of each entry before the write decides whether its byte is written.
abbrev pub with_cfg_word : Entries → ℕ → ℕ → Entries
with_cfg_word entries register word =
    record { cfgs = map (cfg_after entries register word) (range_with_len 0 16); addrs = entries.addrs }
