-- Well-formed lines of a text (ASCII, ISO/IEC 646).
use Rattle.std.specs.Prelude.{ℕ, ◌+◌, Bool, ◌==◌, ◌||◌, ◌&&◌, nat_le, List, length}
use Rattle.std.specs.List.{list_all}
use Rattle.rv_text.specs.Characters.{tab, space, tilde}

-- a blank is a space or a tab
abbrev pub is_blank : ℕ → Bool
is_blank byte = byte == space || byte == tab

-- a byte of a line is a tab, or a character from space to tilde
unfoldable pub is_text : ℕ → Bool
is_text byte = byte == tab || nat_le space byte && nat_le byte tilde

-- `max_line` is the maximal number of bytes of a line, without its ending
abbrev pub max_line : ℕ
max_line = 120

-- `significant_bytes` is the number of significant bytes: lines that begin with the same significant bytes have the same meaning
abbrev pub significant_bytes : ℕ
significant_bytes = max_line + 1

-- `kept_bytes` is the number of bytes that are kept of an unfinished line: the significant bytes, and a carriage return
abbrev pub kept_bytes : ℕ
kept_bytes = significant_bytes + 1

-- a line is well-formed if it has at most `max_line` bytes, and each is a tab or a character from space to tilde
abbrev pub is_good_line : List ℕ → Bool
is_good_line line = nat_le (length line) max_line && list_all is_text line
