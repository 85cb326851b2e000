-- Writing a text to a sink, and the number of bytes that were read. (This project's own streams.)
use Rattle.std.specs.Prelude.{◌≡◌, ◌<◌, ◌≤◌, ℕ, List, length, ◌++◌}

-- the text was written except for this rest
abbrev pub WritesUpTo : List ℕ → List ℕ → List ℕ → List ℕ → Type 0
WritesUpTo old new text rest = (prefix : List ℕ) × (new ≡ old ++ prefix) × (text ≡ prefix ++ rest)

-- a prefix of the text was written
abbrev pub WritesPrefix : List ℕ → List ℕ → List ℕ → Type 0
WritesPrefix old new text = (rest : List ℕ) × WritesUpTo old new text rest

-- at most `most` of the unread bytes were read
abbrev pub ReadsAtMost : ℕ → List ℕ → List ℕ → Type 0
ReadsAtMost most unread remaining = (prefix : List ℕ) × (unread ≡ prefix ++ remaining) × (length prefix ≤ most)

-- more than `most` of the unread bytes were read
abbrev pub ReadsMoreThan : ℕ → List ℕ → List ℕ → Type 0
ReadsMoreThan most unread remaining = (prefix : List ℕ) × (unread ≡ prefix ++ remaining) × (most < length prefix)
