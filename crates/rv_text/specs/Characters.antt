-- The characters that separate lines, words and comments, by their codes in ASCII (ISO/IEC 646).
use Rattle.std.specs.Prelude.{ℕ}

-- `tab` is the code of the horizontal tab
abbrev pub tab : ℕ
tab = 9

-- `line_feed` is the code of LF, which ends a line
abbrev pub line_feed : ℕ
line_feed = 10

-- `carriage_return` is the code of CR, which may come before LF
abbrev pub carriage_return : ℕ
carriage_return = 13

-- `space` is the code of the space
abbrev pub space : ℕ
space = 32

-- `number_sign` is the code of `#`
abbrev pub number_sign : ℕ
number_sign = 35

-- `left_parenthesis` is the code of `(`
abbrev pub left_parenthesis : ℕ
left_parenthesis = 40

-- `comma` is the code of `,`
abbrev pub comma : ℕ
comma = 44

-- `full_stop` is the code of `.`
abbrev pub full_stop : ℕ
full_stop = 46

-- `colon` is the code of `:`
abbrev pub colon : ℕ
colon = 58

-- `low_line` is the code of `_`
abbrev pub low_line : ℕ
low_line = 95

-- `tilde` is the code of `~`, the last printable character of ASCII
abbrev pub tilde : ℕ
tilde = 126
