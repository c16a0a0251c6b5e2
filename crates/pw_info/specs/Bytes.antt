-- The bytes that words and texts are made of, by name.
use Rattle.std.specs.Prelude.{ℕ}

abbrev pub tab : ℕ
tab = 9

-- the byte that ends a line
abbrev pub line_feed : ℕ
line_feed = 10

abbrev pub carriage_return : ℕ
carriage_return = 13

abbrev pub space : ℕ
space = 32

-- '!', the first visible character of ASCII
abbrev pub first_visible : ℕ
first_visible = 33

-- '#', which begins a comment
abbrev pub hash : ℕ
hash = 35

abbrev pub comma : ℕ
comma = 44

abbrev pub minus : ℕ
minus = 45

abbrev pub dot : ℕ
dot = 46

abbrev pub digit_0 : ℕ
digit_0 = 48

abbrev pub digit_1 : ℕ
digit_1 = 49

abbrev pub digit_9 : ℕ
digit_9 = 57

abbrev pub underscore : ℕ
underscore = 95

abbrev pub letter_a : ℕ
letter_a = 97

abbrev pub letter_z : ℕ
letter_z = 122

-- '|', which stands between the names of a group
abbrev pub bar : ℕ
bar = 124

-- '~', the last visible character of ASCII
abbrev pub last_visible : ℕ
last_visible = 126
