-- The classes of bytes that names are made of. A letter is an ASCII letter.
use Rattle.std.specs.Prelude.{ℕ, List, [], ◌∷◌, Bool, false, ◌==◌, ◌||◌}
use Rattle.std.specs.Char.{is_ascii_alphabetic, is_ascii_alphanumeric}

-- Tests whether a byte is a letter or `_`
abbrev pub is_word_start : ℕ → Bool
is_word_start c = is_ascii_alphabetic c || c == 95

-- Tests whether a byte is a letter, a digit or `_`
abbrev pub is_word : ℕ → Bool
is_word c = is_ascii_alphanumeric c || c == 95

-- Tests whether a byte is a letter, a digit, `_` or `-`
abbrev pub is_dashed : ℕ → Bool
is_dashed c = is_word c || c == 45

-- Tests whether a byte is a letter, a digit, `_`, `-` or `.`
abbrev pub is_dotted : ℕ → Bool
is_dotted c = is_dashed c || c == 46

-- Tests whether a byte is `.`
abbrev pub is_dot : ℕ → Bool
is_dot c = c == 46

-- Tests whether a byte is `/`
abbrev pub is_slash : ℕ → Bool
is_slash c = c == 47

-- Tests whether a text begins with a byte that passes the test
abbrev pub begins_with : (ℕ → Bool) → List ℕ → Bool
begins_with passes [] = false
begins_with passes (c ∷ cs) = passes c
