-- The lines of a key file, and how each is parsed.
use Rattle.std.specs.Prelude.{ℕ, Bool, not, if◌then◌else◌, ◌&&◌, List, [], ◌∷◌, ◌==◌, Option, Some, None, Result, Ok, Err}
use Rattle.std.specs.List.{list_all, list_any}
use Rattle.std.specs.Str.{is_utf8}
use Rattle.fp_base.specs.declared.key_rule.KeyRule.{KeyRule}
use Rattle.fp_base.specs.declared.key_rule.KeyRule.TheVariants as rules
use Rattle.fp_keyfile.specs.Grammar.{is_blank, is_return, is_name, is_key}

-- The lines with a byte put in front of the first one
abbrev pub in_front : ℕ → List (List ℕ) → List (List ℕ)
in_front b [] = (b ∷ []) ∷ []
in_front b (line ∷ lines) = (b ∷ line) ∷ lines

-- The lines of bytes that begin with `b`, given the lines of the rest: a newline ends an empty
-- line, and another byte belongs to the first line
abbrev pub byte_before : ℕ → List (List ℕ) → List (List ℕ)
byte_before b lines = if b == 10 then [] ∷ lines else in_front b lines

-- The lines of bytes. Each newline ends a line; the bytes after the last newline are a line too,
-- unless there are none.
abbrev pub lines_of : List ℕ → List (List ℕ)
lines_of [] = []
lines_of (b ∷ bs) = byte_before b (lines_of bs)

-- The bytes without those at the front that pass the test
abbrev pub trimmed_front : (ℕ → Bool) → List ℕ → List ℕ
trimmed_front p [] = []
trimmed_front p (b ∷ bs) = if p b then trimmed_front p bs else b ∷ bs

-- A byte in front of bytes whose end is trimmed; the byte is trimmed too if nothing is left after
-- it
abbrev pub before_trimmed : (ℕ → Bool) → ℕ → List ℕ → List ℕ
before_trimmed p b [] = if p b then [] else b ∷ []
before_trimmed p b (c ∷ bs) = b ∷ c ∷ bs

-- The bytes without those at the end that pass the test
abbrev pub trimmed_end : (ℕ → Bool) → List ℕ → List ℕ
trimmed_end p [] = []
trimmed_end p (b ∷ bs) = before_trimmed p b (trimmed_end p bs)

-- The two parts of a split with a byte put in front of the first part
abbrev pub with_first : ℕ → Option (List ℕ × List ℕ) → Option (List ℕ × List ℕ)
with_first b None = None
with_first b (Some parts) = Some (b ∷ parts.0, parts.1)

-- The bytes before the first `c` and those after it; nothing if there is no `c`
abbrev pub split_at : ℕ → List ℕ → Option (List ℕ × List ℕ)
split_at c [] = None
split_at c (b ∷ bs) = if b == c then Some ([], bs) else with_first b (split_at c bs)

-- A parsed line: nothing (a blank line or a comment), a group header with its name, or a pair with
-- its key and its value
pub data Statement : Type 0 where
  nothing : Statement
  header : List ℕ → Statement
  entry : List ℕ → List ℕ → Statement

-- Tests whether bytes are valid UTF-8 without a zero byte
abbrev pub is_text : List ℕ → Bool
is_text bs = is_utf8 bs && not (list_any (λ b. b == 0) bs)

-- A group header from the parts before and after its `]`, of which the second has only spaces and
-- tabs
abbrev pub header_at : Option (List ℕ × List ℕ) → Result Statement KeyRule
header_at None = Err rules.Group
header_at (Some parts) =
    if is_name parts.0 && list_all is_blank parts.1 then Ok (header parts.0) else Err rules.Group

-- A group header from the bytes after its `[`
abbrev pub header_of : List ℕ → Result Statement KeyRule
header_of bs = header_at (split_at 93 bs)

-- A pair with this key and this value, if the key is valid
abbrev pub entry_with : List ℕ → List ℕ → Result Statement KeyRule
entry_with key value = if is_key key then Ok (entry key value) else Err rules.Key

-- A pair from the parts before and after the first `=`: spaces and tabs are dropped at the end of
-- the key and at the start of the value
abbrev pub entry_at : Option (List ℕ × List ℕ) → Result Statement KeyRule
entry_at None = Err rules.Line
entry_at (Some parts) = entry_with (trimmed_end is_blank parts.0) (trimmed_front is_blank parts.1)

-- A pair from the bytes of its line
abbrev pub entry_of : List ℕ → Result Statement KeyRule
entry_of bs = entry_at (split_at 61 bs)

-- A line of valid text that isn't blank, by its first byte: `#` begins a comment, `[` a group
-- header, and any other byte a pair
abbrev pub marked : List ℕ → Result Statement KeyRule
marked [] = Ok nothing
marked (b ∷ bs) =
    if b == 35 then Ok nothing else (if b == 91 then header_of bs else entry_of (b ∷ bs))

-- A line without the carriage returns at its end, parsed, or the first rule that it breaks
abbrev pub text_says : List ℕ → Result Statement KeyRule
text_says bs =
    if is_text bs then (if list_all is_blank bs then Ok nothing else marked bs) else Err rules.Text

-- A line, parsed, or the first rule that it breaks; the carriage returns at its end are no part of
-- it
unfoldable pub line_says : List ℕ → Result Statement KeyRule
line_says line = text_says (trimmed_end is_return line)
