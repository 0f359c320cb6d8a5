-- Key files as lists of groups: how bytes are parsed and files written, and what changes do.
use Rattle.std.specs.Prelude.{◌≡◌, ℕ, suc, Bool, true, not, if◌then◌else◌, ◌&&◌, List, [], ◌∷◌, ◌++◌, map, Option, Some, None, Result, Ok, Err}
use Rattle.std.specs.List.{list_all, list_any, flat_map, find}
use Rattle.std.specs.Option.{option_map, option_map_or, option_and_then}
use Rattle.std.specs.Str.{is_utf8, bytes_eq}
use Rattle.fp_keyfile.specs.declared.group.Pair.{Pair}
use Rattle.fp_keyfile.specs.declared.group.Group.{Group}
use Rattle.fp_base.specs.declared.key_rule.KeyRule.{KeyRule}
use Rattle.fp_base.specs.declared.key_rule.KeyRule.TheVariants as rules
use Rattle.fp_keyfile.specs.declared.fault.KeyFault.{KeyFault}
use Rattle.fp_keyfile.specs.declared.fault.KeyError.{KeyError}
use Rattle.fp_keyfile.specs.declared.fault.KeyError.TheVariants as errors
use Rattle.fp_keyfile.specs.Grammar.{is_name, is_key, is_value}
use Rattle.fp_keyfile.specs.Lines.{Statement, nothing, header, entry, lines_of, line_says}

-- The name of a group
abbrev pub name_of : Group → List ℕ
name_of g = g.name

-- The key of a pair
abbrev pub key_of : Pair → List ℕ
key_of p = p.key

-- The names of the groups, in order
abbrev pub names_of : List Group → List (List ℕ)
names_of file = map name_of file

-- The keys of the pairs, in order
abbrev pub keys_of : List Pair → List (List ℕ)
keys_of pairs = map key_of pairs

-- The names with this one added at the end, unless it is among them
abbrev pub with_name : List (List ℕ) → List ℕ → List (List ℕ)
with_name [] name = name ∷ []
with_name (n ∷ names) name = if bytes_eq n name then n ∷ names else n ∷ with_name names name

-- ---- look-up and change

-- The first group with this name
abbrev pub group_at : List Group → List ℕ → Option Group
group_at file name = find (λ g. bytes_eq g.name name) file

-- The first pair with this key
abbrev pub pair_at : List Pair → List ℕ → Option Pair
pair_at pairs key = find (λ p. bytes_eq p.key key) pairs

-- The value of a key in a group; nothing if the group doesn't have the key
abbrev pub value_in : Group → List ℕ → Option (List ℕ)
value_in g key = option_map (λ p. p.value) (pair_at g.pairs key)

-- The value of the key in the group with this name; nothing if the file has no such pair
unfoldable pub value_at : List Group → List ℕ → List ℕ → Option (List ℕ)
value_at file name key = option_and_then (λ g. value_in g key) (group_at file name)

-- The keys of the group with this name; none if the file has no such group
unfoldable pub keys_at : List Group → List ℕ → List (List ℕ)
keys_at file name = option_map_or (λ g. keys_of g.pairs) (group_at file name) []

-- The pairs after the value of a key is set: a present key keeps its place, a missing one is added
-- at the end
abbrev pub with_key : List Pair → List ℕ → List ℕ → List Pair
with_key [] key value = record { key = key; value = value } ∷ []
with_key (p ∷ pairs) key value =
    if bytes_eq p.key key then record p { value = value } ∷ pairs else p ∷ with_key pairs key value

-- The file with a group of this name, which is added at the end if it is missing
unfoldable pub with_group : List Group → List ℕ → List Group
with_group [] name = record { name = name; pairs = [] } ∷ []
with_group (g ∷ file) name = if bytes_eq g.name name then g ∷ file else g ∷ with_group file name

-- The file after the value of a key in a group is set: a missing pair is added at the end of its
-- group, and a missing group at the end of the file
unfoldable pub with_pair : List Group → List ℕ → List ℕ → List ℕ → List Group
with_pair [] name key value =
    record { name = name; pairs = record { key = key; value = value } ∷ [] } ∷ []
with_pair (g ∷ file) name key value = if bytes_eq g.name name
    then record g { pairs = with_key g.pairs key value } ∷ file
    else g ∷ with_pair file name key value

-- The pairs without the first one with this key
abbrev pub without_key : List Pair → List ℕ → List Pair
without_key [] key = []
without_key (p ∷ pairs) key = if bytes_eq p.key key then pairs else p ∷ without_key pairs key

-- The file with a group of these pairs in front, or without it if there are no pairs
abbrev pub with_rest : List ℕ → List Pair → List Group → List Group
with_rest name [] file = file
with_rest name (p ∷ pairs) file = record { name = name; pairs = p ∷ pairs } ∷ file

-- The file with a group in front from which the key is removed; the group is removed with its last
-- pair
abbrev pub group_without : Option Pair → Group → List ℕ → List Group → List Group
group_without None g key file = g ∷ file
group_without (Some p) g key file = with_rest g.name (without_key g.pairs key) file

-- The file after a pair is removed: its group is removed with its last pair, and nothing changes if
-- there is no such pair
unfoldable pub without_pair : List Group → List ℕ → List ℕ → List Group
without_pair [] name key = []
without_pair (g ∷ file) name key = if bytes_eq g.name name
    then group_without (pair_at g.pairs key) g key file else g ∷ without_pair file name key

-- ---- reading

-- The state of parsing: the file so far, and the name of the current group, to which pairs belong
pub record Reading : Type 0 where
  pub file : List Group
  pub group : Option (List ℕ)

-- The state before the first line
abbrev pub beginning : Reading
beginning = record { file = []; group = None }

-- The state after a pair; a pair before any group breaks the rule `NoGroup`
abbrev pub with_entry : Reading → Option (List ℕ) → List ℕ → List ℕ → Result Reading KeyRule
with_entry so_far None key value = Err rules.NoGroup
with_entry so_far (Some name) key value =
    Ok (record so_far { file = with_pair so_far.file name key value })

-- The state after a parsed line, or the rule that the line breaks
abbrev pub after_statement : Reading → Result Statement KeyRule → Result Reading KeyRule
after_statement so_far (Err rule) = Err rule
after_statement so_far (Ok nothing) = Ok so_far
after_statement so_far (Ok (header name)) =
    Ok (record { file = with_group so_far.file name; group = Some name })
after_statement so_far (Ok (entry key value)) = with_entry so_far so_far.group key value

-- The state after a line, or the first rule that the line breaks
abbrev pub after_line : Reading → List ℕ → Result Reading KeyRule
after_line so_far line = after_statement so_far (line_says line)

-- Parsing goes on with the next state, or ends with the fault of the line with this number
abbrev pub go_on : ℕ → Result Reading KeyRule → (Reading → Result (List Group) KeyFault)
    → Result (List Group) KeyFault
go_on number (Err rule) next = Err (record { line = number; rule = rule })
go_on number (Ok so_far) next = next so_far

-- The file after these lines, of which the first has this number, or the fault of the first bad
-- line
abbrev pub file_from : ℕ → Reading → List (List ℕ) → Result (List Group) KeyFault
file_from number so_far [] = Ok so_far.file
file_from number so_far (line ∷ lines) =
    go_on number (after_line so_far line) (λ next. file_from (suc number) next lines)

-- The file that bytes parse to, or its first bad line with the rule that it breaks
unfoldable pub file_of : List ℕ → Result (List Group) KeyFault
file_of bytes = file_from 1 beginning (lines_of bytes)

-- The error is the fault that parsing ends with, unless memory ran out
abbrev pub Fails : KeyError → Result (List Group) KeyFault → Type 0
Fails errors.NoMemory read = Unit {0}
Fails (errors.Fault fault) read = read ≡ Err fault

-- The result is what the bytes parse to, unless memory ran out
abbrev pub Gives : Result (List Group) KeyError → Result (List Group) KeyFault → Type 0
Gives (Ok file) read = read ≡ Ok file
Gives (Err e) read = Fails e read

-- ---- writing

-- The line of a pair, with its newline
abbrev pub pair_text : Pair → List ℕ
pair_text p = p.key ++ (61 ∷ (p.value ++ (10 ∷ [])))

-- The lines of a group: its header and its pairs
abbrev pub group_text : Group → List ℕ
group_text g = 91 ∷ (g.name ++ (93 ∷ 10 ∷ flat_map pair_text g.pairs))

-- The text of a file: a line `[NAME]` for each group, and after it a line `KEY=VALUE` for each of
-- its pairs
unfoldable pub text_of : List Group → List ℕ
text_of file = flat_map group_text file

-- ---- valid files

-- Tests whether no text occurs twice
abbrev pub are_distinct : List (List ℕ) → Bool
are_distinct [] = true
are_distinct (x ∷ xs) = not (list_any (bytes_eq x) xs) && are_distinct xs

-- Tests whether a key and its value can be written, and are UTF-8
abbrev pub is_good_pair : Pair → Bool
is_good_pair p = is_key p.key && is_value p.value && is_utf8 p.key && is_utf8 p.value

-- Tests whether a group can be written, and no key occurs twice in it
abbrev pub is_good_group : Group → Bool
is_good_group g = is_name g.name && is_utf8 g.name && list_all is_good_pair g.pairs
    && are_distinct (keys_of g.pairs)

-- Tests whether groups are a key file: names, keys and values can be written, no name occurs twice,
-- and no key occurs twice in a group
unfoldable pub is_good : List Group → Bool
is_good file = list_all is_good_group file && are_distinct (names_of file)
