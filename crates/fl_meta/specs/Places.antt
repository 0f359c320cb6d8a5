-- The normal form of filesystem texts: texts with the same normal form name one place.
use Rattle.std.specs.Prelude.{ℕ, Bool, false, ◌&&◌, List, [], ◌∷◌, length, drop, ◌==◌, codes, is_some, if◌then◌else◌}
use Rattle.std.specs.List.{flat_map}
use Rattle.fp_keyfile.specs.Grammar.{begins_so}
use Rattle.fl_meta.specs.Names.{is_among, access_of}

-- Tests whether a byte is `/`
abbrev pub is_slash : ℕ → Bool
is_slash b = b == 47

-- Tests whether a byte is `:`
abbrev pub is_colon : ℕ → Bool
is_colon b = b == 58

-- Tests whether a byte is `.`
abbrev pub is_dot : ℕ → Bool
is_dot b = b == 46

-- Tests whether a word is an ending: `ro`, `rw` or `create`
abbrev pub is_ending : List ℕ → Bool
is_ending word = is_some (access_of word)

-- Tests whether a part between two `/` can be left out: it is empty or `.`
abbrev pub says_nothing : List ℕ → Bool
says_nothing part = is_among ([] ∷ codes "." ∷ []) part

-- Tests whether a text begins with `./`
abbrev pub begins_dotted : List ℕ → Bool
begins_dotted [] = false
begins_dotted (b ∷ bs) = is_dot b && begins_so is_slash bs

-- A `/` before a normal text: `//` and `/./` become one `/`, and a `/` or `/.` at the end is left
-- out
abbrev pub slash_with : List ℕ → List ℕ
slash_with rest =
    if says_nothing rest then []
    else (if begins_so is_slash rest then rest
    else (if begins_dotted rest then drop 1 rest else 47 ∷ rest))

-- A `:` before a normal text: an ending is left out, since it says how the place may be used
abbrev pub colon_with : List ℕ → List ℕ
colon_with rest = if is_ending rest then [] else 58 ∷ rest

-- A byte before a normal text
abbrev pub normal_with : ℕ → List ℕ → List ℕ
normal_with b rest =
    if is_slash b then slash_with rest else (if is_colon b then colon_with rest else b ∷ rest)

-- The normal form of a text, by which places are compared
unfoldable pub normal : List ℕ → List ℕ
normal [] = []
normal (b ∷ bs) = normal_with b (normal bs)

-- The place that is left of a text, or `/` if nothing is left of a text that began with `/`
abbrev pub rooted : Bool → List ℕ → List ℕ
rooted absolute place = if absolute && (length place == 0) then codes "/" else place

-- The place that a text names
abbrev pub place_in : List ℕ → List ℕ
place_in text = rooted (begins_so is_slash text) (normal text)

-- ---- the normal form in two steps: parts are joined by one `/`, and then the ends are cut off

-- A `/` and the part, unless the part can be left out
abbrev pub part_text : List ℕ → List ℕ
part_text part = if says_nothing part then [] else 47 ∷ part

-- The parts, each after a `/`, without those that can be left out
abbrev pub parts_text : List (List ℕ) → List ℕ
parts_text parts = flat_map part_text parts

-- A byte before a text without its ends
abbrev pub end_with : ℕ → List ℕ → List ℕ
end_with b rest =
    if is_slash b then (if says_nothing rest then [] else 47 ∷ rest)
    else (if is_colon b then colon_with rest else b ∷ rest)

-- The text without `/`, `/.` and endings at its end
unfoldable pub without_ends : List ℕ → List ℕ
without_ends [] = []
without_ends (b ∷ bs) = end_with b (without_ends bs)
