-- Paths, their texts, and directory entries.
use Rattle.std.specs.Prelude.{◌≡◌, ◌⊎◌, ◌&&◌, ◌||◌, ◌==◌, ℕ, List, [], ◌∷◌, length, Bool, not, nat_eq, leb, codes, if◌then◌else◌}
use Rattle.std.specs.Cmp.Lexicographic.{pointwise}
use Rattle.std.specs.List.{list_all, slice_split, join_with_byte}
use Rattle.std.specs.Str.{bytes_eq, is_utf8}
use Rattle.fp_host.specs.declared.limits.TheConstants.{MOST_ELEMENT_BYTES, MOST_LINK_BYTES}

-- A path, as the list of its elements, the innermost first: the parent of `x ∷ up` is `up`, and the
-- root is `[]`.
abbrev pub Elements : Type 0
Elements = List (List ℕ)

-- Tests whether a byte may be in an element: it is neither a slash nor zero
abbrev pub is_name_byte : ℕ → Bool
is_name_byte b = not (b == 47 || b == 0)

-- Tests whether a text is an element of a path: 1 to 255 bytes, none of them a slash or zero, and
-- neither `.` nor `..`
abbrev pub is_element : List ℕ → Bool
is_element x = leb 1 (length x)
    && (leb (length x) MOST_ELEMENT_BYTES
    && (list_all is_name_byte x && not (bytes_eq x (codes ".") || bytes_eq x (codes ".."))))

-- The first list in reverse, followed by the second
abbrev pub turned_onto : {A : Type 0} → List A → List A → List A
turned_onto [] done = done
turned_onto (x ∷ xs) done = turned_onto xs (x ∷ done)

-- The reverse of a list
abbrev pub turned : {A : Type 0} → List A → List A
turned xs = turned_onto xs []

-- The parts of a text that is split at its slashes, the last one first
abbrev pub cut : List ℕ → Elements
cut text = turned (slice_split (λ b. b == 47) text)

-- The path whose elements are joined to this text; the root's text is empty
abbrev pub elements_of : List ℕ → Elements
elements_of [] = []
elements_of (b ∷ rest) = cut (b ∷ rest)

-- The elements joined by slashes, the outermost first
abbrev pub path_text : Elements → List ℕ
path_text p = join_with_byte 47 (turned p)

-- The directory entry of a name: absent, a directory, a file by its id, or a symlink by its text
pub data Slot : Type 0 where
  absent : Slot
  dir : Slot
  file : ℕ → Slot
  link : List ℕ → Slot

-- Tests whether a text may be a symlink's: valid UTF-8 of 1 to 4,095 bytes without a zero byte
abbrev pub is_link_text : List ℕ → Bool
is_link_text text = leb 1 (length text)
    && (leb (length text) MOST_LINK_BYTES && (list_all (λ b. not (b == 0)) text && is_utf8 text))

-- Tests whether two paths are equal
abbrev pub path_eq : Elements → Elements → Bool
path_eq = pointwise (pointwise nat_eq)

-- A function over paths with one value changed
abbrev pub set_at : {A : Type 0} → (Elements → A) → Elements → A → Elements → A
set_at f p a q = if path_eq q p then a else f q

-- The entry `e` if its parent is a directory, else absent
abbrev pub under : Slot → Slot → Slot
under dir e = e
under absent e = absent
under (file id) e = absent
under (link text) e = absent

-- The entry of a path if every ancestor is a directory, else absent
abbrev pub at : (Elements → Slot) → Elements → Slot
at names [] = names []
at names (x ∷ up) = under (at names up) (names (x ∷ up))

-- The path `q` is a proper ancestor of the path
abbrev pub IsAbove : Elements → Elements → Type 0
IsAbove q [] = ⊥
IsAbove q (x ∷ up) = (q ≡ up) ⊎ IsAbove q up
