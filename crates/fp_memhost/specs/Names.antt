-- The names of a host, as the code represents them.
use Rattle.std.specs.Prelude.{◌≡◌, ◌+◌, ◌≤◌, ◌<◌, ◌&&◌, ℕ, Bool, true, List, [], ◌∷◌, ◌++◌, length, take, Option, Some, None, map, vec_len, vec_capacity, slice_index_or}
use Rattle.std.specs.List.{list_all, find}
use Rattle.std.specs.Ordering.{nat_cmp, is_lt}
use Rattle.std.specs.declared.cmp.Ordering.TheVariants.{Less, Greater}
use Rattle.std.specs.Cmp.Lexicographic.{slice_cmp}
use Rattle.fp_host.specs.Paths.{Elements, Slot, absent, dir, file, link, path_eq, path_text, set_at}
use Rattle.fp_host.specs.declared.host.Entry.{Entry}
use Rattle.fp_host.specs.declared.host.Entry.TheVariants.{Dir, File, Link}
use Rattle.fp_memhost.specs.declared.names.Name.{Name}

-- The model's entry for an entry of the code
abbrev pub slot_of : Option Entry → Slot
slot_of None = absent
slot_of (Some Dir) = dir
slot_of (Some (File id)) = file id
slot_of (Some (Link text)) = link text

-- Tests whether the text of a name's path is less than that of another
abbrev pub comes_before : Name → Name → Bool
comes_before a b = is_lt (slice_cmp nat_cmp (path_text a.path) (path_text b.path))

-- Tests whether the texts of the names' paths ascend strictly
abbrev pub ascends : List Name → Bool
ascends [] = true
ascends (x ∷ xs) = list_all (comes_before x) xs && ascends xs

-- The texts of the names' paths ascend strictly
pub record IsAscending (names : List Name) : Type 0 where
  pub each : ascends names ≡ true

-- Tests whether a name is that of the path `q`
abbrev pub is_at : Elements → Name → Bool
is_at q name = path_eq q name.path

-- The name of the path `q`
abbrev pub name_at : List Name → Elements → Option Name
name_at names q = find (is_at q) names

-- The present entry of a name; absent if there is no such name
abbrev pub slot_in : Option Name → Slot
slot_in None = absent
slot_in (Some name) = slot_of name.entry

-- The earlier entries of a name, the oldest first
abbrev pub held_in : Option Name → List Slot
held_in None = []
held_in (Some name) = map slot_of name.earlier.items

-- The present entry of the path `q`
abbrev pub names_of : List Name → Elements → Slot
names_of names q = slot_in (name_at names q)

-- The earlier entries of the path `q`, the oldest first
abbrev pub earlier_of : List Name → Elements → List Slot
earlier_of names q = held_in (name_at names q)

-- The name at the index `i` is that of the path `p`
pub record IsAt (names : List Name) (p : Elements) (i : ℕ) : Type 0 where
  pub low : i < length names
  pub before : name_at (take i names) p ≡ None
  pub here : (d : Name) → (slice_index_or names i d).path ≡ p

-- No name has this text, and a name with it would be inserted at the index `i`
pub record IsPlace (names : List Name) (text : List ℕ) (i : ℕ) : Type 0 where
  pub low : i ≤ length names
  pub before : (k : ℕ) (d : Name) → k < i
      → slice_cmp nat_cmp (path_text (slice_index_or names k d).path) text ≡ Less
  pub remainder : (k : ℕ) (d : Name) → i ≤ k → k < length names
      → slice_cmp nat_cmp (path_text (slice_index_or names k d).path) text ≡ Greater

-- The vector of a name's earlier entries has room for `n` more
abbrev pub room_in : Option Name → ℕ → Type 0
room_in None n = ⊥
room_in (Some name) n = vec_len name.earlier + n ≤ vec_capacity name.earlier

-- The name of the path `p` is in the list, with room for `n` more earlier entries
pub record HasRoom (names : List Name) (p : Elements) (n : ℕ) : Type 0 where
  pub room : room_in (name_at names p) n

-- No name changed
pub record SameNames (old new : List Name) : Type 0 where
  pub names : (q : Elements) → names_of new q ≡ names_of old q
  pub earlier : (q : Elements) → earlier_of new q ≡ earlier_of old q

-- The name of `p` was given the entry `e`, and its previous entry was appended to the earlier ones
pub record PutsName (p : Elements) (e : Slot) (old new : List Name) : Type 0 where
  pub names : (q : Elements) → names_of new q ≡ set_at (names_of old) p e q
  pub earlier : (q : Elements) → earlier_of new q
      ≡ set_at (earlier_of old) p (earlier_of old p ++ names_of old p ∷ []) q

-- The entry `e` was appended to those that a crash may leave at the name of `p`
pub record MayPutName (p : Elements) (e : Slot) (old new : List Name) : Type 0 where
  pub names : (q : Elements) → names_of new q ≡ names_of old q
  pub earlier : (q : Elements) → earlier_of new q
      ≡ set_at (earlier_of old) p (earlier_of old p ++ e ∷ []) q

-- The earlier entries of all names were cleared
pub record ForgetsNames (old new : List Name) : Type 0 where
  pub names : (q : Elements) → names_of new q ≡ names_of old q
  pub earlier : (q : Elements) → earlier_of new q ≡ []

-- Each name has the room that it had, less `used` entries
pub record KeepsRoom (used : ℕ) (old new : List Name) : Type 0 where
  pub room : (q : Elements) (n : ℕ) → HasRoom old q (n + used) → HasRoom new q n
