-- The nodes that were put at paths of remotes.
use Rattle.std.specs.Prelude.{◌≡◌, ◌<◌, ℕ, Bool, true, false, ◌&&◌, List, length, take, slice_index_or, Option, Some, None, string_bytes}
use Rattle.std.specs.List.{find, list_any, list_all}
use Rattle.std.specs.Str.{bytes_eq}
use Rattle.fp_host.specs.Paths.{Elements, path_eq}
use Rattle.fp_host.specs.Remote.{Held, nothing, directory, Holdings}
use Rattle.fp_memhost.specs.declared.remotes.MemNode.{MemNode}
use Rattle.fp_memhost.specs.declared.remotes.Row.{Row}
use Rattle.fp_memhost.specs.Folders.{is_above}
use Rattle.fp_memhost.specs.Holding.{node_held, node_bits, put_held, IsOpen}

-- Tests whether the mode of a row's node is at most 0o7777
abbrev pub has_bits : Row → Bool
has_bits row = node_bits row.node

-- Tests whether a row is that of this URL and path
abbrev pub is_row : List ℕ → Elements → Row → Bool
is_row url p row = bytes_eq url (string_bytes row.url) && path_eq p row.path

-- The row of this URL and path
abbrev pub row_at : List Row → List ℕ → Elements → Option Row
row_at rows url p = find (is_row url p) rows

-- Tests whether the path is an ancestor of a row of the URL
abbrev pub covers : List ℕ → Elements → Row → Bool
covers url p row = bytes_eq url (string_bytes row.url) && is_above p row.path

-- Tests whether a row of the URL is an ancestor of the path
abbrev pub stands_over : List ℕ → Elements → Row → Bool
stands_over url p row = bytes_eq url (string_bytes row.url) && is_above row.path p

-- The content of a path, by its row and by whether a row is below it
abbrev pub held_in : Option Row → Bool → Held
held_in (Some row) above = node_held row.node
held_in None true = directory
held_in None false = nothing

-- The content of the path of a URL
abbrev pub held_of : List Row → Holdings
held_of rows url p = held_in (row_at rows url p) (list_any (covers url p) rows)

-- The row at the index `i` is the first one of the URL and the path
pub record IsRowAt (rows : List Row) (url : List ℕ) (p : Elements) (i : ℕ) : Type 0 where
  pub low : i < length rows
  pub before : row_at (take i rows) url p ≡ None
  pub here : (d : Row) → is_row url p (slice_index_or rows i d) ≡ true

-- The row of the URL and the path has this node now, and all other content but the path's ancestors
-- is as it was
pub record PutsRow (url : List ℕ) (p : Elements) (node : MemNode) (old new : List Row) : Type 0
  where
    pub held : (u : List ℕ) (q : Elements)
        → (is_above q p ≡ true → bytes_eq u url ≡ true → IsOpen (held_of old u q))
        → held_of new u q ≡ put_held (held_of old) url p (node_held node) u q
    pub bits : list_all has_bits old ≡ true → node_bits node ≡ true → list_all has_bits new ≡ true
