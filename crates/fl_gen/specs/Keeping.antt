-- Stores in memory, as the code keeps them.
use Rattle.std.specs.Prelude.{◌≡◌, ℕ, Bool, true, List, ◌++◌, leb, Option, option_map}
use Rattle.std.specs.List.{find, list_any}
use Rattle.fp_host.specs.Paths.{Elements, path_eq}
use Rattle.fp_host.specs.declared.limits.TheConstants.{PERMISSION_BITS}
use Rattle.fp_host.specs.Outcome.{Spot, holds, points, Disk}
use Rattle.ost_commit.specs.Rows.{is_above}
use Rattle.fl_gen.specs.declared.store.Leaf.{Leaf}
use Rattle.fl_gen.specs.declared.store.Leaf.TheVariants as leaf
use Rattle.fl_gen.specs.declared.store.Row.{Row}
use Rattle.fl_gen.specs.Made.{Ware}
use Rattle.fl_gen.specs.Stores.{Entry, Offer, entry_spot, has_below, spot_by, AreSettled, AreOffersOf, store_entries}

-- The node of a file or a link
abbrev pub leaf_spot : Leaf → Spot
leaf_spot (leaf.File mode bytes) = holds 0 mode bytes
leaf_spot (leaf.Link text) = points text

-- Tests whether the file's permission bits are within 0o7777
abbrev pub leaf_bits : Leaf → Bool
leaf_bits (leaf.File mode bytes) = leb mode PERMISSION_BITS
leaf_bits (leaf.Link text) = true

-- Tests whether the permission bits of the row's file are within 0o7777
abbrev pub has_bits : Row → Bool
has_bits row = leaf_bits row.leaf

-- Tests whether the row is that of the path
abbrev pub is_row : Elements → Row → Bool
is_row q row = path_eq q row.path

-- Tests whether the row is below the path
abbrev pub covers : Elements → Row → Bool
covers q row = is_above q row.path

-- The row of the path
abbrev pub row_at : List Row → Elements → Option Row
row_at rows q = find (is_row q) rows

-- The node of the row's file or link
abbrev pub row_spot : Row → Spot
row_spot row = leaf_spot row.leaf

-- The node of the row's file or link, if there is a row
abbrev pub row_spot_of : Option Row → Option Spot
row_spot_of row = option_map row_spot row

-- The node of the file or link at the path, if there is one
abbrev pub spot_in : List Row → Elements → Option Spot
spot_in rows q = row_spot_of (row_at rows q)

-- The disk with the files and links of the rows, and directories above them
abbrev pub disk_of_rows : List Row → Disk
disk_of_rows rows q = spot_by (spot_in rows q) (list_any (covers q) rows)

-- The rows contain these entries and no others, and each entry is found at its path
pub record Keeps (es : List Entry) (rows : List Row) : Type 0 where
  pub spots : (q : Elements) → spot_in rows q ≡ entry_spot es q
  pub folders : (q : Elements) → list_any (covers q) rows ≡ has_below es q
  pub settled : AreSettled es

-- These entries were added to the rows, after any that they had
pub record Adds (es : List Entry) (old new : List Row) : Type 0 where
  pub after : (before : List Entry) → Keeps before old → Keeps (before ++ es) new

-- The rows are the store that offers these refs, with the commits of their trees, and no others
pub record Stocks (version : ℕ) (ws : List Ware) (rows : List Row) : Type 0 where
  pub offers : List Offer
  pub offered : AreOffersOf version ws offers
  pub keeps : Keeps (store_entries offers) rows

-- These refs, with the commits of their trees, were added to the store, after any that it had
pub record Brings (version : ℕ) (ws : List Ware) (old new : List Row) : Type 0 where
  pub after : (before : List Ware) → Stocks version before old → Stocks version (before ++ ws) new
