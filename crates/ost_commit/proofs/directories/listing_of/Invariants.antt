use Rattle.std.proofs.Common.{◌≡◌, ◌<◌, ◌+◌, ◌++◌, map, length, true}
use Rattle.ost_object.specs.Views.{file_row, dir_row, tree_view}
use Rattle.ost_commit.specs.Sizes.{are_named}
use Rattle.ost_commit.specs.Entries.{file_rows, dir_rows}
use Rattle.ost_commit.specs.Trees.{names_of, places_in, AreAmong}
use Rattle.ost_commit.proofs.directories.listing_of.Given as goal

abbrev pub invariant-loop-name : goal.invariant-loop-name
invariant-loop-name l = record {
  files : map file_row l.listing.tree.files ++ file_rows (names_of l.contents l.meta l.done) l.children.entries ≡ file_rows (names_of l.contents l.meta l.done) l.fn.children.entries;
  dirs : map dir_row l.listing.tree.dirs ++ dir_rows (names_of l.contents l.meta l.done) l.children.entries ≡ dir_rows (names_of l.contents l.meta l.done) l.fn.children.entries;
  places : l.listing.places + places_in l.done l.children.entries ≡ 2 + places_in l.done l.fn.children.entries;
  named : are_named (tree_view l.listing.tree) ≡ true;
  among : AreAmong (length l.contents) (length l.done) l.children.entries;
}

abbrev pub decreases-loop-name : goal.decreases-loop-name
decreases-loop-name l = length l.children.entries
