-- Walks over a commit with a work list: what was done, and what is left.
use Rattle.std.specs.Prelude.{◌≡◌, ℕ, suc, ◌-◌, List, [], ◌∷◌, ◌++◌, Option, None}
use Rattle.ost_model.specs.declared.limits.TheConstants.{MOST_LEVELS}
use Rattle.ost_model.specs.Fields.{DirRow, TreeView}
use Rattle.ost_model.specs.Objects.{Have, Fault}
use Rattle.ost_model.specs.Order.{Place, dir_places, file_places, tree_place, meta_place, order, first_of}

-- A directory that is still to be walked: its digests, and the number of levels below the root. Its
-- name doesn't matter.
pub record Open : Type 0 where
  pub tree : List ℕ
  pub meta : List ℕ
  pub depth : ℕ

-- The directory as a row of a dirtree, with an empty name
abbrev pub open_row : Open → DirRow
open_row o = record { name = []; tree = o.tree; meta = o.meta }

-- A row of a dirtree as a directory to be walked, at this depth
abbrev pub open_at : ℕ → DirRow → Open
open_at depth e = record { tree = e.tree; meta = e.meta; depth = depth }

-- All places of the directory, its own and those below it
abbrev pub open_places : Have → Open → List Place
open_places have o = dir_places have (suc MOST_LEVELS - o.depth) o.depth (open_row o)

-- All places of the directories that are still to be walked
abbrev pub pending : Have → List Open → List Place
pending have [] = []
pending have (o ∷ os) = open_places have o ++ pending have os

-- The rows of a dirtree as directories to be walked, at this depth
abbrev pub opened : ℕ → List DirRow → List Open
opened depth [] = []
opened depth (e ∷ es) = open_at depth e ∷ opened depth es

-- The place of a directory's dirtree
abbrev pub open_tree : Open → Place
open_tree o = tree_place o.depth (open_row o)

-- The place of a directory's dirmeta
abbrev pub open_meta : Open → Place
open_meta o = meta_place o.depth (open_row o)

-- The places of a directory's dirtree and dirmeta
abbrev pub heads : Open → List Place
heads o = open_tree o ∷ (open_meta o ∷ [])

-- The places of a directory's dirtree, dirmeta and files, without those of its directories
abbrev pub own_places : Open → TreeView → List Place
own_places o v = heads o ++ file_places o.depth v.files

-- The invariant of a walk over a commit with a test: the places that are done and those that are
-- left are the order, and none that is done has a fault
pub record Walked (have : Have) (test : ℕ → Place → Option Fault) (commit : List ℕ)
    (done : List Place) (left : List Open) : Type 0 where
  pub same : order have commit ≡ done ++ pending have left
  pub clean : first_of test 0 done ≡ None
