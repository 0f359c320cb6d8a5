-- The directories of a commit, and their entries.
use Rattle.std.specs.Prelude.{ℕ, List, [], Bool, true, false, Option, Some, None, option_and_then, option_map}
use Rattle.fp_host.specs.Paths.{Elements}
use Rattle.ost_model.specs.declared.object.Object.{Object}
use Rattle.ost_model.specs.declared.object.Object.TheVariants as objects
use Rattle.ost_model.specs.Fields.{CommitView, FileRow, DirRow, TreeView}
use Rattle.ost_model.specs.Objects.{Have}
use Rattle.ost_model.specs.Order.{tree_at}
use Rattle.ost_store.specs.Reads.{content_within}
use Rattle.fl_export.specs.declared.contents.TheConstants.{MOST_BYTES}
use Rattle.ost_model.specs.Look.{Found, nothing, directory, file_at, find_dir, look, next}

-- The dirtree of what was found, if it is a directory with a valid dirtree
abbrev pub tree_found : Have → Found → Option TreeView
tree_found have nothing = None
tree_found have (file_at d) = None
tree_found have (directory e) = tree_at have e.tree

-- The digest of the dirtree of a commit's root
abbrev pub commit_tree : CommitView → List ℕ
commit_tree c = c.tree

-- The digest of a directory's dirtree
abbrev pub dir_tree : DirRow → List ℕ
dir_tree e = e.tree

-- The digest of the dirtree of a commit's root, if there is a commit
abbrev pub root_tree : Option CommitView → Option (List ℕ)
root_tree c = option_map commit_tree c

-- The digest of the dirtree of the subdirectory with this name, if there is one
abbrev pub digest_below : List ℕ → Option TreeView → Option (List ℕ)
digest_below name tree =
    option_map dir_tree (option_and_then (λ (v : TreeView). find_dir name v.dirs) tree)

-- The dirtree of the subdirectory with this name, if there is one that is valid
abbrev pub tree_below : Have → List ℕ → Option TreeView → Option TreeView
tree_below have name tree = option_and_then (tree_at have) (digest_below name tree)

-- The files directly in a directory; none if there is no directory
abbrev pub files_in : Option TreeView → List FileRow
files_in None = []
files_in (Some v) = v.files

-- The directories directly in a directory; none if there is no directory
abbrev pub dirs_in : Option TreeView → List DirRow
dirs_in None = []
dirs_in (Some v) = v.dirs

-- The dirtree of the directory at a path of a commit
abbrev pub tree_look : Have → List ℕ → Elements → Option TreeView
tree_look have commit path = tree_found have (look have commit path)

-- The dirtree of the subdirectory with this name
abbrev pub tree_next : Have → List ℕ → DirRow → Option TreeView
tree_next have name e = tree_found have (next have name (directory e))

-- ---- files

-- Tests whether the object is a regular file
abbrev pub is_file : Option Object → Bool
is_file (Some (objects.File mode bytes)) = true
is_file (Some (objects.Link text)) = false
is_file (Some (objects.Meta bytes)) = false
is_file None = false

-- The content of a regular file of at most 1 MiB
abbrev pub short_content : Option Object → Option (List ℕ)
short_content object = content_within MOST_BYTES object
