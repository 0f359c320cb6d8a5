-- The GVariant values of objects, by their contents.
use Rattle.std.specs.Prelude.{ℕ, List, map}
use Rattle.std.specs.Int.{w32, w64, swap_bytes}
use Rattle.gv_value.specs.declared.basic.Basic.TheVariants as basics
use Rattle.gv_value.specs.Tree.{Content, Tree, Trees, no_trees, tree, byte_trees}
use Rattle.gv_value.specs.Views.{trees_from}
use Rattle.ost_model.specs.Fields.{FileRow, DirRow, MetaView, text_value}

-- The value of type `u` that keeps a number in big-endian order
abbrev pub number_value : ℕ → Tree
number_value n = Tree.leaf basics.Uint32 (Content.number (swap_bytes w32 n))

-- The value of type `t` that keeps a number in big-endian order
abbrev pub time_value : ℕ → Tree
time_value n = Tree.leaf basics.Uint64 (Content.number (swap_bytes w64 n))

-- The value of type `ay` with these bytes
abbrev pub bytes_value : List ℕ → Tree
bytes_value bytes = Tree.array (byte_trees bytes)

-- The values of items, by a function that makes one
abbrev pub each_value : {A : Type 0} → (A → Tree) → List A → Trees
each_value one xs = trees_from (map one xs)

-- The value of a commit, of its fields' values in their order
abbrev pub commit_value : (metadata parent related subject body time dirtree dirmeta : Tree) → Tree
commit_value metadata parent related subject body time dirtree dirmeta = Tree.tuple
    (tree metadata (tree parent (tree related (tree subject
    (tree body (tree time (tree dirtree (tree dirmeta no_trees))))))))

-- The value of a dirmeta without extended attributes
abbrev pub meta_value : MetaView → Tree
meta_value m = Tree.tuple
    (tree (number_value m.uid)
    (tree (number_value m.gid) (tree (number_value m.mode) (tree (Tree.array no_trees) no_trees))))

-- The value of type `(say)` of a file in a dirtree
abbrev pub file_value : FileRow → Tree
file_value f = Tree.tuple (tree (text_value f.name) (tree (bytes_value f.digest) no_trees))

-- The value of type `(sayay)` of a directory in a dirtree
abbrev pub dir_value : DirRow → Tree
dir_value d = Tree.tuple
    (tree (text_value d.name) (tree (bytes_value d.tree) (tree (bytes_value d.meta) no_trees)))
