-- The value that says a dirtree is the only one that says it.
use Rattle.std.proofs.Common.{◌≡◌, ℕ, true, List, [], ◌∷◌, length, Option, Some, None, refl, sym, ap, ◌∙◌}
use Rattle.std.specs.Prelude.{◌==◌, option_map, option_and_then}
use Rattle.std.specs.List.{list_all}
use Rattle.std.proofs.lemmas.Bool.{and_parts}
use Rattle.fp_name.specs.Hex.{is_byte, is_digest}
use Rattle.gv_value.specs.Tree.{Tree, Trees, no_trees, tree}
use Rattle.gv_value.proofs.Lists.{then_some, map_some}
use Rattle.ost_model.specs.Fields.{FileRow, DirRow, TreeView, text_in, items_in, bytes_in, each_of, file_in, dir_in, tree_in, text_value}
use Rattle.ost_model.specs.Readers.{is_long}
use Rattle.ost_object.specs.Values.{bytes_value, each_value, file_value, dir_value}
use Rattle.ost_object.proofs.OneValue.{text_is, items_are, bytes_are, each_are, each_says}
use Rattle.ost_object.proofs.Rows.{bytes_back}

abbrev pair : Tree → Tree → Tree
pair a b = Tree.tuple (tree a (tree b no_trees))

abbrev three : Tree → Tree → Tree → Tree
three a b c = Tree.tuple (tree a (tree b (tree c no_trees)))

-- ---- a file

abbrev file_with : List ℕ → List ℕ → FileRow
file_with n d = record { name = n; digest = d }

abbrev file_from : Option (List ℕ) → List ℕ → Option FileRow
file_from digest n = option_map (λ d. file_with n d) digest

pub file_is : (v : Tree) (f : FileRow) → file_in v ≡ Some f → v ≡ file_value f
file_is (Tree.tuple (tree name (tree digest no_trees))) f is =
    let n = then_some (file_from (bytes_in digest)) (text_in name) f is in
    let d = map_some (file_with n.0) (bytes_in digest) f n.2 in
    ap (λ (x : Tree). pair x digest) (text_is name n.0 n.1) ∙ ap (λ (x : Tree). pair (text_value n.0) x) (bytes_are digest d.0 d.1) ∙ ap file_value d.2
file_is _ f is = absurd (cc is)

pub file_says : (f : FileRow) → file_in (file_value f) ≡ Some f
file_says f = ap (λ (o : Option (List ℕ)). file_from o f.name) (bytes_back f.digest)

-- ---- a directory

abbrev dir_with : List ℕ → List ℕ → List ℕ → DirRow
dir_with n t m = record { name = n; tree = t; meta = m }

abbrev dir_then : Option (List ℕ) → List ℕ → List ℕ → Option DirRow
dir_then meta n t = option_map (λ m. dir_with n t m) meta

abbrev dir_from : Option (List ℕ) → Option (List ℕ) → List ℕ → Option DirRow
dir_from root meta n = option_and_then (λ t. dir_then meta n t) root

pub dir_is : (v : Tree) (d : DirRow) → dir_in v ≡ Some d → v ≡ dir_value d
dir_is (Tree.tuple (tree name (tree root (tree meta no_trees)))) d is =
    let n = then_some (dir_from (bytes_in root) (bytes_in meta)) (text_in name) d is in
    let t = then_some (dir_then (bytes_in meta) n.0) (bytes_in root) d n.2 in
    let m = map_some (dir_with n.0 t.0) (bytes_in meta) d t.2 in
    ap (λ (x : Tree). three x root meta) (text_is name n.0 n.1) ∙ ap (λ (x : Tree). three (text_value n.0) x meta) (bytes_are root t.0 t.1)
    ∙ ap (λ (x : Tree). three (text_value n.0) (bytes_value t.0) x) (bytes_are meta m.0 m.1) ∙ ap dir_value m.2
dir_is _ d is = absurd (cc is)

pub dir_says : (d : DirRow) → dir_in (dir_value d) ≡ Some d
dir_says d = ap (λ (o : Option (List ℕ)). dir_from o (bytes_in (bytes_value d.meta)) d.name) (bytes_back d.tree)
    ∙ ap (λ (o : Option (List ℕ)). dir_then o d.name d.tree) (bytes_back d.meta)

-- ---- a dirtree

abbrev tree_with : List FileRow → List DirRow → TreeView
tree_with fs ds = record { files = fs; dirs = ds }

abbrev tree_from : Option (List DirRow) → List FileRow → Option TreeView
tree_from dirs fs = option_map (λ ds. tree_with fs ds) dirs

abbrev files_in : Tree → Option (List FileRow)
files_in v = option_and_then (each_of file_in) (items_in v)

abbrev dirs_in : Tree → Option (List DirRow)
dirs_in v = option_and_then (each_of dir_in) (items_in v)

files_are : (v : Tree) (fs : List FileRow) → files_in v ≡ Some fs → v ≡ Tree.array (each_value file_value fs)
files_are v fs is =
    let items = then_some (each_of file_in) (items_in v) fs is in
    items_are v items.0 items.1 ∙ ap (λ (x : Trees). Tree.array x) (each_are file_in file_value file_is items.0 fs items.2)

dirs_are : (v : Tree) (ds : List DirRow) → dirs_in v ≡ Some ds → v ≡ Tree.array (each_value dir_value ds)
dirs_are v ds is =
    let items = then_some (each_of dir_in) (items_in v) ds is in
    items_are v items.0 items.1 ∙ ap (λ (x : Trees). Tree.array x) (each_are dir_in dir_value dir_is items.0 ds items.2)

-- the value that a dirtree is, by what it says
abbrev pub tree_value : TreeView → Tree
tree_value v = pair (Tree.array (each_value file_value v.files)) (Tree.array (each_value dir_value v.dirs))

pub tree_is : (v : Tree) (y : TreeView) → tree_in v ≡ Some y → v ≡ tree_value y
tree_is (Tree.tuple (tree files (tree dirs no_trees))) y is =
    let fs = then_some (tree_from (dirs_in dirs)) (files_in files) y is in
    let ds = map_some (tree_with fs.0) (dirs_in dirs) y fs.2 in
    ap (λ (x : Tree). pair x dirs) (files_are files fs.0 fs.1) ∙ ap (λ (x : Tree). pair (Tree.array (each_value file_value fs.0)) x) (dirs_are dirs ds.0 ds.1)
    ∙ ap tree_value ds.2
tree_is _ y is = absurd (cc is)

pub tree_says : (y : TreeView) → tree_in (tree_value y) ≡ Some y
tree_says y = ap (λ (o : Option (List FileRow)). option_and_then (tree_from (dirs_in (Tree.array (each_value dir_value y.dirs)))) o) (each_says file_in file_value file_says y.files)
    ∙ ap (λ (o : Option (List DirRow)). tree_from o y.files) (each_says dir_in dir_value dir_says y.dirs)

pub rows_are : (a b c d : Trees) → a ≡ c → b ≡ d → pair (Tree.array a) (Tree.array b) ≡ pair (Tree.array c) (Tree.array d)
rows_are a b c d first second = ap (λ (x : Trees). pair (Tree.array x) (Tree.array b)) first ∙ ap (λ (x : Trees). pair (Tree.array c) (Tree.array x)) second

-- a digest has 32 bytes
pub long_digest : (digest : List ℕ) → is_digest digest ≡ true → is_long digest ≡ true
long_digest digest good = (and_parts (length digest == 32) (list_all is_byte digest) good).0
