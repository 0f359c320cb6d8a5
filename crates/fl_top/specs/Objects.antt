-- The lines that `show` prints of an object.
use Rattle.std.specs.Prelude.{ℕ, List, [], ◌∷◌, ◌++◌, codes, decimal, flat_map}
use Rattle.fp_name.specs.Hex.{hex}
use Rattle.ost_model.specs.Fields.{CommitView, FileRow, DirRow, TreeView, MetaView}
use Rattle.fl_lines.specs.Lines.{line, escaped, octal}

-- The first line: the digest and the kind
abbrev pub head : List ℕ → List ℕ → List ℕ
head digest kind = hex digest ++ (codes " " ++ (kind ++ codes "\n"))

-- The digest of the parent, or `-` if there is none
abbrev pub parent_text : List ℕ → List ℕ
parent_text [] = codes "-"
parent_text (b ∷ bytes) = hex (b ∷ bytes)

-- The lines of a commit's root: the digests of its dirtree and its dirmeta
abbrev pub root_lines : CommitView → List ℕ
root_lines c = codes "tree " ++ (hex c.tree ++ (codes "\nmeta " ++ (hex c.meta ++ codes "\n")))

-- The lines of a commit's fields
abbrev pub commit_lines : CommitView → List ℕ
commit_lines c =
    codes "parent " ++ (parent_text c.parent ++
    (codes "\ntimestamp " ++ (decimal c.timestamp ++
    (codes "\nsubject " ++ (escaped c.subject ++
    (codes "\n" ++ root_lines c))))))

-- The line of a file in a dirtree
abbrev pub file_line : FileRow → List ℕ
file_line f = codes "file " ++ (escaped f.name ++ (codes " " ++ (hex f.digest ++ codes "\n")))

-- The line of a directory in a dirtree
abbrev pub dir_line : DirRow → List ℕ
dir_line d = codes "dir "
    ++ (escaped d.name ++ (codes " " ++ (hex d.tree ++ (codes " " ++ (hex d.meta ++ codes "\n")))))

-- The lines of files, in their order
abbrev pub files_text : List FileRow → List ℕ
files_text files = flat_map file_line files

-- The lines of directories, in their order
abbrev pub dirs_text : List DirRow → List ℕ
dirs_text dirs = flat_map dir_line dirs

-- The lines of a dirtree: the files, then the directories
abbrev pub tree_lines : TreeView → List ℕ
tree_lines t = files_text t.files ++ dirs_text t.dirs

-- The line of a dirmeta: its mode, in octal
abbrev pub meta_lines : MetaView → List ℕ
meta_lines m = line (codes "mode " ++ octal m.mode)

-- The line of a value whose normal form has this number of bytes
abbrev pub normal_line : ℕ → List ℕ
normal_line size = line (codes "normal " ++ decimal size)
