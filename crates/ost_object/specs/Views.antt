-- The contents that the objects of the code represent.
use Rattle.std.specs.Prelude.{ℕ, true, List, [], ◌∷◌, map, Option, Some, None, option_and_then, unwrap_or}
use Rattle.gv_value.specs.declared.basic.Basic.TheVariants as basics
use Rattle.gv_value.specs.Reading.{value_of}
use Rattle.gv_value.specs.Shape.{Shape}
use Rattle.gv_value.specs.Tree.{Tree}
use Rattle.ost_model.specs.Types.{dictionary_shape, related_shape, text_shape, time_shape}
use Rattle.ost_model.specs.Fields.{CommitView, FileRow, DirRow, TreeView, MetaView, text_in, time_in}
use Rattle.ost_model.specs.Readers.{file_name, dir_name}
use Rattle.ost_object.specs.declared.commit.Commit.{Commit}
use Rattle.ost_object.specs.declared.commit.CommitRoot.{CommitRoot}
use Rattle.ost_object.specs.declared.commit_parts.CommitParts.{CommitParts}
use Rattle.ost_object.specs.declared.commit_parts.CommitDigests.{CommitDigests}
use Rattle.ost_object.specs.declared.dirtree.FileEntry.{FileEntry}
use Rattle.ost_object.specs.declared.dirtree.DirEntry.{DirEntry}
use Rattle.ost_object.specs.declared.dirtree.DirTree.{DirTree}
use Rattle.ost_object.specs.declared.dirmeta.DirMeta.{DirMeta}
use Rattle.ost_object.specs.declared.fields.MetaFields.{MetaFields}

-- ---- values that are kept as bytes

-- The value of a type whose serialised form the bytes are, or `nothing` if they aren't one
unfoldable pub tree_at : Shape → List ℕ → Tree
tree_at t bytes = unwrap_or (value_of t bytes) Tree.nothing

-- The text in the bytes of a value of type `s`, or the empty text if they aren't one
abbrev pub text_at : List ℕ → List ℕ
text_at bytes = unwrap_or (option_and_then text_in (value_of text_shape bytes)) []

-- The time in the bytes of a value of type `t`, or 0 if they aren't one
abbrev pub time_at : List ℕ → ℕ
time_at bytes = unwrap_or (option_and_then time_in (value_of time_shape bytes)) 0

-- ---- commits

-- The bytes of a parent's digest, or no bytes if there is no parent
abbrev pub parent_bytes : Option (List ℕ) → List ℕ
parent_bytes None = []
parent_bytes (Some digest) = digest

-- The contents of a commit
abbrev pub commit_view : Commit → CommitView
commit_view c = record {
  metadata = tree_at dictionary_shape c.metadata;
  parent = parent_bytes c.parent;
  related = tree_at related_shape c.related;
  subject = c.subject;
  body = c.body;
  timestamp = c.timestamp;
  tree = c.tree;
  meta = c.meta;
}

-- The digests of the root's dirtree and dirmeta
abbrev pub root_in : CommitView → List ℕ × List ℕ
root_in c = (c.tree, c.meta)

-- The digests in a `CommitRoot`: the dirtree and the dirmeta
abbrev pub root_view : CommitRoot → List ℕ × List ℕ
root_view r = (r.tree, r.meta)

-- The digests of the parent, the root's dirtree and the root's dirmeta
abbrev pub digests_in : CommitView → List ℕ × List ℕ × List ℕ
digests_in c = (c.parent, c.tree, c.meta)

-- The digests in a `CommitDigests`: the parent, the dirtree and the dirmeta
abbrev pub digests_view : CommitDigests → List ℕ × List ℕ × List ℕ
digests_view d = (parent_bytes d.parent, d.tree, d.meta)

-- The contents of a commit, by the bytes of its eight fields
abbrev pub parts_view : CommitParts → CommitView
parts_view p = record {
  metadata = tree_at dictionary_shape p.metadata.now;
  parent = p.parent.now;
  related = tree_at related_shape p.related.now;
  subject = text_at p.subject.now;
  body = text_at p.body.now;
  timestamp = time_at p.time.now;
  tree = p.tree.now;
  meta = p.meta.now;
}

-- The bytes of the eight fields of a commit, in order
abbrev pub part_list : CommitParts → List (List ℕ)
part_list p = p.metadata.now ∷ p.parent.now ∷ p.related.now ∷ p.subject.now ∷ p.body.now
    ∷ p.time.now ∷ p.tree.now ∷ p.meta.now ∷ []

-- The list, if it has eight items
abbrev pub if_eight : List (List ℕ) → Option (List (List ℕ))
if_eight (a ∷ p ∷ r ∷ s ∷ b ∷ t ∷ d ∷ m ∷ []) = Some (a ∷ p ∷ r ∷ s ∷ b ∷ t ∷ d ∷ m ∷ [])
if_eight _ = None

-- ---- dirtrees and dirmetas

-- The row of a file
abbrev pub file_row : FileEntry → FileRow
file_row f = record { name = f.name; digest = f.digest }

-- The row of a directory
abbrev pub dir_row : DirEntry → DirRow
dir_row d = record { name = d.name; tree = d.tree; meta = d.meta }

-- The contents of a dirtree, by its files and its directories
abbrev pub rows_view : List FileEntry → List DirEntry → TreeView
rows_view files dirs = record { files = map file_row files; dirs = map dir_row dirs }

-- The contents of a dirtree
abbrev pub tree_view : DirTree → TreeView
tree_view t = rows_view t.files t.dirs

-- The contents of a dirmeta: owner and group are 0, and there are no extended attributes
abbrev pub meta_view : DirMeta → MetaView
meta_view m = record { uid = 0; gid = 0; mode = m.mode; bare = true }

-- ---- fields as they were read

-- The contents of a dirmeta, by its fields as they were read
abbrev pub meta_fields : MetaFields → MetaView
meta_fields m = record { uid = m.uid; gid = m.gid; mode = m.mode; bare = m.bare }

-- ---- lists of rows

-- The names of files
abbrev pub names_of_files : List FileEntry → List (List ℕ)
names_of_files files = map file_name (map file_row files)

-- The names of directories
abbrev pub names_of_dirs : List DirEntry → List (List ℕ)
names_of_dirs dirs = map dir_name (map dir_row dirs)
