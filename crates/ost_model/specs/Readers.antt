-- The content of a metadata object, or the first rule that it breaks.
use Rattle.std.specs.Prelude.{ℕ, List, [], ◌∷◌, length, map, Bool, not, ◌&&◌, ◌||◌, ◌==◌, ◌/◌, Option, Some, None, option_and_then, Result, Ok, Err, if◌then◌else◌}
use Rattle.std.specs.List.{list_all, list_any}
use Rattle.std.specs.Str.{bytes_eq}
use Rattle.fp_host.specs.Paths.{is_element}
use Rattle.fp_host.specs.Reads.{is_ascending}
use Rattle.gv_value.specs.Reading.{value_of}
use Rattle.fp_base.specs.declared.object.ObjKind.{ObjKind}
use Rattle.fp_base.specs.declared.object.ObjKind.TheVariants as kinds
use Rattle.fp_base.specs.declared.rule.Rule.{Rule}
use Rattle.fp_base.specs.declared.rule.Rule.TheVariants as rules
use Rattle.ost_model.specs.declared.limits.TheConstants.{LOWEST_TYPE_BIT, DIRECTORY_TYPE}
use Rattle.ost_model.specs.Types.{commit_shape, tree_shape, meta_shape}
use Rattle.ost_model.specs.Fields.{CommitView, FileRow, DirRow, TreeView, MetaView, commit_in, tree_in, meta_in}

-- The rule of the first test that fails
abbrev pub first_broken : List (Bool × Rule) → Option Rule
first_broken [] = None
first_broken (test ∷ tests) = if test.0 then first_broken tests else Some test.1

-- Tests whether a digest has 32 bytes
abbrev pub is_long : List ℕ → Bool
is_long digest = length digest == 32

-- The first rule that a commit breaks: the parent has 0 or 32 bytes, and the two digests of the
-- root have 32 bytes each
abbrev pub commit_breaks : CommitView → Option Rule
commit_breaks c = first_broken (
    (length c.parent == 0 || is_long c.parent, rules.Parent)
    ∷ (is_long c.tree, rules.Tree)
    ∷ (is_long c.meta, rules.Meta) ∷ [])

-- The name of a file in a dirtree
abbrev pub file_name : FileRow → List ℕ
file_name f = f.name

-- The name of a directory in a dirtree
abbrev pub dir_name : DirRow → List ℕ
dir_name d = d.name

-- The names of a dirtree's files
abbrev pub file_names : TreeView → List (List ℕ)
file_names v = map file_name v.files

-- The names of a dirtree's directories
abbrev pub dir_names : TreeView → List (List ℕ)
dir_names v = map dir_name v.dirs

-- Tests whether the digest of a file has 32 bytes
abbrev pub has_long : FileRow → Bool
has_long f = is_long f.digest

-- Tests whether both digests of a directory have 32 bytes
abbrev pub has_both_long : DirRow → Bool
has_both_long d = is_long d.tree && is_long d.meta

-- Tests whether two lists have a common name
abbrev pub shares : List (List ℕ) → List (List ℕ) → Bool
shares xs ys = list_any (λ x. list_any (bytes_eq x) ys) xs

-- The tests of a dirtree's names: each may be a file name, the names of each list ascend strictly,
-- and no name is in both lists
abbrev pub name_tests : TreeView → List (Bool × Rule)
name_tests v =
    (list_all is_element (file_names v) && list_all is_element (dir_names v), rules.Name)
    ∷ ((is_ascending (file_names v) && is_ascending (dir_names v), rules.Order)
    ∷ ((not (shares (file_names v) (dir_names v)), rules.Both) ∷ []))

-- The first rule that a dirtree breaks: each digest has 32 bytes, and the names are good
abbrev pub tree_breaks : TreeView → Option Rule
tree_breaks v = first_broken
    ((list_all has_long v.files && list_all has_both_long v.dirs, rules.Digest) ∷ name_tests v)

-- The first rule that a dirmeta breaks: owner and group are 0, there are no extended attributes,
-- and the file type is a directory's, 040000 (octal) above the lowest twelve bits
abbrev pub meta_breaks : MetaView → Option Rule
meta_breaks m = first_broken (
    (m.uid == 0 && m.gid == 0, rules.Owner)
    ∷ (m.bare, rules.Xattrs)
    ∷ (m.mode / LOWEST_TYPE_BIT == DIRECTORY_TYPE, rules.Kind) ∷ [])

-- The value if no rule is broken, else the rule
abbrev pub kept : {A : Type 0} → Option Rule → A → Result A Rule
kept None a = Ok a
kept (Some rule) a = Err rule

-- The value that was read, or the first rule that it breaks; the rule `Value` if none was read
abbrev pub judged : {A : Type 0} → (A → Option Rule) → Option A → Result A Rule
judged breaks None = Err rules.Value
judged breaks (Some a) = kept (breaks a) a

-- The commit that bytes represent, or the first rule that they break
abbrev pub commit_read : List ℕ → Result CommitView Rule
commit_read bytes = judged commit_breaks (option_and_then commit_in (value_of commit_shape bytes))

-- The dirtree that bytes represent, or the first rule that they break
abbrev pub tree_read : List ℕ → Result TreeView Rule
tree_read bytes = judged tree_breaks (option_and_then tree_in (value_of tree_shape bytes))

-- The dirmeta that bytes represent, or the first rule that they break
abbrev pub meta_read : List ℕ → Result MetaView Rule
meta_read bytes = judged meta_breaks (option_and_then meta_in (value_of meta_shape bytes))

-- The value, if no rule is broken
abbrev pub if_read : {A : Type 0} → Result A Rule → Option A
if_read (Ok a) = Some a
if_read (Err rule) = None

-- The broken rule, if there is one
abbrev pub if_broken : {A : Type 0} → Result A Rule → Option Rule
if_broken (Ok a) = None
if_broken (Err rule) = Some rule

-- The commit that bytes represent, if they break no rule
abbrev pub commit_of : List ℕ → Option CommitView
commit_of bytes = if_read (commit_read bytes)

-- The dirtree that bytes represent, if they break no rule
abbrev pub tree_of : List ℕ → Option TreeView
tree_of bytes = if_read (tree_read bytes)

-- The dirmeta that bytes represent, if they break no rule
abbrev pub meta_of : List ℕ → Option MetaView
meta_of bytes = if_read (meta_read bytes)

-- The first rule that a metadata object of this kind breaks
abbrev pub broken_rule : ObjKind → List ℕ → Option Rule
broken_rule kinds.Commit bytes = if_broken (commit_read bytes)
broken_rule kinds.DirTree bytes = if_broken (tree_read bytes)
broken_rule kinds.DirMeta bytes = if_broken (meta_read bytes)
broken_rule kinds.File bytes = None
