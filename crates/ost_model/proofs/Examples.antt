-- Worked rows, closed by computing.
use Rattle.std.proofs.Common.{◌≡◌, ℕ, List, [], ◌∷◌, length, Bool, true, false, leb, Option, Some, None, Ok, Err, refl, ap}
use Rattle.std.specs.Option.{option_or}
use Rattle.std.specs.Prelude.{codes, replicate, map}
use Rattle.gv_value.specs.declared.basic.Basic.TheVariants as basics
use Rattle.gv_value.specs.Shape.{Shape}
use Rattle.gv_value.specs.Tree.{Content, Tree, no_trees, tree}
use Rattle.gv_value.specs.TypeText.{type_text}
use Rattle.fp_base.specs.declared.rule.Rule.TheVariants as rules
use Rattle.ost_model.specs.Types.{commit_shape, tree_shape, meta_shape}
use Rattle.ost_model.specs.Fields.{TreeView, CommitView}
use Rattle.ost_model.specs.Readers.{commit_breaks, tree_breaks, tree_read, meta_read}
use Rattle.ost_model.specs.Binding.{binding_in}
use Rattle.fp_host.specs.Outcome.{gone, folder, holds, points}
use Rattle.fp_base.specs.declared.object.ObjKind.TheVariants as kinds
use Rattle.fp_base.specs.declared.object.ObjKind.{ObjKind}
use Rattle.fp_name.specs.Hex.{hex}
use Rattle.fp_host.specs.Reads.{is_ascending}
use Rattle.fp_host.specs.Remote.{contents, target}
use Rattle.sha2.specs.Sha256.{sha256, digest_bytes, hash_after, compress, rounds, schedule, first_words}
use Rattle.ost_model.specs.declared.object.Object.{Object}
use Rattle.ost_model.specs.declared.object.Object.TheVariants as objects
use Rattle.ost_model.specs.Contents.{is_permission, meta_digest}
use Rattle.ost_model.specs.Objects.{Fault, too_many, too_deep, too_long, missing, corrupt, malformed, refused_mode, unless, object_at, length_fault, mode_fault, digest_fault, name_fault, dir_mode_fault, supply, has_good_bits}
use Rattle.ost_model.specs.Order.{Place, limited}
use Rattle.ost_model.specs.Remotes.{remote_at, remote}
use Rattle.ost_model.specs.Used.{object_text}
use Rattle.ost_model.specs.Stores.{is_prefix}

commit_type : type_text commit_shape ≡ codes "(a{sv}aya(say)sstayay)"
commit_type = refl

tree_type : type_text tree_shape ≡ codes "(a(say)a(sayay))"
tree_type = refl

meta_type : type_text meta_shape ≡ codes "(uuua(ayay))"
meta_type = refl

-- the empty directory is the byte 0
empty_tree : tree_read (0 ∷ []) ≡ Ok (record { files = []; dirs = [] })
empty_tree = refl

-- no bytes are no dirtree
no_tree : tree_read [] ≡ Err rules.Value
no_tree = refl

-- a directory of mode 040755 (octal)
directory : meta_read (0 ∷ 0 ∷ 0 ∷ 0 ∷ 0 ∷ 0 ∷ 0 ∷ 0 ∷ 0 ∷ 0 ∷ 0x41 ∷ 0xed ∷ []) ≡ Ok (record { uid = 0; gid = 0; mode = 0x41ed; bare = true })
directory = refl

-- a file's mode
not_a_directory : meta_read (0 ∷ 0 ∷ 0 ∷ 0 ∷ 0 ∷ 0 ∷ 0 ∷ 0 ∷ 0 ∷ 0 ∷ 0x81 ∷ 0xa4 ∷ []) ≡ Err rules.Kind
not_a_directory = refl

-- user 1
owned : meta_read (0 ∷ 0 ∷ 0 ∷ 1 ∷ 0 ∷ 0 ∷ 0 ∷ 0 ∷ 0 ∷ 0 ∷ 0x81 ∷ 0xa4 ∷ []) ≡ Err rules.Owner
owned = refl

module _ (metadata related : Tree) (parent : List ℕ) where
  abbrev a_commit : ℕ → ℕ → ℕ → CommitView
  a_commit p t m = record {
    metadata = metadata;
    parent = replicate p 1;
    related = related;
    subject = [];
    body = [];
    timestamp = 0;
    tree = replicate t 2;
    meta = replicate m 3;
  }

  without_parent : commit_breaks (a_commit 0 32 32) ≡ None
  without_parent = refl

  with_parent : commit_breaks (a_commit 32 32 32) ≡ None
  with_parent = refl

  -- the first broken rule is named
  short_parent : commit_breaks (a_commit 31 31 31) ≡ Some rules.Parent
  short_parent = refl

  short_root : commit_breaks (a_commit 32 31 31) ≡ Some rules.Tree
  short_root = refl

abbrev a_tree : List (List ℕ) → List (List ℕ) → TreeView
a_tree fs ds = record {
  files = map (λ n. record { name = n; digest = replicate 32 1 }) fs;
  dirs = map (λ n. record { name = n; tree = replicate 32 2; meta = replicate 32 3 }) ds;
}

-- capitals come before small letters
ascending : tree_breaks (a_tree (codes "B" ∷ codes "a" ∷ codes "ab" ∷ []) (codes "C" ∷ [])) ≡ None
ascending = refl

not_ascending : tree_breaks (a_tree (codes "a" ∷ codes "B" ∷ []) []) ≡ Some rules.Order
not_ascending = refl

equal_names : tree_breaks (a_tree [] (codes "a" ∷ codes "a" ∷ [])) ≡ Some rules.Order
equal_names = refl

in_both : tree_breaks (a_tree (codes "a" ∷ codes "b" ∷ []) (codes "b" ∷ [])) ≡ Some rules.Both
in_both = refl

with_slash : tree_breaks (a_tree (codes "a/b" ∷ []) (codes "a/b" ∷ [])) ≡ Some rules.Name
with_slash = refl

abbrev text : List ℕ → Tree
text t = Tree.leaf basics.Str (Content.text t)

abbrev bound : Tree → Tree
bound v = Tree.entry (text (codes "ostree.ref-binding")) v

abbrev listed : List ℕ → Tree
listed t = Tree.variant (Shape.array (Shape.basic basics.Str)) (Tree.array (tree (text t) no_trees))

-- the last entry decides
last_entry : binding_in (Tree.array (tree (bound (listed (codes "a"))) (tree (bound (listed (codes "b"))) no_trees))) ≡ Some (codes "b" ∷ [])
last_entry = refl

-- and where it is of another type, there is none
other_type : binding_in (Tree.array (tree (bound (listed (codes "a"))) (tree (bound (Tree.variant (Shape.basic basics.Str) (text (codes "b")))) no_trees))) ≡ None
other_type = refl

-- 0775, 0644, 0000, 0111, 0311, 0375, 0666, 01755 (octal)
within_one : is_permission 0x1fd ≡ true
within_one = refl

within_two : is_permission 0x1a4 ≡ true
within_two = refl

no_bits : is_permission 0 ≡ true
no_bits = refl

only_started : is_permission 0x49 ≡ true
only_started = refl

not_listed : is_permission 0xc9 ≡ true
not_listed = refl

not_read : is_permission 0xfd ≡ true
not_read = refl

others_may_write : is_permission 0x1b6 ≡ false
others_may_write = refl

sticky : is_permission 0x3ed ≡ false
sticky = refl

-- the names of the folders below `objects`
two_digits : is_prefix (codes "0f") ≡ true
two_digits = refl

a_capital : is_prefix (codes "0F") ≡ false
a_capital = refl

one_digit : is_prefix (codes "0") ≡ false
one_digit = refl

three_digits : is_prefix (codes "0f0") ≡ false
three_digits = refl

no_digit : is_prefix (codes "tmp") ≡ false
no_digit = refl

-- what keeps a name from being that of an object
module _ (d bytes text : List ℕ) (id : ℕ) where
  missing_file : name_fault d kinds.File (object_at kinds.File gone) ≡ Some missing
  missing_file = refl

  folder_for_a_file : name_fault d kinds.File (object_at kinds.File folder) ≡ Some missing
  folder_for_a_file = refl

  link_for_a_commit : name_fault d kinds.Commit (object_at kinds.Commit (points text)) ≡ Some missing
  link_for_a_commit = refl

  file_that_others_may_write : name_fault d kinds.File (object_at kinds.File (holds id 0x1FF [])) ≡ Some (refused_mode 0x1FF)
  file_that_others_may_write = refl

  bits_of_a_commit : has_good_bits (holds id 0x1FF bytes) ≡ false
  bits_of_a_commit = refl

  -- the bytes of a file under the name of a metadata object, or the other way round
  file_for_a_tree : name_fault d kinds.DirTree (Some (objects.File 0x1A4 bytes)) ≡ Some missing
  file_for_a_tree = refl

  metadata_for_a_file : name_fault d kinds.File (Some (objects.Meta bytes)) ≡ Some missing
  metadata_for_a_file = refl

-- ---- limits

-- 16 MiB and one byte more, for metadata; 1 GiB and one byte more, for a file
module _ (bytes : List ℕ) (mode : ℕ) where
  metadata_at_the_bound : length bytes ≡ 16777216 → length_fault (objects.Meta bytes) ≡ None
  metadata_at_the_bound is = ap (λ n. unless (leb n 16777216) (too_long n)) is

  metadata_past_the_bound : length bytes ≡ 16777217 → length_fault (objects.Meta bytes) ≡ Some (too_long 16777217)
  metadata_past_the_bound is = ap (λ n. unless (leb n 16777216) (too_long n)) is

  file_at_the_bound : length bytes ≡ 1073741824 → length_fault (objects.File mode bytes) ≡ None
  file_at_the_bound is = ap (λ n. unless (leb n 1073741824) (too_long n)) is

  file_past_the_bound : length bytes ≡ 1073741825 → length_fault (objects.File mode bytes) ≡ Some (too_long 1073741825)
  file_past_the_bound is = ap (λ n. unless (leb n 1073741824) (too_long n)) is

-- the 200,000th object and the 200,001st, 64 and 65 levels below the root
module _ (d : List ℕ) (kind : ObjKind) (fault : Option Fault) where
  abbrev at_depth : ℕ → Place
  at_depth n = record { digest = d; kind = kind; depth = n }

  last_object : limited 199999 (at_depth 0) fault ≡ fault
  last_object = refl

  one_object_more : limited 200000 (at_depth 0) fault ≡ Some too_many
  one_object_more = refl

  last_level : limited 0 (at_depth 64) fault ≡ fault
  last_level = refl

  one_level_more : limited 0 (at_depth 65) fault ≡ Some too_deep
  one_level_more = refl

  -- the number comes before the depth
  both_limits : limited 200000 (at_depth 65) fault ≡ Some too_many
  both_limits = refl

-- ---- one fault of several

-- a file that is too long comes before its bits, and its bits before its digest
module _ (d bytes : List ℕ) where
  too_long_first : length bytes ≡ 1073741825 → name_fault d kinds.File (Some (objects.File 0x1FF bytes)) ≡ Some (too_long 1073741825)
  too_long_first is = ap (λ n. option_or (unless (leb n 1073741824) (too_long n)) (option_or (mode_fault (objects.File 0x1FF bytes)) (option_or (digest_fault d (objects.File 0x1FF bytes)) None))) is

  bits_second : length bytes ≡ 3 → name_fault d kinds.File (Some (objects.File 0x1FF bytes)) ≡ Some (refused_mode 0x1FF)
  bits_second is = ap (λ n. option_or (unless (leb n 1073741824) (too_long n)) (option_or (mode_fault (objects.File 0x1FF bytes)) (option_or (digest_fault d (objects.File 0x1FF bytes)) None))) is

-- the digest of no bytes, which comes before the rule that they break
abbrev no_bytes : List ℕ
no_bytes = 227 ∷ 176 ∷ 196 ∷ 66 ∷ 152 ∷ 252 ∷ 28 ∷ 20 ∷ 154 ∷ 251 ∷ 244 ∷ 200 ∷ 153 ∷ 111 ∷ 185 ∷ 36 ∷ 39 ∷ 174 ∷ 65 ∷ 228 ∷ 100 ∷ 155 ∷ 147 ∷ 76 ∷ 164 ∷ 149 ∷ 153 ∷ 27 ∷ 120 ∷ 82 ∷ 184 ∷ 85 ∷ []

digest_third : name_fault [] kinds.DirTree (Some (objects.Meta [])) ≡ Some (corrupt no_bytes)
unfolding meta_digest sha256 digest_bytes hash_after compress rounds schedule first_words
digest_third = refl

rule_last : name_fault no_bytes kinds.DirTree (Some (objects.Meta [])) ≡ Some (malformed rules.Value)
unfolding meta_digest sha256 digest_bytes hash_after compress rounds schedule first_words
rule_last = refl

-- directories of the modes 040775 and 040777 (octal)
abbrev dir_of : ℕ → ℕ → Object
dir_of high low = objects.Meta (0 ∷ 0 ∷ 0 ∷ 0 ∷ 0 ∷ 0 ∷ 0 ∷ 0 ∷ 0 ∷ 0 ∷ high ∷ low ∷ [])

group_may_write : dir_mode_fault kinds.DirMeta (Some (dir_of 0x41 0xfd)) ≡ None
group_may_write = refl

all_may_write : dir_mode_fault kinds.DirMeta (Some (dir_of 0x41 0xff)) ≡ Some (refused_mode 0x41ff)
all_may_write = refl

-- ---- where objects come from

-- the store's own before the remote's
module _ (d : List ℕ) (kind : ObjKind) (a b : Object) where
  own_first : supply (λ d k. Some a) (λ d k. Some b) d kind ≡ Some a
  own_first = refl

  else_the_remote : supply (λ d k. None) (λ d k. Some b) d kind ≡ Some b
  else_the_remote = refl

-- a remote's link under the name of a commit isn't there, and its file is
module _ (url d bytes text : List ℕ) where
  link_at_a_remote : remote_at (λ u p. target text) url d kinds.Commit ≡ None
  link_at_a_remote = refl

  file_at_a_remote : remote_at (λ u p. contents 0 bytes) url d kinds.Commit ≡ Some (objects.Meta bytes)
  file_at_a_remote = refl

  no_url : remote (λ u p. contents 0 bytes) None d kinds.Commit ≡ None
  no_url = refl

-- ---- the order of a list of objects

abbrev are_ascending : List (List ℕ × ObjKind) → Bool
are_ascending objects = is_ascending (map object_text objects)

by_digest_first : are_ascending ((1 ∷ [], kinds.File) ∷ (2 ∷ [], kinds.Commit) ∷ []) ≡ true
unfolding hex
by_digest_first = refl

then_by_kind : are_ascending ((1 ∷ [], kinds.Commit) ∷ (1 ∷ [], kinds.DirMeta) ∷ (1 ∷ [], kinds.DirTree) ∷ (1 ∷ [], kinds.File) ∷ []) ≡ true
unfolding hex
then_by_kind = refl

no_object_twice : are_ascending ((1 ∷ [], kinds.File) ∷ (1 ∷ [], kinds.File) ∷ []) ≡ false
unfolding hex
no_object_twice = refl
