-- Objects that may be used.
use Rattle.std.proofs.Common.{◌≡◌, ◌≤◌, ◌*◌, ℕ, List, [], length, Bool, true, leb, Option, Some, None, refl, sym, ◌∙◌, ap, subst, arith}
use Rattle.std.specs.Option.{option_or}
use Rattle.std.specs.Prelude.{option_and_then, unwrap_or, Ok}
use Rattle.std.specs.Str.{bytes_eq}
use Rattle.std.proofs.lemmas.Bool.Decides.{nat_tests}
use Rattle.std.proofs.lemmas.Slice.Eq.{bytes_eq-Decides}
use Rattle.gv_value.specs.Shape.{Shape}
use Rattle.gv_value.specs.Tree.{Tree, no_trees}
use Rattle.gv_value.specs.Spelled.{Spelled}
use Rattle.gv_value.specs.Reading.{value_of}
use Rattle.gv_value.proofs.Exact.{reads_values}
use Rattle.fp_base.specs.declared.object.ObjKind.{ObjKind}
use Rattle.fp_base.specs.declared.object.ObjKind.TheVariants as kinds
use Rattle.fp_base.specs.declared.rule.Rule.{Rule}
use Rattle.fp_base.proofs.Booleans.{and_first, and_second}
use Rattle.fp_base.proofs.Options.{first_none}
use Rattle.fp_base.proofs.Texts.{bytes_eq-same}
use Rattle.ost_model.specs.declared.object.Object.{Object}
use Rattle.ost_model.specs.declared.object.Object.TheVariants as objects
use Rattle.ost_model.specs.Contents.{is_permission, file_digest, link_digest, meta_digest}
use Rattle.ost_model.specs.Fields.{CommitView, TreeView, commit_in, tree_in, meta_in}
use Rattle.ost_model.specs.Types.{commit_shape, tree_shape, meta_shape, related_shape}
use Rattle.ost_object.specs.Views.{tree_at}
use Rattle.ost_model.specs.Readers.{judged, commit_breaks, tree_breaks, meta_breaks, commit_read, tree_read, meta_read, if_read, if_broken, broken_rule, meta_of}
use Rattle.ost_model.specs.Objects.{Fault, unless, missing, too_long, refused_mode, corrupt, length_fault, mode_fault, digest_of, digest_fault, as_malformed, rule_fault, is_of_kind, kind_fault, content_fault, name_fault, dir_bits, dir_mode_fault, object_fault}
use Rattle.ost_model.proofs.Faults.{unless_none}
use Rattle.ost_commit.specs.declared.row.TreeRow.{TreeRow}
use Rattle.ost_commit.specs.declared.row.TreeRow.TheVariants as row
use Rattle.ost_commit.specs.Refusals.{is_good_row}
use Rattle.ost_commit.specs.Digests.{IsDigestOf, object_by}
use Rattle.ost_commit.specs.Shows.{plain_meta}

-- ---- faults, one after the other

pub no_fault : (a b : Option Fault) → a ≡ None → b ≡ None → option_or a b ≡ None
no_fault a b e f = ap (λ x. option_or x b) e ∙ f

pub right_none : (a b : Option Fault) → option_or a b ≡ None → b ≡ None
right_none None b h = h
right_none (Some f) b h = absurd (cc h)

pass : (b : Bool) (f : Fault) → b ≡ true → unless b f ≡ None
pass b f e = ap (λ x. unless x f) e

low : (a b : ℕ) → a ≤ b → leb a b ≡ true
low a b h = grind (arith, nat_tests)

-- ---- an object that may be used has the digest that names it

pub named_if_good : (d : List ℕ) (kind : ObjKind) (o : Object) → object_fault d kind (Some o) ≡ None → name_fault d kind (Some o) ≡ None
named_if_good d kind o h = first_none (name_fault d kind (Some o)) (dir_mode_fault kind (Some o)) h

pub digest_if_good : (d : List ℕ) (kind : ObjKind) (o : Object) → object_fault d kind (Some o) ≡ None → digest_of o ≡ d
digest_if_good d kind o h =
    let named = named_if_good d kind o h in
    let content = right_none (kind_fault kind o) (content_fault d kind o) named in
    let rest = right_none (length_fault o) (option_or (mode_fault o) (option_or (digest_fault d o) (rule_fault kind o))) content in
    let last = right_none (mode_fault o) (option_or (digest_fault d o) (rule_fault kind o)) rest in
    (bytes_eq-Decides (digest_of o) d).0 (unless_none (bytes_eq (digest_of o) d) (corrupt (digest_of o)) (first_none (digest_fault d o) (rule_fault kind o) last))

-- ---- metadata objects

-- bytes that read have at most 16 MiB
short : {Y : Type 0} (breaks : Y → Option Rule) (t : Shape) (into : Tree → Option Y) (bytes : List ℕ) (y : Y) → judged breaks (option_and_then into (value_of t bytes)) ≡ Ok y → length bytes ≤ 16 * 1024 * 1024
short breaks t into bytes y is = go (value_of t bytes) refl is
  where
    go : (o : Option Tree) → value_of t bytes ≡ o → judged breaks (option_and_then into o) ≡ Ok y → length bytes ≤ 16 * 1024 * 1024
    go None e h = absurd (cc h)
    go (Some v) e h = let s = (reads_values t v bytes).0 e in omega (arith, s.short)

meta_named : (kind : ObjKind) (bytes : List ℕ) → is_of_kind kind (objects.Meta bytes) ≡ true → length bytes ≤ 16 * 1024 * 1024 → broken_rule kind bytes ≡ None → name_fault (meta_digest bytes) kind (Some (objects.Meta bytes)) ≡ None
meta_named kind bytes of_kind few unbroken =
    no_fault (kind_fault kind (objects.Meta bytes)) (content_fault (meta_digest bytes) kind (objects.Meta bytes))
    (pass (is_of_kind kind (objects.Meta bytes)) missing of_kind)
    (no_fault (length_fault (objects.Meta bytes)) _ (pass (leb (length bytes) (16 * 1024 * 1024)) (too_long (length bytes)) (low (length bytes) (16 * 1024 * 1024) few))
    (no_fault (digest_fault (meta_digest bytes) (objects.Meta bytes)) (rule_fault kind (objects.Meta bytes))
    (pass (bytes_eq (meta_digest bytes) (meta_digest bytes)) (corrupt (meta_digest bytes)) (bytes_eq-same (meta_digest bytes)))
    (ap as_malformed unbroken)))

pub tree_good : (bytes : List ℕ) (v : TreeView) → tree_read bytes ≡ Ok v → object_fault (meta_digest bytes) kinds.DirTree (Some (objects.Meta bytes)) ≡ None
tree_good bytes v is = no_fault (name_fault (meta_digest bytes) kinds.DirTree (Some (objects.Meta bytes))) None
    (meta_named kinds.DirTree bytes refl (short tree_breaks tree_shape tree_in bytes v is) (ap if_broken is)) refl

pub commit_good : (bytes : List ℕ) (v : CommitView) → commit_read bytes ≡ Ok v → object_fault (meta_digest bytes) kinds.Commit (Some (objects.Meta bytes)) ≡ None
commit_good bytes v is = no_fault (name_fault (meta_digest bytes) kinds.Commit (Some (objects.Meta bytes))) None
    (meta_named kinds.Commit bytes refl (short commit_breaks commit_shape commit_in bytes v is) (ap if_broken is)) refl

pub dirmeta_good : (bytes : List ℕ) → meta_read bytes ≡ Ok plain_meta → object_fault (meta_digest bytes) kinds.DirMeta (Some (objects.Meta bytes)) ≡ None
dirmeta_good bytes is = no_fault (name_fault (meta_digest bytes) kinds.DirMeta (Some (objects.Meta bytes))) (dir_bits (meta_of bytes))
    (meta_named kinds.DirMeta bytes refl (short meta_breaks meta_shape meta_in bytes plain_meta is) (ap if_broken is)) (ap (λ r. dir_bits (if_read r)) is)

-- ---- files and links

file_good : (mode : ℕ) (bytes : List ℕ) → is_permission mode ≡ true → leb (length bytes) (1024 * 1024 * 1024) ≡ true → object_fault (file_digest mode bytes) kinds.File (Some (objects.File mode bytes)) ≡ None
file_good mode bytes bits few = no_fault (name_fault (file_digest mode bytes) kinds.File (Some (objects.File mode bytes))) None
    (no_fault (length_fault (objects.File mode bytes)) _ (pass (leb (length bytes) (1024 * 1024 * 1024)) (too_long (length bytes)) few)
    (no_fault (mode_fault (objects.File mode bytes)) _ (pass (is_permission mode) (refused_mode mode) bits)
    (no_fault (digest_fault (file_digest mode bytes) (objects.File mode bytes)) None
    (pass (bytes_eq (file_digest mode bytes) (file_digest mode bytes)) (corrupt (file_digest mode bytes)) (bytes_eq-same (file_digest mode bytes))) refl))) refl

link_good : (target : List ℕ) → object_fault (link_digest target) kinds.File (Some (objects.Link target)) ≡ None
link_good target = no_fault (name_fault (link_digest target) kinds.File (Some (objects.Link target))) None
    (no_fault (digest_fault (link_digest target) (objects.Link target)) None
    (pass (bytes_eq (link_digest target) (link_digest target)) (corrupt (link_digest target)) (bytes_eq-same (link_digest target))) refl) refl

-- the object of a good row
pub row_good : (r : TreeRow) (d : List ℕ) (o : Object) → is_good_row r ≡ true → IsDigestOf r d → object_by r ≡ Some o → object_fault d kinds.File (Some o) ≡ None
row_good (row.Dir path) d o good is by = absurd (cc by)
row_good (row.File path mode bytes) d o good is by =
    let rest = and_second (leb (length path) 65) _ good in
    let object : objects.File mode bytes ≡ o = cc by in
    subst (λ x. object_fault d kinds.File (Some x) ≡ None) object
    (subst (λ x. object_fault x kinds.File (Some (objects.File mode bytes)) ≡ None) (sym is)
    (file_good mode bytes (and_first (is_permission mode) _ rest) (and_second (is_permission mode) _ rest)))
row_good (row.Link path target) d o good is by =
    let object : objects.Link target ≡ o = cc by in
    subst (λ x. object_fault d kinds.File (Some x) ≡ None) object
    (subst (λ x. object_fault x kinds.File (Some (objects.Link target)) ≡ None) (sym is) (link_good target))

-- ---- bytes that are kept

-- bytes that are a value are read as it
pub tree_is : (t : Shape) (v : Tree) (bytes : List ℕ) → Spelled t v bytes → tree_at t bytes ≡ v
unfolding tree_at
tree_is t v bytes h = ap (λ o. unwrap_or o Tree.nothing) ((reads_values t v bytes).1 h)

-- no bytes are no relations
pub none_related : tree_at related_shape [] ≡ Tree.array no_trees
unfolding tree_at
none_related = refl
