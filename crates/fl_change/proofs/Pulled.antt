-- What heads and commits are refused for.
use Rattle.std.proofs.Common.{◌≡◌, ℕ, Bool, true, false, List, Option, Some, None, option_map, Result, Ok, Err, leb, ◌*◌, length, if◌then◌else◌, refl, subst}
use Rattle.std.specs.Option.{option_or}
use Rattle.std.specs.Prelude.{codes}
use Rattle.fp_base.specs.declared.object.ObjKind.{ObjKind}
use Rattle.fp_base.specs.declared.object.ObjKind.TheVariants as kinds
use Rattle.fp_base.specs.declared.meta_rule.MetaRule.{MetaRule}
use Rattle.fp_base.specs.declared.meta_rule.MetadataRule.{MetadataRule}
use Rattle.fp_base.specs.declared.meta_rule.MetadataRule.TheVariants as rules
use Rattle.fp_base.specs.declared.what.What.TheVariants as whats
use Rattle.fp_keyfile.specs.declared.group.Group.{Group}
use Rattle.fp_keyfile.specs.declared.fault.KeyFault.{KeyFault}
use Rattle.fp_keyfile.specs.KeyFile.{file_of}
use Rattle.fp_name.specs.Refs.{Ref, ref_text}
use Rattle.fl_meta.specs.declared.meta.Meta.{Meta}
use Rattle.fl_meta.specs.Metadata.{meta_of, meta_kind}
use Rattle.fp_small.specs.declared.refusal.Refusal.{Refusal}
use Rattle.fp_small.specs.declared.refusal.Refusal.TheVariants as refusals
use Rattle.fp_small.specs.declared.op.Op.{Op}
use Rattle.dep_states.specs.Effects.{Effect, effect_of, brings, writes}
use Rattle.ost_model.specs.Fields.{CommitView, TreeView}
use Rattle.ost_model.specs.Binding.{binding_in}
use Rattle.ost_model.specs.Look.{Found, nothing, directory, file_at, entry_in}
use Rattle.ost_model.specs.Objects.{Have, Fault, too_many, too_deep, missing, too_long, refused_mode, corrupt, malformed, object_fault}
use Rattle.ost_model.specs.Order.{Place, commit_at, tree_at, first_fault}
use Rattle.ost_head.specs.declared.head.Head.{Head}
use Rattle.ost_head.specs.Heads.{lists, binding_refused, age_refused, commit_refused, is_nothing, root_refused, no_metadata, meta_refused, lines_refused, metadata_refused, unless_refused, content_in, with_content, metadata_at, head_in, with_tree, with_commit, head_of}
use Rattle.ost_walk.specs.Refusals.{refusal_of, object_refused}
use Rattle.op_change.specs.Brought.{refusal_in, brought_refusal}
use Rattle.op_change.specs.Applied.{op_refusal, refusal_by}
use Rattle.fl_change.specs.Answer.{IsUnpulled}

-- each refusal is one of these
abbrev pub AllOf : (Refusal → Type 0) → Option Refusal → Type 0
AllOf P o = (r : Refusal) → o ≡ Some r → P r

abbrev pub AllIn : (A : Type 0) → (Refusal → Type 0) → Result A Refusal → Type 0
AllIn A P a = (r : Refusal) → a ≡ Err r → P r

-- what holds of the refusals of a head
pub record OfHead (P : Refusal → Type 0) (since : Option ℕ) : Type 0 where
  pub object : (d : List ℕ) (kind : ObjKind) (fault : Fault) → P (refusal_of d kind fault)
  pub binding : (name : Ref) → P (refusals.RefBinding name)
  pub older : (name : Ref) (have offered : ℕ) → since ≡ Some have → P (refusals.Older name have offered)
  pub reserved : (commit : List ℕ) → P (refusals.ReservedName commit)
  pub metadata : (name : Ref) (number : ℕ) (rule : MetadataRule) → P (refusals.BadMetadata name number rule)
  pub long : (size : ℕ) → P (refusals.Limit whats.MetadataFile size)

module _ (P : Refusal → Type 0) where
  pub just : (q r : Refusal) → Some q ≡ Some r → P q → P r
  just q r same holds = let is : q ≡ r = cc same in subst P is holds

  none_of : AllOf P None
  none_of r is = absurd (cc is)

  one_of : (q : Refusal) → P q → AllOf P (Some q)
  one_of q holds r is = just q r is holds

  err_of : {A : Type 0} (q : Refusal) → P q → AllIn A P (Err q)
  err_of q holds r is = let same : q ≡ r = cc is in subst P same holds

  ok_of : {A : Type 0} (a : A) → AllIn A P (Ok a)
  ok_of a r is = absurd (cc is)

  pub of_either : (a b : Option Refusal) → AllOf P a → AllOf P b → AllOf P (option_or a b)
  of_either None b first second = second
  of_either (Some q) b first second = first

  of_unless : {A : Type 0} (o : Option Refusal) (a : Result A Refusal) → AllOf P o → AllIn A P a → AllIn A P (unless_refused o a)
  of_unless None a first second = second
  of_unless (Some q) a first second = err_of q (first q refl)

  of_if : (b : Bool) (x y : Option Refusal) → AllOf P x → AllOf P y → AllOf P (if b then x else y)
  of_if true x y first second = first
  of_if false x y first second = second

  pub of_result : {A : Type 0} (a : Result A Refusal) → AllIn A P a → AllOf P (refusal_in a)
  of_result (Ok a) all = none_of
  of_result (Err q) all = one_of q (all q refl)

  module _ (since : Option ℕ) (h : OfHead P since) where
    of_fault : (d : List ℕ) (kind : ObjKind) (o : Option Fault) → AllOf P (option_map (refusal_of d kind) o)
    of_fault d kind None = none_of
    of_fault d kind (Some fault) = one_of (refusal_of d kind fault) (h.object d kind fault)

    of_object : (have : Have) (d : List ℕ) (kind : ObjKind) → AllOf P (object_refused have d kind)
    of_object have d kind = of_fault d kind (object_fault d kind (have d kind))

    of_binding : (name : Ref) (o : Option (List (List ℕ))) → AllOf P (binding_refused name o)
    of_binding name None = none_of
    of_binding name (Some names) = of_if (lists names (ref_text name)) None (Some (refusals.RefBinding name)) none_of (one_of (refusals.RefBinding name) (h.binding name))

    of_age : (name : Ref) (offered : ℕ) (o : Option ℕ) → since ≡ o → AllOf P (age_refused name o offered)
    of_age name offered None is = none_of
    of_age name offered (Some have) is = of_if (leb have offered) None (Some (refusals.Older name have offered)) none_of (one_of (refusals.Older name have offered) (h.older name have offered is))

    of_commit : (name : Ref) (c : CommitView) → AllOf P (commit_refused name since c)
    of_commit name c = of_either (binding_refused name (binding_in c.metadata)) (age_refused name since c.timestamp) (of_binding name (binding_in c.metadata)) (of_age name c.timestamp since refl)

    of_root : (commit : List ℕ) (v : TreeView) → AllOf P (root_refused commit v)
    of_root commit v = of_if (is_nothing (entry_in (codes "deploy") (Some v))) None (Some (refusals.ReservedName commit)) none_of (one_of (refusals.ReservedName commit) (h.reserved commit))

    of_rules : (name : Ref) (m : Result Meta MetaRule) → AllOf P (meta_refused name m)
    of_rules name (Ok meta) = none_of
    of_rules name (Err rule) = one_of (refusals.BadMetadata name 0 (rules.Meta rule)) (h.metadata name 0 (rules.Meta rule))

    of_lines : (name : Ref) (f : Result (List Group) KeyFault) → AllOf P (lines_refused name f)
    of_lines name (Ok file) = of_rules name (meta_of (meta_kind name.kind) file)
    of_lines name (Err fault) = one_of (refusals.BadMetadata name fault.line (rules.Key fault.rule)) (h.metadata name fault.line (rules.Key fault.rule))

    of_metadata : (name : Ref) (bytes : List ℕ) → AllOf P (metadata_refused name bytes)
    of_metadata name bytes = of_if (leb (length bytes) (1024 * 1024)) (lines_refused name (file_of bytes)) (Some (refusals.Limit whats.MetadataFile (length bytes))) (of_lines name (file_of bytes)) (one_of (refusals.Limit whats.MetadataFile (length bytes)) (h.long (length bytes)))

    of_absent : (name : Ref) → AllIn Head P (Err (no_metadata name))
    of_absent name = err_of (no_metadata name) (h.metadata name 0 _)

    of_content : (name : Ref) (commit : List ℕ) (time : ℕ) (o : Option (List ℕ)) → AllIn Head P (with_content name commit time o)
    of_content name commit time None = of_absent name
    of_content name commit time (Some bytes) = of_unless (metadata_refused name bytes) (Ok (record { commit = commit; timestamp = time; metadata = bytes })) (of_metadata name bytes) (ok_of (record { commit = commit; timestamp = time; metadata = bytes }))

    of_file : (have : Have) (name : Ref) (commit : List ℕ) (time : ℕ) (found : Found) → AllIn Head P (metadata_at have name commit time found)
    of_file have name commit time (file_at d) = of_unless (object_refused have d kinds.File) (with_content name commit time (content_in (have d kinds.File))) (of_object have d kinds.File) (of_content name commit time (content_in (have d kinds.File)))
    of_file have name commit time (directory e) = of_absent name
    of_file have name commit time nothing = of_absent name

    of_head_in : (have : Have) (name : Ref) (commit : List ℕ) (c : CommitView) (v : TreeView) → AllIn Head P (head_in have name commit since c v)
    of_head_in have name commit c v = of_unless (option_or (commit_refused name since c) (root_refused commit v)) (metadata_at have name commit c.timestamp (entry_in (codes "metadata") (Some v)))
        (of_either (commit_refused name since c) (root_refused commit v) (of_commit name c) (of_root commit v)) (of_file have name commit c.timestamp (entry_in (codes "metadata") (Some v)))

    of_tree : (have : Have) (name : Ref) (commit : List ℕ) (c : CommitView) (o : Option TreeView) → AllIn Head P (with_tree have name commit since c o)
    of_tree have name commit c None = err_of (refusals.MissingObject c.tree kinds.DirTree) (h.object c.tree kinds.DirTree missing)
    of_tree have name commit c (Some v) = of_unless (object_refused have c.meta kinds.DirMeta) (head_in have name commit since c v) (of_object have c.meta kinds.DirMeta) (of_head_in have name commit c v)

    of_with_commit : (have : Have) (name : Ref) (commit : List ℕ) (o : Option CommitView) → AllIn Head P (with_commit have name commit since o)
    of_with_commit have name commit None = err_of (refusals.MissingObject commit kinds.Commit) (h.object commit kinds.Commit missing)
    of_with_commit have name commit (Some c) = of_unless (object_refused have c.tree kinds.DirTree) (with_tree have name commit since c (tree_at have c.tree)) (of_object have c.tree kinds.DirTree) (of_tree have name commit c (tree_at have c.tree))

    pub of_head : (have : Have) (name : Ref) (commit : List ℕ) → AllIn Head P (head_of have name commit since)
    of_head have name commit = of_unless (object_refused have commit kinds.Commit) (with_commit have name commit since (commit_at have commit)) (of_object have commit kinds.Commit) (of_with_commit have name commit (commit_at have commit))

  -- ---- a commit that is brought

  of_first : ((d : List ℕ) (kind : ObjKind) (fault : Fault) → P (refusal_of d kind fault)) → (o : Option (Place × Fault)) → AllOf P (option_map (λ f. refusal_of f.0.digest f.0.kind f.1) o)
  of_first each None = none_of
  of_first each (Some f) = one_of (refusal_of f.0.digest f.0.kind f.1) (each f.0.digest f.0.kind f.1)

  pub of_brought : OfHead P None → (have : Have) (name : Ref) (commit : List ℕ) → AllOf P (brought_refusal have name commit)
  of_brought h have name commit = of_either (refusal_in (head_of have name commit None)) _ (of_result (head_of have name commit None) (of_head None h have name commit)) (of_first h.object (first_fault have commit))

  of_effect : OfHead P None → (have : Have) (e : Effect) → AllOf P (refusal_by have e)
  of_effect h have (brings name origin commit) = of_brought h have name commit
  of_effect h have (writes write) = none_of

  pub of_op : OfHead P None → (have : Have) (op : Op) → AllOf P (op_refusal have op)
  of_op h have op = of_effect h have (effect_of op)

-- ---- it is pulled before it is refused

pulled : (d : List ℕ) (kind : ObjKind) (fault : Fault) → IsUnpulled (Some (refusal_of d kind fault)) → ⊥
pulled d kind too_many not = not
pulled d kind too_deep not = not
pulled d kind missing not = not
pulled d kinds.File (too_long size) not = not
pulled d kinds.Commit (too_long size) not = not
pulled d kinds.DirTree (too_long size) not = not
pulled d kinds.DirMeta (too_long size) not = not
pulled d kind (refused_mode mode) not = not
pulled d kind (corrupt got) not = not
pulled d kind (malformed rule) not = not

pub op_pulls : (have : Have) (op : Op) (r : Refusal) → op_refusal have op ≡ Some r → IsUnpulled (Some r) → ⊥
op_pulls have op = of_op (λ r. IsUnpulled (Some r) → ⊥) (record {
  object = pulled;
  binding = λ name not. not;
  older = λ name since offered is. absurd (cc is);
  reserved = λ commit not. not;
  metadata = λ name number rule not. not;
  long = λ size not. not;
}) have op
