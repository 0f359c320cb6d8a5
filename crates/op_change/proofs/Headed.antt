-- A commit whose head is read, and whose objects are stored and laid out, stands.
use Rattle.std.proofs.Common.{◌≡◌, ◌*◌, ◌++◌, ◌&&◌, ℕ, List, [], ◌∷◌, Bool, true, false, Option, Some, None, Result, Ok, Err, codes, length, refl, sym, ◌∙◌, ap, subst}
use Rattle.std.specs.Option.{option_or}
use Rattle.std.specs.Prelude.{if◌then◌else◌, leb}
use Rattle.fp_base.specs.declared.object.ObjKind.{ObjKind}
use Rattle.fp_base.specs.declared.object.ObjKind.TheVariants as kinds
use Rattle.fp_base.specs.declared.meta_rule.MetaRule.{MetaRule}
use Rattle.fp_host.specs.Paths.{Elements}
use Rattle.fp_host.specs.Outcome.{Spot, gone, folder, holds, points, Disk}
use Rattle.fp_keyfile.specs.declared.group.Group.{Group}
use Rattle.fp_keyfile.specs.declared.fault.KeyFault.{KeyFault}
use Rattle.fp_keyfile.specs.KeyFile.{file_of}
use Rattle.fp_name.specs.declared.kind.RefKind.{RefKind}
use Rattle.fp_name.specs.declared.kind.RefKind.TheVariants as ref_kinds
use Rattle.fp_name.specs.Refs.{Ref}
use Rattle.fp_small.specs.Places.{repo}
use Rattle.fp_small.specs.declared.refusal.Refusal.{Refusal}
use Rattle.fp_small.specs.declared.refusal.Refusal.TheVariants as refusals
use Rattle.fp_base.specs.declared.what.What.TheVariants as whats
use Rattle.fl_meta.specs.declared.meta.Meta.{Meta}
use Rattle.fl_meta.specs.Metadata.{meta_of, meta_kind}
use Rattle.ost_model.specs.declared.object.Object.{Object}
use Rattle.ost_model.specs.declared.object.Object.TheVariants as objects
use Rattle.ost_model.specs.Fields.{CommitView, TreeView}
use Rattle.ost_model.specs.Look.{Found, nothing, directory, file_at, entry_in, next, at_root, look}
use Rattle.ost_model.specs.Objects.{Have, object_at, object_path, store}
use Rattle.ost_model.specs.Order.{commit_at, tree_at, root_row, order, first_fault, Agree}
use Rattle.ost_model.specs.Standing.{expected, is_metadata, deploy_name, metadata_name, Stands}
use Rattle.ost_model.proofs.Looked.{file_reached, look_same}
use Rattle.ost_model.proofs.Places.{first_same, or_none}
use Rattle.ost_head.specs.Heads as heads
use Rattle.ost_walk.specs.Refusals.{object_refused}
use Rattle.ost_head.specs.declared.head.Head.{Head}
use Rattle.dep_states.specs.Sound.{is_meta, is_meta_file, reads_as}
use Rattle.op_change.specs.Headed.{IsHeaded}

unless_ok : {A : Type 0} (o : Option Refusal) (answer : Result A Refusal) (a : A) → heads.unless_refused o answer ≡ Ok a → (o ≡ None) × (answer ≡ Ok a)
unless_ok None answer a e = (refl, e)
unless_ok (Some r) answer a e = absurd (cc e)

-- ---- `metadata`

meta_fine : (name : Ref) (r : Result Meta MetaRule) → heads.meta_refused name r ≡ None → is_meta r ≡ true
meta_fine name (Ok meta) e = refl
meta_fine name (Err rule) e = absurd (cc e)

lines_fine : (name : Ref) (r : Result (List Group) KeyFault) → heads.lines_refused name r ≡ None → is_meta_file (meta_kind name.kind) r ≡ true
lines_fine name (Ok file) e = meta_fine name (meta_of (meta_kind name.kind) file) e
lines_fine name (Err fault) e = absurd (cc e)

same_kind : (k : RefKind) (bytes : List ℕ) → is_meta_file (meta_kind k) (file_of bytes) ≡ true → reads_as k bytes ≡ true
unfolding reads_as
same_kind ref_kinds.App bytes e = e
same_kind ref_kinds.Runtime bytes e = e

metadata_fine : (name : Ref) (bytes : List ℕ) → heads.metadata_refused name bytes ≡ None → (leb (length bytes) (1024 * 1024) ≡ true) × (reads_as name.kind bytes ≡ true)
metadata_fine name bytes e = go (leb (length bytes) (1024 * 1024)) refl e
  where
    go : (b : Bool) → leb (length bytes) (1024 * 1024) ≡ b → (if b then heads.lines_refused name (file_of bytes) else Some (refusals.Limit whats.MetadataFile (length bytes))) ≡ None → (leb (length bytes) (1024 * 1024) ≡ true) × (reads_as name.kind bytes ≡ true)
    go true at h = (at, same_kind name.kind bytes (lines_fine name (file_of bytes) h))
    go false at h = absurd (cc h)

-- the file of the metadata, with what it holds
pub record HasMetadata (have : Have) (name : Ref) (found : Found) : Type 0 where
  pub digest : List ℕ
  pub is : found ≡ file_at digest
  pub mode : ℕ
  pub bytes : List ℕ
  pub there : have digest kinds.File ≡ Some (objects.File mode bytes)
  pub short : leb (length bytes) (1024 * 1024) ≡ true
  pub reads : reads_as name.kind bytes ≡ true

content_is : (o : Option Object) (bytes : List ℕ) → heads.content_in o ≡ Some bytes → (mode : ℕ) × (o ≡ Some (objects.File mode bytes))
content_is None bytes e = absurd (cc e)
content_is (Some (objects.File mode b)) bytes e = (mode, ap (λ x. Some (objects.File mode x)) (let same : b ≡ bytes = cc e in same))
content_is (Some (objects.Link text)) bytes e = absurd (cc e)
content_is (Some (objects.Meta b)) bytes e = absurd (cc e)

content_ok : (name : Ref) (commit : List ℕ) (time : ℕ) (o : Option (List ℕ)) (h : Head) → heads.with_content name commit time o ≡ Ok h → (bytes : List ℕ) × (o ≡ Some bytes) × (heads.metadata_refused name bytes ≡ None) × (h.timestamp ≡ time)
content_ok name commit time None h e = absurd (cc e)
content_ok name commit time (Some bytes) h e =
    let ok = unless_ok (heads.metadata_refused name bytes) _ h e in
    let same : record { commit = commit; timestamp = time; metadata = bytes } ≡ h = cc ok.1 in
    (bytes, refl, ok.0, sym (ap (λ (x : Head). x.timestamp) same))

metadata_ok : (have : Have) (name : Ref) (commit : List ℕ) (time : ℕ) (found : Found) (h : Head) → heads.metadata_at have name commit time found ≡ Ok h → HasMetadata have name found × (h.timestamp ≡ time)
metadata_ok have name commit time nothing h e = absurd (cc e)
metadata_ok have name commit time (directory row) h e = absurd (cc e)
metadata_ok have name commit time (file_at d) h e =
    let file = unless_ok (object_refused have d kinds.File) _ h e in
    let content = content_ok name commit time (heads.content_in (have d kinds.File)) h file.1 in
    let there = content_is (have d kinds.File) content.0 content.1 in
    let fine = metadata_fine name content.0 content.2 in
    (record { digest = d; is = refl; mode = there.0; bytes = content.0; there = there.1; short = fine.0; reads = fine.1 }, content.3)

-- ---- the root

nothing_is : (found : Found) → heads.is_nothing found ≡ true → found ≡ nothing
nothing_is nothing e = refl
nothing_is (directory row) e = absurd (cc e)
nothing_is (file_at d) e = absurd (cc e)

root_fine : (commit : List ℕ) (v : TreeView) → heads.root_refused commit v ≡ None → entry_in (codes "deploy") (Some v) ≡ nothing
root_fine commit v e = nothing_is (entry_in (codes "deploy") (Some v)) (go (refusals.ReservedName commit) (heads.is_nothing (entry_in (codes "deploy") (Some v))) e)
  where
    go : (r : Refusal) (b : Bool) → (if b then None else Some r) ≡ None → b ≡ true
    go r true h = refl
    go r false h = absurd (cc h)

-- ---- the head

pub head_ok : (have : Have) (name : Ref) (commit : List ℕ) (since : Option ℕ) {h : Head} → heads.head_of have name commit since ≡ Ok h → IsHeaded have name commit h.timestamp
head_ok have name commit since {h = h} e =
    by_commit (commit_at have commit) refl (unless_ok (object_refused have commit kinds.Commit) _ h e).1
  where
    by_tree : (c : CommitView) → commit_at have commit ≡ Some c → (o : Option TreeView) → tree_at have c.tree ≡ o → heads.with_tree have name commit since c o ≡ Ok h → IsHeaded have name commit h.timestamp
    by_tree c read None at w = absurd (cc w)
    by_tree c read (Some v) at w =
        let meta = unless_ok (object_refused have c.meta kinds.DirMeta) _ h w in
        let root = unless_ok (option_or (heads.commit_refused name since c) (heads.root_refused commit v)) _ h meta.1 in
        let no = or_none (heads.commit_refused name since c) (heads.root_refused commit v) root.0 in
        let found = metadata_ok have name commit c.timestamp (entry_in (codes "metadata") (Some v)) h root.1 in
        let first : look have commit [] ≡ directory (root_row c) = ap at_root read in
        let below : (x : List ℕ) → look have commit (x ∷ []) ≡ entry_in x (Some v) = λ x. ap (next have x) first ∙ ap (entry_in x) at in
        record {
          view = c;
          read = read;
          time_is = sym found.1;
          no_deploy = below (codes "deploy") ∙ root_fine commit v no.1;
          digest = found.0.digest;
          metadata = below (codes "metadata") ∙ found.0.is;
          mode = found.0.mode;
          bytes = found.0.bytes;
          there = found.0.there;
          short = found.0.short;
          reads = found.0.reads;
        }

    by_commit : (o : Option CommitView) → commit_at have commit ≡ o → heads.with_commit have name commit since o ≡ Ok h → IsHeaded have name commit h.timestamp
    by_commit None read w = absurd (cc w)
    by_commit (Some c) read w = by_tree c read (tree_at have c.tree) refl (unless_ok (object_refused have c.tree kinds.DirTree) _ h w).1

-- ---- it stands

spot_of_file : (spot : Spot) (mode : ℕ) (bytes : List ℕ) → object_at kinds.File spot ≡ Some (objects.File mode bytes) → (id : ℕ) × (spot ≡ holds id mode bytes)
spot_of_file gone mode bytes e = absurd (cc e)
spot_of_file folder mode bytes e = absurd (cc e)
spot_of_file (holds id m b) mode bytes e =
    let mode_is : m ≡ mode = cc e in
    let bytes_are : b ≡ bytes = cc e in
    (id, ap (λ x. holds id x b) mode_is ∙ ap (λ x. holds id mode x) bytes_are)
spot_of_file (points text) mode bytes e = absurd (no_file _ e)
  where
    no_file : (b : Bool) → (if b then Some (objects.Link text) else None) ≡ Some (objects.File mode bytes) → ⊥
    no_file true h = cc h
    no_file false h = cc h

pub headed_stands : {have : Have} {name : Ref} {commit : List ℕ} {time : ℕ} {disk : Disk} {dir : Elements} → IsHeaded have name commit time → first_fault have commit ≡ None → Agree have (store repo disk) (order have commit)
    → ((rest : Elements) → disk (rest ++ dir) ≡ expected repo disk (look (store repo disk) commit rest)) → Stands (reads_as name.kind) repo disk commit dir
headed_stands {have = have} {name = name} {commit = commit} {disk = disk} head clean agree paths = record {
  paths = λ rest off. paths rest;
  whole = first_same have (store repo disk) commit agree ∙ clean;
  described = ap (λ f. is_metadata (reads_as name.kind) (expected repo disk f)) (looks metadata_name ∙ head.metadata) ∙ ap (is_metadata (reads_as name.kind)) stored.1 ∙ both;
  no_deploy = looks deploy_name ∙ head.no_deploy;
}
  where
    looks : (rest : Elements) → look (store repo disk) commit rest ≡ look have commit rest
    looks rest = look_same have (store repo disk) commit clean agree rest

    there : store repo disk head.digest kinds.File ≡ have head.digest kinds.File
    there = let r = file_reached have commit clean metadata_name head.digest head.metadata in
        subst (λ (k : ObjKind). store repo disk head.digest k ≡ have head.digest k) r.kind_is (subst (λ d. store repo disk d r.place.kind ≡ have d r.place.kind) r.digest_is (agree r.place r.within))

    stored : (id : ℕ) × (disk (object_path repo head.digest kinds.File) ≡ holds id head.mode head.bytes)
    stored = spot_of_file (disk (object_path repo head.digest kinds.File)) head.mode head.bytes (there ∙ head.there)

    both : (leb (length head.bytes) (1024 * 1024) && reads_as name.kind head.bytes) ≡ true
    both = ap (λ b. b && reads_as name.kind head.bytes) head.short ∙ head.reads
