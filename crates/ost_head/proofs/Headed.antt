-- The head of a ref, object by object.
use Rattle.std.proofs.Common.{◌≡◌, ℕ, List, Option, Some, None, Result, Ok, Err, refl, sym, ◌∙◌, ap, subst}
use Rattle.std.specs.Prelude.{option_map}
use Rattle.fp_base.specs.declared.object.ObjKind.{ObjKind}
use Rattle.fp_base.specs.declared.object.ObjKind.TheVariants as kinds
use Rattle.fp_name.specs.Refs.{Ref}
use Rattle.fp_small.specs.declared.refusal.Refusal.{Refusal}
use Rattle.ost_model.specs.Fields.{CommitView, TreeView}
use Rattle.ost_model.specs.Objects.{Have, Fault, object_fault}
use Rattle.ost_model.specs.Order.{commit_at, tree_at, read_as}
use Rattle.ost_model.specs.Look.{Found, nothing, directory, file_at, file_in}
use Rattle.ost_walk.specs.declared.ends.WalkFault.{WalkFault}
use Rattle.ost_walk.specs.declared.ends.WalkEnd.{WalkEnd}
use Rattle.ost_walk.specs.declared.ends.WalkEnd.TheVariants as walks
use Rattle.ost_walk.specs.Ends.{RefusesBy, EndsBy, IsFaultOf, fault_of}
use Rattle.ost_walk.specs.Steps.{own_fault}
use Rattle.ost_walk.specs.declared.pull_end.PullEnd.{PullEnd}
use Rattle.ost_head.specs.declared.head.Head.{Head}
use Rattle.ost_walk.specs.PullEnds.{walk_refusal, of_walk, Answers}
use Rattle.ost_head.specs.declared.metadata.Kept.{Kept}
use Rattle.ost_head.specs.Kept.{kept_of, IsKept}
use Rattle.ost_head.specs.Parts.{ReadsAs, IsReadAs}
use Rattle.ost_walk.specs.Refusals.{refusal_of, object_refused}
use Rattle.ost_head.specs.Heads.{unless_refused, with_tree, with_commit, with_content, content_in, metadata_at, head_in, head_of}
use Rattle.ost_head.specs.Roots.{of_tree, ReadsTree, ReadsRoot}

-- the refusal of an object that has a fault
fault_refused : (d : List ℕ) (kind : ObjKind) (fault : Option Fault) (w : WalkFault) → IsFaultOf d kind fault w → option_map (refusal_of d kind) fault ≡ Some (walk_refusal w)
fault_refused d kind fault w is =
    ap (option_map (refusal_of d kind)) is.fault_is
    ∙ ap (λ (e : List ℕ). Some (refusal_of e kind (fault_of w.fault))) (sym is.digest) ∙ ap (λ (k : ObjKind). Some (refusal_of w.digest k (fault_of w.fault))) (sym is.kind_is)

-- an answer that waits for an object
module _ {A : Type 0} (have : Have) (d : List ℕ) (kind : ObjKind) (answer : Result A Refusal) where
  pub good_object : own_fault have d kind ≡ None → unless_refused (object_refused have d kind) answer ≡ answer
  good_object good = ap (λ f. unless_refused (option_map (refusal_of d kind) f) answer) good

  bad_object : (w : WalkFault) → IsFaultOf d kind (own_fault have d kind) w → unless_refused (object_refused have d kind) answer ≡ Err (walk_refusal w)
  bad_object w is = ap (λ r. unless_refused r answer) (fault_refused d kind (own_fault have d kind) w is)

  pub object_ends : (end : WalkEnd) (whole : Result A Refusal) → whole ≡ unless_refused (object_refused have d kind) answer → RefusesBy (IsFaultOf d kind (own_fault have d kind)) end → RefusesBy (λ w. whole ≡ Err (walk_refusal w)) end
  object_ends (walks.Refused w) whole same is = same ∙ bad_object w is
  object_ends walks.HostFault whole same is = tt
  object_ends walks.RemoteFault whole same is = tt
  object_ends walks.NoMemory whole same is = tt

-- ---- the root

module _ (have : Have) (name : Ref) (commit : List ℕ) (since : Option ℕ) (c : CommitView) where
  abbrev after_tree : Result Head Refusal
  after_tree = with_tree have name commit since c (tree_at have c.tree)

  pub tree_off : (end : WalkEnd) → RefusesBy (IsFaultOf c.tree kinds.DirTree (own_fault have c.tree kinds.DirTree)) end → RefusesBy (λ w. of_tree have name commit since c ≡ Err (walk_refusal w)) end
  tree_off end is = object_ends have c.tree kinds.DirTree after_tree end (of_tree have name commit since c) refl is

  module _ (v : TreeView) (tree : IsReadAs (own_fault have c.tree kinds.DirTree) (tree_at have c.tree) v) where
    tree_on : of_tree have name commit since c ≡ unless_refused (object_refused have c.meta kinds.DirMeta) (head_in have name commit since c v)
    tree_on = good_object have c.tree kinds.DirTree after_tree tree.good ∙ ap (with_tree have name commit since c) tree.read

    pub meta_off : (end : WalkEnd) → RefusesBy (IsFaultOf c.meta kinds.DirMeta (own_fault have c.meta kinds.DirMeta)) end → RefusesBy (λ w. of_tree have name commit since c ≡ Err (walk_refusal w)) end
    meta_off end is = object_ends have c.meta kinds.DirMeta (head_in have name commit since c v) end (of_tree have name commit since c) tree_on is

    pub meta_on : own_fault have c.meta kinds.DirMeta ≡ None → of_tree have name commit since c ≡ head_in have name commit since c v
    meta_on good = tree_on ∙ good_object have c.meta kinds.DirMeta (head_in have name commit since c v) good

module _ (have : Have) (name : Ref) (commit : List ℕ) (since : Option ℕ) where
  pub commit_off : (end : WalkEnd) → RefusesBy (IsFaultOf commit kinds.Commit (own_fault have commit kinds.Commit)) end → RefusesBy (λ w. head_of have name commit since ≡ Err (walk_refusal w)) end
  commit_off end is = object_ends have commit kinds.Commit (with_commit have name commit since (commit_at have commit)) end (head_of have name commit since) refl is

  pub commit_on : (c : CommitView) → IsReadAs (own_fault have commit kinds.Commit) (commit_at have commit) c → head_of have name commit since ≡ of_tree have name commit since c
  commit_on c read = good_object have commit kinds.Commit (with_commit have name commit since (commit_at have commit)) read.good ∙ ap (with_commit have name commit since) read.read

  pub later_off : (c : CommitView) (end : WalkEnd) → IsReadAs (own_fault have commit kinds.Commit) (commit_at have commit) c → RefusesBy (λ w. of_tree have name commit since c ≡ Err (walk_refusal w)) end
      → RefusesBy (λ w. head_of have name commit since ≡ Err (walk_refusal w)) end
  later_off c (walks.Refused w) read is = commit_on c read ∙ is
  later_off c walks.HostFault read is = tt
  later_off c walks.RemoteFault read is = tt
  later_off c walks.NoMemory read is = tt

-- ---- an end that is passed on

pub passed : {A : Type 0} (answer : Result A Refusal) (end : WalkEnd) (p : PullEnd) → p ≡ of_walk end → RefusesBy (λ w. answer ≡ Err (walk_refusal w)) end → Answers (Err p) answer
passed answer end p is off = subst (λ (q : PullEnd). Answers (Err q) answer) (sym is) (go end off)
  where
    go : (e : WalkEnd) → RefusesBy (λ w. answer ≡ Err (walk_refusal w)) e → Answers (Err (of_walk e)) answer
    go (walks.Refused w) h = h
    go walks.HostFault h = tt
    go walks.RemoteFault h = tt
    go walks.NoMemory h = tt

-- ---- the file `metadata`

module _ (have : Have) (name : Ref) (commit : List ℕ) (time : ℕ) (d : List ℕ) where
  abbrev of_content : Result Head Refusal
  of_content = with_content name commit time (content_in (have d kinds.File))

  pub metadata_off : (end : WalkEnd) → RefusesBy (IsFaultOf d kinds.File (own_fault have d kinds.File)) end → RefusesBy (λ w. metadata_at have name commit time (file_at d) ≡ Err (walk_refusal w)) end
  metadata_off end is = object_ends have d kinds.File of_content end (metadata_at have name commit time (file_at d)) refl is

  pub metadata_on : (k : Kept) (r : Result Head PullEnd) → IsKept d (have d kinds.File) k → ((content : Option (List ℕ)) → k ≡ kept_of content → Answers r (with_content name commit time content)) → Answers r (metadata_at have name commit time (file_at d))
  metadata_on k r kept answers =
      subst (Answers r) (sym (good_object have d kinds.File of_content (ap (object_fault d kinds.File) kept.is ∙ kept.good) ∙ ap (λ x. with_content name commit time (content_in x)) kept.is)) (answers (content_in (Some kept.object)) kept.kept_is)

-- ---- the entry of the file

pub entry_file : (have : Have) (name : Ref) (commit : List ℕ) (time : ℕ) (found : Found) (d : List ℕ) (r : Result Head PullEnd) → Some d ≡ file_in found → Answers r (metadata_at have name commit time (file_at d)) → Answers r (metadata_at have name commit time found)
entry_file have name commit time nothing d r is answers = absurd (cc is)
entry_file have name commit time (directory e) d r is answers = absurd (cc is)
entry_file have name commit time (file_at x) d r is answers = let same : d ≡ x = cc is in subst (λ (y : List ℕ). Answers r (metadata_at have name commit time (file_at y))) same answers

pub entry_none : (have : Have) (name : Ref) (commit : List ℕ) (time : ℕ) (found : Found) (r : Result Head PullEnd) → None ≡ file_in found → Answers r (with_content name commit time None) → Answers r (metadata_at have name commit time found)
entry_none have name commit time nothing r is answers = answers
entry_none have name commit time (directory e) r is answers = answers
entry_none have name commit time (file_at x) r is answers = absurd (cc is)

-- ---- what is refused early

pub early_refused : {A : Type 0} (refusal : Refusal) (f : Option Refusal) (answer : Result A Refusal) → Some refusal ≡ f → unless_refused f answer ≡ Err refusal
early_refused refusal f answer is = ap (λ x. unless_refused x answer) (sym is)

pub early_none : {A : Type 0} (f : Option Refusal) (answer : Result A Refusal) (r : Result A PullEnd) → None ≡ f → Answers r answer → Answers r (unless_refused f answer)
early_none f answer r is answers = subst (λ x. Answers r (unless_refused x answer)) is answers
