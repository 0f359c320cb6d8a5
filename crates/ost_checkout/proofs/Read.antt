-- Metadata objects that are read.
use Rattle.std.proofs.Common.{◌≡◌, inl, inr, ◌*◌, ℕ, Bool, true, false, leb, List, length, Option, Some, None, Result, Ok, Err, if◌then◌else◌, refl, sym, ◌∙◌, ap}
use Rattle.std.specs.Option.{option_or}
use Rattle.std.proofs.lemmas.Bool.{cases_Bool}
use Rattle.fp_host.specs.Paths.{Elements}
use Rattle.fp_host.specs.View.{View}
use Rattle.fp_host.specs.Outcome.{shows}
use Rattle.fp_host.specs.declared.host.HostEnd.{HostEnd}
use Rattle.fp_host.specs.declared.host.HostEnd.TheVariants as ends
use Rattle.fp_base.specs.declared.object.ObjKind.{ObjKind}
use Rattle.fp_base.specs.declared.object.ObjKind.TheVariants as kinds
use Rattle.fp_base.specs.declared.rule.Rule.{Rule}
use Rattle.ost_model.specs.declared.object.Object.{Object}
use Rattle.ost_model.specs.declared.object.Object.TheVariants as objects
use Rattle.ost_model.specs.Fields.{CommitView, TreeView}
use Rattle.ost_model.specs.Objects.{object_fault, name_fault, kind_fault, content_fault, length_fault, mode_fault, digest_fault, rule_fault, dir_mode_fault, too_long, may_be_link, store}
use Rattle.ost_model.specs.Order.{read_as, commit_at}
use Rattle.ost_model.specs.Readers.{tree_of, tree_read, commit_of, commit_read, if_read}
use Rattle.ost_model.proofs.Places.{or_none}
use Rattle.ost_model.proofs.Good.{good_tree, good_commit}
use Rattle.ost_model.proofs.Faults.{unless_none}
use Rattle.ost_store.specs.Reads.{got_of, Gets}
use Rattle.ost_store.specs.declared.reading.Got.{Got}
use Rattle.ost_store.specs.declared.reading.Got.TheVariants as got
use Rattle.ost_object.specs.declared.error.ObjectError.{ObjectError}
use Rattle.ost_object.specs.declared.error.ObjectError.TheVariants as errors
use Rattle.ost_object.specs.Answers.{Breaks, mapped}
use Rattle.ost_object.specs.Views.{root_in}
use Rattle.ost_checkout.specs.Reading.{IsUnread, unread_end, IsTree, IsRoot, HasTree, HasCommit}

-- ---- what is told

-- what is told as a metadata object is one
pub told_meta : (most : ℕ) (o : Option Object) (bytes : List ℕ) → got.Meta bytes ≡ got_of most o → o ≡ Some (objects.Meta bytes)
told_meta most None bytes is = absurd (cc is)
told_meta most (Some (objects.Meta b)) bytes is = elim (cases_Bool (leb (length b) most)) [
  | inl t ↦ cc (is ∙ ap (λ (x : Bool). if x then got.Meta b else got.TooLong (length b)) t)
  | inr f ↦ absurd (cc (is ∙ ap (λ (x : Bool). if x then got.Meta b else got.TooLong (length b)) f))
]
told_meta most (Some (objects.File mode b)) bytes is = elim (cases_Bool (leb (length b) most)) [
  | inl t ↦ absurd (cc (is ∙ ap (λ (x : Bool). if x then got.File mode (length b) else got.TooLong (length b)) t))
  | inr f ↦ absurd (cc (is ∙ ap (λ (x : Bool). if x then got.File mode (length b) else got.TooLong (length b)) f))
]
told_meta most (Some (objects.Link text)) bytes is = absurd (cc is)

-- a metadata object without a fault is there, and not too long
pub meta_there : (d : List ℕ) (kind : ObjKind) (o : Option Object) → may_be_link kind ≡ false → object_fault d kind o ≡ None → (bytes : List ℕ) × (o ≡ Some (objects.Meta bytes)) × (leb (length bytes) (16 * 1024 * 1024) ≡ true)
meta_there d kind None off good = absurd (cc (or_none (name_fault d kind None) (dir_mode_fault kind None) good).0)
meta_there d kind (Some (objects.Meta bytes)) off good =
    let o = objects.Meta bytes in
    let a = or_none (name_fault d kind (Some o)) (dir_mode_fault kind (Some o)) good in
    let b = or_none (kind_fault kind o) (content_fault d kind o) a.0 in
    let c = or_none (length_fault o) (option_or (mode_fault o) (option_or (digest_fault d o) (rule_fault kind o))) b.1 in
    (bytes, refl, unless_none (leb (length bytes) (16 * 1024 * 1024)) (too_long (length bytes)) c.0)
meta_there d kind (Some (objects.File mode bytes)) off good =
    let o = objects.File mode bytes in
    let a = or_none (name_fault d kind (Some o)) (dir_mode_fault kind (Some o)) good in
    let b = or_none (kind_fault kind o) (content_fault d kind o) a.0 in
    absurd (cc (sym off ∙ unless_none (may_be_link kind) _ b.0))
meta_there d kind (Some (objects.Link text)) off good =
    let o = objects.Link text in
    let a = or_none (name_fault d kind (Some o)) (dir_mode_fault kind (Some o)) good in
    let b = or_none (kind_fault kind o) (content_fault d kind o) a.0 in
    absurd (cc (sym off ∙ unless_none (may_be_link kind) _ b.0))

-- so it is told
pub meta_told : (d : List ℕ) (kind : ObjKind) (o : Option Object) (told : Got) → may_be_link kind ≡ false → object_fault d kind o ≡ None → told ≡ got_of (16 * 1024 * 1024) o → ((bytes : List ℕ) → told ≡ got.Meta bytes → ⊥) → ⊥
meta_told d kind o told off good is none =
    let m = meta_there d kind o off good in
    none m.0 (is ∙ ap (got_of (16 * 1024 * 1024)) m.1 ∙ ap (λ (x : Bool). if x then got.Meta m.0 else got.TooLong (length m.0)) m.2)

-- ---- where an object can't be read

pub rule_broken : {A : Type 0} (e : ObjectError) (r : HostEnd) (read : Result A Rule) → r ≡ unread_end e → Breaks e read → r ≡ ends.Fault → IsUnread read
rule_broken (errors.Malformed rule) r read is breaks fault = (rule, breaks)
rule_broken errors.NoMemory r read is breaks fault = absurd (cc (is, fault))

-- ---- dirtrees

pub is_tree : {root : Elements} {d : List ℕ} {u : View} {bytes : List ℕ} {view : TreeView} {most : ℕ} → Gets root d kinds.DirTree most u (got.Meta bytes) → tree_read bytes ≡ Ok view → IsTree root d u view
is_tree {root = root} {d = d} {u = u} {bytes = bytes} {most = most} gets read = record {
  read = ap (read_as tree_of) (told_meta most (store root (shows u) d kinds.DirTree) bytes gets.is) ∙ ap if_read read;
}

pub tree_reads : {root : Elements} {d : List ℕ} {u : View} {bytes : List ℕ} {most : ℕ} → Gets root d kinds.DirTree most u (got.Meta bytes) → HasTree root d u → IsUnread (tree_read bytes) → ⊥
tree_reads {root = root} {d = d} {u = u} {bytes = bytes} {most = most} gets has unread =
    let v = good_tree d (store root (shows u) d kinds.DirTree) has.good in
    let there = told_meta most (store root (shows u) d kinds.DirTree) bytes gets.is in
    cc (sym (ap if_read unread.1) ∙ sym (ap (read_as tree_of) there) ∙ v.1)

-- ---- commits

pub is_root : {root : Elements} {d : List ℕ} {u : View} {bytes : List ℕ} {found : List ℕ × List ℕ} {most : ℕ} → Gets root d kinds.Commit most u (got.Meta bytes) → mapped root_in (commit_read bytes) ≡ Ok found → IsRoot root d u found
is_root {root = root} {d = d} {u = u} {bytes = bytes} {found = found} {most = most} gets read =
    let there = told_meta most (store root (shows u) d kinds.Commit) bytes gets.is in
    by_read (commit_read bytes) read (ap (read_as commit_of) there)
  where
    by_read : (r : Result CommitView Rule) → mapped root_in r ≡ Ok found → commit_at (store root (shows u)) d ≡ if_read r → IsRoot root d u found
    by_read (Ok view) is at =
        let both : root_in view ≡ found = cc is in
        record { view = view; read = at; tree = sym (ap (λ (x : List ℕ × List ℕ). x.0) both); meta = sym (ap (λ (x : List ℕ × List ℕ). x.1) both) }
    by_read (Err rule) is at = absurd (cc is)

pub commit_reads : {root : Elements} {d : List ℕ} {u : View} {bytes : List ℕ} {most : ℕ} → Gets root d kinds.Commit most u (got.Meta bytes) → HasCommit root d u → IsUnread (mapped root_in (commit_read bytes)) → ⊥
commit_reads {root = root} {d = d} {u = u} {bytes = bytes} {most = most} gets has unread =
    let v = good_commit d (store root (shows u) d kinds.Commit) has.good in
    let there = told_meta most (store root (shows u) d kinds.Commit) bytes gets.is in
    by_read (commit_read bytes) unread.0 unread.1 (sym (ap (read_as commit_of) there) ∙ v.1)
  where
    by_read : (r : Result CommitView Rule) (rule : Rule) → mapped root_in r ≡ Err rule → {v : CommitView} → if_read r ≡ Some v → ⊥
    by_read (Ok view) rule is some = cc is
    by_read (Err other) rule is some = cc some
