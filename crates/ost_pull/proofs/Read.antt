-- Small objects of a remote that are read whole.
use Rattle.std.proofs.Common.{◌≡◌, ◌==◌, ◌&&◌, ◌≤◌, ◌*◌, ◌++◌, ℕ, List, [], length, leb, true, false, Option, Some, None, refl, sym, ◌∙◌, ap, subst, arith}
use Rattle.std.specs.Option.{option_or}
use Rattle.std.specs.Prelude.{not, IfOk, IfSome, Result, Ok}
use Rattle.std.specs.List.{list_all}
use Rattle.std.specs.Str.{bytes_eq, is_utf8}
use Rattle.std.proofs.lemmas.Bool.{and_parts, le-leb, leb-true}
use Rattle.std.proofs.lemmas.Slice.Eq.{bytes_eq-Decides}
use Rattle.sha2.specs.Sha256.{sha256}
use Rattle.fp_host.specs.Paths.{Elements, is_link_text}
use Rattle.fp_host.specs.Outcome.{points}
use Rattle.fp_host.specs.Remote.{Held, Holdings, IsNode, bytes_of}
use Rattle.fp_host.specs.declared.remotes.Node.TheVariants as nodes
use Rattle.fp_host.proofs.Nodes.{node_file, node_link}
use Rattle.fp_base.specs.declared.object.ObjKind.{ObjKind}
use Rattle.fp_base.specs.declared.object.ObjKind.TheVariants as kinds
use Rattle.ost_model.specs.declared.object.Object.{Object}
use Rattle.ost_model.specs.declared.object.Object.TheVariants as objects
use Rattle.ost_model.specs.Contents.{is_permission, header, file_digest, meta_digest}
use Rattle.ost_model.specs.Objects.{missing, too_long, corrupt, unless, may_be_link, digest_of, digest_fault, mode_fault, rule_fault, content_fault, dir_mode_fault, object_at, object_path, object_fault}
use Rattle.fp_base.proofs.Options.{or_assoc}
use Rattle.ost_model.specs.Readers.{commit_read}
use Rattle.ost_model.specs.Remotes.{as_spot, remote_at}
use Rattle.ost_model.proofs.Spots.{held_meta}
use Rattle.ost_object.specs.Answers.{mapped}
use Rattle.ost_object.specs.Views.{root_in}
use Rattle.ost_object.proofs.Roots.{commit_reads}
use Rattle.ost_store.proofs.Holding.{bits_kept}
use Rattle.ost_walk.specs.declared.ends.WalkEnd.{WalkEnd}
use Rattle.ost_head.specs.Objects.{IsFit, rules_fault}
use Rattle.par_digest.specs.declared.limits.TheConstants.{MOST_SMALL_BYTES}

-- ---- the object that stands there

pub file_there : (h : Held) (mode size : ℕ) (bytes : List ℕ) → IsNode h (nodes.File mode size) → (length (bytes_of h) ≡ size → bytes ≡ bytes_of h) → object_at kinds.File (as_spot h) ≡ Some (objects.File mode bytes)
file_there h mode size bytes node whole =
    let is = node_file h mode size node in
    ap (λ x. object_at kinds.File (as_spot x)) is.0 ∙ ap (λ (b : List ℕ). Some (objects.File mode b)) (sym (whole is.1))

pub meta_there : (h : Held) (kind : ObjKind) (mode size : ℕ) (bytes : List ℕ) → may_be_link kind ≡ false → IsNode h (nodes.File mode size) → (length (bytes_of h) ≡ size → bytes ≡ bytes_of h) → object_at kind (as_spot h) ≡ Some (objects.Meta bytes)
meta_there h kind mode size bytes meta node whole =
    let is = node_file h mode size node in
    ap (λ x. object_at kind (as_spot x)) is.0 ∙ held_meta kind meta 0 mode (bytes_of h) ∙ ap (λ (b : List ℕ). Some (objects.Meta b)) (sym (whole is.1))

pub link_there : (h : Held) (text : List ℕ) (found : Option Object) → IsNode h (nodes.Link text) → IfSome found (λ object. object_at kinds.File (points text) ≡ Some object) → IfSome found (λ object. object_at kinds.File (as_spot h) ≡ Some object)
link_there h text found node there = subst (λ (x : Held). IfSome found (λ object. object_at kinds.File (as_spot x) ≡ Some object)) (sym (node_link h text node)) there

-- what was read at its path is the remote's object
pub object_there : (held : Holdings) (url d : List ℕ) (kind k : ObjKind) (p root : Elements) (r : Result (Option Object) WalkEnd) → p ≡ object_path root d kind → root ≡ [] → kind ≡ k
    → IfOk r (λ found. IfSome found (λ object. object_at k (as_spot (held url p)) ≡ Some object)) → IfOk r (λ found. IfSome found (λ object. remote_at held url d kind ≡ Some object))
object_there held url d kind k p root r is top kind_is there =
    let at : object_at k (as_spot (held url p)) ≡ remote_at held url d kind =
    ap (λ (q : Elements). object_at k (as_spot (held url q))) (is ∙ ap (λ (x : Elements). object_path x d kind) top)
    ∙ ap (λ (x : ObjKind). object_at x (as_spot (held url (object_path [] d kind)))) (sym kind_is) in
    subst (λ (o : Option Object). IfOk r (λ found. IfSome found (λ object. o ≡ Some object))) at there

-- ---- it is fit

pub fit_file : (mode size : ℕ) (bytes : List ℕ) → length bytes ≤ size → size ≤ MOST_SMALL_BYTES → is_permission mode ≡ true → IsFit kinds.File (objects.File mode bytes)
fit_file mode size bytes few short bits = record { kind_is = refl; short = ap (λ b. unless b (too_long (length bytes))) (le-leb (length bytes) (1024 * 1024 * 1024) (omega (arith, few, short))); keepable = bits }

pub short_link : (text : List ℕ) → is_link_text text ≡ true → length text ≤ MOST_SMALL_BYTES
short_link text good =
    let front = and_parts (leb 1 (length text)) (leb (length text) 4095 && (list_all (λ b. not (b == 0)) text && is_utf8 text)) good in
    let within = and_parts (leb (length text) 4095) (list_all (λ b. not (b == 0)) text && is_utf8 text) front.1 in
    omega (arith, leb-true (length text) 4095 within.0)

pub fit_meta : (kind : ObjKind) (size : ℕ) (bytes : List ℕ) → may_be_link kind ≡ false → length bytes ≤ size → size ≤ MOST_SMALL_BYTES → IsFit kind (objects.Meta bytes)
fit_meta kind size bytes meta few short = record { kind_is = ap not meta; short = ap (λ b. unless b (too_long (length bytes))) (le-leb (length bytes) (16 * 1024 * 1024) (omega (arith, few, short))); keepable = tt }

-- ---- the item that its digest is taken of

pub file_item : (mode : ℕ) (bytes head : List ℕ) → head ≡ header mode → sha256 (head ++ bytes) ≡ file_digest mode bytes
unfolding file_digest
file_item mode bytes head h = ap (λ x. sha256 (x ++ bytes)) h

pub meta_item : (bytes head : List ℕ) → head ≡ [] → sha256 (head ++ bytes) ≡ meta_digest bytes
unfolding meta_digest
meta_item bytes head h = ap (λ x. sha256 (x ++ bytes)) h

-- ---- it is good

pub commit_keeps : (bytes : List ℕ) (root : List ℕ × List ℕ) → mapped root_in (commit_read bytes) ≡ Ok root → rules_fault kinds.Commit (objects.Meta bytes) ≡ None
commit_keeps bytes root is = commit_reads (commit_read bytes) root is

-- the faults of an object that is fit are those of its digest and of its rules
fit_fault : (d : List ℕ) (kind : ObjKind) (o : Object) → IsFit kind o → object_fault d kind (Some o) ≡ option_or (digest_fault d o) (rules_fault kind o)
fit_fault d kind o fit =
    ap (λ b. option_or (option_or (unless b missing) (content_fault d kind o)) (dir_mode_fault kind (Some o))) fit.kind_is
    ∙ ap (λ f. option_or (option_or f (option_or (mode_fault o) (option_or (digest_fault d o) (rule_fault kind o)))) (dir_mode_fault kind (Some o))) fit.short
    ∙ ap (λ f. option_or (option_or f (option_or (digest_fault d o) (rule_fault kind o))) (dir_mode_fault kind (Some o))) (bits_kept o fit.keepable)
    ∙ or_assoc (digest_fault d o) (rule_fault kind o) (dir_mode_fault kind (Some o))

pub good_by_rules : (d : List ℕ) (kind : ObjKind) (o : Object) (got : List ℕ) → IsFit kind o → got ≡ digest_of o → got ≡ d → rules_fault kind o ≡ None → object_fault d kind (Some o) ≡ None
good_by_rules d kind o got fit is same rules =
    let own : bytes_eq (digest_of o) d ≡ true = (bytes_eq-Decides (digest_of o) d).1 (sym is ∙ same) in
    fit_fault d kind o fit ∙ ap (λ b. option_or (unless b (corrupt (digest_of o))) (rules_fault kind o)) own ∙ rules
