-- What is read of an object that its digest names.
use Rattle.std.proofs.Common.{◌≡◌, ℕ, List, length, Bool, true, Option, Some, None, Result, Ok, Err, refl, sym, ◌∙◌, ap}
use Rattle.std.specs.Option.{option_or}
use Rattle.std.specs.Str.{bytes_eq}
use Rattle.fp_base.specs.declared.object.ObjKind.TheVariants as kinds
use Rattle.fp_base.specs.declared.rule.Rule.{Rule}
use Rattle.ost_model.specs.Contents.{meta_digest}
use Rattle.ost_model.specs.Fields.{CommitView}
use Rattle.ost_model.specs.Readers.{commit_read, if_broken, if_read}
use Rattle.ost_model.specs.Objects.{Have, Fault, too_long, corrupt, unless, as_malformed, object_fault}
use Rattle.ost_model.specs.Order.{read_as}
use Rattle.ost_model.specs.Readers.{commit_of}
use Rattle.ost_walk.specs.declared.dirs.Dir.{Dir}
use Rattle.ost_model.specs.declared.object.Object.{Object}
use Rattle.ost_object.specs.declared.error.ObjectError.{ObjectError}
use Rattle.ost_object.specs.declared.error.ObjectError.TheVariants as unread
use Rattle.ost_object.specs.Answers.{Breaks, mapped}
use Rattle.ost_object.specs.Views.{root_in}
use Rattle.ost_walk.specs.Ends.{RefusesBy, IsFaultOf, unread_end}
use Rattle.ost_walk.specs.Steps.{IsNamed, IsRoot, dir_of}

abbrev judge : (d bytes : List ℕ) → Bool → Bool → Result CommitView Rule → Option Fault
judge d bytes short named read = option_or (option_or (unless short (too_long (length bytes))) (option_or (unless named (corrupt (meta_digest bytes))) (as_malformed (if_broken read)))) None

root_is : {d bytes : List ℕ} (object : Option Object) (read : Result CommitView Rule) → IsNamed d object bytes → commit_read bytes ≡ read
    → object_fault d kinds.Commit object ≡ as_malformed (if_broken read)
root_is {d = d} {bytes = bytes} object read n is =
    ap (object_fault d kinds.Commit) n.there ∙ ap (λ b. judge d bytes b (bytes_eq (meta_digest bytes) d) (commit_read bytes)) n.short
    ∙ ap (λ b. judge d bytes true b (commit_read bytes)) n.named ∙ ap (λ r. judge d bytes true true r) is ∙ or_nothing (as_malformed (if_broken read))
  where
    or_nothing : (f : Option Fault) → option_or f None ≡ f
    or_nothing None = refl
    or_nothing (Some f) = refl

mapped_ok : (read : Result CommitView Rule) (root : List ℕ × List ℕ) → mapped root_in read ≡ Ok root → (v : CommitView) × (read ≡ Ok v) × (root_in v ≡ root)
mapped_ok (Ok v) root is = (v, refl, cc is)
mapped_ok (Err rule) root is = absurd (cc is)

mapped_err : (read : Result CommitView Rule) (rule : Rule) → mapped root_in read ≡ Err rule → read ≡ Err rule
mapped_err (Ok v) rule is = absurd (cc is)
mapped_err (Err other) rule is = let same : other ≡ rule = cc is in ap (λ (r : Rule). Err r) same

pub root_read : {have : Have} {d bytes : List ℕ} {dir : Dir} (root : List ℕ × List ℕ) → IsNamed d (have d kinds.Commit) bytes → mapped root_in (commit_read bytes) ≡ Ok root → dir ≡ dir_of root → IsRoot have d dir
root_read {have = have} {d = d} {bytes = bytes} root n read is =
    let v = mapped_ok (commit_read bytes) root read in
    record {
      view = v.0;
      good = root_is (have d kinds.Commit) (Ok v.0) n v.1;
      read = ap (read_as commit_of) n.there ∙ ap (λ (r : Result CommitView Rule). if_read r) v.1;
      is = is ∙ ap dir_of (sym v.2);
    }

pub root_unread : {d bytes : List ℕ} (object : Option Object) (error : ObjectError) → IsNamed d object bytes → Breaks error (mapped root_in (commit_read bytes))
    → RefusesBy (IsFaultOf d kinds.Commit (object_fault d kinds.Commit object)) (unread_end d kinds.Commit error)
root_unread {bytes = bytes} object (unread.Malformed rule) n broken = record {
  digest = refl;
  kind_is = refl;
  fault_is = root_is object (Err rule) n (mapped_err (commit_read bytes) rule broken);
}
root_unread object unread.NoMemory n broken = tt
