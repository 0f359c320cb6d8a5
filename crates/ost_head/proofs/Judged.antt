-- Objects that are judged.
use Rattle.std.proofs.Common.{◌≡◌, ◌≤◌, ◌<◌, ◌*◌, ℕ, List, length, Bool, true, false, leb, Option, Some, None, Result, Ok, Err, refl, sym, ◌∙◌, ap, subst, arith}
use Rattle.std.specs.Option.{option_or}
use Rattle.std.specs.Str.{bytes_eq}
use Rattle.std.proofs.lemmas.Bool.{le-leb, lt-leb, false_from_ne_true}
use Rattle.std.proofs.lemmas.Slice.Eq.{bytes_eq-Decides}
use Rattle.fp_base.specs.declared.object.ObjKind.{ObjKind}
use Rattle.fp_base.specs.declared.object.ObjKind.TheVariants as kinds
use Rattle.fp_base.specs.declared.rule.Rule.{Rule}
use Rattle.fp_base.proofs.Options.{or_assoc}
use Rattle.ost_model.specs.declared.object.Object.{Object}
use Rattle.ost_model.specs.Contents.{is_permission}
use Rattle.ost_model.specs.Fields.{CommitView}
use Rattle.ost_model.specs.Readers.{if_broken}
use Rattle.ost_model.specs.Objects.{Fault, missing, corrupt, unless, as_malformed, is_of_kind, kind_fault, length_fault, mode_fault, digest_fault, digest_of, rule_fault, content_fault, dir_mode_fault, object_fault}
use Rattle.ost_object.specs.declared.error.ObjectError.{ObjectError}
use Rattle.ost_object.specs.declared.error.ObjectError.TheVariants as unread
use Rattle.ost_object.specs.Answers.{Breaks, mapped}
use Rattle.ost_object.specs.Views.{root_in}
use Rattle.ost_store.proofs.Holding.{bits_kept}
use Rattle.ost_walk.specs.declared.ends.ObjectFault.{ObjectFault}
use Rattle.ost_walk.specs.declared.ends.ObjectFault.TheVariants as faults
use Rattle.ost_walk.specs.declared.ends.WalkEnd.{WalkEnd}
use Rattle.ost_walk.specs.declared.ends.WalkEnd.TheVariants as ends
use Rattle.ost_walk.specs.Ends.{RefusesBy, EndsBy, IsFaultOf, fault_of, refusal, unread_end}
use Rattle.ost_head.specs.Objects.{IsFit, Checks, rules_fault}

-- ---- a refusal

pub refuses : (d : List ℕ) (kind : ObjKind) (fault : Option Fault) (f : ObjectFault) (end : WalkEnd) → end ≡ refusal d kind f → fault ≡ Some (fault_of f)
    → RefusesBy (IsFaultOf d kind fault) end
refuses d kind fault f end is has = subst (λ (e : WalkEnd). RefusesBy (IsFaultOf d kind fault) e) (sym is) (record { digest = refl; kind_is = refl; fault_is = has })

-- ---- an object that is fit

module _ (d : List ℕ) (kind : ObjKind) (o : Object) (fit : IsFit kind o) where
  -- its faults are those of its digest and of its rules
  fit_fault : object_fault d kind (Some o) ≡ option_or (digest_fault d o) (rules_fault kind o)
  fit_fault =
      ap (λ b. option_or (option_or (unless b missing) (content_fault d kind o)) (dir_mode_fault kind (Some o))) fit.kind_is
      ∙ ap (λ f. option_or (option_or f (option_or (mode_fault o) (option_or (digest_fault d o) (rule_fault kind o)))) (dir_mode_fault kind (Some o))) fit.short
      ∙ ap (λ f. option_or (option_or f (option_or (digest_fault d o) (rule_fault kind o))) (dir_mode_fault kind (Some o))) (bits_kept o fit.keepable)
      ∙ or_assoc (digest_fault d o) (rule_fault kind o) (dir_mode_fault kind (Some o))

  -- its digest is another
  pub other_digest : (A : Type 0) (got : List ℕ) (end : WalkEnd) → got ≡ digest_of o → (got ≡ d → ⊥) → end ≡ refusal d kind (faults.Corrupt got) → Checks {A = A} d kind o (Err end)
  other_digest A got end is off ended =
      let different : bytes_eq (digest_of o) d ≡ false = false_from_ne_true (bytes_eq (digest_of o) d) (λ t. off (is ∙ (bytes_eq-Decides (digest_of o) d).0 t)) in
      refuses d kind (object_fault d kind (Some o)) (faults.Corrupt got) end ended
      (fit_fault ∙ ap (λ b. option_or (unless b (corrupt (digest_of o))) (rules_fault kind o)) different ∙ ap (λ (x : List ℕ). Some (corrupt x)) (sym is))

  -- or it is the one that the digest names, and its rules decide
  pub own_digest : {A : Type 0} (got : List ℕ) (r : Result A WalkEnd) → got ≡ digest_of o → got ≡ d → EndsBy (λ a. rules_fault kind o ≡ None) (IsFaultOf d kind (rules_fault kind o)) r → Checks d kind o r
  own_digest got r is same tells =
      let own : bytes_eq (digest_of o) d ≡ true = (bytes_eq-Decides (digest_of o) d).1 (sym is ∙ same) in
      by_rules r (fit_fault ∙ ap (λ b. option_or (unless b (corrupt (digest_of o))) (rules_fault kind o)) own) tells
    where
      by_rules : {A : Type 0} (s : Result A WalkEnd) → object_fault d kind (Some o) ≡ rules_fault kind o → EndsBy (λ a. rules_fault kind o ≡ None) (IsFaultOf d kind (rules_fault kind o)) s → Checks d kind o s
      by_rules (Ok a) e t = e ∙ t
      by_rules (Err end) e t = subst (λ f. RefusesBy (IsFaultOf d kind f) end) (sym e) t

-- ---- the rules of a commit

mapped_err : (read : Result CommitView Rule) (rule : Rule) → mapped root_in read ≡ Err rule → if_broken read ≡ Some rule
mapped_err (Ok v) rule is = absurd (cc is)
mapped_err (Err other) rule is = let same : other ≡ rule = cc is in ap (λ (r : Rule). Some r) same

pub commit_breaks : (d : List ℕ) (read : Result CommitView Rule) (error : ObjectError) → Breaks error (mapped root_in read)
    → RefusesBy (IsFaultOf d kinds.Commit (option_or (as_malformed (if_broken read)) None)) (unread_end d kinds.Commit error)
commit_breaks d read (unread.Malformed rule) broken = record { digest = refl; kind_is = refl; fault_is = ap (λ f. option_or (as_malformed f) None) (mapped_err read rule broken) }
commit_breaks d read unread.NoMemory broken = tt
