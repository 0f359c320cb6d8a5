-- Files and links of the store whose names are trusted.
use Rattle.std.proofs.Common.{◌≡◌, ◌≤◌, ℕ, List, length, Bool, true, false, leb, Option, Some, None, Result, Ok, Err, refl, sym, ◌∙◌, ap, subst}
use Rattle.std.specs.Option.{option_or}
use Rattle.std.specs.Prelude.{if◌then◌else◌, is_some, IfOk}
use Rattle.fp_host.specs.Paths.{Elements}
use Rattle.fp_host.specs.View.{View}
use Rattle.fp_host.specs.Moments.{Moments, Always}
use Rattle.fp_host.specs.Outcome.{shows}
use Rattle.fp_host.specs.Frame.{AtEnd, Unchanged}
use Rattle.fp_host.specs.Causes.{IsCounted}
use Rattle.fp_host.proofs.Framed.{IsTold}
use Rattle.fp_host.proofs.Ending.{ends_goes, ends_looks}
use Rattle.fp_name.specs.Hex.{is_digest}
use Rattle.fp_base.specs.declared.object.ObjKind.TheVariants as kinds
use Rattle.ost_model.specs.declared.limits.TheConstants.{MOST_FILE_BYTES}
use Rattle.ost_model.specs.declared.object.Object.{Object}
use Rattle.ost_model.specs.declared.object.Object.TheVariants as objects
use Rattle.ost_model.specs.Contents.{is_permission}
use Rattle.ost_model.specs.Objects.{Fault, unless, too_long, refused_mode, digest_fault, object_fault, store}
use Rattle.ost_store.specs.Reads.{got_of, Gets}
use Rattle.ost_store.specs.declared.reading.Got.{Got}
use Rattle.ost_store.specs.declared.reading.Got.TheVariants as got
use Rattle.ost_walk.specs.Ends.{Outside}
use Rattle.ost_walk.specs.declared.ends.WalkEnd.{WalkEnd}
use Rattle.ost_walk.specs.declared.pull_end.PullEnd.{PullEnd}
use Rattle.ost_head.specs.Contents.{ChecksIfThere, IsGoodThere}
use Rattle.ost_pull.specs.declared.trusting.Trust.{Trust}
use Rattle.ost_pull.specs.declared.trusting.Trust.TheVariants as trusts
use Rattle.ost_pull.specs.Pulls.{IsApart, HasTrueFiles, HasTrueFilesNow, PullsCommit}
use Rattle.ost_pull.specs.Trusts.{IsGoodIfTrue, MayTrust}
use Rattle.ost_pull.specs.Work.{Works}
use Rattle.ost_pull.proofs.Apart.{works_object}
use Rattle.ost_pull.proofs.Batched.{ended}
use Rattle.ost_pull.proofs.Taken.{passed}

-- ---- what stands at a name

-- a file within the limits whose digest is true has no fault
file_good : (d : List ℕ) (mode : ℕ) (bytes : List ℕ) → leb (length bytes) MOST_FILE_BYTES ≡ true → is_permission mode ≡ true → digest_fault d (objects.File mode bytes) ≡ None → object_fault d kinds.File (Some (objects.File mode bytes)) ≡ None
file_good d mode bytes short bits is =
    ap (λ (b : Bool). option_or (option_or (unless b (too_long (length bytes))) (option_or (unless (is_permission mode) (refused_mode mode)) (option_or (digest_fault d (objects.File mode bytes)) None))) None) short
    ∙ ap (λ (b : Bool). option_or (option_or (unless b (refused_mode mode)) (option_or (digest_fault d (objects.File mode bytes)) None)) None) bits
    ∙ ap (λ (f : Option Fault). option_or (option_or f None) None) is

pub file_if_true : (d : List ℕ) (mode size : ℕ) (o : Option Object) → got.File mode size ≡ got_of MOST_FILE_BYTES o → is_permission mode ≡ true → IsGoodIfTrue d o
file_if_true d mode size None is bits = absurd (cc is)
file_if_true d mode size (Some (objects.Link text)) is bits = absurd (cc is)
file_if_true d mode size (Some (objects.Meta bytes)) is bits = absurd (go (leb (length bytes) MOST_FILE_BYTES) is)
  where
    go : (b : Bool) → got.File mode size ≡ (if b then got.Meta bytes else got.TooLong (length bytes)) → ⊥
    go true e = cc e
    go false e = cc e
file_if_true d mode size (Some (objects.File m bytes)) is bits = go (leb (length bytes) MOST_FILE_BYTES) refl is
  where
    go : (b : Bool) → leb (length bytes) MOST_FILE_BYTES ≡ b → got.File mode size ≡ (if b then got.File m (length bytes) else got.TooLong (length bytes)) → IsGoodIfTrue d (Some (objects.File m bytes))
    go true short e =
        let same : mode ≡ m = cc e in
        record { object = objects.File m bytes; is = refl; good = file_good d m bytes short (ap is_permission (sym same) ∙ bits) }
    go false short e = absurd (cc e)

pub link_if_true : (d text : List ℕ) (o : Option Object) → got.Link text ≡ got_of MOST_FILE_BYTES o → IsGoodIfTrue d o
link_if_true d text None is = absurd (cc is)
link_if_true d text (Some (objects.Link t)) is = record { object = objects.Link t; is = refl; good = λ none. ap (λ (f : Option Fault). option_or (option_or f None) None) none }
link_if_true d text (Some (objects.Meta bytes)) is = absurd (go (leb (length bytes) MOST_FILE_BYTES) is)
  where
    go : (b : Bool) → got.Link text ≡ (if b then got.Meta bytes else got.TooLong (length bytes)) → ⊥
    go true e = cc e
    go false e = cc e
link_if_true d text (Some (objects.File m bytes)) is = absurd (go (leb (length bytes) MOST_FILE_BYTES) is)
  where
    go : (b : Bool) → got.Link text ≡ (if b then got.File m (length bytes) else got.TooLong (length bytes)) → ⊥
    go true e = cc e
    go false e = cc e

-- ---- what is told of it

-- whether it is there
pub there_of : (d : List ℕ) (o : Option Object) (r : Result Bool WalkEnd) → ChecksIfThere d o r → IfOk r (λ there. there ≡ is_some o)
there_of d o (Ok true) checks = sym (ap is_some checks.is)
there_of d o (Ok false) checks = sym (ap is_some checks)
there_of d o (Err end) checks = tt

-- it was told, and is good where its digest is true
pub told_if_true : (root : Elements) (d : List ℕ) (told : Got) {a b : Option Moments} → AtEnd (λ u w. Gets root d kinds.File MOST_FILE_BYTES u told) a b → ((o : Option Object) → told ≡ got_of MOST_FILE_BYTES o → IsGoodIfTrue d o) → (m : Moments) → a ≡ Some m → IsGoodIfTrue d (store root (shows m.now) d kinds.File)
told_if_true root d told ends is_good m at = is_good (store root (shows m.now) d kinds.File) ((ends.goes.told m at).3.is)

pub good_there : (d : List ℕ) (o : Option Object) → IsGoodIfTrue d o → true ≡ is_some o
good_there d o good = sym (ap is_some good.is)

pub good_true : (root : Elements) (d : List ℕ) (v : View) → is_digest d ≡ true → HasTrueFiles root v → IsGoodIfTrue d (store root (shows v) d kinds.File) → IsGoodThere d (store root (shows v) d kinds.File)
good_true root d v digits true_files good = record { object = good.object; is = good.is; good = good.good (true_files.each d good.object digits good.is) }

-- what is checked after a look is so before it
pub checks_before : (root : Elements) (d : List ℕ) (r : Result Bool WalkEnd) {a b : Option Moments} → Unchanged a b → ((k : Moments) → b ≡ Some k → ChecksIfThere d (store root (shows k.now) d kinds.File) r) → (m : Moments) → a ≡ Some m → ChecksIfThere d (store root (shows m.now) d kinds.File) r
checks_before root d r still checks m at =
    let n = still.goes.told m at in
    subst (λ (v : View). ChecksIfThere d (store root (shows v) d kinds.File) r) n.3.0 (checks n.0 n.1)

pub counted_after : {F : Type 0} {a b : Option Moments} (f g h : ℕ) → IsTold a → f ≤ g → Unchanged a b → IsCounted F b g h → IsCounted F a f h
counted_after f g h told le still cause = passed (λ v. Unit {0}) (λ v. Unit {0}) told le (ends_looks told still) cause (λ is. is) (λ u v tree q can. tt)

-- ---- names that are trusted

-- nothing is
pub none_trusted : {root : Elements} {told : Option Moments} → MayTrust trusts.Nothing root told
none_trusted = record { names = λ is. absurd (cc is) }

pub names_trusted : {root : Elements} {told : Option Moments} → HasTrueFilesNow root told → MayTrust trusts.Names root told
names_trusted true_files = record { names = λ is. true_files }

-- what a pull promises where one thing holds, it promises where what implies that holds
pub pulls_where : {root t : Elements} {url commit : List ℕ} {S T : Type 0} {result : Result (Unit {0}) PullEnd} {u w : Outside} → (S → T) → PullsCommit root t url commit T result u w → PullsCommit root t url commit S result u w
pulls_where rests pulls = record {
  same = pulls.same;
  any_moment = pulls.any_moment;
  on_success = λ have s so. pulls.on_success have s (rests so);
  refuses = λ have s so. pulls.refuses have s (rests so);
  refused_unchanged = pulls.refused_unchanged;
  remote_fault_unchanged = pulls.remote_fault_unchanged;
  fault_has_cause = pulls.fault_has_cause;
  remote_fault_has_cause = pulls.remote_fault_has_cause;
}

-- the store's files stay true while there is work beside it
pub trust_later : {root t : Elements} → IsApart root t → (trust : Trust) → {a b : Option Moments} → IsTold a → IsTold b → Always (Works t) a b → MayTrust trust root a → MayTrust trust root b
trust_later {root = root} {t = t} apart trust told told' works may = record {
  names = λ is. record {
    are = λ m at.
        let k = ended (ends_goes told works) m at in
        record { each = λ d object digits there. ((may.names is).are k.0 k.1).each d object digits (sym (works_object root t apart k.2 d kinds.File (told k.0 k.1) (told' m at)) ∙ there) };
  };
}
