-- A store that is made ready, and a commit that is laid out after it, call by call.
use Rattle.std.proofs.Common.{◌≡◌, ℕ, List, Bool, true, false, Option, Err, refl, sym, ◌∙◌, ap, subst}
use Rattle.std.specs.Prelude.{IsErrOf}
use Rattle.std.proofs.lemmas.Bool.{false≢true}
use Rattle.fp_host.specs.Causes.{IsCaused}
use Rattle.fp_host.specs.Frame.{AtEnd}
use Rattle.fp_host.specs.Moments.{Moments, Always}
use Rattle.fp_host.specs.Paths.{Elements}
use Rattle.fp_host.specs.View.{View, IsTree}
use Rattle.fp_host.proofs.Ending.{ends_both, ends_goes, ends_on, ends_to, ends_in_tree}
use Rattle.fp_host.proofs.Framed.{IsTold}
use Rattle.fp_host.proofs.Goes.{begins, goes_on}
use Rattle.fp_name.specs.Refs.{Ref}
use Rattle.fp_small.specs.Places.{repo}
use Rattle.fp_small.specs.declared.refusal.Refusal.{Refusal}
use Rattle.dep_states.proofs.SharedAs.{shared_on}
use Rattle.ost_checkout.specs.Checkout.{HasReserved}
use Rattle.ost_checkout.specs.declared.ends.CheckoutEnd.{CheckoutEnd}
use Rattle.ost_checkout.specs.declared.ends.CheckoutEnd.TheVariants as checkouts
use Rattle.ost_walk.specs.declared.pull_end.PullEnd.{PullEnd}
use Rattle.ost_walk.specs.declared.pull_end.PullEnd.TheVariants as ends
use Rattle.dep_states.specs.Names.{commit_dir}
use Rattle.op_change.specs.BringEnds.{of_checkout}
use Rattle.op_change.specs.Furnishing.{Furnishes, readies, lays, WasFurnished, CanFurnish}
use Rattle.op_change.specs.LayingOut.{LaysOut, WasLaidOut, CanLayOut}
use Rattle.op_change.specs.Readying.{ReadiesStore, WasReadied}
use Rattle.op_change.proofs.Able.{can_lay_next}
use Rattle.op_change.proofs.Changing.{lays_files, lays_shares}

module _ {commit : List ℕ} {to : Elements} {kept : Bool} where
  pub goes_ready : {a b : Option Moments} → IsTold a → Always ReadiesStore a b → Always (Furnishes commit to kept) a b
  goes_ready told goes = begins told goes (λ u w t r. readies r) (λ u w t r e. readies e)

  pub goes_lays : kept ≡ false → {a b c : Option Moments} → IsTold a → IsTold b → Always ReadiesStore a b → Always (LaysOut commit to) b c → Always (Furnishes commit to kept) a c
  goes_lays is told mid first second =
      goes_on {Q = ReadiesStore} mid (begins told first (λ u w t r. readies r) (λ u w t r e. e)) second (λ u v w t r q x. lays v t q is x) (λ u v w t r q x e. lays v t q is e)

  pub end_kept : kept ≡ true → {a b : Option Moments} → AtEnd WasReadied a b → AtEnd (WasFurnished commit to kept) a b
  end_kept is done = ends_to done (λ u w r. record { laid = λ off. absurd (false≢true (sym off ∙ is)); shares = r.shares })

pub end_lays : (name : Ref) (commit : List ℕ) {kept : Bool} {a b c : Option Moments} → IsTold b → AtEnd WasReadied a b → Always (LaysOut commit (commit_dir name commit)) b c → AtEnd (WasLaidOut commit (commit_dir name commit)) b c → AtEnd (WasFurnished commit (commit_dir name commit) kept) a c
end_lays name commit mid first second done = ends_on (ends_both (ends_goes mid second) done) first mid (λ u v w t r d. record { laid = λ off. d.1; shares = shared_on r.shares (lays_shares name commit d.0) (lays_files name commit d.0) })

pub reserved_after : {commit : List ℕ} {a b c : Option Moments} → IsTold a → IsTold b → Always ReadiesStore a b → AtEnd (λ u w. HasReserved repo commit w) b c → AtEnd (λ u w. HasReserved repo commit w) a c
reserved_after told mid first reserved = ends_on reserved (ends_goes told first) mid (λ u v w t r d. d)

pub ready_tree : {a b : Option Moments} → IsTold a → IsTold b → Always ReadiesStore a b → AtEnd (λ u v. IsTree v × ReadiesStore u v) a b
ready_tree told last first = ends_in_tree last (ends_goes told first) (λ u w t r. (t, r))

pub can_lay_after : (name : Ref) (commit : List ℕ) {kept : Bool} {u v : View} → kept ≡ false → IsTree u → IsTree v × ReadiesStore u v → CanFurnish commit (commit_dir name commit) kept u → CanLayOut commit (commit_dir name commit) v
can_lay_after name commit is before q can = can_lay_next name commit q.1 before q.0 (can.folder is)

-- ---- the folder is that of the commit

pub at_folder : {commit : List ℕ} {p q : Elements} {a b : Option Moments} → p ≡ q → Always (LaysOut commit p) a b → Always (LaysOut commit q) a b
at_folder {commit = commit} {a = a} {b = b} is goes = subst (λ (x : Elements). Always (LaysOut commit x) a b) is goes

pub laid_at_folder : {commit : List ℕ} {p q : Elements} {a b : Option Moments} → p ≡ q → AtEnd (WasLaidOut commit p) a b → AtEnd (WasLaidOut commit q) a b
laid_at_folder {commit = commit} {a = a} {b = b} is done = subst (λ (x : Elements). AtEnd (WasLaidOut commit x) a b) is done

pub cause_at_folder : {F : Type 0} {commit : List ℕ} {p q : Elements} {a : Option Moments} {before now : ℕ} → p ≡ q → IsCaused F a (CanLayOut commit p) before now → IsCaused F a (CanLayOut commit q) before now
cause_at_folder {F = F} {commit = commit} {a = a} {before = before} {now = now} is cause = subst (λ (x : Elements). IsCaused F a (CanLayOut commit x) before now) is cause

-- ---- how it ends

same_end : {A : Type 0} (x y : PullEnd) → IsErrOf {T = A} (Err x) y → x ≡ y
same_end x y is = cc is

reserved_is : (commit : List ℕ) (end : CheckoutEnd) (r : Refusal) → of_checkout commit end ≡ ends.Refused r → end ≡ checkouts.ReservedName
reserved_is commit checkouts.ReservedName r is = refl
reserved_is commit checkouts.Fault r is = absurd (cc is)
reserved_is commit checkouts.NoMemory r is = absurd (cc is)

fault_is : (commit : List ℕ) (end : CheckoutEnd) → of_checkout commit end ≡ ends.HostFault → end ≡ checkouts.Fault
fault_is commit checkouts.ReservedName is = absurd (cc is)
fault_is commit checkouts.Fault is = refl
fault_is commit checkouts.NoMemory is = absurd (cc is)

pub reserved_by : {A B : Type 0} (commit : List ℕ) (end : CheckoutEnd) (r : Refusal) (result : PullEnd) → result ≡ of_checkout commit end → IsErrOf {T = A} (Err result) (ends.Refused r) → IsErrOf {T = B} (Err end) checkouts.ReservedName
reserved_by {A = A} commit end r result is err = ap (λ (e : CheckoutEnd). Err e) (reserved_is commit end r (sym is ∙ same_end {A = A} result (ends.Refused r) err))

pub fault_by : {A B : Type 0} (commit : List ℕ) (end : CheckoutEnd) (result : PullEnd) → result ≡ of_checkout commit end → IsErrOf {T = A} (Err result) ends.HostFault → IsErrOf {T = B} (Err end) checkouts.Fault
fault_by {A = A} commit end result is err = ap (λ (e : CheckoutEnd). Err e) (fault_is commit end (sym is ∙ same_end {A = A} result ends.HostFault err))
