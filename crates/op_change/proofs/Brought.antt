-- An operation that brings a commit.
use Rattle.std.proofs.Common.{◌≡◌, ◌≢◌, inl, inr, ℕ, List, [], ◌∷◌, Bool, true, false, Option, Some, None, Result, Err, refl, sym, ◌∙◌, ap, subst}
use Rattle.std.specs.Prelude.{IsErrOf, if◌then◌else◌, option_map}
use Rattle.std.specs.Str.{bytes_eq}
use Rattle.std.proofs.lemmas.Bool.{cases_Bool, both_ways, false≢true, or_cases}
use Rattle.std.proofs.lemmas.Slice.Eq.{bytes_eq-Decides}
use Rattle.fp_base.proofs.Options.{none_some}
use Rattle.fp_host.specs.Moments.{Moments}
use Rattle.fp_host.specs.Paths.{Elements, Slot}
use Rattle.fp_host.specs.Remote.{Holdings}
use Rattle.fp_host.specs.View.{View}
use Rattle.fp_name.specs.Refs.{Ref, ref_text}
use Rattle.fp_small.specs.Config.{name_of}
use Rattle.fp_small.specs.Order.{inserted, removed, replaced, has_name}
use Rattle.fp_small.specs.declared.op.Op.{Op}
use Rattle.fp_small.specs.declared.op.Op.TheVariants.{Install, Update}
use Rattle.fp_small.specs.declared.refusal.Refusal.{Refusal}
use Rattle.fp_small.specs.declared.state.RefRow.{RefRow}
use Rattle.fp_small.specs.declared.state.RemoteRow.{RemoteRow}
use Rattle.fp_small.specs.declared.state.State.{State}
use Rattle.fp_small.specs.Places.{repo}
use Rattle.ost_model.specs.Objects.{Have}
use Rattle.ost_model.specs.Remotes.{Supplies}
use Rattle.ost_walk.specs.PullEnds.{RefusesBy}
use Rattle.ost_walk.specs.declared.pull_end.PullEnd.{PullEnd}
use Rattle.ost_walk.specs.declared.pull_end.PullEnd.TheVariants as pulls
use Rattle.dep_states.specs.After.{May, after_op, row_at, with_refs, updated, state_after, HasRow, IsOnConfig}
use Rattle.dep_states.specs.Shown.{at_name, ref_key}
use Rattle.dep_states.proofs.Single.{some_is}
use Rattle.dep_switch.specs.Rows.{IsAt, with_row}
use Rattle.op_change.specs.Attempts.{IsToBring}
use Rattle.op_change.specs.Bringing.{BringsName}
use Rattle.op_change.specs.Brought.{row_brought, left_at, brought_refusal, commit_time, state_brought, HasObjects}
use Rattle.ost_store.specs.Created.{Creates}
use Rattle.ost_store.proofs.Creating.{creates_to}
use Rattle.ost_pull.specs.Pulls.{IsLacked}
use Rattle.op_change.specs.Applied.{Brings, MayChange, url_in, url_for, done_with, op_refusal, AppliesWith, HasObjectsFor, IsBroughtFor}
use Rattle.op_change.specs.Ends.{of_pull}
use Rattle.op_change.specs.declared.ending.ApplyEnd.{ApplyEnd}
use Rattle.op_change.specs.declared.ending.ApplyEnd.TheVariants as ends
use Rattle.op_change.proofs.Joined.{allowed}

-- ---- rows by name

module _ {A : Type 0} (name : A → List ℕ) where
  pub row_there : (xs : List A) (x : List ℕ) → has_name name xs x ≡ true → (a : A) × (at_name name xs x ≡ Some a)
  row_there [] x has = absurd (cc has)
  row_there (y ∷ ys) x has = elim (cases_Bool (bytes_eq (name y) x)) [
    | inl e ↦ (y, rw e refl)
    | inr e ↦ elim (or_cases _ _ has) [
      | inl same ↦ absurd (both_ways (bytes_eq (name y) x) e ((bytes_eq-Decides (name y) x).1 (sym ((bytes_eq-Decides x (name y)).0 same))))
      | inr more ↦ let found = row_there ys x more in (found.0, rw e found.1)
    ]
  ]

  pub row_named : (xs : List A) (x : List ℕ) (a : A) → at_name name xs x ≡ Some a → name a ≡ x
  row_named [] x a at = absurd (cc at)
  row_named (y ∷ ys) x a at = go (λ h. row_named ys x a h) (bytes_eq (name y) x) refl at
    where
      go : (at_name name ys x ≡ Some a → name a ≡ x) → (b : Bool) → bytes_eq (name y) x ≡ b → if b then Some y else at_name name ys x ≡ Some a → name a ≡ x
      go next true e h = ap name (sym (some_is h)) ∙ (bytes_eq-Decides (name y) x).0 e
      go next false e h = next h

  pub none_removed : (xs : List A) (x : List ℕ) → at_name name xs x ≡ None → removed name xs x ≡ xs
  none_removed [] x none = refl
  none_removed (y ∷ ys) x none = go (λ h. none_removed ys x h) (bytes_eq (name y) x) none
    where
      go : (at_name name ys x ≡ None → removed name ys x ≡ ys) → (b : Bool) → if b then Some y else at_name name ys x ≡ None → if b then removed name ys x else y ∷ removed name ys x ≡ y ∷ ys
      go next true h = absurd (cc h)
      go next false h = ap (λ (l : List A). y ∷ l) (next h)

-- ---- the state after

pub installed : (s : State) (name : Ref) (origin from commit : List ℕ) (time : ℕ) → row_at s name ≡ None → from ≡ origin → with_row s (row_brought s name from commit time) ≡ after_op s time (Install name origin commit)
installed s name origin from commit time none is =
    ap (λ (o : List ℕ). with_row s (row_brought s name o commit time)) is
    ∙ ap (λ (previous : Option RefRow). with_refs s (inserted ref_key (removed ref_key s.refs (ref_text name)) (record { name = name; origin = origin; commit = commit; timestamp = time; previous = option_map left_at previous }))) none
    ∙ ap (λ (rows : List RefRow). with_refs s (inserted ref_key rows (record { name = name; origin = origin; commit = commit; timestamp = time; previous = None }))) (none_removed ref_key s.refs (ref_text name) none)

pub updated_to : (s : State) (name : Ref) (origin from commit : List ℕ) (time : ℕ) (row : RefRow) → row_at s name ≡ Some row → from ≡ origin → with_row s (row_brought s name from commit time) ≡ after_op s time (Update name origin commit)
updated_to s name origin from commit time row there is =
    ap (λ (o : List ℕ). with_row s (row_brought s name o commit time)) is
    ∙ ap (λ (o : Option RefRow). with_refs s (replaced ref_key s.refs (record { name = name; origin = origin; commit = commit; timestamp = time; previous = option_map left_at o }))) there
    ∙ sym (ap (λ (o : Option RefRow). updated s name origin commit time o) there)

-- ---- what it takes

pub record IsBringing (s : State) (op : Op) (name : Ref) (commit : List ℕ) (row : RemoteRow) : Type 0 where
  pub url : url_for s op ≡ Some row.url
  pub brings : Brings op
  pub off : IsOnConfig op → ⊥
  pub refusal : (have : Have) → op_refusal have op ≡ brought_refusal have name commit
  pub state : (have : Have) → state_brought have s name row.name commit ≡ state_after s (done_with have op)
  pub made : (time : ℕ) → with_row s (row_brought s name row.name commit time) ≡ after_op s time op
  pub may : (u : View) (q : Elements) (e : Slot) → BringsName s name commit q e → MayChange s op u q e
  pub objects : (have : Have) (u w : View) → HasObjects have commit u w → HasObjectsFor have op u w
  pub created : (have : Have) (u w : View) → Creates repo (IsLacked repo have commit u) u w → Creates repo (IsBroughtFor have op u) u w

pub is_install : (s : State) (name : Ref) (origin commit : List ℕ) (row : RemoteRow) → row_at s name ≡ None → at_name name_of s.remotes origin ≡ Some row → IsBringing s (Install name origin commit) name commit row
is_install s name origin commit row none from = record {
  url = ap (λ (o : Option RemoteRow). option_map url_in o) from;
  brings = tt;
  off = λ on. false≢true on;
  refusal = λ have. refl;
  state = λ have. installed s name origin row.name commit (commit_time have commit) none (row_named name_of s.remotes origin row from);
  made = λ time. installed s name origin row.name commit time none (row_named name_of s.remotes origin row from);
  may = λ u q e put. put;
  objects = λ have u w o. o;
  created = λ have u w made. creates_to (λ o is. is) (λ o is. is) made;
}

pub is_update : (s : State) (name : Ref) (origin commit : List ℕ) (row : RemoteRow) (ref : RefRow) → row_at s name ≡ Some ref → at_name name_of s.remotes origin ≡ Some row → IsBringing s (Update name origin commit) name commit row
is_update s name origin commit row ref there from = record {
  url = ap (λ (o : Option RemoteRow). option_map url_in o) from;
  brings = tt;
  off = λ on. false≢true on;
  refusal = λ have. refl;
  state = λ have. updated_to s name origin row.name commit (commit_time have commit) ref there (row_named name_of s.remotes origin row from);
  made = λ time. updated_to s name origin row.name commit time ref there (row_named name_of s.remotes origin row from);
  may = λ u q e put. put;
  objects = λ have u w o. o;
  created = λ have u w made. creates_to (λ o is. is) (λ o is. is) made;
}

pub bringing_as : {s : State} {name : Ref} {commit : List ℕ} {row : RemoteRow} (op x : Op) → op ≡ x → IsBringing s x name commit row → IsBringing s op name commit row
bringing_as {s = s} {name = name} {commit = commit} {row = row} op x is b = subst (λ (o : Op). IsBringing s o name commit row) (sym is) b

pub is_bringing : (s : State) (op : Op) (name : Ref) (origin commit : List ℕ) (row : RemoteRow) → May s op → IsToBring op name origin commit → at_name name_of s.remotes origin ≡ Some row → IsBringing s op name commit row
is_bringing s op name origin commit row may (inl is) from =
    let allows = allowed s op (Install name origin commit) is may in
    bringing_as op (Install name origin commit) is (is_install s name origin commit row allows.1 from)
is_bringing s op name origin commit row may (inr is) from =
    let allows = allowed s op (Update name origin commit) is may in
    bringing_as op (Update name origin commit) is (is_update s name origin commit row allows.0.0 allows.0.1 from)

-- ---- how a commit that is brought ends

refused_of : (end : PullEnd) (r : Refusal) → of_pull end ≡ ends.Refused r → end ≡ pulls.Refused r
refused_of (pulls.Refused x) r is = ap (λ (y : Refusal). pulls.Refused y) (let same : x ≡ r = cc is in same)
refused_of pulls.HostFault r is = absurd (cc is)
refused_of pulls.RemoteFault r is = absurd (cc is)
refused_of pulls.NoMemory r is = absurd (cc is)

remote_of : (end : PullEnd) → of_pull end ≡ ends.RemoteFault → end ≡ pulls.RemoteFault
remote_of (pulls.Refused x) is = absurd (cc is)
remote_of pulls.HostFault is = absurd (cc is)
remote_of pulls.RemoteFault is = refl
remote_of pulls.NoMemory is = absurd (cc is)

fault_of : (end : PullEnd) → of_pull end ≡ ends.Fault → end ≡ pulls.HostFault
fault_of (pulls.Refused x) is = absurd (cc is)
fault_of pulls.HostFault is = refl
fault_of pulls.RemoteFault is = absurd (cc is)
fault_of pulls.NoMemory is = absurd (cc is)

pub same_end : {A : Type 0} (x y : ApplyEnd) → ◌≡◌ {A = Result A ApplyEnd} (Err x) (Err y) → x ≡ y
same_end x y is = cc is

module _ {A B : Type 0} (end : PullEnd) where
  pub pull_refused : (r : Refusal) → IsErrOf {T = A} (Err (of_pull end)) (ends.Refused r) → IsErrOf {T = B} (Err end) (pulls.Refused r)
  pull_refused r is = ap (λ (e : PullEnd). Err e) (refused_of end r (same_end {A = A} (of_pull end) (ends.Refused r) is))

  pub pull_remote : IsErrOf {T = A} (Err (of_pull end)) ends.RemoteFault → IsErrOf {T = B} (Err end) pulls.RemoteFault
  pull_remote is = ap (λ (e : PullEnd). Err e) (remote_of end (same_end {A = A} (of_pull end) ends.RemoteFault is))

  pub pull_fault : IsErrOf {T = A} (Err (of_pull end)) ends.Fault → IsErrOf {T = B} (Err end) pulls.HostFault
  pull_fault is = ap (λ (e : PullEnd). Err e) (fault_of end (same_end {A = A} (of_pull end) ends.Fault is))

pub refuses_with : (have : Have) (s : State) (op : Op) (end : PullEnd) → RefusesBy (λ r. op_refusal have op ≡ Some r) end → AppliesWith have s op (Err (of_pull end))
refuses_with have s op (pulls.Refused r) is = is
refuses_with have s op pulls.HostFault is = tt
refuses_with have s op pulls.RemoteFault is = tt
refuses_with have s op pulls.NoMemory is = tt

-- ---- where it may be done

pub install_moves : (s : State) (name : Ref) {commit : List ℕ} → row_at s name ≡ None → IsAt s name commit → ⊥
install_moves s name none at = none_some (sym none ∙ at.1)

pub update_moves : (s : State) (name : Ref) {commit : List ℕ} → HasRow s name (λ row. row.commit ≢ commit) → IsAt s name commit → ⊥
update_moves s name has at = has.2 (ap (λ (r : RefRow). r.commit) (some_is (sym has.1 ∙ at.1)) ∙ at.2)

-- what is supplied at the remote's url
pub at_url : {url : Option (List ℕ)} {text : List ℕ} {holds : Option Holdings} {have : Have} {a : Option Moments} → url ≡ Some text → Supplies repo url a holds have → Supplies repo (Some text) a holds have
at_url {holds = holds} {have = have} {a = a} is x = subst (λ (u : Option (List ℕ)). Supplies repo u a holds have) is x

-- what an operation's case says of it
pub no_brings : (op x : Op) → op ≡ x → (Brings x → ⊥) → Brings op → ⊥
no_brings op x is none brings = none (subst Brings is brings)
