-- A commit that is obtained, call by call.
use Rattle.std.proofs.Common.{◌≡◌, ◌≤◌, ℕ, List, Bool, true, Option, Some, None, Result, Ok, Err, refl, sym, ◌∙◌, ap, subst, arith}
use Rattle.std.specs.Prelude.{IsErrOf}
use Rattle.std.specs.Result.{IsErrAnd}
use Rattle.std.proofs.lemmas.Result.{err_from_is_err_and}
use Rattle.fp_host.specs.Frame.{AtEnd, Unchanged}
use Rattle.fp_host.specs.Moments.{Moments, Always}
use Rattle.fp_host.specs.Remote.{Holdings}
use Rattle.fp_host.specs.View.{View, IsTree}
use Rattle.fp_host.proofs.Cause.{passed_on}
use Rattle.fp_host.proofs.Ending.{ends_goes, ends_both, ends_looks, ends_on, ends_to, ends_in_tree}
use Rattle.fp_host.proofs.Framed.{IsTold}
use Rattle.fp_host.proofs.Goes.{begins, goes_on}
use Rattle.fp_name.specs.Refs.{Ref, is_ref}
use Rattle.fp_small.specs.Places.{repo}
use Rattle.fp_small.specs.declared.state.State.{State}
use Rattle.fp_small.specs.declared.state.RefRow.{RefRow}
use Rattle.fp_small.specs.declared.state.RemoteRow.{RemoteRow}
use Rattle.ost_model.specs.Objects.{Have}
use Rattle.ost_model.specs.Remotes.{Supplies}
use Rattle.ost_head.specs.Heads.{head_of}
use Rattle.ost_head.specs.declared.head.Head.{Head}
use Rattle.ost_walk.specs.Ends.{Outside}
use Rattle.ost_walk.specs.PullEnds.{Looks}
use Rattle.ost_walk.specs.declared.pull_end.PullEnd.{PullEnd}
use Rattle.ost_walk.specs.declared.pull_end.PullEnd.TheVariants as ends
use Rattle.dep_states.specs.Frames.{KeptIn}
use Rattle.dep_states.specs.Sound.{Opens}
use Rattle.dep_switch.specs.Rows.{IsAt}
use Rattle.op_change.specs.Bringing.{WasLeft, LeavesNames}
use Rattle.op_change.specs.Brought.{row_brought, supply_at}
use Rattle.op_change.specs.Coming.{HeadsFor}
use Rattle.op_change.specs.Fetching.{Fetches, WasFetched, HasNoDeploy, WasTurnedDown, Retrieves}
use Rattle.op_change.specs.Headed.{IsHeaded}
use Rattle.op_change.specs.Obtaining.{WasObtained, Obtains}
use Rattle.op_change.specs.declared.coming.Coming.{Coming}
use Rattle.op_change.proofs.Brings.{supplied, still_supplied, true_still, fetches_same, AtFetch, was_obtained, left_same, left_down, names_same, names_down, head_answers, fetch_answers, done_answers, where_told}
use Rattle.op_change.proofs.Headed.{head_ok}
use Rattle.op_change.proofs.Passing.{remotes_after}

-- ---- the same holdings

pub fetches_at : {s : State} {name : Ref} {commit : List ℕ} {now holds : Option Holdings} {a b : Option Moments} → now ≡ holds → Always (Fetches s name commit now) a b → Always (Fetches s name commit holds) a b
fetches_at {s = s} {name = name} {commit = commit} {a = a} {b = b} is goes = subst (λ (h : Option Holdings). Always (Fetches s name commit h) a b) is goes

pub was_fetched_at : {s : State} {name : Ref} {commit : List ℕ} {kept : Bool} {text url : List ℕ} {now holds : Option Holdings} {a b : Option Moments} → text ≡ url → now ≡ holds → AtEnd (WasFetched s name commit kept text now) a b → AtEnd (WasFetched s name commit kept url holds) a b
was_fetched_at {s = s} {name = name} {commit = commit} {kept = kept} {text = text} {holds = holds} {a = a} {b = b} url_is is done =
    subst (λ (x : List ℕ). AtEnd (WasFetched s name commit kept x holds) a b) url_is (subst (λ (h : Option Holdings). AtEnd (WasFetched s name commit kept text h) a b) is done)

pub turned_at : {s : State} {name : Ref} {commit text url : List ℕ} {now holds : Option Holdings} {a b : Option Moments} → text ≡ url → now ≡ holds → AtEnd (WasTurnedDown s name commit text now) a b → AtEnd (WasTurnedDown s name commit url holds) a b
turned_at {s = s} {name = name} {commit = commit} {text = text} {holds = holds} {a = a} {b = b} url_is is done =
    subst (λ (x : List ℕ). AtEnd (WasTurnedDown s name commit x holds) a b) url_is (subst (λ (h : Option Holdings). AtEnd (WasTurnedDown s name commit text h) a b) is done)

-- ---- nothing changed

from_tree : {Q : View → View → Type 0} {a b : Option Moments} → IsTold a → AtEnd Q a b → AtEnd (λ u w. IsTree u × Q u w) a b
from_tree told last = record { goes = begins told last.goes (λ u w t r. tt) (λ u w t r q. (t, q)) }

still_end : {a b : Option Moments} → IsTold a → Unchanged a b → AtEnd (λ u w. w ≡ u) a b
still_end told still = ends_to (ends_looks told still) (λ u w q. q.0)

pub left_still : (s : State) (holds : Option Holdings) {a b : Option Moments} → IsTold a → Unchanged a b → AtEnd (WasLeft s holds) a b
left_still s holds told still = ends_to (still_end told still) (λ u w same. left_same same)

pub names_still : (s : State) (name : Ref) (commit : List ℕ) (holds : Option Holdings) {a b : Option Moments} → IsTold a → Unchanged a b → AtEnd (LeavesNames s name commit holds) a b
names_still s name commit holds told still = ends_to (still_end told still) (λ u w same. names_same same)

-- ---- the head that was read

headed : {url : List ℕ} {holds : Option Holdings} (name : Ref) (commit : List ℕ) (time : ℕ) {a b : Option Moments} → IsTold a → Unchanged a b
    → ((have : Have) → Supplies repo (Some url) a holds have → (head : Head) × (head_of have name commit None ≡ Ok head) × (head.timestamp ≡ time))
    → AtEnd (λ u w. (w ≡ u) × ((held : Holdings) → holds ≡ Some held → IsHeaded (supply_at held (Some url) u) name commit time)) a b
headed name commit time told still each =
    ends_both (still_end told still) (supplied {Q = λ have u w. IsHeaded have name commit time} (still_end told still)
    (λ have x. let read = each have x in ends_to (still_end told still) (λ u w same. subst (λ (t : ℕ). IsHeaded have name commit t) read.2 (head_ok have name commit None read.1))))

-- ---- fetched

module _ (s : State) (origin : RemoteRow) (name : Ref) (commit : List ℕ) (holds : Option Holdings) where
  -- the head was read, and nothing changed
  abbrev pub AtHead : ℕ → View → View → Type 0
  AtHead time u v = (v ≡ u) × ((held : Holdings) → holds ≡ Some held → IsHeaded (supply_at held (Some origin.url) u) name commit time)

  goes_fetch : {a b c : Option Moments} → IsTold a → IsTold b → Unchanged a b → Always (Fetches s name commit holds) b c → Always (Fetches s name commit holds) a c
  goes_fetch told mid still fetches =
      goes_on {Q = λ u v. v ≡ u} mid (begins told still.goes (λ u w t same. fetches_same same) (λ u w t same e. e.0)) fetches
      (λ u v w t r q x. subst (λ (y : View). Fetches s name commit holds y w) q x) (λ u v w t r q x e. subst (λ (y : View). Fetches s name commit holds y w) q x)

  left_fetch : {time : ℕ} {a b c : Option Moments} → IsTold a → IsTold b → IsTold c → AtEnd (AtHead time) a b → Always (Fetches s name commit holds) b c → AtEnd (WasTurnedDown s name commit origin.url holds) b c → AtEnd (WasLeft s holds) a c
  left_fetch {time = time} told mid last head fetches down =
      ends_in_tree {Q = λ u w. IsTree u × (AtHead time u u × (Fetches s name commit holds u w × WasTurnedDown s name commit origin.url holds u w))} last
      (ends_on (ends_both (ends_goes mid fetches) down) (from_tree told head) mid
      (λ u v w tree q e. (q.0, ((refl, q.1.1), (subst (λ (y : View). Fetches s name commit holds y w) q.1.0 e.0, subst (λ (y : View). WasTurnedDown s name commit origin.url holds y w) q.1.0 e.1)))))
      (λ u w tree q. left_down q.1.0.1 q.0 tree q.1.1.0 q.1.1.1)

  names_fetch : {time : ℕ} {a b c : Option Moments} → IsTold b → AtEnd (AtHead time) a b → AtEnd (WasTurnedDown s name commit origin.url holds) b c → AtEnd (LeavesNames s name commit holds) a c
  names_fetch mid head down = ends_on down head mid (λ u v w tree q e. names_down q.1 (subst (λ (y : View). WasTurnedDown s name commit origin.url holds y w) q.0 e))

  at_fetch : (time : ℕ) (kept : Bool) {a b c : Option Moments} → IsTold a → IsTold b → IsTold c → AtEnd (AtHead time) a b → Always (Fetches s name commit holds) b c → AtEnd (WasFetched s name commit kept origin.url holds) b c
      → AtEnd (AtFetch s origin name commit holds time kept) a c
  at_fetch time kept told mid last head fetches was =
      ends_in_tree {Q = λ u w. IsTree u × (AtHead time u u × (Fetches s name commit holds u w × WasFetched s name commit kept origin.url holds u w))} last
      (ends_on (ends_both (ends_goes mid fetches) was) (from_tree told head) mid
      (λ u v w tree q e. (q.0, ((refl, q.1.1), (subst (λ (y : View). Fetches s name commit holds y w) q.1.0 e.0, subst (λ (y : View). WasFetched s name commit kept origin.url holds y w) q.1.0 e.1)))))
      (λ u w tree q. record { before = q.0; tree = tree; head = q.1.0.1; fetches = q.1.1.0; was = q.1.1.1 })

-- what the reading of the head tells, and what it did outside
pub record Foresees (s : State) (origin : RemoteRow) (name : Ref) (commit : List ℕ) (result : Result Coming PullEnd) (u v : Outside) : Type 0 where
  pub told : IsTold u.told
  pub looks : Looks result u v
  pub heads : (have : Have) → Supplies repo (Some origin.url) u.told u.holdings have → HeadsFor have name commit result

-- an error of one call is that of another
err_on : {A B : Type 0} (e x : PullEnd) → IsErrOf {T = A} (Err e) x → IsErrOf {T = B} (Err e) x
err_on e x is = ap (λ (y : PullEnd). Err y) (let same : e ≡ x = cc is in same)

-- ---- so it is obtained

module _ (s : State) (origin : RemoteRow) (name : Ref) (commit : List ℕ) (u v : Outside) where
  not_read : (e : PullEnd) → Foresees s origin name commit (Err e) u v → Obtains s origin name commit (Err e) u v
  not_read e f = record {
    same = f.looks.same;
    answers = λ have x files. head_answers have name commit e (f.heads have x);
    moments = begins f.told f.looks.unchanged.goes (λ x y t same. fetches_same same) (λ x y t same is. fetches_same is.0);
    success = λ row is. absurd (cc is);
    refused = λ r is. left_still s u.holdings f.told f.looks.unchanged;
    left_names = λ r is. names_still s name commit u.holdings f.told f.looks.unchanged;
    remote_fault = λ is. left_still s u.holdings f.told f.looks.unchanged;
    host = record { later = f.looks.host.later; fault = λ is m at opens. f.looks.host.fault (err_on e ends.HostFault is.1) m at tt };
    remote = record { later = f.looks.remote.later; rose = λ is. f.looks.remote.rose (err_on e ends.RemoteFault is) };
  }

  -- an error that is passed on
  pub obtains_none : (e : PullEnd) (r : Result RefRow PullEnd) → IsErrAnd r (λ y. y ≡ e) → Foresees s origin name commit (Err e) u v → Obtains s origin name commit r u v
  obtains_none e r err f = let p = err_from_is_err_and r err in
      subst (λ (x : Result RefRow PullEnd). Obtains s origin name commit x u v) (sym p.1) (subst (λ (y : PullEnd). Obtains s origin name commit (Err y) u v) (sym p.2) (not_read e f))

  module _ (coming : Coming) (w : Outside) (f : Foresees s origin name commit (Ok coming) u v) (mid : IsTold v.told) (last : IsTold w.told) where
    at_head : AtEnd (AtHead s origin name commit u.holdings coming.row.timestamp) u.told v.told
    at_head = headed name commit coming.row.timestamp f.told f.looks.unchanged f.heads

    supplied_on : {have : Have} → Supplies repo (Some origin.url) u.told u.holdings have → Supplies repo (Some origin.url) v.told v.holdings have
    supplied_on x = still_supplied refl f.looks.unchanged f.looks.same x

    no_deploy : (have : Have) → Supplies repo (Some origin.url) u.told u.holdings have → HasNoDeploy have commit
    no_deploy have x = (head_ok have name commit None (f.heads have x).1).no_deploy

    module _ {result : Result (Unit {0}) PullEnd} (p : Retrieves s name commit coming.kept origin.url result v w) where
      fetches : Always (Fetches s name commit u.holdings) v.told w.told
      fetches = fetches_at f.looks.same p.moments

      goes : Always (Fetches s name commit u.holdings) u.told w.told
      goes = goes_fetch s origin name commit u.holdings f.told mid f.looks.unchanged fetches

      left : AtEnd (WasTurnedDown s name commit origin.url v.holdings) v.told w.told → AtEnd (WasLeft s u.holdings) u.told w.told
      left down = left_fetch s origin name commit u.holdings f.told mid last at_head fetches (turned_at refl f.looks.same down)

      later : u.host_faults ≤ w.host_faults
      later = omega (arith, f.looks.host.later, p.host.later)

    not_fetched : (e : PullEnd) → Retrieves s name commit coming.kept origin.url (Err e) v w → Obtains s origin name commit (Err e) u w
    not_fetched e p = record {
      same = p.same ∙ f.looks.same;
      answers = λ have x files. fetch_answers have name commit (f.heads have x).0 e (f.heads have x).1 (p.refuses have (supplied_on x) (true_still f.looks.unchanged x.moments x.told_is files) (no_deploy have x));
      moments = goes p;
      success = λ row is. absurd (cc is);
      refused = λ r is. left p (p.refused r (err_on e (ends.Refused r) is));
      left_names = λ r is. names_fetch s origin name commit u.holdings mid at_head (turned_at refl f.looks.same (p.refused r (err_on e (ends.Refused r) is)));
      remote_fault = λ is. left p (p.remote_fault (err_on e ends.RemoteFault is));
      host = where_told (later p) (λ told. passed_on _ _ (Opens s) (Opens s) _ _ _ f.told f.looks.host.later at_head p.host
          (λ is. ((told.0, f.looks.same ∙ told.1), err_on e ends.HostFault is)) (λ x y tree q opens. subst (Opens s) (sym q.0) opens));
      remote = remotes_after f.looks.remote.later (record { later = p.remote.later; rose = λ is. p.remote.rose (err_on e ends.RemoteFault is) });
    }

    pub obtains_not : (e : PullEnd) (r : Result RefRow PullEnd) → IsErrAnd r (λ y. y ≡ e) → Retrieves s name commit coming.kept origin.url (Err e) v w → Obtains s origin name commit r u w
    obtains_not e r err p = let at = err_from_is_err_and r err in
        subst (λ (x : Result RefRow PullEnd). Obtains s origin name commit x u w) (sym at.1) (subst (λ (y : PullEnd). Obtains s origin name commit (Err y) u w) (sym at.2) (not_fetched e p))

    module _ (good : is_ref name ≡ true) (moves : IsAt s name commit → ⊥) (keeps : coming.kept ≡ true → KeptIn s name commit) (row_is : coming.row ≡ row_brought s name origin.name commit coming.row.timestamp) where
      pub obtains : Retrieves s name commit coming.kept origin.url (Ok tt) v w → Obtains s origin name commit (Ok coming.row) u w
      obtains p = record {
        same = p.same ∙ f.looks.same;
        answers = λ have x files. done_answers have name commit (f.heads have x).0 coming.row (f.heads have x).1 (f.heads have x).2 (p.refuses have (supplied_on x) (true_still f.looks.unchanged x.moments x.told_is files) (no_deploy have x));
        moments = goes p;
        success = λ row is. subst (λ (r : RefRow). AtEnd (WasObtained s origin name commit u.holdings r) u.told w.told) (let same : coming.row ≡ row = cc is in same)
            (ends_to (at_fetch s origin name commit u.holdings coming.row.timestamp coming.kept f.told mid last at_head (fetches p) (was_fetched_at refl f.looks.same p.success))
            (λ x y q. was_obtained s origin name commit u.holdings coming.row.timestamp coming.kept good moves keeps coming.row row_is q));
        refused = λ r is. absurd (cc is);
        left_names = λ r is. absurd (cc is);
        remote_fault = λ is. absurd (cc is);
        host = record { later = later p; fault = λ is. absurd (cc is.1) };
        remote = record { later = omega (arith, f.looks.remote.later, p.remote.later); rose = λ is. absurd (cc is) };
      }
