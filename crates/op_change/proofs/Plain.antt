-- An operation that brings no commit, among all.
use Rattle.std.proofs.Common.{◌≡◌, ◌⊎◌, inl, inr, ℕ, List, Option, None, Result, Ok, Err, refl, sym, ◌∙◌, ap, subst, arith}
use Rattle.std.specs.Prelude.{IsErrOf, IfOk, OnOk}
use Rattle.fp_host.specs.Causes.{IsCaused}
use Rattle.fp_host.specs.Frame.{AtEnd}
use Rattle.fp_host.specs.Moments.{Moments, Always}
use Rattle.fp_base.specs.declared.object.ObjKind.{ObjKind}
use Rattle.fp_base.proofs.Options.{none_some}
use Rattle.fp_host.specs.Paths.{Elements, file, IsAbove}
use Rattle.fp_host.specs.Remote.{Holdings}
use Rattle.fp_host.specs.View.{View}
use Rattle.fp_host.specs.declared.host.HostEnd.{HostEnd}
use Rattle.fp_host.specs.declared.host.HostEnd.TheVariants as host_ends
use Rattle.fp_host.proofs.Ending.{ends_to}
use Rattle.fp_host.proofs.Framed.{IsTold}
use Rattle.fp_host.proofs.Goes.{begins}
use Rattle.fp_small.specs.Clear.{IsWithin}
use Rattle.fp_small.specs.Places.{tmp}
use Rattle.fp_small.specs.Replace.{ReplacesName}
use Rattle.fp_small.specs.declared.op.Op.{Op}
use Rattle.fp_small.specs.declared.refusal.Refusal.{Refusal}
use Rattle.fp_small.specs.declared.state.State.{State}
use Rattle.ost_model.specs.Objects.{Have}
use Rattle.ost_walk.specs.Ends.{Outside}
use Rattle.dep_states.specs.After.{state_after, plain}
use Rattle.dep_states.specs.Effects.{Effect, Write, effect_of, BringsCommit, brings, writes, moves, leaves, sets, migrates, layers, bares}
use Rattle.dep_states.proofs.Lasting.{TakesFiles, the_settings, an_override}
use Rattle.dep_states.specs.Links.{Links}
use Rattle.dep_states.specs.Names.{config, override_path}
use Rattle.dep_states.specs.Sound.{Opens}
use Rattle.dep_states.specs.Switch.{OpensEither}
use Rattle.dep_states.proofs.Linked.{links_lasting}
use Rattle.op_change.specs.Deploys.{SameObjects}
use Rattle.op_change.specs.Readying.{store_config}
use Rattle.op_change.proofs.StoreConfig.{no_change}
use Rattle.op_change.proofs.Deployed.{deploys_file}
use Rattle.op_change.proofs.Brought.{same_end}
use Rattle.ost_store.proofs.Creating.{creates_to}
use Rattle.op_change.specs.Applied.{Brings, MayChange, MayWrite, ChangesName, have_for, done_with, time_by, op_refusal, refusal_by, Applies, WasApplied, IsStarved, AppliesWith, AppliesPlainly, HasObjectsFor, HasObjectsBy, IsBroughtFor, IsLackedBy}
use Rattle.op_change.specs.Attempts.{Attempts}
use Rattle.op_change.specs.Ends.{of_host}
use Rattle.op_change.specs.Plainly.{DoesPlainly, WasDonePlainly, IsStarvedPlainly}
use Rattle.op_change.specs.declared.ending.ApplyEnd.{ApplyEnd}
use Rattle.op_change.specs.declared.ending.ApplyEnd.TheVariants as apply_ends

-- ---- by the effect

no_time : (have : Have) (e : Effect) → (BringsCommit e → ⊥) → time_by have e ≡ 0
no_time have (brings name remote commit) off = absurd (off tt)
no_time have (writes write) off = refl

pub done_plain : (have : Have) (op : Op) → (Brings op → ⊥) → done_with have op ≡ plain op
done_plain have op off = ap (λ (n : ℕ). record { op = op; timestamp = n }) (no_time have (effect_of op) off)

none_refused_by : (have : Have) (e : Effect) → (BringsCommit e → ⊥) → refusal_by have e ≡ None
none_refused_by have (brings name remote commit) off = absurd (off tt)
none_refused_by have (writes write) off = refl

pub none_refused : (have : Have) (op : Op) → (Brings op → ⊥) → op_refusal have op ≡ None
none_refused have op off = none_refused_by have (effect_of op) off

same_by : (have : Have) (e : Effect) (u w : View) → (BringsCommit e → ⊥) → SameObjects u w → HasObjectsBy have e u w
same_by have (brings name remote commit) u w off same = absurd (off tt)
same_by have (writes write) u w off same = same

same_for : (have : Have) (op : Op) (u w : View) → (Brings op → ⊥) → SameObjects u w → HasObjectsFor have op u w
same_for have op u w off same = same_by have (effect_of op) u w off same

-- ---- files

-- a file comes to the name that is replaced, or is work
replaces_file : (p : Elements) → TakesFiles p → (u : View) (q : Elements) (id : ℕ) → ReplacesName p u q (file id) → TakesFiles q ⊎ IsWithin tmp q
replaces_file p lasts u q id (inl new) = inl (subst TakesFiles (sym new.0) lasts)
replaces_file p lasts u q id (inr (inl made)) = absurd (cc made.1)
replaces_file p lasts u q id (inr (inr work)) = inr (inr (subst (IsAbove tmp) (sym work.is) (inl refl)))

config_file : (u : View) (q : Elements) (id : ℕ) → ReplacesName config u q (file id) → TakesFiles q ⊎ IsWithin tmp q
config_file = replaces_file config (the_settings refl)

write_file : (write : Write) (u : View) (q : Elements) (id : ℕ) → MayWrite write u q (file id) → TakesFiles q ⊎ IsWithin tmp q
write_file (moves name commit) u q id put = deploys_file name commit q id put
write_file (leaves name) u q id put = absurd (cc put.1)
write_file sets u q id put = config_file u q id put
write_file migrates u q id put = config_file u q id put
write_file (layers row) u q id put = replaces_file (override_path row.name) (an_override row.name refl) u q id put
write_file (bares name) u q id put = absurd (cc put.1)

effect_file : (s : State) (e : Effect) → (BringsCommit e → ⊥) → (u : View) (q : Elements) (id : ℕ) → ChangesName s e u q (file id) → TakesFiles q ⊎ IsWithin tmp q
effect_file s (brings name remote commit) off u q id put = absurd (off tt)
effect_file s (writes write) off u q id put = write_file write u q id put

may_file : (s : State) (op : Op) → (Brings op → ⊥) → (u : View) (q : Elements) (id : ℕ) → MayChange s op u q (file id) → TakesFiles q ⊎ IsWithin tmp q
may_file s op off u q id put = effect_file s (effect_of op) off u q id put

may_links : (s : State) (op : Op) → (Brings op → ⊥) → {u w : View} → ((q : Elements) → (w.names q ≡ u.names q) ⊎ MayChange s op u q (w.names q)) → Links u w
may_links s op off {u = u} names = links_lasting (MayChange s op u) names (may_file s op off u)

-- no object is brought
brings_none_by : (have : Have) (e : Effect) (u : View) (o : List ℕ × ObjKind) → (BringsCommit e → ⊥) → IsLackedBy have e u o → ⊥
brings_none_by have (brings name remote commit) u o off is = off tt
brings_none_by have (writes write) u o off is = is

brings_none : (have : Have) (op : Op) (u : View) (o : List ℕ × ObjKind) → (Brings op → ⊥) → IsBroughtFor have op u o → ⊥
brings_none have op u o off is = brings_none_by have (effect_of op) u o off is

-- ---- so it is applied

module _ (s : State) (op : Op) (off : Brings op → ⊥) where
  after_is : (have : Have) → state_after s (plain op) ≡ state_after s (done_with have op)
  after_is have = sym (ap (state_after s) (done_plain have op off))

  applies : {holds : Option Holdings} {u w : View} → DoesPlainly s op u w → Applies s op holds u w
  applies {u = u} {w = w} does = record {
    either = λ held is opens. subst (λ (t : State). OpensEither s t w) (after_is (have_for s op held u)) (does.either opens);
    refused = λ held is r refused opens. absurd (none_some (sym (none_refused (have_for s op held u) op off) ∙ refused));
    changes = λ opens. record { names = does.names; config_stays = λ there. elim (does.names store_config) [ inl same ↦ same | inr put ↦ absurd (no_change s op off u _ put) ]; files = does.files; links = may_links s op off does.names; printed = does.printed };
  }

  goes_plain : {holds : Option Holdings} {a b : Option Moments} → IsTold a → Always (DoesPlainly s op) a b → Always (Applies s op holds) a b
  goes_plain told goes = begins told goes (λ u w t r. applies r) (λ u w t r e. applies e)

  end_plain : {holds : Option Holdings} {a b : Option Moments} → AtEnd (WasDonePlainly s op) a b → AtEnd (WasApplied s op holds) a b
  end_plain done = ends_to done (λ u w d. record {
    opens = λ held is opens. subst (λ (t : State). Opens t w) (after_is (have_for s op held u)) (d.opens opens);
    objects = λ held is opens. same_for (have_for s op held u) op u w off d.objects;
    shares = λ held is opens. d.shares;
    creates = λ held is opens. creates_to (λ o none. absurd none) (λ o brought. brings_none (have_for s op held u) op u o off brought) d.creates;
    settled = d.settled;
    settings = d.settings;
  })

  ok_plain : (have : Have) (t : State) → t ≡ state_after s (plain op) → AppliesWith have s op (Ok t)
  ok_plain have t is = (none_refused have op off, is ∙ after_is have)

starved_plain : {s : State} {op : Op} {holds : Option Holdings} {a b : Option Moments} → AtEnd (IsStarvedPlainly s op) a b → AtEnd (IsStarved s op holds) a b
starved_plain starved = ends_to starved (λ u w d. record { opens = λ told. d.opens; settings = d.settings })

-- ---- how it ends

pub err_with : (have : Have) (s : State) (op : Op) (end : HostEnd) → AppliesWith have s op (Err (of_host end))
err_with have s op host_ends.Fault = tt
err_with have s op host_ends.NoMemory = tt

err_plainly : (s : State) (op : Op) (end : HostEnd) → AppliesPlainly s op (Err (of_host end))
err_plainly s op host_ends.Fault = tt
err_plainly s op host_ends.NoMemory = tt

no_refusal : (end : HostEnd) (r : Refusal) → of_host end ≡ apply_ends.Refused r → ⊥
no_refusal host_ends.Fault r is = cc is
no_refusal host_ends.NoMemory r is = cc is

no_remote : (end : HostEnd) → of_host end ≡ apply_ends.RemoteFault → ⊥
no_remote host_ends.Fault is = cc is
no_remote host_ends.NoMemory is = cc is

is_fault : (end : HostEnd) → of_host end ≡ apply_ends.Fault → end ≡ host_ends.Fault
is_fault host_ends.Fault is = refl
is_fault host_ends.NoMemory is = absurd (cc is)

is_starved : (end : HostEnd) → of_host end ≡ apply_ends.NoMemory → end ≡ host_ends.NoMemory
is_starved host_ends.Fault is = absurd (cc is)
is_starved host_ends.NoMemory is = refl

module _ {A : Type 0} (end : HostEnd) (result : ApplyEnd) (from : result ≡ of_host end) where
  pub never_refused : (r : Refusal) → IsErrOf {T = A} (Err result) (apply_ends.Refused r) → ⊥
  never_refused r is = no_refusal end r (sym from ∙ same_end {A = A} result (apply_ends.Refused r) is)

  pub never_remote : IsErrOf {T = A} (Err result) apply_ends.RemoteFault → ⊥
  never_remote is = no_remote end (sym from ∙ same_end {A = A} result apply_ends.RemoteFault is)

module _ {A B : Type 0} (end : HostEnd) (result : ApplyEnd) (from : result ≡ of_host end) where
  pub host_fault : IsErrOf {T = A} (Err result) apply_ends.Fault → IsErrOf {T = B} (Err end) host_ends.Fault
  host_fault is = ap (λ (e : HostEnd). Err e) (is_fault end (sym from ∙ same_end {A = A} result apply_ends.Fault is))

  pub host_starved : IsErrOf {T = A} (Err result) apply_ends.NoMemory → IsErrOf {T = B} (Err end) host_ends.NoMemory
  host_starved is = ap (λ (e : HostEnd). Err e) (is_starved end (sym from ∙ same_end {A = A} result apply_ends.NoMemory is))

-- ---- as one whole

-- what the call that does it tells
pub record Plainly (s : State) (op : Op) (result : Result State HostEnd) (u w : Outside) : Type 0 where
  pub told : IsTold u.told
  pub state : IfOk result (λ o. o ≡ state_after s (plain op))
  pub moments : Always (DoesPlainly s op) u.told w.told
  pub success : OnOk result (AtEnd (WasDonePlainly s op) u.told w.told)
  pub starved : IsErrOf result host_ends.NoMemory → AtEnd (IsStarvedPlainly s op) u.told w.told
  pub host : IsCaused (IsErrOf result host_ends.Fault) u.told (Opens s) u.host_faults w.host_faults
  pub holdings : w.holdings ≡ u.holdings
  pub remote_faults : w.remote_faults ≡ u.remote_faults

module _ (s : State) (op : Op) (off : Brings op → ⊥) {u w : Outside} where
  pub attempts_plain : (t : State) → Plainly s op (Ok t) u w → Attempts s op (Ok t) u w
  attempts_plain t p = record {
    same = p.holdings;
    answers = λ have x files. ok_plain s op off have t p.state;
    plain = λ none. p.state;
    moments = goes_plain s op off p.told p.moments;
    success = end_plain s op off p.success;
    refused = λ r is. absurd (cc is);
    remote_fault = λ is. absurd (cc is);
    starved = λ is. absurd (cc is);
    host = record { later = p.host.later; fault = λ is. absurd (cc is.1) };
    remote = record { later = omega (arith, p.remote_faults); rose = λ is. absurd (cc is) };
    unasked = λ none. p.remote_faults;
  }

  not_plain : (end : HostEnd) → Plainly s op (Err end) u w → Attempts s op (Err (of_host end)) u w
  not_plain end p = record {
    same = p.holdings;
    answers = λ have x files. err_with have s op end;
    plain = λ none. err_plainly s op end;
    moments = goes_plain s op off p.told p.moments;
    success = tt;
    refused = λ r is. absurd (never_refused {A = State} end (of_host end) refl r is);
    remote_fault = λ is. absurd (never_remote {A = State} end (of_host end) refl is);
    starved = λ is. starved_plain (p.starved (host_starved {A = State} {B = State} end (of_host end) refl is));
    host = record { later = p.host.later; fault = λ is. p.host.fault (host_fault {A = State} {B = State} end (of_host end) refl is.1) };
    remote = record { later = omega (arith, p.remote_faults); rose = λ is. absurd (never_remote {A = State} end (of_host end) refl is) };
    unasked = λ none. p.remote_faults;
  }

  pub attempts_not_plain : (end : HostEnd) (result : ApplyEnd) → result ≡ of_host end → Plainly s op (Err end) u w → Attempts s op (Err result) u w
  attempts_not_plain end result from p = subst (λ (e : ApplyEnd). Attempts s op (Err e) u w) (sym from) (not_plain end p)
