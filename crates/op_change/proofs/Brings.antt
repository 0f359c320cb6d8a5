-- A commit that is brought: its head read, fetched, and deployed.
use Rattle.std.proofs.Common.{◌≡◌, ◌≤◌, inl, ℕ, List, Bool, true, Option, Some, None, Result, Ok, Err, refl, sym, ◌∙◌, ap, subst}
use Rattle.std.specs.Option.{option_or}
use Rattle.fp_host.specs.Causes.{IsCaused}
use Rattle.fp_host.specs.Frame.{AtEnd, Unchanged}
use Rattle.fp_host.specs.Moments.{Moments}
use Rattle.fp_host.specs.Remote.{Holdings}
use Rattle.fp_host.specs.View.{View, IsTree}
use Rattle.fp_name.specs.Refs.{Ref, is_ref}
use Rattle.fp_small.specs.Places.{repo}
use Rattle.fp_small.specs.declared.refusal.Refusal.{Refusal}
use Rattle.fp_small.specs.declared.state.State.{State}
use Rattle.fp_small.specs.declared.state.RefRow.{RefRow}
use Rattle.fp_small.specs.declared.state.RemoteRow.{RemoteRow}
use Rattle.ost_model.specs.Objects.{Have}
use Rattle.ost_model.specs.Remotes.{Supplies}
use Rattle.ost_head.specs.Heads.{head_of}
use Rattle.ost_walk.specs.PullEnds.{RefusesBy}
use Rattle.ost_walk.specs.declared.pull_end.PullEnd.{PullEnd}
use Rattle.ost_walk.specs.declared.pull_end.PullEnd.TheVariants as ends
use Rattle.ost_head.specs.declared.head.Head.{Head}
use Rattle.ost_pull.specs.Pulls.{HasTrueFiles, HasTrueFilesNow, first_refusal}
use Rattle.dep_states.specs.Frames.{KeptIn}
use Rattle.dep_states.specs.Sound.{Opens}
use Rattle.dep_switch.specs.Rows.{IsAt}
use Rattle.dep_switch.specs.Staging.{CanStage}
use Rattle.op_change.specs.Bringing.{WasLeft, LeavesNames}
use Rattle.op_change.specs.Brought.{brought_refusal, refusal_in, time_of, row_brought, supply_at}
use Rattle.op_change.specs.Fetching.{Fetches, WasFetched, WasTurnedDown}
use Rattle.op_change.specs.Headed.{IsHeaded}
use Rattle.op_change.specs.Obtaining.{ObtainsWith, WasObtained}
use Rattle.op_change.proofs.Changing.{changes_none}
use Rattle.op_change.proofs.Headed.{head_ok}
use Rattle.op_change.proofs.Settling.{settled_left}
use Rattle.op_change.proofs.Standing.{can_stage}

-- ---- what a supply tells

-- a host that is told, with all that the remotes may hold
pub supplied : {url : Option (List ℕ)} {holds : Option Holdings} {b c : Option Moments} {S : View → View → Type 0} {Q : Have → View → View → Type 0} → AtEnd S b c
    → ((have : Have) → Supplies repo url b holds have → AtEnd (Q have) b c) → AtEnd (λ v w. (held : Holdings) → holds ≡ Some held → Q (supply_at held url v) v w) b c
supplied {url = url} {holds = holds} {Q = Q} first each = record {
  goes = record {
    untold = first.goes.untold;
    told = λ m e.
        let one = first.goes.told m e in (
          one.0,
          one.1,
          one.2,
          λ held told.
              let two = (each (supply_at held url m.now) (record { moments = m; held = held; told_is = e; holdings_are = told; is = refl })).goes.told m e in
              subst (λ (n : Moments). Q (supply_at held url m.now) m.now n.now) (let same : two.0 ≡ one.0 = cc (two.1, one.1) in same) two.3,
        );
  };
}

-- what is so of one view of a told host is so of it now
pub true_now : {told : Option Moments} (m : Moments) → told ≡ Some m → HasTrueFiles repo m.now → HasTrueFilesNow repo told
true_now m at files = record { are = λ n is. let same : n ≡ m = cc (is, at) in subst (λ (k : Moments). HasTrueFiles repo k.now) (sym same) files }

-- the same of a store whose files are those of their names
pub supplied_true : {url : Option (List ℕ)} {holds : Option Holdings} {b c : Option Moments} {S : View → View → Type 0} {Q : Have → View → View → Type 0} → AtEnd S b c
    → ((have : Have) → Supplies repo url b holds have → HasTrueFilesNow repo b → AtEnd (Q have) b c) → AtEnd (λ v w. HasTrueFiles repo v → (held : Holdings) → holds ≡ Some held → Q (supply_at held url v) v w) b c
supplied_true {url = url} {holds = holds} {Q = Q} first each = record {
  goes = record {
    untold = first.goes.untold;
    told = λ m e.
        let one = first.goes.told m e in (
          one.0,
          one.1,
          one.2,
          λ files held told.
              let two = (each (supply_at held url m.now) (record { moments = m; held = held; told_is = e; holdings_are = told; is = refl }) (true_now m e files)).goes.told m e in
              subst (λ (n : Moments). Q (supply_at held url m.now) m.now n.now) (let same : two.0 ≡ one.0 = cc (two.1, one.1) in same) two.3,
        );
  };
}

-- so it goes on where nothing changes
pub true_still : {a b : Option Moments} → Unchanged a b → (m : Moments) → a ≡ Some m → HasTrueFilesNow repo a → HasTrueFilesNow repo b
true_still still m at files = let n = still.goes.told m at in true_now n.0 n.1 (subst (HasTrueFiles repo) (sym n.3.0) (files.are m at))

-- where nothing changes, the same is supplied
pub still_supplied : {text url : List ℕ} {holds now : Option Holdings} {a b : Option Moments} {have : Have} → text ≡ url → Unchanged a b → now ≡ holds → Supplies repo (Some url) a holds have → Supplies repo (Some text) b now have
still_supplied {text = text} {url = url} url_is same_view same s =
    let n = same_view.goes.told s.moments s.told_is in
    record {
      moments = n.0;
      held = s.held;
      told_is = n.1;
      holdings_are = same ∙ s.holdings_are;
      is = s.is ∙ sym (ap (supply_at s.held (Some url)) n.3.0) ∙ sym (ap (λ (x : List ℕ). supply_at s.held (Some x) n.0.now) url_is);
    }

-- ---- the state

pub fetches_same : {s : State} {name : Ref} {commit : List ℕ} {holds : Option Holdings} {u w : View} → w ≡ u → Fetches s name commit holds u w
fetches_same {s = s} {name = name} {commit = commit} {holds = holds} {u = u} same = subst (Fetches s name commit holds u) (sym same) (record { opens = λ told opens. opens; changes = λ opens. changes_none })

-- what is known before the commit is deployed
pub record AtFetch (s : State) (origin : RemoteRow) (name : Ref) (commit : List ℕ) (holds : Option Holdings) (time : ℕ) (kept : Bool) (u v : View) : Type 0 where
  pub before : IsTree u
  pub tree : IsTree v
  pub head : (held : Holdings) → holds ≡ Some held → IsHeaded (supply_at held (Some origin.url) u) name commit time
  pub fetches : Fetches s name commit holds u v
  pub was : WasFetched s name commit kept origin.url holds u v

module _ (s : State) (origin : RemoteRow) (name : Ref) (commit : List ℕ) (holds : Option Holdings) where
  module _ (time : ℕ) (kept : Bool) (good : is_ref name ≡ true) (moves : IsAt s name commit → ⊥) (keeps : kept ≡ true → KeptIn s name commit) (row : RefRow) (row_is : row ≡ row_brought s name origin.name commit time) where
    module _ {u v : View} (p : AtFetch s origin name commit holds time kept u v) (held : Holdings) (told : holds ≡ Some held) where
      can_deploy : Opens s u → CanStage s (row_brought s name origin.name commit time) v
      can_deploy opens = can_stage p.tree good (p.fetches.opens (held, told) opens) (p.head held told) (p.was.fetched held told opens) keeps origin.name moves

      pub can_deploy_row : Opens s u → CanStage s row v
      can_deploy_row opens = subst (λ (r : RefRow). CanStage s r v) (sym row_is) (can_deploy opens)

    pub was_obtained : {u v : View} → AtFetch s origin name commit holds time kept u v → WasObtained s origin name commit holds row u v
    was_obtained p = record {
      stages = λ held told opens. can_deploy_row p held told opens;
      objects = λ held told opens. (p.was.fetched held told opens).objects;
      shares = p.was.shares;
      creates = p.was.creates;
    }

-- ---- where it isn't done

pub left_same : {s : State} {holds : Option Holdings} {u w : View} → w ≡ u → WasLeft s holds u w
left_same {s = s} {holds = holds} {u = u} same = subst (WasLeft s holds u) (sym same) (record { opens = λ told opens. opens; objects = λ told opens d kind digits. refl; settled = λ told opens settled. settled })

pub left_down : {s : State} {name : Ref} {commit url : List ℕ} {time : ℕ} {holds : Option Holdings} {u w : View} → ((held : Holdings) → holds ≡ Some held → IsHeaded (supply_at held (Some url) u) name commit time)
    → IsTree u → IsTree w → Fetches s name commit holds u w → WasTurnedDown s name commit url holds u w → WasLeft s holds u w
left_down head before after fetches down = record {
  opens = fetches.opens;
  objects = λ told opens. down.objects told.0 told.1 opens (head told.0 told.1).no_deploy;
  settled = λ told opens settled. settled_left before after (fetches.changes opens).files (down.names told.0 told.1 opens (head told.0 told.1).no_deploy) opens (fetches.opens told opens) settled;
}

pub names_same : {s : State} {name : Ref} {commit : List ℕ} {holds : Option Holdings} {u w : View} → w ≡ u → LeavesNames s name commit holds u w
names_same {s = s} {name = name} {commit = commit} {holds = holds} {u = u} same = subst (LeavesNames s name commit holds u) (sym same) (record { names = λ told opens q. inl refl })

pub names_down : {s : State} {name : Ref} {commit url : List ℕ} {time : ℕ} {holds : Option Holdings} {u w : View} → ((held : Holdings) → holds ≡ Some held → IsHeaded (supply_at held (Some url) u) name commit time)
    → WasTurnedDown s name commit url holds u w → LeavesNames s name commit holds u w
names_down head down = record { names = λ told opens. down.names told.0 told.1 opens (head told.0 told.1).no_deploy }

-- ---- what is answered

brought_head : (have : Have) (name : Ref) (commit : List ℕ) (r : Refusal) → head_of have name commit None ≡ Err r → brought_refusal have name commit ≡ Some r
brought_head have name commit r is = ap (λ (h : Result Head Refusal). option_or (refusal_in h) (first_refusal have commit)) is

brought_first : (have : Have) (name : Ref) (commit : List ℕ) (h : Head) (first : Option Refusal) → head_of have name commit None ≡ Ok h → first_refusal have commit ≡ first → brought_refusal have name commit ≡ first
brought_first have name commit h first is at = ap (λ (x : Result Head Refusal). option_or (refusal_in x) (first_refusal have commit)) is ∙ at

pub head_answers : (have : Have) (name : Ref) (commit : List ℕ) (end : PullEnd) → RefusesBy (λ r. head_of have name commit None ≡ Err r) end → RefusesBy (λ r. brought_refusal have name commit ≡ Some r) end
head_answers have name commit (ends.Refused r) is = brought_head have name commit r is
head_answers have name commit ends.HostFault is = tt
head_answers have name commit ends.RemoteFault is = tt
head_answers have name commit ends.NoMemory is = tt

pub fetch_answers : (have : Have) (name : Ref) (commit : List ℕ) (h : Head) (end : PullEnd) → head_of have name commit None ≡ Ok h → RefusesBy (λ r. first_refusal have commit ≡ Some r) end → RefusesBy (λ r. brought_refusal have name commit ≡ Some r) end
fetch_answers have name commit h (ends.Refused r) is at = brought_first have name commit h (Some r) is at
fetch_answers have name commit h ends.HostFault is at = tt
fetch_answers have name commit h ends.RemoteFault is at = tt
fetch_answers have name commit h ends.NoMemory is at = tt

pub done_answers : (have : Have) (name : Ref) (commit : List ℕ) (h : Head) (row : RefRow) → head_of have name commit None ≡ Ok h → h.timestamp ≡ row.timestamp → first_refusal have commit ≡ None → ObtainsWith have name commit (Ok row)
done_answers have name commit h row is time at =
    let headed = head_ok have name commit None is in
    (brought_first have name commit h None is at, sym time ∙ sym (ap time_of headed.read ∙ headed.time_is))

-- ---- the cause of a fault

pub where_told : {F E : Type 0} {a : Option Moments} {C : View → Type 0} {before now : ℕ} → before ≤ now → (F → IsCaused E a C before now) → IsCaused (F × E) a C before now
where_told later each = record { later = later; fault = λ f. (each f.0).fault f.1 }
