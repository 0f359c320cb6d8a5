-- The steps of a commit that is fetched, call by call.
use Rattle.std.proofs.Common.{◌≡◌, inl, inr, ℕ, List, Bool, true, false, Option, Some, None, Result, Ok, Err, refl, sym, ◌∙◌, ap, subst}
use Rattle.std.specs.Prelude.{IsErrOf}
use Rattle.fp_host.specs.Causes.{IsCaused}
use Rattle.fp_host.specs.Frame.{Frame, AtEnd, NoPath}
use Rattle.fp_host.specs.Moments.{Moments, Always}
use Rattle.fp_host.specs.Paths.{Elements, absent}
use Rattle.fp_host.specs.Remote.{Holdings}
use Rattle.fp_host.specs.View.{View, IsTree}
use Rattle.fp_host.proofs.Ending.{ends_goes, ends_both, ends_on, ends_to, ends_in_tree, goes_known}
use Rattle.fp_host.proofs.Framed.{IsTold}
use Rattle.fp_host.proofs.Goes.{begins, goes_on}
use Rattle.fp_name.specs.Hex.{is_digest}
use Rattle.fp_name.specs.Refs.{Ref, is_ref}
use Rattle.fp_small.specs.Places.{repo, tmp}
use Rattle.fp_small.specs.declared.refusal.Refusal.{Refusal}
use Rattle.fp_small.specs.declared.state.State.{State}
use Rattle.ost_model.specs.Objects.{Have, supply}
use Rattle.ost_model.specs.Remotes.{Supplies, remote}
use Rattle.ost_checkout.specs.Checkout.{HasReserved}
use Rattle.ost_walk.specs.declared.pull_end.PullEnd.{PullEnd}
use Rattle.ost_walk.specs.declared.pull_end.PullEnd.TheVariants as ends
use Rattle.ost_pull.specs.Pulls.{CanPull, HasTrueFiles, HasTrueFilesNow, PullsSoundly, Refuses, WasPulled, WasRefused}
use Rattle.dep_states.specs.Frames.{KeptIn}
use Rattle.dep_states.specs.Names.{commit_dir}
use Rattle.dep_states.specs.Sound.{Opens}
use Rattle.op_change.specs.Bringing.{AreTold}
use Rattle.op_change.specs.Brought.{supply_at}
use Rattle.op_change.specs.Fetching.{Fetches, WasFetched, HasNoDeploy, WasTurnedDown}
use Rattle.op_change.specs.Furnishing.{Furnishes, WasFurnished, CanFurnish}
use Rattle.op_change.specs.Places.{pull_work}
use Rattle.op_change.specs.Rooms.{RoomAt, RoomName, HasRoom, CanMakeRoom}
use Rattle.op_change.proofs.Able.{can_pull, can_furnish}
use Rattle.op_change.proofs.Brings.{supplied_true, true_now}
use Rattle.op_change.proofs.Changing.{room_store}
use Rattle.op_change.proofs.Fetched.{AtPull, RoomMade, fetches_room, fetches_pull, fetches_furnish, was_fetched, not_reserved, turned_down, at_still, whole, dir_pulled, room_still, pulls_of}
use Rattle.op_change.proofs.Cleared.{can_make_room}
use Rattle.op_change.proofs.Pulling.{true_files, true_same}

-- ---- the paths are those of the commit

pub room_at : {t f p q : Elements} {kept : Bool} {a b : Option Moments} → t ≡ p → f ≡ q → Frame (RoomAt t f kept) (RoomName t f kept) NoPath a b → Frame (RoomAt p q kept) (RoomName p q kept) NoPath a b
room_at {f = f} {p = p} {kept = kept} {a = a} {b = b} t_is f_is frame =
    subst (λ (x : Elements). Frame (RoomAt p x kept) (RoomName p x kept) NoPath a b) f_is (subst (λ (x : Elements). Frame (RoomAt x f kept) (RoomName x f kept) NoPath a b) t_is frame)

pub has_room_at : {t f p q : Elements} {kept : Bool} {a b : Option Moments} → t ≡ p → f ≡ q → AtEnd (λ u w. HasRoom t f kept w) a b → AtEnd (λ u w. HasRoom p q kept w) a b
has_room_at {f = f} {p = p} {kept = kept} {a = a} {b = b} t_is f_is has =
    subst (λ (x : Elements). AtEnd (λ u w. HasRoom p x kept w) a b) f_is (subst (λ (x : Elements). AtEnd (λ u w. HasRoom x f kept w) a b) t_is has)

pub pulls_at : {r t p q : Elements} {a b : Option Moments} → r ≡ p → t ≡ q → Always (PullsSoundly r t) a b → Always (PullsSoundly p q) a b
pulls_at {t = t} {p = p} {a = a} {b = b} r_is t_is goes = subst (λ (x : Elements). Always (PullsSoundly p x) a b) t_is (subst (λ (x : Elements). Always (PullsSoundly x t) a b) r_is goes)

pub pulled_at : {r t p q : Elements} {url : List ℕ} {holds : Option Holdings} {commit : List ℕ} {a b : Option Moments} → r ≡ p → t ≡ q
    → ((have : Have) → Supplies r (Some url) a holds have → HasTrueFilesNow r a → AtEnd (WasPulled r t have commit) a b) → (have : Have) → Supplies p (Some url) a holds have → HasTrueFilesNow p a → AtEnd (WasPulled p q have commit) a b
pulled_at {t = t} {p = p} {url = url} {holds = holds} {commit = commit} {a = a} {b = b} r_is t_is each =
    subst (λ (y : Elements). (have : Have) → Supplies p (Some url) a holds have → HasTrueFilesNow p a → AtEnd (WasPulled p y have commit) a b) t_is
    (subst (λ (x : Elements). (have : Have) → Supplies x (Some url) a holds have → HasTrueFilesNow x a → AtEnd (WasPulled x t have commit) a b) r_is each)

-- ---- call by call

module _ (s : State) (name : Ref) (commit url : List ℕ) (kept : Bool) (holds : Option Holdings) (digits : is_digest commit ≡ true) (unkept : kept ≡ false → KeptIn s name commit → ⊥) where
  pub goes_room : {a b : Option Moments} → IsTold a → Frame (RoomAt tmp (commit_dir name commit) kept) (RoomName tmp (commit_dir name commit) kept) NoPath a b → Always (Fetches s name commit holds) a b
  goes_room told frame = begins told frame.goes (λ u w t k. fetches_room s name commit url kept holds digits unkept k) (λ u w t k e. fetches_room s name commit url kept holds digits unkept e)

  pub goes_pull : {a b c : Option Moments} → IsTold a → IsTold b → Frame (RoomAt tmp (commit_dir name commit) kept) (RoomName tmp (commit_dir name commit) kept) NoPath a b → Always (PullsSoundly repo pull_work) b c → Always (Fetches s name commit holds) a c
  goes_pull told mid frame pulls =
      goes_on {Q = (RoomMade name commit kept)} mid (begins told frame.goes (λ u w t k. fetches_room s name commit url kept holds digits unkept k) (λ u w t k e. e)) pulls
      (λ u v w t r q x. fetches_pull s name commit url kept holds digits unkept q x) (λ u v w t r q x e. fetches_pull s name commit url kept holds digits unkept q e)

  -- room was made, from a tree
  pub made_room : {a b : Option Moments} → IsTold a → Frame (RoomAt tmp (commit_dir name commit) kept) (RoomName tmp (commit_dir name commit) kept) NoPath a b → AtEnd (λ u w. HasRoom tmp (commit_dir name commit) kept w) a b → AtEnd (λ u w. IsTree u × ((RoomMade name commit kept) u w × HasRoom tmp (commit_dir name commit) kept w)) a b
  made_room told frame has = record { goes = begins told (goes_known frame.goes has) (λ u w t k. tt) (λ u w t k q. (t, q)) }

  pub at_pull : {a b c : Option Moments} → IsTold a → IsTold b → Frame (RoomAt tmp (commit_dir name commit) kept) (RoomName tmp (commit_dir name commit) kept) NoPath a b → AtEnd (λ u w. HasRoom tmp (commit_dir name commit) kept w) a b
      → Always (PullsSoundly repo pull_work) b c → ((have : Have) → Supplies repo (Some url) b holds have → HasTrueFilesNow repo b → AtEnd (WasPulled repo pull_work have commit) b c) → AtEnd (AtPull name commit url kept holds) a c
  at_pull told mid frame has pulls each =
      ends_on (ends_both (ends_goes mid pulls) (supplied_true {Q = λ have v w. WasPulled repo pull_work have commit v w} (ends_goes mid pulls) each)) (made_room told frame has) mid
      (λ u v w tree q e. record { between = v; before = q.0; tree = tree; room = q.1.0; has = q.1.1; pull = e.0; was = e.1 })

  pub goes_furnish : {a c d : Option Moments} → IsTold c → Always (Fetches s name commit holds) a c → AtEnd (AtPull name commit url kept holds) a c → Always (Furnishes commit (commit_dir name commit) kept) c d → Always (Fetches s name commit holds) a d
  goes_furnish mid first known furnishes =
      goes_on mid (goes_known first known) furnishes (λ u v w t r q x. fetches_furnish s name commit url kept holds digits unkept q.1 t x) (λ u v w t r q x e. fetches_furnish s name commit url kept holds digits unkept q.1 t e)

  -- what is known of the last view
  between : {Q : View → View → Type 0} {a c d : Option Moments} → IsTold c → AtEnd (AtPull name commit url kept holds) a c → AtEnd Q c d → AtEnd (λ u w. (v : View) × IsTree v × ((AtPull name commit url kept holds) u v × Q v w)) a d
  between mid known last = ends_on last known mid (λ u v w tree q e. (v, tree, (q, e)))

  pub end_furnish : {a c d : Option Moments} → IsTold c → IsTold d → AtEnd (AtPull name commit url kept holds) a c → Always (Furnishes commit (commit_dir name commit) kept) c d → AtEnd (WasFurnished commit (commit_dir name commit) kept) c d → AtEnd (WasFetched s name commit kept url holds) a d
  end_furnish mid last known furnishes done =
      ends_in_tree last (between mid known (ends_both (ends_goes mid furnishes) done)) (λ u w tree q. was_fetched s name commit url kept holds digits unkept q.2.0 q.1 tree q.2.1.0 q.2.1.1)

  pub end_reserved : {a c d : Option Moments} → IsTold c → IsTold d → AtEnd (AtPull name commit url kept holds) a c → Always (Furnishes commit (commit_dir name commit) kept) c d → AtEnd (λ u w. HasReserved repo commit w) c d
      → AtEnd (λ u w. HasTrueFiles repo u → (held : Holdings) → holds ≡ Some held → HasNoDeploy (supply_at held (Some url) u) commit → ⊥) a d
  end_reserved mid last known furnishes reserved =
      ends_in_tree last (between mid known (ends_both (ends_goes mid furnishes) reserved)) (λ u w tree q. not_reserved s name commit url kept holds digits unkept q.2.0 q.1 tree q.2.1.0 q.2.1.1)

  pub end_turned : {a b c : Option Moments} → IsTold a → IsTold b → IsTold c → Frame (RoomAt tmp (commit_dir name commit) kept) (RoomName tmp (commit_dir name commit) kept) NoPath a b → AtEnd (λ u w. HasRoom tmp (commit_dir name commit) kept w) a b → Always (PullsSoundly repo pull_work) b c → AtEnd (WasRefused pull_work) b c
      → AtEnd (WasTurnedDown s name commit url holds) a c
  end_turned told mid last frame has pulls refused =
      ends_in_tree {Q = λ u w. (v : View) × IsTree u × IsTree v × ((RoomMade name commit kept) u v × (PullsSoundly repo pull_work v w × WasRefused pull_work v w))} last
      (ends_on (ends_both (ends_goes mid pulls) refused) (made_room told frame has) mid (λ u v w tree q e. (v, q.0, tree, (q.1.0, e))))
      (λ u w tree q. turned_down s name commit url kept holds digits unkept q.1 q.2 tree q.3.0 q.3.1.0 q.3.1.1)

  -- ---- where each can be done

  pub room_can : {u : View} → IsTree u → Opens s u → CanMakeRoom tmp (commit_dir name commit) kept u
  room_can tree opens = can_make_room name commit kept tree opens

  -- with a tree at the end
  pub known_tree : {a c : Option Moments} → IsTold c → AtEnd (AtPull name commit url kept holds) a c → AtEnd (λ u v. IsTree v × (AtPull name commit url kept holds) u v) a c
  known_tree last known = ends_in_tree last known (λ u w tree q. (tree, q))

  pub pull_can : {u v : View} → IsTree v → (RoomMade name commit kept) u v → Opens s u → CanPull repo pull_work v
  pull_can tree made opens = can_pull tree (room_still s name commit url kept holds digits unkept made opens)

  pub furnish_can : {u v : View} → is_ref name ≡ true → IsTree v → (AtPull name commit url kept holds) u v → AreTold holds → Opens s u → CanFurnish commit (commit_dir name commit) kept v
  furnish_can {v = v} good tree known told opens = can_furnish tree (at_still s name commit url kept holds digits unkept known opens) name commit kept good free (whole s name commit url kept holds digits unkept known (true_files opens) told.0 told.1)
    where
      free : kept ≡ false → v.names (commit_dir name commit) ≡ absent
      free is = elim ((pulls_of s name commit url kept holds digits unkept known.room known.pull opens).keeps.names (commit_dir name commit)) [ inl same ↦ same ∙ (known.has.cleared is).gone (commit_dir name commit) (inl refl) | inr put ↦ absurd (dir_pulled name commit known.between (v.names (commit_dir name commit)) put) ]

-- ---- how it ends

pub refuses_none : {A : Type 0} (first : Option Refusal) (result : Result A PullEnd) → first ≡ None → ((r : Refusal) → IsErrOf result (ends.Refused r) → ⊥) → Refuses first result
refuses_none first (Ok a) none never = none
refuses_none first (Err (ends.Refused r)) none never = absurd (never r refl)
refuses_none first (Err ends.HostFault) none never = tt
refuses_none first (Err ends.RemoteFault) none never = tt
refuses_none first (Err ends.NoMemory) none never = tt

-- ---- what is supplied after room was made

pub supplies_after : (name : Ref) (commit : List ℕ) (kept : Bool) (s : State) {url : Option (List ℕ)} {holds : Option Holdings} {have : Have} {a b : Option Moments} → IsTold a → IsTold b
    → Frame (RoomAt tmp (commit_dir name commit) kept) (RoomName tmp (commit_dir name commit) kept) NoPath a b → Supplies repo url a holds have → Supplies repo url b holds have
supplies_after name commit kept s {url = url} told told' frame x =
    let n = frame.goes.told x.moments x.told_is in
    record {
      moments = n.0;
      held = x.held;
      told_is = n.1;
      holdings_are = x.holdings_are;
      is = x.is ∙ ap (λ (own : Have). supply own (remote x.held url)) (sym (room_store s name commit kept (told x.moments x.told_is) (told' n.0 n.1) n.3));
    }

-- the files of the store are still those of their names
pub true_after : (name : Ref) (commit : List ℕ) (kept : Bool) (s : State) {a b : Option Moments} → IsTold a → IsTold b → Frame (RoomAt tmp (commit_dir name commit) kept) (RoomName tmp (commit_dir name commit) kept) NoPath a b
    → (m : Moments) → a ≡ Some m → HasTrueFilesNow repo a → HasTrueFilesNow repo b
true_after name commit kept s told told' frame m at files =
    let n = frame.goes.told m at in
    true_now n.0 n.1 (true_same (room_store s name commit kept (told m at) (told' n.0 n.1) n.3) (files.are m at))

-- ---- the causes at the commit's paths

pub room_cause_at : {F : Type 0} {t f p q : Elements} {kept : Bool} {a : Option Moments} {before now : ℕ} → t ≡ p → f ≡ q → IsCaused F a (CanMakeRoom t f kept) before now → IsCaused F a (CanMakeRoom p q kept) before now
room_cause_at {F = F} {f = f} {p = p} {kept = kept} {a = a} {before = before} {now = now} t_is f_is cause =
    subst (λ (x : Elements). IsCaused F a (CanMakeRoom p x kept) before now) f_is (subst (λ (x : Elements). IsCaused F a (CanMakeRoom x f kept) before now) t_is cause)

pub pull_cause_at : {F : Type 0} {r t p q : Elements} {a : Option Moments} {before now : ℕ} → r ≡ p → t ≡ q → IsCaused F a (CanPull r t) before now → IsCaused F a (CanPull p q) before now
pull_cause_at {F = F} {t = t} {p = p} {a = a} {before = before} {now = now} r_is t_is cause =
    subst (λ (x : Elements). IsCaused F a (CanPull p x) before now) t_is (subst (λ (x : Elements). IsCaused F a (CanPull x t) before now) r_is cause)

pub refused_at : {p q : Elements} {a b : Option Moments} → p ≡ q → AtEnd (WasRefused p) a b → AtEnd (WasRefused q) a b
refused_at {a = a} {b = b} is refused = subst (λ (x : Elements). AtEnd (WasRefused x) a b) is refused

pub supplies_at : {p q : Elements} {url : Option (List ℕ)} {holds : Option Holdings} {have : Have} {a : Option Moments} → p ≡ q → Supplies p url a holds have → Supplies q url a holds have
supplies_at {url = url} {holds = holds} {have = have} {a = a} is x = subst (λ (r : Elements). Supplies r url a holds have) is x

pub true_at : {p q : Elements} {a : Option Moments} → p ≡ q → HasTrueFilesNow p a → HasTrueFilesNow q a
true_at {a = a} is files = subst (λ (r : Elements). HasTrueFilesNow r a) is files

-- a reserved name is none of a commit without one
pub never_reserved : {url : List ℕ} {holds : Option Holdings} (commit : List ℕ) {have : Have} {a b : Option Moments} → Supplies repo (Some url) a holds have → HasTrueFilesNow repo a → HasNoDeploy have commit
    → AtEnd (λ u w. HasTrueFiles repo u → (held : Holdings) → holds ≡ Some held → HasNoDeploy (supply_at held (Some url) u) commit → ⊥) a b → ⊥
never_reserved commit x files none last = (last.goes.told x.moments x.told_is).3 (files.are x.moments x.told_is) x.held x.holdings_are (subst (λ (have : Have). HasNoDeploy have commit) x.is none)

pub turned_by : {s : State} {name : Ref} {commit url : List ℕ} {holds : Option Holdings} {a b : Option Moments} → AtEnd (λ u w. HasTrueFiles repo u → (held : Holdings) → holds ≡ Some held → HasNoDeploy (supply_at held (Some url) u) commit → ⊥) a b → AtEnd (WasTurnedDown s name commit url holds) a b
turned_by never = ends_to never (λ u w no_case. record { objects = λ held told opens none. absurd (no_case (true_files opens) held told none); names = λ held told opens none. absurd (no_case (true_files opens) held told none) })
