use Rattle.std.proofs.Common.{arith, refl}
use Rattle.fp_host.specs.View.{IsTree}
use Rattle.fp_host.specs.Outcome.{shows}
use Rattle.fp_host.proofs.Cause.{same_fault, clash_step}
use Rattle.fp_host.proofs.Goes.{stays}
use Rattle.fp_host.proofs.Ending.{ends_on, ends_both, ends_goes, ends_in_tree, ends_call, call_caused, fault_caused}
use Rattle.fp_small.specs.Places.{repo}
use Rattle.ost_store.specs.Names.{CanList}
use Rattle.dep_states.specs.Sound.{Opens}
use Rattle.dep_states.specs.Settled.{Settled}
use Rattle.dep_tidy.specs.Steps.{IsReady, IsSteady, HasRefs}
use Rattle.dep_tidy.proofs.Joined.{tidies_same, tidying, going_on, pruning_on, ended_goes, was_tidied, ready_on, ready_more, Going}
use Rattle.dep_tidy.proofs.Pruned.{can_list}
use Rattle.dep_tidy.proofs.Ended.{all_settled}
use Rattle.dep_tidy.proofs.Lasted.{lasts_on, lasts_frame}
use Rattle.dep_tidy.specs.Lasts.{Lasts}
use Rattle.dep_tidy.proofs.tidying.settle.Goals as goal

pub returns-in_err-repo-clause-any_moment : goal.returns-in_err-repo-clause-any_moment
returns-in_err-repo-clause-any_moment g c = stays (g.met.H.Host.is_tree c.args.host.now) (λ u steady. tidies_same refl) (λ u t steady. tidies_same refl)

pub returns-in_err-clear_left-clause-any_moment : goal.returns-in_err-clear_left-clause-any_moment
returns-in_err-clear_left-clause-any_moment g c = tidying c.clear_left.ensures.any_moment

pub returns-in_err-settle_refs-clause-any_moment : goal.returns-in_err-settle_refs-clause-any_moment
returns-in_err-settle_refs-clause-any_moment g c =
    let t = g.met.H.Host.is_tree in
    tidying (going_on (t c.args.host.now) (t c.clear_left.new.host) c.clear_left.ensures.any_moment c.settle_refs.ensures.any_moment (λ u w tree k. k) (λ u w tree k. k))

pub returns-in_err-settle_refs-clause-fault_has_cause : goal.returns-in_err-settle_refs-clause-fault_has_cause
returns-in_err-settle_refs-clause-fault_has_cause g c =
    let t = g.met.H.Host.is_tree in
    let s = c.args.state.now in
    fault_caused (IsReady s) (IsReady s) _ _ _ _ _ (t c.args.host.now) c.clear_left.ensures.fault_has_cause.later (ends_goes (t c.args.host.now) c.clear_left.ensures.any_moment) c.settle_refs.ensures.fault_has_cause (same_fault _ _ _ c.in_err-settle_refs.was c.from_residual-in_err-settle_refs.ensures.1)
    (λ u v tree step ready. ready_more step ready)

pub returns-in_err-prune_unused-clause-any_moment : goal.returns-in_err-prune_unused-clause-any_moment
returns-in_err-prune_unused-clause-any_moment g c =
    let t = g.met.H.Host.is_tree in
    let next = going_on {s = c.args.state.now} (t c.args.host.now) (t c.clear_left.new.host) c.clear_left.ensures.any_moment c.settle_refs.ensures.any_moment (λ u w tree k. k) (λ u w tree k. k) in
    pruning_on (t c.args.host.now) (t c.settle_refs.new.host) next c.prune_unused.ensures.any_moment

pub returns-in_err-prune_unused-clause-fault_has_cause : goal.returns-in_err-prune_unused-clause-fault_has_cause
returns-in_err-prune_unused-clause-fault_has_cause g c =
    let t = g.met.H.Host.is_tree in
    let s = c.args.state.now in
    let next = going_on {s = s} (t c.args.host.now) (t c.clear_left.new.host) c.clear_left.ensures.any_moment c.settle_refs.ensures.any_moment (λ u w tree k. k) (λ u w tree k. k) in
    fault_caused {Q = λ u v. IsTree v × Going s u v} (IsReady s) (CanList repo) _ _ _ _ _ (t c.args.host.now) (omega (arith, c.clear_left.ensures.fault_has_cause.later, c.settle_refs.ensures.fault_has_cause.later))
    (ends_in_tree (t c.settle_refs.new.host) (ends_goes (t c.args.host.now) next) (λ u v tree q. (tree, q))) c.prune_unused.ensures.fault_has_cause
    (same_fault _ _ _ c.in_err-prune_unused.was c.from_residual-in_err-prune_unused.ensures.1) (λ u v tree q ready. can_list (ready_on q.1 ready) q.0)

pub returns-in_err-sync-clause-any_moment : goal.returns-in_err-sync-clause-any_moment
returns-in_err-sync-clause-any_moment g c =
    let t = g.met.H.Host.is_tree in
    let next = going_on {s = c.args.state.now} (t c.args.host.now) (t c.clear_left.new.host) c.clear_left.ensures.any_moment c.settle_refs.ensures.any_moment (λ u w tree k. k) (λ u w tree k. k) in
    ended_goes (t c.args.host.now) (t c.prune_unused.new.host) (pruning_on (t c.args.host.now) (t c.settle_refs.new.host) next c.prune_unused.ensures.any_moment) c.sync.ensures.step

pub returns-in_err-sync-clause-fault_has_cause : goal.returns-in_err-sync-clause-fault_has_cause
returns-in_err-sync-clause-fault_has_cause g c =
    let t = g.met.H.Host.is_tree in
    let s = c.args.state.now in
    let next = going_on {s = s} (t c.args.host.now) (t c.clear_left.new.host) c.clear_left.ensures.any_moment c.settle_refs.ensures.any_moment (λ u w tree k. k) (λ u w tree k. k) in
    let all = pruning_on (t c.args.host.now) (t c.settle_refs.new.host) next c.prune_unused.ensures.any_moment in
    call_caused (IsReady s) (λ v. Unit {0}) _ _ _ _ _ (t c.args.host.now) (omega (arith, c.clear_left.ensures.fault_has_cause.later, c.settle_refs.ensures.fault_has_cause.later, c.prune_unused.ensures.fault_has_cause.later)) (ends_goes (t c.args.host.now) all)
    c.in_err-sync.ensures.step c.in_err-sync.ensures.fault_has_cause c.from_residual-in_err-sync.ensures.1 (λ v w step clash. clash_step step clash) (λ u v tree q ready. tt)

pub returns-clause-any_moment : goal.returns-clause-any_moment
returns-clause-any_moment g c =
    let t = g.met.H.Host.is_tree in
    let next = going_on {s = c.args.state.now} (t c.args.host.now) (t c.clear_left.new.host) c.clear_left.ensures.any_moment c.settle_refs.ensures.any_moment (λ u w tree k. k) (λ u w tree k. k) in
    ended_goes (t c.args.host.now) (t c.prune_unused.new.host) (pruning_on (t c.args.host.now) (t c.settle_refs.new.host) next c.prune_unused.ensures.any_moment) c.sync.ensures.step

pub returns-clause-on_success : goal.returns-clause-on_success
returns-clause-on_success g c =
    let t = g.met.H.Host.is_tree in
    let s = c.args.state.now in
    let next = going_on {s = s} (t c.args.host.now) (t c.clear_left.new.host) c.clear_left.ensures.any_moment c.settle_refs.ensures.any_moment (λ u w tree k. k) (λ u w tree k. k) in
    let refs = ends_on {Q' = λ u v. IsSteady u → Opens s u → HasRefs s v} c.in_ok-settle_refs.ensures.on_success (ends_both (ends_goes (t c.args.host.now) c.clear_left.ensures.any_moment) c.in_ok-clear_left.ensures.on_success) (t c.clear_left.new.host)
    (λ u v w tree q has steady opens. has q.1 (ready_on q.0 (record { steady = steady; opens = opens }))) in
    let pruned = ends_in_tree {Q' = λ u w. IsSteady u → Opens s u → Settled (shows w)} (t c.prune_unused.new.host)
    (ends_on {Q' = λ u w. IsTree w → IsSteady u → Opens s u → Settled (shows w)} (ends_both (ends_goes (t c.settle_refs.new.host) c.prune_unused.ensures.any_moment) c.in_ok-prune_unused.ensures.on_success) (ends_both (ends_goes (t c.args.host.now) next) refs) (t c.settle_refs.new.host)
    (λ u v w tree q z after steady opens. let ready = ready_more q.0 (record { steady = steady; opens = opens }) in all_settled tree after ready.opens ready.steady (q.1 steady opens) z.0 z.1))
    (λ u w tree q. q tree) in
    let shared = ends_on {Q' = λ u v. IsSteady u → Lasts u v} (ends_both (ends_goes (t c.clear_left.new.host) c.settle_refs.ensures.any_moment) c.in_ok-settle_refs.ensures.lasts)
    (ends_both (ends_goes (t c.args.host.now) c.clear_left.ensures.any_moment) c.in_ok-clear_left.ensures.lasts) (t c.clear_left.new.host)
    (λ u v w tree q z steady. lasts_on q.1 z.1) in
    let came = ends_on {Q' = λ u v. IsSteady u → Lasts u v} (ends_goes (t c.settle_refs.new.host) c.prune_unused.ensures.any_moment) shared (t c.settle_refs.new.host) (λ u v w tree q z steady. lasts_on (q steady) (lasts_frame _ z.keeps (λ p id away. cc away.1))) in
    ends_on (ends_call (t c.prune_unused.new.host) c.in_ok-sync.ensures.step) (ends_both pruned came) (t c.prune_unused.new.host) (λ u v w tree q step steady. was_tidied (q.0 steady) (q.1 steady) step)
