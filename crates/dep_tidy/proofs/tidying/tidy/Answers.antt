use Rattle.fp_host.proofs.Cause.{same_fault}
use Rattle.fp_host.proofs.Goes.{begins, makes_goes}
use Rattle.fp_host.proofs.Ending.{ends_on, ends_goes, fault_caused}
use Rattle.dep_states.specs.Sound.{Opens}
use Rattle.dep_tidy.specs.Steps.{IsReady}
use Rattle.dep_tidy.proofs.Joined.{tidies_sync, synced_goes, settled_goes, tidying_of, ready_of, tidied_of}
use Rattle.dep_tidy.proofs.tidying.tidy.Goals as goal

pub returns-in_err-sync-clause-any_moment : goal.returns-in_err-sync-clause-any_moment
returns-in_err-sync-clause-any_moment g c = begins (g.met.H.Host.is_tree c.args.host.now) (makes_goes c.sync.ensures.step) (λ u w tree s. tidies_sync tree s) (λ u w tree s e. tidies_sync tree e)

pub returns-in_err-settle-clause-any_moment : goal.returns-in_err-settle-clause-any_moment
returns-in_err-settle-clause-any_moment g c =
    let t = g.met.H.Host.is_tree in
    settled_goes (t c.args.host.now) (t c.sync.new.self) (synced_goes {s = c.args.opened} (t c.args.host.now) (t c.sync.new.self) c.in_ok-sync.ensures.step) (tidying_of c.state.ensures c.settle.ensures.any_moment)

pub returns-in_err-settle-clause-fault_has_cause : goal.returns-in_err-settle-clause-fault_has_cause
returns-in_err-settle-clause-fault_has_cause g c =
    let t = g.met.H.Host.is_tree in
    let first = synced_goes {s = c.args.opened} (t c.args.host.now) (t c.sync.new.self) c.in_ok-sync.ensures.step in
    fault_caused (Opens c.args.opened) (IsReady c.state.result.now) _ _ _ _ _ (t c.args.host.now) c.sync.ensures.fault_has_cause.later (ends_goes (t c.args.host.now) first) c.settle.ensures.fault_has_cause (same_fault _ _ _ c.in_err-settle.was c.from_residual-in_err-settle.ensures.1)
    (λ u v tree q opens. ready_of c.state.ensures q opens)

pub returns-clause-any_moment : goal.returns-clause-any_moment
returns-clause-any_moment g c =
    let t = g.met.H.Host.is_tree in
    settled_goes (t c.args.host.now) (t c.sync.new.self) (synced_goes {s = c.args.opened} (t c.args.host.now) (t c.sync.new.self) c.in_ok-sync.ensures.step) (tidying_of c.state.ensures c.settle.ensures.any_moment)

pub returns-clause-on_success : goal.returns-clause-on_success
returns-clause-on_success g c =
    let t = g.met.H.Host.is_tree in
    let first = synced_goes {s = c.args.opened} (t c.args.host.now) (t c.sync.new.self) c.in_ok-sync.ensures.step in
    ends_on c.in_ok-settle.ensures.on_success (ends_goes (t c.args.host.now) first) (t c.sync.new.self) (λ u v w tree q x. tidied_of c.state.ensures q (x q.1))
