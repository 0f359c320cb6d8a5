use Rattle.std.proofs.Common.{sym, subst, arith}
use Rattle.std.proofs.lemmas.Result.{on_ok_weaker}
use Rattle.fp_host.specs.Paths.{Elements}
use Rattle.fp_host.proofs.Cause.{same_fault}
use Rattle.fp_host.proofs.Ending.{ends_start, ends_frame, ends_to, ends_on, fault_caused}
use Rattle.fp_host.proofs.Goes.{stays}
use Rattle.fp_small.specs.Clear.{CanClear}
use Rattle.fp_small.specs.declared.state.State.{State}
use Rattle.dep_states.specs.Sound.{Opens}
use Rattle.dep_states.proofs.Law.{frame_law}
use Rattle.dep_switch.specs.Staging.{CanStage}
use Rattle.op_change.specs.Deploys.{HasBack, IsRowBack}
use Rattle.op_change.proofs.Backing.{has_back, is_back, back_moves, link_spares, can_clear, can_back, backed_cleared, tree_ready, backed, backed_end, within_at, cleared_at}
use Rattle.op_change.proofs.Objects.{does_start}
use Rattle.op_change.proofs.rolling_back.roll_back.Goals as goal

pub returns-in_err-row-clause-any_moment : goal.returns-in_err-row-clause-any_moment
returns-in_err-row-clause-any_moment g c = stays (g.met.H.Host.is_tree c.args.host.now) (λ u. does_start) (λ u t. does_start)

pub row_back-requires : goal.row_back-requires
row_back-requires g c = subst (λ (x : State). HasBack x.refs c.args.name.now) (sym c.state.ensures) (has_back c.args.opened c.args.name.now c.args.commit.now c.requires.back)

pub returns-in_err-link-clause-any_moment : goal.returns-in_err-link-clause-any_moment
returns-in_err-link-clause-any_moment g c = stays (g.met.H.Host.is_tree c.args.host.now) (λ u. does_start) (λ u t. does_start)

pub returns-in_err-clear-clause-any_moment : goal.returns-in_err-clear-clause-any_moment
returns-in_err-clear-clause-any_moment g c =
    let found = subst (λ (x : State). IsRowBack x.refs c.args.name.now c.in_ok-row.row) c.state.ensures c.in_ok-row.ensures in
    let back = is_back c.args.commit.now c.requires.good c.requires.back found in
    backed_cleared found.good back (g.met.H.Host.is_tree c.args.host.now) (within_at c.in_ok-link.ensures c.clear.ensures.frame)

pub returns-in_err-clear-clause-fault_has_cause : goal.returns-in_err-clear-clause-fault_has_cause
returns-in_err-clear-clause-fault_has_cause g c =
    let t = g.met.H.Host.is_tree c.args.host.now in
    let link = c.in_ok-link.link in
    fault_caused (Opens c.args.opened) (CanClear link) _ _ _ _ _ t (omega arith) (ends_start t) c.clear.ensures.fault_has_cause (same_fault _ _ _ c.in_err-clear.was c.from_residual-in_err-clear.ensures.1)
    (λ u v tree same opens. subst (CanClear link) (sym same) (subst (λ (p : Elements). CanClear p u) (sym c.in_ok-link.ensures) (can_clear tree opens)))

pub returns-in_err-clear-clause-starved_opens : goal.returns-in_err-clear-clause-starved_opens
returns-in_err-clear-clause-starved_opens g c = λ is. ends_to (ends_frame (g.met.H.Host.is_tree c.args.host.now) (within_at c.in_ok-link.ensures c.clear.ensures.frame)) (λ u w keeps opens. frame_law link_spares keeps.follows opens)

pub deploy_row-requires : goal.deploy_row-requires
deploy_row-requires g c =
    let found = subst (λ (x : State). IsRowBack x.refs c.args.name.now c.in_ok-row.row) c.state.ensures c.in_ok-row.ensures in
    record { moves = back_moves (is_back c.args.commit.now c.requires.good c.requires.back found) }

pub returns-clause-any_moment : goal.returns-clause-any_moment
returns-clause-any_moment g c =
    let t = g.met.H.Host.is_tree in
    let found = subst (λ (x : State). IsRowBack x.refs c.args.name.now c.in_ok-row.row) c.state.ensures c.in_ok-row.ensures in
    let back = is_back c.args.commit.now c.requires.good c.requires.back found in
    backed found.good back (t c.args.host.now) (t c.clear.new.host) (within_at c.in_ok-link.ensures c.clear.ensures.frame) (cleared_at c.in_ok-link.ensures c.in_ok-clear.ensures.on_success) c.deploy_row.ensures.any_moment

pub returns-clause-on_success : goal.returns-clause-on_success
returns-clause-on_success g c =
    let t = g.met.H.Host.is_tree in
    let found = subst (λ (x : State). IsRowBack x.refs c.args.name.now c.in_ok-row.row) c.state.ensures c.in_ok-row.ensures in
    let back = is_back c.args.commit.now c.requires.good c.requires.back found in
    on_ok_weaker c.deploy_row.result
    (λ done. backed_end found.good back (t c.args.host.now) (t c.clear.new.host) (t c.deploy_row.new.host) (within_at c.in_ok-link.ensures c.clear.ensures.frame) (cleared_at c.in_ok-link.ensures c.in_ok-clear.ensures.on_success) c.deploy_row.ensures.any_moment done)
    c.deploy_row.ensures.on_success

pub returns-clause-fault_has_cause : goal.returns-clause-fault_has_cause
returns-clause-fault_has_cause g c =
    let t = g.met.H.Host.is_tree in
    let found = subst (λ (x : State). IsRowBack x.refs c.args.name.now c.in_ok-row.row) c.state.ensures c.in_ok-row.ensures in
    let back = is_back c.args.commit.now c.requires.good c.requires.back found in
    let ready = tree_ready found.good back (t c.args.host.now) (t c.clear.new.host) (within_at c.in_ok-link.ensures c.clear.ensures.frame) (cleared_at c.in_ok-link.ensures c.in_ok-clear.ensures.on_success) in
    fault_caused (Opens c.args.opened) (CanStage c.args.opened c.in_ok-row.row) _ _ _ _ _ (t c.args.host.now) c.clear.ensures.fault_has_cause.later ready c.deploy_row.ensures.fault_has_cause (λ e. e)
    (λ u v tree q opens. can_back found.good q.0 back (frame_law link_spares q.1.0.follows opens) q.1.1)

pub returns-clause-starved_opens : goal.returns-clause-starved_opens
returns-clause-starved_opens g c =
    let t = g.met.H.Host.is_tree in
    λ is. ends_on (c.deploy_row.ensures.starved_unchanged is) (ends_frame (t c.args.host.now) (within_at c.in_ok-link.ensures c.clear.ensures.frame)) (t c.clear.new.host)
    (λ u v w tree keeps same opens. subst (Opens c.args.opened) (sym same) (frame_law link_spares keeps.follows opens))
