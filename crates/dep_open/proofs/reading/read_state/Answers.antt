use Rattle.std.proofs.Common.{subst, arith}
use Rattle.fp_host.specs.View.{View}
use Rattle.fp_host.specs.Outcome.{shows}
use Rattle.fp_host.proofs.Looking.{looks_start, looks_within}
use Rattle.fp_host.proofs.Ending.{ends_looks, ends_both, ends_on, ends_to}
use Rattle.dep_open.specs.Parts.{SetsUp, AreRefs, AreOverrides}
use Rattle.fp_host.proofs.Cause.{passed_on}
use Rattle.dep_open.proofs.Joined.{joined_reads, ended, open_fault}
use Rattle.dep_open.proofs.reading.read_state.Goals as goal

pub returns-in_err-refs-clause-unchanged : goal.returns-in_err-refs-clause-unchanged
returns-in_err-refs-clause-unchanged g c =
    let t = g.met.H.Host.is_tree in
    looks_within c.read_refs.ensures.unchanged (looks_within c.read_settings.ensures.unchanged (looks_start (t c.args.host.now)) (t c.args.host.now)) (t c.read_settings.new.host)

pub returns-in_err-refs-clause-tells : goal.returns-in_err-refs-clause-tells
returns-in_err-refs-clause-tells g c =
    let t = g.met.H.Host.is_tree in
    ends_to (ends_looks (t c.args.host.now) (looks_within c.read_refs.ensures.unchanged (looks_within c.read_settings.ensures.unchanged (looks_start (t c.args.host.now)) (t c.args.host.now)) (t c.read_settings.new.host)))
    (λ u w same. ended u c.from_residual-in_err-refs.result c.in_err-refs.field-0.0 c.from_residual-in_err-refs.ensures.0 c.from_residual-in_err-refs.ensures.1)

pub returns-in_err-overrides-clause-unchanged : goal.returns-in_err-overrides-clause-unchanged
returns-in_err-overrides-clause-unchanged g c =
    let t = g.met.H.Host.is_tree in
    looks_within c.read_overrides.ensures.unchanged (looks_within c.read_refs.ensures.unchanged (looks_within c.read_settings.ensures.unchanged (looks_start (t c.args.host.now)) (t c.args.host.now)) (t c.read_settings.new.host)) (t c.read_refs.new.host)

pub returns-in_err-overrides-clause-tells : goal.returns-in_err-overrides-clause-tells
returns-in_err-overrides-clause-tells g c =
    let t = g.met.H.Host.is_tree in
    ends_to (ends_looks (t c.args.host.now) (looks_within c.read_overrides.ensures.unchanged (looks_within c.read_refs.ensures.unchanged (looks_within c.read_settings.ensures.unchanged (looks_start (t c.args.host.now)) (t c.args.host.now)) (t c.read_settings.new.host)) (t c.read_refs.new.host)))
    (λ u w same. ended u c.from_residual-in_err-overrides.result c.in_err-overrides.field-0.0 c.from_residual-in_err-overrides.ensures.0 c.from_residual-in_err-overrides.ensures.1)

pub returns-clause-unchanged : goal.returns-clause-unchanged
returns-clause-unchanged g c =
    let t = g.met.H.Host.is_tree in
    looks_within c.read_overrides.ensures.unchanged (looks_within c.read_refs.ensures.unchanged (looks_within c.read_settings.ensures.unchanged (looks_start (t c.args.host.now)) (t c.args.host.now)) (t c.read_settings.new.host)) (t c.read_refs.new.host)

pub returns-clause-tells : goal.returns-clause-tells
returns-clause-tells g c =
    let t = g.met.H.Host.is_tree in
    let one = looks_within c.read_settings.ensures.unchanged (looks_start (t c.args.host.now)) (t c.args.host.now) in
    let two = looks_within c.read_refs.ensures.unchanged one (t c.read_settings.new.host) in
    let Found : View → View → Type 0 = λ x y. SetsUp (shows x) c.in_ok-settings.settings × AreRefs (shows x) c.in_ok-refs.refs in
    ends_on c.in_ok-overrides.ensures.tells (ends_both {T = Found} (ends_looks (t c.args.host.now) two) (ends_on c.in_ok-refs.ensures.tells (ends_both (ends_looks (t c.args.host.now) one) c.in_ok-settings.ensures.tells) (t c.read_settings.new.host)
    (λ u v w tree q refs. (q.1, subst (λ x. AreRefs (shows x) c.in_ok-refs.refs) q.0.0 refs)))) (t c.read_refs.new.host)
    (λ u v w tree q layers. joined_reads u c.in_ok-settings.settings c.in_ok-refs.refs c.in_ok-overrides.overrides c.state_of_parts.result q.1.0 q.1.1 (subst (λ x. AreOverrides (shows x) c.in_ok-overrides.overrides) q.0.0 layers) c.in_ok-refs.ensures.good c.in_ok-overrides.ensures.good c.state_of_parts.ensures)

pub returns-in_err-overrides-clause-fault_has_cause : goal.returns-in_err-overrides-clause-fault_has_cause
returns-in_err-overrides-clause-fault_has_cause g c =
    let t = g.met.H.Host.is_tree in
    passed_on _ _ _ _ _ _ _ (t c.args.host.now) (omega (arith, c.read_settings.ensures.fault_has_cause.later, c.read_refs.ensures.fault_has_cause.later)) (ends_looks (t c.args.host.now) (looks_within c.read_refs.ensures.unchanged (looks_within c.read_settings.ensures.unchanged (looks_start (t c.args.host.now)) (t c.args.host.now)) (t c.read_settings.new.host)))
    c.read_overrides.ensures.fault_has_cause (open_fault _ _ _ c.in_err-overrides.was c.from_residual-in_err-overrides.ensures.1) (λ u v tree q x. x)
