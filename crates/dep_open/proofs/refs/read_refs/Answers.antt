use Rattle.std.proofs.Common.{List, subst, sym}
use Rattle.std.proofs.lemmas.Result.{IfOk-weaker}
use Rattle.fp_host.specs.Paths.{Elements}
use Rattle.fp_host.specs.Outcome.{shows}
use Rattle.fp_host.proofs.Looking.{looks_within}
use Rattle.fp_host.proofs.Ending.{ends_on, ends_looks, ends_both}
use Rattle.dep_states.specs.Branches.{AreBranches}
use Rattle.dep_open.specs.Parts.{AreRefs}
use Rattle.dep_open.proofs.refs.read_refs.Goals as goal

pub returns-clause-unchanged : goal.returns-clause-unchanged
returns-clause-unchanged g c = looks_within c.refs_among.ensures.unchanged c.branch_paths.ensures.unchanged (g.met.H.Host.is_tree c.branch_paths.new.host)

pub returns-clause-tells : goal.returns-clause-tells
returns-clause-tells g c =
    let t = g.met.H.Host.is_tree in
    IfOk-weaker c.refs_among.result _ _ (λ part told. ends_on told (ends_both (ends_looks (t c.args.host.now) c.branch_paths.ensures.unchanged) c.in_ok-paths.ensures.tells) (t c.branch_paths.new.host)
    (λ u v w tree q are. subst (λ x. AreRefs (shows x) part) q.0.0 (are (subst (λ (l : List Elements). AreBranches v l) (sym c.deref.ensures.value) (subst (λ x. AreBranches x c.in_ok-paths.paths.items) (sym q.0.0) q.1))))) c.refs_among.ensures.tells
