use Rattle.std.proofs.Common.{List, ℕ, sym, subst}
use Rattle.fp_host.specs.Moments.{Goes}
use Rattle.ost_model.specs.declared.object.Object.{Object}
use Rattle.ost_model.specs.declared.object.Object.TheVariants as objects
use Rattle.ost_store.specs.Stage.{Stages}
use Rattle.ost_store.proofs.Staged.{as_meta}
use Rattle.fp_host.proofs.Ending.{ends_to}
use Rattle.fp_small.proofs.Unsynced.{none_one}
use Rattle.ost_store.proofs.staging.stage.Goals as goal

pub returns-in-Meta-clause-any_moment : goal.returns-in-Meta-clause-any_moment
returns-in-Meta-clause-any_moment g c =
    let t = c.args.tmp.now in
    let a = g.H.Host.moments c.args.host.now in
    let b = g.H.Host.moments c.stage_bytes.new.host in
    subst (λ (o : Object). Goes a b (Stages t o) (Stages t o)) (sym c.in-Meta.is)
    (subst (λ (bytes : List ℕ). Goes a b (Stages t (objects.Meta bytes)) (Stages t (objects.Meta bytes))) c.as_slice.ensures (as_meta (g.met.H.Host.is_tree c.args.host.now) c.stage_bytes.ensures.any_moment))

pub returns-in-Link-clause-unsynced : goal.returns-in-Link-clause-unsynced
returns-in-Link-clause-unsynced g c = ends_to c.stage_link.ensures.unsynced (λ u w q. none_one q)
