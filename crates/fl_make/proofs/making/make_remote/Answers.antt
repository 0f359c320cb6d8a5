use Rattle.fl_make.proofs.Moments.{made_moments, made_end}
use Rattle.fl_make.proofs.making.make_remote.Goals as goal

pub returns-in_err-offer-clause-any_moment : goal.returns-in_err-offer-clause-any_moment
returns-in_err-offer-clause-any_moment g c = made_moments c.args.remote.now c.args.name.now c.args.bytes.now c.in_ok-built.built c.in_ok-built.ensures.built (g.met.H.Host.is_tree c.args.host.now) c.offer.ensures.any_moment

pub returns-clause-any_moment : goal.returns-clause-any_moment
returns-clause-any_moment g c = made_moments c.args.remote.now c.args.name.now c.args.bytes.now c.in_ok-built.built c.in_ok-built.ensures.built (g.met.H.Host.is_tree c.args.host.now) c.offer.ensures.any_moment

pub returns-clause-on_success : goal.returns-clause-on_success
returns-clause-on_success g c =
    made_end c.args.remote.now c.args.name.now c.args.bytes.now c.in_ok-built.built c.in_ok-built.ensures.built c.in_ok-line.line c.in_ok-line.ensures
    (g.met.H.Host.is_tree c.args.host.now) (g.met.H.Host.is_tree c.offer.new.host) c.offer.ensures.any_moment c.in_ok-offer.ensures.on_success
