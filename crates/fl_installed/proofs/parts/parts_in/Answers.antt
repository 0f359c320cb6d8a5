use Rattle.fp_host.proofs.Looking.{looks_within}
use Rattle.fl_installed.proofs.Loaded.{still_deployed}
use Rattle.fl_installed.proofs.Reading.{parts_from}
use Rattle.fl_installed.proofs.parts.parts_in.Goals as goal

pub returns-clause-unchanged : goal.returns-clause-unchanged
returns-clause-unchanged g c = looks_within c.with_app.ensures.unchanged c.app_in.ensures.unchanged (g.met.H.Host.is_tree c.app_in.new.host)

pub returns-clause-tells : goal.returns-clause-tells
returns-clause-tells g c files d =
    parts_from files c.args.state.now c.args.name.now c.in_ok-app.app c.with_app.result (c.in_ok-app.ensures.tells files d)
    (c.with_app.ensures.tells files (still_deployed c.app_in.ensures.unchanged d))
