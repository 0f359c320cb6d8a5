use Rattle.std.proofs.Common.{subst}
use Rattle.fp_host.proofs.Looking.{looks_start, looks_within}
use Rattle.fp_host.proofs.Ending.{ends_looks, ends_both, ends_on}
use Rattle.fp_small.specs.Load.{Loads}
use Rattle.dep_states.specs.Shown.{small_most}
use Rattle.dep_open.proofs.SetUp.{sets_up_old, old_good}
use Rattle.dep_open.proofs.settings.load_old.Goals as goal

pub returns-in_err-remotes-clause-unchanged : goal.returns-in_err-remotes-clause-unchanged
returns-in_err-remotes-clause-unchanged g c =
    let t = g.met.H.Host.is_tree in
    looks_within c.load-2.ensures.unchanged (looks_within c.load.ensures.unchanged (looks_start (t c.args.host.now)) (t c.args.host.now)) (t c.load.new.host)

pub returns-in_err-read_old-clause-unchanged : goal.returns-in_err-read_old-clause-unchanged
returns-in_err-read_old-clause-unchanged g c =
    let t = g.met.H.Host.is_tree in
    looks_within c.load-2.ensures.unchanged (looks_within c.load.ensures.unchanged (looks_start (t c.args.host.now)) (t c.args.host.now)) (t c.load.new.host)

pub returns-clause-unchanged : goal.returns-clause-unchanged
returns-clause-unchanged g c =
    let t = g.met.H.Host.is_tree in
    looks_within c.load-2.ensures.unchanged (looks_within c.load.ensures.unchanged (looks_start (t c.args.host.now)) (t c.args.host.now)) (t c.load.new.host)

pub returns-clause-good : goal.returns-clause-good
returns-clause-good g c = old_good c.in_ok-pins.pins c.in_ok-remotes.remotes c.in_ok-read_old.field-0 c.in_ok-read_old.ensures

pub returns-clause-tells : goal.returns-clause-tells
returns-clause-tells g c =
    let t = g.met.H.Host.is_tree in
    ends_on c.in_ok-remotes.ensures.tells (ends_both (ends_looks (t c.args.host.now) c.load.ensures.unchanged) c.in_ok-pins.ensures.tells) (t c.load.new.host)
    (λ u v w tree q loads. sets_up_old c.in_ok-read_old.field-0 c.in_ok-pins_path.pins_path c.in_ok-remotes_path.remotes_path c.in_ok-pins_path.ensures c.in_ok-remotes_path.ensures
    q.1 (subst (λ x. Loads c.in_ok-remotes_path.remotes_path small_most x c.in_ok-remotes.remotes) q.0.0 loads) c.in_ok-read_old.ensures)
