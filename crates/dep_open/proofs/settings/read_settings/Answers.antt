use Rattle.std.proofs.Common.{subst}
use Rattle.std.proofs.lemmas.Result.{IfOk-weaker}
use Rattle.fp_host.specs.Outcome.{shows}
use Rattle.fp_host.proofs.Looking.{looks_start, looks_within}
use Rattle.fp_host.proofs.Ending.{ends_looks, ends_both, ends_on, ends_to}
use Rattle.dep_open.specs.Parts.{SetsUpOld}
use Rattle.dep_open.proofs.SetUp.{sets_up_gone, sets_up_new, new_good}
use Rattle.dep_open.proofs.settings.read_settings.Goals as goal

pub returns-then-is_absent-clause-unchanged : goal.returns-then-is_absent-clause-unchanged
returns-then-is_absent-clause-unchanged g c =
    let t = g.met.H.Host.is_tree in
    looks_within c.load_old.ensures.unchanged (looks_within c.load.ensures.unchanged (looks_start (t c.args.host.now)) (t c.args.host.now)) (t c.load.new.host)

pub returns-then-is_absent-clause-tells : goal.returns-then-is_absent-clause-tells
returns-then-is_absent-clause-tells g c =
    let t = g.met.H.Host.is_tree in
    IfOk-weaker c.load_old.result _ _ (λ part old. ends_on old (ends_both (ends_looks (t c.args.host.now) c.load.ensures.unchanged) c.in_ok-loaded.ensures.tells) (t c.load.new.host)
    (λ u v w tree q set. sets_up_gone part c.in_ok-path.path c.in_ok-path.ensures q.1 c.if-is_absent.ensures (subst (λ x. SetsUpOld (shows x) part) q.0.0 set))) c.load_old.ensures.tells

pub returns-clause-tells : goal.returns-clause-tells
returns-clause-tells g c =
    ends_to c.in_ok-loaded.ensures.tells (λ u w loads. sets_up_new c.in_ok-read_new.field-0 c.in_ok-path.path c.in_ok-path.ensures loads c.if-is_absent.ensures c.in_ok-read_new.ensures)

pub returns-clause-good : goal.returns-clause-good
returns-clause-good g c = new_good c.in_ok-loaded.loaded c.in_ok-read_new.field-0 c.in_ok-read_new.ensures
