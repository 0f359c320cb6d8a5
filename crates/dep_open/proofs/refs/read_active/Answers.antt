use Rattle.std.proofs.Common.{◌∙◌, ap, sym}
use Rattle.std.proofs.lemmas.Result.{IfOk-weaker}
use Rattle.fp_host.proofs.Looking.{looks_start, looks_within}
use Rattle.fp_host.proofs.Ending.{ends_looks, ends_both, ends_on}
use Rattle.dep_open.specs.Parts.{seen_in}
use Rattle.dep_open.proofs.Linked.{active_there}
use Rattle.dep_open.proofs.refs.read_active.Goals as goal

pub returns-in-There-clause-unchanged : goal.returns-in-There-clause-unchanged
returns-in-There-clause-unchanged g c =
    let t = g.met.H.Host.is_tree in
    looks_within c.read_commit.ensures.unchanged (looks_within c.read_text.ensures.unchanged (looks_start (t c.args.host.now)) (t c.args.host.now)) (t c.read_text.new.host)

pub returns-in-There-clause-tells : goal.returns-in-There-clause-tells
returns-in-There-clause-tells g c =
    let t = g.met.H.Host.is_tree in
    IfOk-weaker c.read_commit.result _ _ (λ seen told. ends_on told (ends_both (ends_looks (t c.args.host.now) c.read_text.ensures.unchanged) c.in_ok-read_text.ensures.tells) (t c.read_text.new.host)
    (λ u v w tree q is. active_there u v c.args.name c.args.link.now c.in-There.text c.requires.link q.0.0 (sym q.1 ∙ ap seen_in c.in-There.is) is)) c.read_commit.ensures.tells
