use Rattle.std.proofs.Common.{◌∙◌, subst}
use Rattle.fp_host.specs.Remote.{IsNode}
use Rattle.ost_pull.proofs.Read.{link_there}
use Rattle.ost_pull.proofs.small.small_content.Goals as goal

pub returns-in-File-clause-there : goal.returns-in-File-clause-there
returns-in-File-clause-there g c held told =
    c.small_file.ensures.there held (c.in_ok-mode.ensures.same ∙ told) (subst (IsNode (held c.args.url.now c.args.path.now)) c.in-File.is (c.in_ok-mode.ensures.tells held told))

pub returns-in-Link-clause-there : goal.returns-in-Link-clause-there
returns-in-Link-clause-there g c held told =
    let h = held c.args.url.now c.args.path.now in
    link_there h c.in-Link.text c.small_link.result (subst (IsNode h) c.in-Link.is (c.in_ok-mode.ensures.tells held told)) c.small_link.ensures.there
