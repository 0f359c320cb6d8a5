use Rattle.std.proofs.Common.{Bool, refl, ◌∙◌, ap}
use Rattle.fp_host.proofs.Ending.{ends_to}
use Rattle.ost_fsck.specs.Judging.{bad_unless}
use Rattle.ost_fsck.proofs.judging.look_at.Goals as goal

pub returns-clause-tells : goal.returns-clause-tells
returns-clause-tells g c =
    ends_to c.in_ok-is.ensures.tells (λ u w named. record { is = refl; found = c.bad_unless-finding.ensures ∙ ap (λ (b : Bool). bad_unless b c.args.digest.now c.args.kind) named.same })
