use Rattle.std.proofs.Common.{◌≡◌, rules}
use Rattle.ost_head.proofs.Kept.{remote_longer, remote_off}
use Rattle.ost_head.proofs.taking.hash_remote.Goals as goal

pub returns-then-eq-clause-tells : goal.returns-then-eq-clause-tells
returns-then-eq-clause-tells g c held told file =
    let same : c.in_ok-got.got ≡ c.args.digest.now = search rules in
    remote_longer c.args.digest.now c.args.mode c.args.size (held c.args.url.now c.args.path.now) file c.requires.limits c.in_ok-got.got c.requires.long (c.in_ok-got.ensures.tells held told) same

pub returns-else-eq-clause-tells : goal.returns-else-eq-clause-tells
returns-else-eq-clause-tells g c held told file =
    let off : c.in_ok-got.got ≡ c.args.digest.now → ⊥ = search rules in
    remote_off c.args.digest.now c.args.mode c.args.size (held c.args.url.now c.args.path.now) file c.requires.limits c.in_ok-got.got c.refused.result (c.in_ok-got.ensures.tells held told) off c.refused.ensures
