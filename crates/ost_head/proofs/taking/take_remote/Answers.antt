use Rattle.std.proofs.Common.{◌≡◌, rules}
use Rattle.ost_model.specs.Contents.{file_digest}
use Rattle.ost_head.proofs.Kept.{remote_taken, remote_other}
use Rattle.ost_head.proofs.taking.take_remote.Goals as goal

pub returns-then-eq-clause-tells : goal.returns-then-eq-clause-tells
returns-then-eq-clause-tells g c held told file =
    let is : c.file_digest-got.result ≡ file_digest c.args.mode c.in_ok-bytes.bytes = search rules in
    let same : c.file_digest-got.result ≡ c.args.digest.now = search rules in
    remote_taken c.args.digest.now c.args.mode c.args.size (held c.args.url.now c.args.path.now) file c.requires.limits c.in_ok-bytes.bytes c.file_digest-got.result c.requires.short (c.in_ok-bytes.ensures.tells held told) is same

pub returns-else-eq-clause-tells : goal.returns-else-eq-clause-tells
returns-else-eq-clause-tells g c held told file =
    let is : c.file_digest-got.result ≡ file_digest c.args.mode c.in_ok-bytes.bytes = search rules in
    let off : c.file_digest-got.result ≡ c.args.digest.now → ⊥ = search rules in
    remote_other c.args.digest.now c.args.mode c.args.size (held c.args.url.now c.args.path.now) file c.requires.limits c.in_ok-bytes.bytes c.file_digest-got.result c.refused.result (c.in_ok-bytes.ensures.tells held told) is off c.refused.ensures
