use Rattle.std.proofs.Common.{sym, subst, inl, inr}
use Rattle.fp_host.specs.Remote.{Held, IsNode}
use Rattle.fp_host.proofs.Nodes.{node_link}
use Rattle.fp_base.specs.declared.object.ObjKind.TheVariants as kinds
use Rattle.ost_head.specs.Fetches.{ReadsAt}
use Rattle.ost_head.proofs.Fetched.{none_read}
use Rattle.ost_head.proofs.fetching.read_content.Goals as goal

pub returns-in-Link-clause-tells : goal.returns-in-Link-clause-tells
returns-in-Link-clause-tells g c held told =
    let h = held c.args.url.now c.args.path.now in
    subst (λ (x : Held). ReadsAt c.args.digest.now kinds.File x c.read_link.result) (sym (node_link h c.in-Link.text (subst (IsNode h) c.in-Link.is (c.in_ok-mode.ensures.tells held told)))) c.read_link.ensures.tells

pub returns-in-Absent-clause-tells : goal.returns-in-Absent-clause-tells
returns-in-Absent-clause-tells g c held told = none_read c.args.digest.now kinds.File (held c.args.url.now c.args.path.now) c.in_ok-mode.field-0 c.refused.result (c.in_ok-mode.ensures.tells held told) (inl c.in-Absent.is) c.refused.ensures

pub returns-in-Dir-clause-tells : goal.returns-in-Dir-clause-tells
returns-in-Dir-clause-tells g c held told = none_read c.args.digest.now kinds.File (held c.args.url.now c.args.path.now) c.in_ok-mode.field-0 c.refused-in-Dir.result (c.in_ok-mode.ensures.tells held told) (inr c.in-Dir.is) c.refused-in-Dir.ensures
