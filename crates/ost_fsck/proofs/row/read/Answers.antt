use Rattle.std.proofs.Common.{None, subst}
use Rattle.fp_base.proofs.Options.{if_ok_to}
use Rattle.fp_host.proofs.Ending.{ends_start, ends_to}
use Rattle.ost_store.specs.Names.{IsNamed}
use Rattle.ost_fsck.proofs.Batched.{named_row, as_before}
use Rattle.ost_fsck.proofs.row.read.Goals as goal

pub returns-in-Some-clause-tells : goal.returns-in-Some-clause-tells
returns-in-Some-clause-tells g c =
    let named = subst (IsNamed c.args.root.now c.args.path.now) c.in-Some.is c.in_ok-object.ensures in
    if_ok_to c.read_object.result (λ row is. ends_to is (λ u w at. named_row c.args.root.now c.args.path.now c.in-Some.object u _ row named at)) c.read_object.ensures.tells

pub returns-in_ok-stray-in-None-clause-grows : goal.returns-in_ok-stray-in-None-clause-grows
returns-in_ok-stray-in-None-clause-grows g c = as_before _

pub returns-in_ok-stray-in-None-clause-tells : goal.returns-in_ok-stray-in-None-clause-tells
returns-in_ok-stray-in-None-clause-tells g c =
    let none = subst (IsNamed c.args.root.now c.args.path.now) c.in-None.is c.in_ok-object.ensures in
    ends_to (ends_start (g.met.H.Host.is_tree c.args.host.now)) (λ u w same. record {
      object = None;
      name = λ o. none o.0 o.1;
      is = c.in_ok-stray-in-None.ensures.object;
      found = c.in_ok-stray-in-None.ensures.found;
    })
