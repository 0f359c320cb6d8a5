use Rattle.std.proofs.Common.{rules, ◌≡◌, true, sym, subst}
use Rattle.std.specs.List.{list_all}
use Rattle.fp_host.specs.Paths.{Elements}
use Rattle.ost_export.specs.Exports.{CanExport}
use Rattle.fl_make.specs.Making.{is_keepable}
use Rattle.fl_make.proofs.Kept.{keepable_all}
use Rattle.fl_make.proofs.making.offer.Goals as goal

pub returns-clause-fault_has_cause : goal.returns-clause-fault_has_cause
returns-clause-fault_has_cause g c =
    let all : list_all (λ o. is_keepable o.object) c.args.built.now.objects ≡ true = search rules in
    record {
      later = c.export.ensures.fault_has_cause.later;
      fault = λ is m told can. c.export.ensures.fault_has_cause.fault is m told (record {
        keepable = keepable_all c.args.built.now.objects all;
        can = subst (λ (p : Elements). CanExport p c.args.name.now m.now) (sym c.in_ok-root.ensures) can;
      });
    }
