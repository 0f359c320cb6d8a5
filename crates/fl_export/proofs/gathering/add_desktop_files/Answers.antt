use Rattle.std.proofs.Common.{◌∙◌, ◌++◌, ap, arith}
use Rattle.std.specs.Prelude.{option_to_list}
use Rattle.fp_host.proofs.Looking.{looks_within}
use Rattle.ost_object.specs.Views.{file_row}
use Rattle.fl_export.specs.Exported.{desktop_of}
use Rattle.fl_export.proofs.Gather.{flat_map_grows}
use Rattle.ost_model.proofs.Stored.{still_stored}
use Rattle.fl_export.proofs.gathering.add_desktop_files.Goals as goal

pub returns-in_err-found-clause-unchanged : goal.returns-in_err-found-clause-unchanged
returns-in_err-found-clause-unchanged g c = looks_within c.desktop_of.ensures.unchanged c.loop-file.invariant.still (g.met.H.Host.is_tree c.loop-file.host)

pub returns-in_err-add_row-clause-unchanged : goal.returns-in_err-add_row-clause-unchanged
returns-in_err-add_row-clause-unchanged g c = looks_within c.desktop_of.ensures.unchanged c.loop-file.invariant.still (g.met.H.Host.is_tree c.loop-file.host)

pub loop-file-preserved : goal.loop-file-preserved
loop-file-preserved g c = record {
  still = looks_within c.desktop_of.ensures.unchanged c.loop-file.invariant.still (g.met.H.Host.is_tree c.loop-file.host);
  later = omega (arith, c.loop-file.invariant.later, c.desktop_of.ensures.fault_has_cause.later);
  told = λ have s. flat_map_grows (λ f. option_to_list (desktop_of have c.args.name.now f)) file_row c.args.files.now c.loop-file.file-index c.file-item.result c.loop-file-test.true c.file-item.is _ c.loop-file.rows.items c.add_row.new.rows.items
      (c.loop-file.invariant.told have s)
      (c.in_ok-add_row.ensures ∙ ap (λ o. c.loop-file.rows.items ++ option_to_list o) (c.in_ok-found.ensures.tells have (still_stored c.loop-file.invariant.still s)));
}
