use Rattle.std.proofs.Common.{◌≡◌, ◌∙◌, ap, sym, subst, Option, Some}
use Rattle.std.specs.Prelude.{IfOk}
use Rattle.fp_small.specs.declared.config.Settings.{Settings}
use Rattle.fp_small.specs.Config.{config_of, settings_of}
use Rattle.fp_small.proofs.ConfigReads.{config_is, no_file, ok_good}
use Rattle.fp_small.proofs.config_reading.read_config.Goals as goal

pub returns-in_err-file-clause-bad : goal.returns-in_err-file-clause-bad
returns-in_err-file-clause-bad c = λ bad. no_file c.args.bytes.now c.in_err-file.field-0.0 c.from_residual.result c.from_residual.ensures.1 bad c.in_err-file.ensures

pub returns-clause-ok : goal.returns-clause-ok
returns-clause-ok c =
    let e : config_of c.args.bytes.now ≡ settings_of c.as_slice.result.now = config_is c.args.bytes.now c.in_ok-file.file c.in_ok-file.ensures ∙ ap settings_of (sym (c.as_slice.ensures ∙ c.groups.ensures.groups)) in
    subst (λ (o : Option Settings). IfOk c.settings_of.result (λ s. o ≡ Some s)) (sym e) c.settings_of.ensures.ok

pub returns-clause-good : goal.returns-clause-good
returns-clause-good c =
    let e : config_of c.args.bytes.now ≡ settings_of c.as_slice.result.now = config_is c.args.bytes.now c.in_ok-file.file c.in_ok-file.ensures ∙ ap settings_of (sym (c.as_slice.ensures ∙ c.groups.ensures.groups)) in
    ok_good c.args.bytes.now c.settings_of.result (subst (λ (o : Option Settings). IfOk c.settings_of.result (λ s. o ≡ Some s)) (sym e) c.settings_of.ensures.ok)

pub returns-clause-bad : goal.returns-clause-bad
returns-clause-bad c =
    let e : config_of c.args.bytes.now ≡ settings_of c.as_slice.result.now = config_is c.args.bytes.now c.in_ok-file.file c.in_ok-file.ensures ∙ ap settings_of (sym (c.as_slice.ensures ∙ c.groups.ensures.groups)) in
    λ bad. e ∙ c.settings_of.ensures.bad bad
