use Rattle.std.proofs.Common.{map, string_bytes}
use Rattle.fl_words.proofs.Options.{app_misfit}
use Rattle.fl_words.proofs.forms.Form.command.Goals as goal

pub returns-in_err-app_override-in-OverrideApp-clause-bad : goal.returns-in_err-app_override-in-OverrideApp-clause-bad
returns-in_err-app_override-in-OverrideApp-clause-bad c =
    let failed = c.in_err-app_override-in-OverrideApp in
    let passed = c.from_residual-in_err-app_override-in-OverrideApp in
    app_misfit passed.result failed.field-0.0 (map string_bytes c.args.words.now) c.args.self c.in-OverrideApp.is passed.ensures.1 failed.ensures.bad
