use Rattle.std.proofs.Common.{◌/◌, [], ◌∷◌, ◌++◌, ◌∙◌, ap}
use Rattle.fp_small.specs.declared.state.RemoteRow.{RemoteRow}
use Rattle.fl_words.specs.declared.command.Change.TheVariants as changes
use Rattle.fl_gen.specs.Made.{each_of}
use Rattle.fl_gen.specs.Exercise.{gen_at, install_of, uninstall_of}
use Rattle.fl_gen.specs.Generator.{first_url}
use Rattle.fl_gen.proofs.Installs.{run_is}
use Rattle.fl_gen.proofs.commands.exercise_commands.Goals as goal

pub returns : goal.returns
returns c =
    let apps = c.args.apps in
    let installs = each_of install_of apps in
    let uninstalls = each_of uninstall_of (apps / 2) in
    let first = changes.RemoteAdd c.in_ok-remote_at.field-0 in
    let second = changes.RemoteModify c.in_ok-remote_at-2.field-0 in
    run_is first second changes.UpdateAll changes.UninstallUnused installs uninstalls
    c.new-changes.result c.push.new.self c.push_installs.new.changes c.push-2.new.self c.push-3.new.self c.push_uninstalls.new.changes c.push-4.new.self
    c.new-changes.ensures c.in_ok-push.ensures.ok c.in_ok-push_installs.ensures c.in_ok-push-2.ensures.ok c.in_ok-push-3.ensures.ok c.in_ok-push_uninstalls.ensures c.in_ok-push-4.ensures.ok
    ∙ (ap (λ (r : RemoteRow). changes.RemoteAdd r ∷ (installs ++ (second ∷ (changes.UpdateAll ∷ (uninstalls ++ changes.UninstallUnused ∷ []))))) c.in_ok-remote_at.ensures
    ∙ ap (λ (r : RemoteRow). changes.RemoteAdd (gen_at first_url) ∷ (installs ++ (changes.RemoteModify r ∷ (changes.UpdateAll ∷ (uninstalls ++ changes.UninstallUnused ∷ []))))) c.in_ok-remote_at-2.ensures)
