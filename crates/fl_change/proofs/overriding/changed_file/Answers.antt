use Rattle.std.proofs.Common.{◌≡◌, List, ◌++◌, IfOk, ap, sym, subst, ◌∙◌}
use Rattle.fp_keyfile.specs.declared.group.Group.{Group}
use Rattle.fl_meta.specs.declared.permission.Mention.{Mention}
use Rattle.fl_context.specs.Grants.{last_mention}
use Rattle.fl_override.specs.Overrides.{AllCanWrite}
use Rattle.fl_change.specs.Overrides.{file_named}
use Rattle.fl_change.proofs.Overrides.{options_write, changed_is}
use Rattle.fl_change.proofs.overriding.changed_file.Goals as goal

pub change-requires : goal.change-requires
change-requires c = subst AllCanWrite (sym c.in_ok-options.ensures) (options_write c.args.options.now)

pub returns : goal.returns
returns c =
    let before = c.in_ok-set.set in
    let file = file_named c.args.rows.now c.args.name.now in
    let same = changed_is file c.args.options.now before c.change.new.self c.as_layer-before.ensures.ascending c.as_layer-after.ensures.ascending c.in_ok-set.ensures
    (λ p. c.in_ok-change.ensures.ok p ∙ ap (λ (ms : List Mention). last_mention (before ++ ms) p) c.in_ok-options.ensures) in
    subst (λ (x : List Group). IfOk c.to_keyfile.result (λ f. f ≡ x)) same c.to_keyfile.ensures.file
