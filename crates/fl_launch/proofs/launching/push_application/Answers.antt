use Rattle.std.proofs.Common.{◌≡◌, ◌++◌, ℕ, List, codes, string_bytes, ap, ◌∙◌}
use Rattle.std.specs.Option.{option_copied}
use Rattle.std.proofs.lemmas.Result.{IfOk-weaker}
use Rattle.fp_name.specs.Refs.{ref_text}
use Rattle.fl_launch.specs.Launch.{header, line, command_line, application}
use Rattle.fl_launch.proofs.Pushes.{four}
use Rattle.fl_launch.proofs.launching.push_application.Goals as goal

pub returns : goal.returns
unfolding application
returns c =
    let command = command_line (option_copied c.args.command) in
    let name : string_bytes c.push_line.new.out ≡ string_bytes c.push_header.new.out ++ line (codes "name") c.args.name.now.id =
    c.in_ok-push_line.ensures ∙ ap (λ (v : List ℕ). string_bytes c.push_header.new.out ++ line (codes "name") v) c.id.ensures.id in
    let runtime : string_bytes c.push_line-2.new.out ≡ string_bytes c.push_line.new.out ++ line (codes "runtime") (ref_text c.args.runtime.now) =
    c.in_ok-push_line-2.ensures ∙ ap (λ (v : List ℕ). string_bytes c.push_line.new.out ++ line (codes "runtime") v) c.as_str.ensures.text in
    IfOk-weaker c.push_command.result (λ _. string_bytes c.push_command.new.out ≡ string_bytes c.push_line-2.new.out ++ command)
    (λ _. string_bytes c.push_command.new.out ≡ string_bytes c.args.out.now ++ application c.args.name.now c.args.runtime.now (option_copied c.args.command))
    (λ _ last. four (string_bytes c.args.out.now) _ _ _ _ (header (codes "Application")) (line (codes "name") c.args.name.now.id) (line (codes "runtime") (ref_text c.args.runtime.now)) command c.in_ok-push_header.ensures name runtime last)
    c.push_command.ensures
