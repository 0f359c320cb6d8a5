use Rattle.std.proofs.Common.{◌≡◌, ◌++◌, ℕ, List, append-nil, string_bytes, sym, ap, subst}
use Rattle.std.specs.Prelude.{Option, OnOk}
use Rattle.std.specs.Option.{option_copied}
use Rattle.fl_launch.specs.Launch.{command_line}
use Rattle.fl_launch.proofs.launching.push_command.Goals as goal

pub returns-in-Some : goal.returns-in-Some
unfolding command_line
returns-in-Some c =
    subst (λ (o : Option (List ℕ)). OnOk c.push_line.result (string_bytes c.push_line.new.out ≡ string_bytes c.args.out.now ++ command_line o)) (sym (ap option_copied c.in-Some.is)) c.push_line.ensures

pub returns-in-None : goal.returns-in-None
unfolding command_line
returns-in-None c =
    subst (λ (o : Option (List ℕ)). string_bytes c.args.out.now ≡ string_bytes c.args.out.now ++ command_line o) (sym (ap option_copied c.in-None.is)) (sym (append-nil (string_bytes c.args.out.now)))
