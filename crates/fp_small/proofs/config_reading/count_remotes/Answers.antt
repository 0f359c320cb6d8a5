use Rattle.std.proofs.Common.{◌≡◌, ◌∙◌, sym, rules}
use Rattle.std.specs.List.{count_by}
use Rattle.std.specs.Option.{is_some}
use Rattle.std.proofs.lemmas.List.Sums.{length-filter}
use Rattle.fp_keyfile.specs.declared.group.Group.{Group}
use Rattle.fp_small.specs.Config.{remote_of}
use Rattle.fp_small.proofs.ConfigReads.{count_remotes_is}
use Rattle.fp_small.proofs.config_reading.count_remotes.Goals as goal

pub returns : goal.returns
returns c = let e : c.count.result ≡ count_by (λ g. is_some (remote_of g)) c.args.groups.now = search rules in e ∙ sym (length-filter (λ (g : Group). is_some (remote_of g)) c.args.groups.now) ∙ count_remotes_is c.args.groups.now
