use Rattle.ost_export.proofs.Spared.{built_whole}
use Rattle.ost_export.proofs.laws.built_commits_are_whole.Goals as goal

pub returns : goal.returns
returns c = built_whole
