use Rattle.ost_commit.proofs.Sizes.{large_has_a_name}
use Rattle.ost_commit.proofs.laws.large_directories_have_names.Goals as goal

pub returns : goal.returns
returns c = large_has_a_name
