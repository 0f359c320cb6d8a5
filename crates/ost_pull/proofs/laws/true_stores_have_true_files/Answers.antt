use Rattle.ost_pull.proofs.TrueFiles.{stores_true}
use Rattle.ost_pull.proofs.laws.true_stores_have_true_files.Goals as goal

pub returns : goal.returns
returns c root v leaves = stores_true root v leaves
