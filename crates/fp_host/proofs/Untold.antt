-- Where nothing is told.
use Rattle.std.proofs.Common.{None}
use Rattle.std.proofs.lemmas.Option.{none-some}
use Rattle.fp_host.specs.View.{View}
use Rattle.fp_host.specs.Moments.{Makes}

-- what tells nothing goes on telling nothing
pub untold : {S : View → View → Type 0} → Makes S None None
untold = record {
  untold = λ e. e;
  told = λ m e. absurd (none-some m e);
}
