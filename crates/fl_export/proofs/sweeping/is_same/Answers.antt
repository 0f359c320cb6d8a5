use Rattle.std.proofs.Common.{◌∙◌, sym}
use Rattle.fp_host.proofs.Separate.{path_decides}
use Rattle.fl_export.proofs.sweeping.is_same.Goals as goal

pub returns : goal.returns
returns c = let d = path_decides c.args.path.now c.args.other.now in (λ t. d.0 (sym c.is.ensures ∙ t), λ e. c.is.ensures ∙ d.1 e)
