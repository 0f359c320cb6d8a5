use Rattle.fl_options.proofs.Layers.{of_file}
use Rattle.fl_options.proofs.laws.options_are_of_files.Goals as goal

pub returns : goal.returns
returns c = of_file
