use Rattle.std.proofs.Common.{◌∙◌}
use Rattle.fl_installed.proofs.Loaded.{file_loaded}
use Rattle.fl_installed.proofs.deployed.deployed_file.Goals as goal

pub returns-clause-tells : goal.returns-clause-tells
returns-clause-tells g c files d =
    c.bytes_loaded.ensures ∙ file_loaded c.args.name.now c.args.commit.now c.in_ok-path.path c.in_ok-loaded.loaded files c.in_ok-path.ensures c.in_ok-loaded.ensures.tells d
