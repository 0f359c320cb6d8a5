use Rattle.std.proofs.Common.{sym, ◌∙◌}
use Rattle.fp_host.proofs.Looking.{looks_within}
use Rattle.ost_model.proofs.Stored.{still_stored}
use Rattle.fl_installed.proofs.Found.{file_there, file_away}
use Rattle.fl_installed.proofs.files.metadata_file.Goals as goal

pub returns-in-Some-clause-unchanged : goal.returns-in-Some-clause-unchanged
returns-in-Some-clause-unchanged g c = looks_within c.read_short.ensures.unchanged c.find_metadata.ensures.unchanged (g.met.H.Host.is_tree c.find_metadata.new.host)

pub returns-in-Some-clause-tells : goal.returns-in-Some-clause-tells
returns-in-Some-clause-tells g c have s =
    file_there have c.args.commit.now c.in-Some.digest c.read_short.result (sym c.in-Some.is ∙ c.in_ok-digest.ensures.tells have s) (c.read_short.ensures.tells have (still_stored c.find_metadata.ensures.unchanged s))

pub returns-in-None-clause-tells : goal.returns-in-None-clause-tells
returns-in-None-clause-tells g c have s = file_away have c.args.commit.now (sym c.in-None.is ∙ c.in_ok-digest.ensures.tells have s)
