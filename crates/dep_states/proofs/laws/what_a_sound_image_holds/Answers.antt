use Rattle.dep_states.proofs.Usual.{sound_store}
use Rattle.fp_small.specs.Places.{repo, tmp}
use Rattle.dep_states.specs.Names.{config, remotes_conf, pins_file}
use Rattle.dep_states.proofs.laws.what_a_sound_image_holds.Goals as goal

pub returns-clause-config : goal.returns-clause-config
returns-clause-config c = λ disk sound. (sound.kinds config).fits

pub returns-clause-remotes : goal.returns-clause-remotes
returns-clause-remotes c = λ disk sound. (sound.kinds remotes_conf).fits

pub returns-clause-pins : goal.returns-clause-pins
returns-clause-pins c = λ disk sound. (sound.kinds pins_file).fits

pub returns-clause-repo : goal.returns-clause-repo
returns-clause-repo c = λ disk sound. (sound.kinds repo).fits

pub returns-clause-tmp : goal.returns-clause-tmp
returns-clause-tmp c = λ disk sound. (sound.kinds tmp).fits

pub returns-clause-store : goal.returns-clause-store
returns-clause-store c = sound_store
