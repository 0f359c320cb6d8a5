use Rattle.ost_refs.specs.Places.{place_path}
use Rattle.ost_refs.proofs.Drops.{read_written, read_dropped}
use Rattle.ost_refs.proofs.laws.changed_refs_are_read.Goals as goal

pub returns-clause-written : goal.returns-clause-written
returns-clause-written c = λ root place d u w good was. read_written (place_path root place) d u w good was

pub returns-clause-dropped : goal.returns-clause-dropped
returns-clause-dropped c = λ root place w was. read_dropped (place_path root place) w was
