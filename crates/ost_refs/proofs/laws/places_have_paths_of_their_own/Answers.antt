use Rattle.ost_refs.proofs.Places.{place_same}
use Rattle.ost_refs.proofs.laws.places_have_paths_of_their_own.Goals as goal

pub returns : goal.returns
returns c = place_same
