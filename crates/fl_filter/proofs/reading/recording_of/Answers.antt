use Rattle.fl_filter.proofs.Clients.{client_is_unique}
use Rattle.fl_filter.proofs.reading.recording_of.Goals as goal

pub returns-clause-client : goal.returns-clause-client
returns-clause-client c = client_is_unique c.args.bytes.now c.read_recording.result c.read_recording.ensures
