use Rattle.op_change.proofs.Able.{can_pull, can_ready, can_furnish}
use Rattle.op_change.proofs.Cleared.{can_make_room}
use Rattle.op_change.proofs.laws.steps_can_be_done.Goals as goal

pub returns-clause-room : goal.returns-clause-room
returns-clause-room c s v name commit kept tree opens = can_make_room name commit kept tree opens

pub returns-clause-pull : goal.returns-clause-pull
returns-clause-pull c s v tree opens = can_pull tree opens

pub returns-clause-ready : goal.returns-clause-ready
returns-clause-ready c s v tree opens = can_ready tree opens

pub returns-clause-furnish : goal.returns-clause-furnish
returns-clause-furnish c s v name commit kept tree opens good free whole = can_furnish tree opens name commit kept good free whole
