use Rattle.ost_description.proofs.Judging.{collided}
use Rattle.ost_description.proofs.committing.refusal.Goals as goal

pub returns-in-Collision : goal.returns-in-Collision
returns-in-Collision c d r fault = collided r d c.args.unformed c.args.error c.unformed_or.result c.in-Collision.is fault (c.unformed_or.ensures d r)
