use Rattle.std.proofs.Common.{◌≡◌, ◌∙◌, Bool, ap, sym}
use Rattle.indexmap.specs.IndexMap.{get_by_text}
use Rattle.std.specs.Str.{bytes_eq}
use Rattle.bus_policy.specs.Watching.{known_of, tells}
use Rattle.bus_policy.proofs.Keeping.{unchanged}
use Rattle.bus_policy.proofs.peers.learn.Goals as goal

pub returns-then-not-tells-clause-ok : goal.returns-then-not-tells-clause-ok
returns-then-not-tells-clause-ok g c = λ q. unchanged c.args.rules.now c.args.news (bytes_eq c.args.name.now q) (known_of c.args.rules.now (get_by_text c.args.peers.now q)) (sym c.tells.ensures ∙ c.if-not-tells.true)
