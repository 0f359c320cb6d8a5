use Rattle.std.proofs.Common.{refl}
use Rattle.std.proofs.lemmas.Result.{on_ok_weaker}
use Rattle.bus_proxy.proofs.Giving.{feeds}
use Rattle.bus_proxy.proofs.proxy.Filter.feed.Goals as goal

pub returns : goal.returns
returns g c = record {
  at = λ s fed taken given at all.
      on_ok_weaker c.feed.result (λ more. feeds c.args.self.now _ s fed taken given c.args.side c.args.piece.now at all refl more) c.feed.ensures;
}
