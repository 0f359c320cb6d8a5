use Rattle.std.proofs.Common.{List, ℕ, sym, subst}
use Rattle.bus_frame.specs.Answers.{BeginsBroken}
use Rattle.bus_stream.proofs.Streams.{still_broken}
use Rattle.bus_stream.proofs.cutter.Cutter.feed.Goals as goal

pub returns-clause-broken : goal.returns-clause-broken
returns-clause-broken c = λ rule b.
    still_broken c.extend_from_slice.result c.self.inside.bytes.items _ c.args.piece.now rule c.extend_from_slice.ensures.ok c.extend_from_slice.ensures.err
    (subst (λ (l : List ℕ). BeginsBroken l rule) (sym c.self.view_is) b)
