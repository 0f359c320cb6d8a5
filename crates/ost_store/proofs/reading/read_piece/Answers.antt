use Rattle.std.proofs.Common.{subst}
use Rattle.fp_host.specs.View.{IsTree}
use Rattle.fp_host.proofs.Looking.{looks_start, looks_read}
use Rattle.fp_host.proofs.Ending.{ends_call, ends_in_tree}
use Rattle.ost_store.proofs.Gets.{piece_read}
use Rattle.ost_store.proofs.reading.read_piece.Goals as goal

pub returns-in_err-read_at-clause-unchanged : goal.returns-in_err-read_at-clause-unchanged
returns-in_err-read_at-clause-unchanged g c = let t = g.met.H.Host.is_tree in looks_read c.read_at.ensures.step (looks_start (t c.args.host.now)) (t c.args.host.now)

pub returns-clause-unchanged : goal.returns-clause-unchanged
returns-clause-unchanged g c = let t = g.met.H.Host.is_tree in looks_read c.read_at.ensures.step (looks_start (t c.args.host.now)) (t c.args.host.now)

pub returns-clause-tells : goal.returns-clause-tells
returns-clause-tells g c =
    let t = g.met.H.Host.is_tree in
    ends_in_tree (t c.read_at.new.self) (ends_call (t c.args.host.now) c.in_ok-read_at.ensures.step) (λ u w tree s. piece_read c.args.root.now c.args.digest.now c.in_ok-path.ensures (subst IsTree s.same tree) s)
