use Rattle.std.proofs.Common.{List, ℕ, ap, length, arith}
use Rattle.std.proofs.lemmas.List.{length-map}
use Rattle.fp_base.specs.declared.object.ObjKind.{ObjKind}
use Rattle.par_digest.specs.Digests.{item_digest}
use Rattle.ost_pull.proofs.Batched.{read_whole, batched_at, digest_at}
use Rattle.ost_pull.proofs.turns.take_turn.Goals as goal

pub bounds-items-place : goal.bounds-items-place
bounds-items-place g c =
    (read_whole c.args.root.now c.args.url.now (g.H.Host.moments c.args.host.now) (g.R.Remotes.holds c.args.remotes.now) (c.args.digest.now, c.args.kind) c.args.items.now c.args.turn.now c.in-Batched.form c.in-Batched.place c.in-Batched.is c.requires.ready).low

pub bounds-digests-place : goal.bounds-digests-place
bounds-digests-place g c =
    let read = read_whole c.args.root.now c.args.url.now (g.H.Host.moments c.args.host.now) (g.R.Remotes.holds c.args.remotes.now) (c.args.digest.now, c.args.kind) c.args.items.now c.args.turn.now c.in-Batched.form c.in-Batched.place c.in-Batched.is c.requires.ready in
    omega (arith, read.low, ap length c.requires.digests, length-map c.args.items.now item_digest)

pub take_read-requires-clause-read : goal.take_read-requires-clause-read
take_read-requires-clause-read g c =
    let o : List ℕ × ObjKind = (c.args.digest.now, c.args.kind) in
    let read = read_whole c.args.root.now c.args.url.now (g.H.Host.moments c.args.host.now) (g.R.Remotes.holds c.args.remotes.now) o c.args.items.now c.args.turn.now c.in-Batched.form c.in-Batched.place c.in-Batched.is c.requires.ready in
    batched_at o c.in-Batched.form c.args.items.now c.in-Batched.place c.index-items-place.result read c.index-items-place.is

pub take_read-requires-clause-got : goal.take_read-requires-clause-got
take_read-requires-clause-got g c =
    let read = read_whole c.args.root.now c.args.url.now (g.H.Host.moments c.args.host.now) (g.R.Remotes.holds c.args.remotes.now) (c.args.digest.now, c.args.kind) c.args.items.now c.args.turn.now c.in-Batched.form c.in-Batched.place c.in-Batched.is c.requires.ready in
    digest_at c.args.items.now c.args.digests.now c.in-Batched.place c.index-items-place.result c.index-digests-place.result read.low c.requires.digests c.index-items-place.is c.index-digests-place.is
