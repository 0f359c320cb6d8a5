use Rattle.std.proofs.Common.{◌≡◌, ◌∙◌, ◌++◌, ap, sym, length, take, drop}
use Rattle.std.proofs.Math.Seq.{take-append_seam}
use Rattle.fp_host.proofs.Looking.{looks_start, looks_read}
use Rattle.fp_host.proofs.Ending.{ends_call, ends_to}
use Rattle.fp_small.proofs.SmallFiles.{reads_whole}
use Rattle.fp_small.proofs.loading.read_whole.Goals as goal

pub returns-in_err-count-clause-unchanged : goal.returns-in_err-count-clause-unchanged
returns-in_err-count-clause-unchanged g c = let t = g.met.H.Host.is_tree in looks_read c.read_at.ensures.step (looks_start (t c.args.host.now)) (t c.args.host.now)

pub returns-clause-unchanged : goal.returns-clause-unchanged
returns-clause-unchanged g c = let t = g.met.H.Host.is_tree in looks_read c.read_at.ensures.step (looks_start (t c.args.host.now)) (t c.args.host.now)

pub returns-clause-tells : goal.returns-clause-tells
returns-clause-tells g c = ends_to (ends_call (g.met.H.Host.is_tree c.args.host.now) c.in_ok-count.ensures.step)
    (let long : length c.read_at.new.into ≡ c.in_ok-bytes.bytes.len = c.read_at.auto.into ∙ c.deref_mut.ensures.len in
    λ u w s. reads_whole s (long ∙ c.in_ok-bytes.ensures.len) (c.from_vec.ensures ∙ c.truncate.ensures.items ∙ ap (take c.in_ok-count.count) (ap (λ n. take n (c.read_at.new.into ++ drop (length c.read_at.new.into) c.in_ok-bytes.bytes.items)) (sym long) ∙ take-append_seam c.read_at.new.into (drop (length c.read_at.new.into) c.in_ok-bytes.bytes.items))))
