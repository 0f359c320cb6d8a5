use Rattle.std.proofs.Common.{List, ℕ, sym, ◌∙◌, subst, arith, rules}
use Rattle.fp_host.specs.Remote.{bytes_of}
use Rattle.ost_head.specs.Pieces.{TakesIn}
use Rattle.ost_head.proofs.Pieces.{takes_on, next_bytes}
use Rattle.ost_head.proofs.hashing.hash_pieces.Goals as goal

pub loop-at-preserved : goal.loop-at-preserved
loop-at-preserved g c =
    let before = c.loop-at.invariant in
    let step = c.in_ok-count.ensures in
    record {
      low = search rules;
      long = search rules;
      same = step.same ∙ before.same;
      hashed = λ held is long.
          subst (λ (l : List ℕ). TakesIn l c.args.hasher.now c.hash_piece.new.hasher)
          (sym (next_bytes (bytes_of (held c.args.url.now c.args.path.now)) c.hash_piece.new.room c.loop-at.at c.in_ok-count.count (step.tells held (before.same ∙ is))))
          (takes_on (before.hashed held is long) step.hashes);
      later = omega (arith, before.later, step.fault_has_cause.later);
    }
