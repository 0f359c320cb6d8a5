use Rattle.std.proofs.Common.{List, ℕ, sym, ◌∙◌, ap, subst, arith, rules}
use Rattle.fp_base.specs.declared.object.ObjKind.TheVariants as kinds
use Rattle.fp_host.specs.View.{View}
use Rattle.fp_host.specs.Outcome.{shows}
use Rattle.fp_host.proofs.Cause.{same_fault}
use Rattle.fp_host.proofs.Ending.{ends_looks, fault_caused}
use Rattle.fp_host.proofs.Looking.{looks_within}
use Rattle.ost_model.specs.Objects.{store}
use Rattle.ost_store.specs.Reads.{HasFile}
use Rattle.ost_head.specs.Pieces.{TakesIn}
use Rattle.ost_head.proofs.Pieces.{takes_on, next_bytes}
use Rattle.ost_head.proofs.checking.hash_pieces.Goals as goal

pub returns-in_err-count-clause-unchanged : goal.returns-in_err-count-clause-unchanged
returns-in_err-count-clause-unchanged g c = looks_within c.hash_piece.ensures.unchanged c.loop-at.invariant.still (g.met.H.Host.is_tree c.loop-at.host)

pub returns-in_err-count-clause-fault_has_cause : goal.returns-in_err-count-clause-fault_has_cause
returns-in_err-count-clause-fault_has_cause g c =
    let t = g.met.H.Host.is_tree in
    let has = HasFile c.args.root.now c.args.digest.now in
    fault_caused has has _ _ _ _ _ (t c.args.host.now) c.loop-at.invariant.later (ends_looks (t c.args.host.now) c.loop-at.invariant.still) c.hash_piece.ensures.fault_has_cause
    (same_fault _ _ _ c.in_err-count.was c.from_residual.ensures.1) (λ u v tree q can. subst has (sym q.0) can)

pub loop-at-preserved : goal.loop-at-preserved
loop-at-preserved g c =
    let before = c.loop-at.invariant in
    let step = c.in_ok-count.ensures in
    record {
      low = search rules;
      room = search rules;
      still = looks_within step.unchanged before.still (g.met.H.Host.is_tree c.loop-at.host);
      hashed = λ m at mode content is long.
          let n = before.still.goes.told m at in
          subst (λ (l : List ℕ). TakesIn l c.args.hasher.now c.hash_piece.new.hasher)
          (sym (next_bytes content c.hash_piece.new.room c.loop-at.at c.in_ok-count.count (step.tells n.0 n.1 mode content (ap (λ (v : View). store c.args.root.now (shows v) c.args.digest.now kinds.File) n.3.0 ∙ is))))
          (takes_on (before.hashed m at mode content is long) step.hashes);
      later = omega (arith, before.later, step.fault_has_cause.later);
    }

pub returns-then-count-eq0-clause-unchanged : goal.returns-then-count-eq0-clause-unchanged
returns-then-count-eq0-clause-unchanged g c = looks_within c.in_ok-count.ensures.unchanged c.loop-at.invariant.still (g.met.H.Host.is_tree c.loop-at.host)
