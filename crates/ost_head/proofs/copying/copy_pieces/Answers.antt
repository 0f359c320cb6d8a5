use Rattle.std.proofs.Common.{◌≡◌, ◌<◌, IsErrOf, length, ◌∙◌, arith, rules}
use Rattle.fp_host.specs.Remote.{bytes_of}
use Rattle.fp_host.proofs.Cause.{passed_on}
use Rattle.fp_host.proofs.Framed.{frame_start, frame_within}
use Rattle.ost_walk.specs.declared.ends.WalkEnd.TheVariants as ends
use Rattle.ost_head.specs.Copies.{IsNewFile}
use Rattle.ost_head.proofs.Brought.{same_end}
use Rattle.ost_head.proofs.Copied.{none_copied, copied_on, all_copied, still_new}
use Rattle.ost_head.proofs.Pieces.{none_left}
use Rattle.ost_head.proofs.copying.copy_pieces.Goals as goal

pub loop-at-init : goal.loop-at-init
loop-at-init g c =
    let t = g.met.H.Host.is_tree in
    record {
      low = omega arith;
      room = search rules;
      frame = frame_start (t c.args.host.now);
      same = search rules;
      copied = none_copied (t c.args.host.now);
      later = omega arith;
      remote_later = omega arith;
    }

pub loop-at-preserved : goal.loop-at-preserved
loop-at-preserved g c =
    let t = g.met.H.Host.is_tree in
    let before = c.loop-at.invariant in
    let step = c.in_ok-count.ensures in
    let piece = step.on_success in
    record {
      low = search (rules, piece.bound);
      room = search rules;
      frame = frame_within step.frame before.frame (t c.loop-at.host) (λ q spot h. h) (λ q e h. h) (λ q h. h) (λ q id h is. h);
      same = step.same ∙ before.same;
      copied = copied_on before.copied c.in_ok-count.count c.copy_piece.new.room (t c.loop-at.host) piece.long (λ held is. piece.tells held (before.same ∙ is)) piece.appends piece.hashes;
      later = omega (arith, before.later, step.fault_has_cause.later);
      remote_later = omega (arith, before.remote_later, step.remote_fault_has_cause.later);
    }

pub returns-in_err-count-clause-frame : goal.returns-in_err-count-clause-frame
returns-in_err-count-clause-frame g c = frame_within c.copy_piece.ensures.frame c.loop-at.invariant.frame (g.met.H.Host.is_tree c.loop-at.host) (λ q spot h. h) (λ q e h. h) (λ q h. h) (λ q id h is. h)

pub returns-in_err-count-clause-fault_has_cause : goal.returns-in_err-count-clause-fault_has_cause
returns-in_err-count-clause-fault_has_cause g c =
    let before = c.loop-at.invariant in
    passed_on (IsErrOf c.from_residual.result ends.HostFault) (IsErrOf c.copy_piece.result ends.HostFault) (IsNewFile c.args.to.now) (IsNewFile c.args.to.now) _ _ _ (g.met.H.Host.is_tree c.args.host.now) before.later before.copied.appended
    c.copy_piece.ensures.fault_has_cause (same_end _ _ _ ends.HostFault c.in_err-count.was c.from_residual.ensures.1) (λ u v tree q was. still_new q was)

pub returns-then-count-eq0-clause-frame : goal.returns-then-count-eq0-clause-frame
returns-then-count-eq0-clause-frame g c = frame_within c.copy_piece.ensures.frame c.loop-at.invariant.frame (g.met.H.Host.is_tree c.loop-at.host) (λ q spot h. h) (λ q e h. h) (λ q h. h) (λ q id h is. h)

pub returns-then-count-eq0-clause-copies : goal.returns-then-count-eq0-clause-copies
returns-then-count-eq0-clause-copies g c =
    let before = c.loop-at.invariant in
    let piece = c.in_ok-count.ensures.on_success in
    let more = copied_on before.copied c.in_ok-count.count c.copy_piece.new.room (g.met.H.Host.is_tree c.loop-at.host) piece.long (λ held is. piece.tells held (before.same ∙ is)) piece.appends piece.hashes in
    let none : c.in_ok-count.count ≡ 0 = search rules in
    let some : 0 < length c.copy_piece.new.room = search rules in
    let low = before.low in
    all_copied more c.args.size (omega (arith, none, low)) (λ held is long.
    let all = bytes_of (held c.args.url.now c.args.from.now) in
    let left = none_left all c.copy_piece.new.room c.loop-at.at c.in_ok-count.count (piece.tells held (before.same ∙ is)) none some in
    omega (arith, left, none, low, long))

pub returns-clause-copies : goal.returns-clause-copies
returns-clause-copies g c =
    let before = c.loop-at.invariant in
    let low = before.low in
    let ended = c.loop-at-test.false in
    all_copied before.copied c.args.size low (λ held is long. omega (arith, ended, low, long))
