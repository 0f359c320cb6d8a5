use Rattle.std.proofs.Common.{◌≡◌, ◌+◌, ◌≤◌, ◌∷◌, [], length, ℕ, List, take, map, Result, refl, sym, ap, subst, ◌∙◌, arith}
use Rattle.std.specs.Prelude.{reverse, option_map}
use Rattle.std.proofs.lemmas.List.{map-append}
use Rattle.fp_host.specs.Moments.{Goes}
use Rattle.fp_base.specs.declared.side.Side.{Side}
use Rattle.bus_proxy.specs.Arrivals.{Pieces, breach, events, end_of}
use Rattle.bus_proxy.specs.Outs.{setting, forwarded}
use Rattle.bus_proxy.specs.Filters.{FilterAt, AllTaken}
use Rattle.bus_proxy.proofs.Draining.{stepped}
use Rattle.fl_filter.specs.declared.end.FilterEnd.{FilterEnd}
use Rattle.fl_filter.specs.Filtered.{filtered, out_text, broken}
use Rattle.fl_filter.specs.Printed.{PrintsFirst, Printed, IsRefusedBy}
use Rattle.fl_filter.proofs.Speaking.{Far, by_err}
use Rattle.fl_filter.proofs.Remaining.{left_after, piece_on, piece_fails, all_fed}
use Rattle.fl_filter.proofs.printing.filter_recording.Goals as goal

pub loop-side-preserved : goal.loop-side-preserved
loop-side-preserved g c =
    let s = setting c.args.policy c.args.recording.now.client c.args.recording.now.owners in
    let pieces : Pieces = c.args.recording.now.pieces in
    let i = c.loop-side.side-index in
    let before : Pieces = reverse (take i pieces) in
    let given = forwarded s (events before) in
    let piece : Side × List ℕ = (c.loop-side-item.result.0, c.as_slice.result.now) in
    let items : Pieces = c.as_slice-side-items.result.now in
    let equal : items ≡ pieces = c.as_slice-side-items.ensures in
    let same : reverse (take (i + 1) pieces) ≡ piece ∷ before =
    ap (λ (l : Pieces). reverse (take (i + 1) l)) (sym equal)
    ∙ stepped items i c.loop-side-item.result c.as_slice.result.now c.loop-side-test.true c.loop-side-item.is c.as_slice.ensures
    ∙ ap (λ (l : Pieces). piece ∷ reverse (take i l)) equal in
    let all : AllTaken before (events before) = record { all = refl; sound = c.loop-side.invariant.sound } in
    let at = c.in_ok-feed.ensures.at s before (events before) given c.loop-side.invariant.at all in
    let ready = c.in_ok-print_ready.ensures.at s (piece ∷ before) (events before) given at in
    let more = left_after s (piece ∷ []) before in
    let printed = c.in_ok-print_ready.ensures.any_moment s (piece ∷ before) (events before) given (map out_text more.0) at (ap (map out_text) more.1 ∙ map-append out_text given more.0) in
    record {
      at = subst (λ (l : Pieces). FilterAt c.print_ready.new.filter s l (events l) (forwarded s (events l))) (sym same) ready.0;
      sound = ap breach same ∙ ready.1.sound;
      far = subst (λ (l : Pieces). Far (map out_text (forwarded s (events (reverse pieces)))) (map out_text (forwarded s (events l))) (g.H.Host.moments c.args.host.now) (g.H.Host.moments c.print_ready.new.host)) (sym same)
          (piece_on s pieces before (piece ∷ before) i more.0 (g.met.H.Host.is_tree c.loop-side.host) same more.1 c.loop-side.invariant.far printed);
      later = omega (arith, c.loop-side.invariant.later, c.print_ready.ensures.fault_has_cause.later);
    }

pub returns-in_err-print_ready-clause-any_moment : goal.returns-in_err-print_ready-clause-any_moment
returns-in_err-print_ready-clause-any_moment g c =
    let s = setting c.args.policy c.args.recording.now.client c.args.recording.now.owners in
    let pieces : Pieces = c.args.recording.now.pieces in
    let i = c.loop-side.side-index in
    let before : Pieces = reverse (take i pieces) in
    let given = forwarded s (events before) in
    let piece : Side × List ℕ = (c.loop-side-item.result.0, c.as_slice.result.now) in
    let items : Pieces = c.as_slice-side-items.result.now in
    let equal : items ≡ pieces = c.as_slice-side-items.ensures in
    let same : reverse (take (i + 1) pieces) ≡ piece ∷ before =
    ap (λ (l : Pieces). reverse (take (i + 1) l)) (sym equal)
    ∙ stepped items i c.loop-side-item.result c.as_slice.result.now c.loop-side-test.true c.loop-side-item.is c.as_slice.ensures
    ∙ ap (λ (l : Pieces). piece ∷ reverse (take i l)) equal in
    let all : AllTaken before (events before) = record { all = refl; sound = c.loop-side.invariant.sound } in
    let at = c.in_ok-feed.ensures.at s before (events before) given c.loop-side.invariant.at all in
    let more = left_after s (piece ∷ []) before in
    let printed = c.in_err-print_ready.ensures.any_moment s (piece ∷ before) (events before) given (map out_text more.0) at (ap (map out_text) more.1 ∙ map-append out_text given more.0) in
    by_err (λ (r : Result (Unit {0}) FilterEnd). Goes (g.H.Host.moments c.args.host.now) (g.H.Host.moments c.print_ready.new.host) (PrintsFirst (filtered c.args.policy c.args.recording.now).lines) (Printed (filtered c.args.policy c.args.recording.now) r))
    c.from_residual-in_err-print_ready.result c.in_err-print_ready.field-0.0 c.from_residual-in_err-print_ready.ensures.1
    (piece_fails s pieces before (piece ∷ before) i more.0 c.in_err-print_ready.field-0.0 (g.met.H.Host.is_tree c.loop-side.host) same more.1 c.loop-side.invariant.far printed)

pub returns-clause-any_moment : goal.returns-clause-any_moment
returns-clause-any_moment g c =
    let s = setting c.args.policy c.args.recording.now.client c.args.recording.now.owners in
    let pieces : Pieces = c.args.recording.now.pieces in
    let i = c.loop-side.side-index in
    let fed : Pieces = reverse (take i pieces) in
    let all : AllTaken fed (events fed) = record { all = refl; sound = c.loop-side.invariant.sound } in
    all_fed s pieces i c.finish.result (subst (λ (l : Pieces). length l ≤ i) c.as_slice-side-items.ensures c.loop-side-test.false) (c.finish.ensures s fed (events fed) (forwarded s (events fed)) c.loop-side.invariant.at all) c.loop-side.invariant.far

pub returns-clause-fault_has_cause : goal.returns-clause-fault_has_cause
returns-clause-fault_has_cause g c =
    let s = setting c.args.policy c.args.recording.now.client c.args.recording.now.owners in
    let fed : Pieces = reverse (take c.loop-side.side-index c.args.recording.now.pieces) in
    let all : AllTaken fed (events fed) = record { all = refl; sound = c.loop-side.invariant.sound } in
    record {
      later = c.loop-side.invariant.later;
      fault = λ faulted m is k.
          absurd (subst (IsRefusedBy (option_map broken (end_of fed))) faulted (c.finish.ensures s fed (events fed) (forwarded s (events fed)) c.loop-side.invariant.at all));
    }
