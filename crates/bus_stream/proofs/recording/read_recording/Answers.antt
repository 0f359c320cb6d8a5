use Rattle.std.proofs.Common.{rules, ◌≡◌, arith, refl, ◌∙◌, Some, true}
use Rattle.fp_base.specs.Parts.{parts_at}
use Rattle.fp_base.proofs.Lines.{remainder_is_shorter}
use Rattle.bus_stream.specs.Recordings.{recording_of, said, Took, with_line}
use Rattle.bus_stream.proofs.RecordingLaws.{good_line, bad_line, nothing_left, no_newline}
use Rattle.bus_stream.proofs.recording.read_recording.Goals as goal

pub loop-line-init : goal.loop-line-init
unfolding recording_of
loop-line-init c =
    let none = c.new-2.ensures.items in
    rw (c.new.ensures.empty, c.new-2.ensures.items, c.new-3.ensures.items) (λ name. refl, refl, omega arith)

pub add_line-requires : goal.add_line-requires
add_line-requires c = record { knows = c.loop-line.invariant.0 }

pub returns-then-not-branch : goal.returns-then-not-branch
returns-then-not-branch c = c.loop-line.invariant.1 ∙ bad_line c.loop-line.number c.loop-line.draft c.add_line.new.self c.loop-line.rest.now c.in-Some.line.now c.in-Some.remainder.now (search rules) (search rules)

pub overflow_add-number : goal.overflow_add-number
overflow_add-number c =
    let shorter = remainder_is_shorter c.loop-line.rest.now c.in-Some.line.now c.in-Some.remainder.now (search rules) in
    grind (arith, shorter, c.loop-line.invariant.2)

pub loop-line-smaller : goal.loop-line-smaller
loop-line-smaller c = remainder_is_shorter c.loop-line.rest.now c.in-Some.line.now c.in-Some.remainder.now (search rules)

pub loop-line-preserved : goal.loop-line-preserved
loop-line-preserved c =
    let cut : parts_at 10 c.loop-line.rest.now ≡ Some (c.in-Some.line.now, c.in-Some.remainder.now) = search rules in
    let took : Took true c.add_line.new.self (with_line (said c.loop-line.draft) c.in-Some.line.now) = search rules in
    let next = good_line c.loop-line.number c.loop-line.draft c.add_line.new.self c.loop-line.rest.now c.in-Some.line.now c.in-Some.remainder.now cut took in
    (next.0, c.loop-line.invariant.1 ∙ next.1, omega (arith, c.loop-line.invariant.2, remainder_is_shorter c.loop-line.rest.now c.in-Some.line.now c.in-Some.remainder.now cut))

pub returns-then-not-is_empty : goal.returns-then-not-is_empty
returns-then-not-is_empty c = c.loop-line.invariant.1 ∙ no_newline c.loop-line.number (said c.loop-line.draft) c.loop-line.rest.now (search rules) (search rules)

pub returns : goal.returns
returns c =
    let all = nothing_left c.loop-line.number (said c.loop-line.draft) c.loop-line.rest.now (search rules) (search rules) in
    rw (c.from_vec.ensures, c.from_vec-2.ensures) (c.loop-line.invariant.1 ∙ all)
