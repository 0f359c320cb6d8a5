use Rattle.std.proofs.Common.{◌≡◌, ◌+◌, ◌<◌, ◌≤◌, ◌++◌, ℕ, List, length, sym, ap, subst, ◌∙◌, arith}
use Rattle.std.specs.Prelude.{IfOk}
use Rattle.bus_frame.specs.Writing.{elements_bytes, with_body, number_bytes, with_names_bytes, names_bytes}
use Rattle.bus_frame.proofs.Frames.{has_body}
use Rattle.bus_frame.proofs.Rows.{length-names_bytes}
use Rattle.bus_frame.proofs.renaming.with_names.Goals as goal

pub overflow_add-first : goal.overflow_add-first
overflow_add-first c =
    let body = has_body c.args.message.now c.args.header.now _ c.requires.frame in
    omega (arith, body.start, body.end, body.limit)

pub elements_of-requires : goal.elements_of-requires
elements_of-requires c =
    let h = c.args.header.now in
    let body = has_body c.args.message.now h _ c.requires.frame in
    let len = length-names_bytes h.little h.body_at c.args.names.now in
    let same = ap (λ (names : List (List ℕ)). length (elements_bytes h.little (h.body_at + 4) names)) c.as_slice.ensures in
    omega (arith, body.start, body.end, body.limit, len, same, c.requires.room)

pub replaced-requires-clause-start : goal.replaced-requires-clause-start
replaced-requires-clause-start c =
    let body = has_body c.args.message.now c.args.header.now _ c.requires.frame in
    omega (arith, body.start)

pub replaced-requires-clause-within : goal.replaced-requires-clause-within
replaced-requires-clause-within c =
    let body = has_body c.args.message.now c.args.header.now _ c.requires.frame in
    omega (arith, body.end, body.within)

pub replaced-requires-clause-room : goal.replaced-requires-clause-room
replaced-requires-clause-room c =
    let h = c.args.header.now in
    let body = has_body c.args.message.now h _ c.requires.frame in
    let len = length-names_bytes h.little h.body_at c.args.names.now in
    let written = c.deref.ensures.value ∙ c.in_ok-elements.ensures ∙ ap (elements_bytes h.little (h.body_at + 4)) c.as_slice.ensures in
    let same = ap (λ (bytes : List ℕ). length bytes) written in
    omega (arith, body.start, body.end, body.limit, len, same, c.requires.room)

pub returns : goal.returns
unfolding names_bytes with_names_bytes
returns c =
    let h = c.args.header.now in
    let written = c.deref.ensures.value ∙ c.in_ok-elements.ensures ∙ ap (elements_bytes h.little (h.body_at + 4)) c.as_slice.ensures in
    record {
      bytes = subst (λ (e : List ℕ). IfOk c.replaced.result (λ b. b ≡ with_body h c.args.message.now (number_bytes h.little (length e) ++ e))) written c.replaced.ensures;
    }
