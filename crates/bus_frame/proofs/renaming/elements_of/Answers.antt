use Rattle.std.proofs.Common.{◌≡◌, ◌+◌, ◌≤◌, ◌++◌, ◌∷◌, [], ℕ, List, length, take, get_or, sym, ap, ◌∙◌, append_assoc, arith}
use Rattle.std.proofs.lemmas.List.{take_more}
use Rattle.bus_frame.specs.Writing.{zeros, text_bytes, element_bytes, elements_bytes}
use Rattle.bus_frame.proofs.Rows.{in_row-push, in_row-le, text-le, element_written}
use Rattle.bus_frame.proofs.renaming.elements_of.Goals as goal

pub put_text-requires : goal.put_text-requires
put_text-requires c =
    let name = c.name-item.result in
    let part = in_row-le (element_bytes c.args.little) (λ text. length text) (text-le c.args.little) c.args.at c.args.names.now c.loop-name.name-index name c.loop-name-test.true in
    let len = ap (λ (text : List ℕ). length text) (c.as_str.ensures ∙ c.name-item.is) in
    omega (arith, part, len, c.requires)

pub loop-name-preserved : goal.loop-name-preserved
loop-name-preserved c =
    let name = c.name-item.result in
    let before = take c.loop-name.name-index c.args.names.now in
    let so_far = elements_bytes c.args.little c.args.at before in
    let so_far_len : c.len.result ≡ length so_far = omega (arith, ap (λ (bytes : List ℕ). length bytes) c.loop-name.invariant) in
    let written = element_written c.args.little c.args.at c.len.result _ _ _ so_far _ name c.in_ok-put_text.ensures c.in_ok-put_zeros.ensures c.as_str.ensures c.loop-name.invariant so_far_len in
    let more : take (c.loop-name.name-index + 1) c.args.names.now ≡ before ++ name ∷ [] = take_more c.args.names.now c.loop-name.name-index name c.loop-name-test.true ∙ ap (λ (x : List ℕ). before ++ x ∷ []) (sym c.name-item.is) in
    written ∙ sym (in_row-push (element_bytes c.args.little) c.args.at before name) ∙ sym (ap (elements_bytes c.args.little c.args.at) more)
