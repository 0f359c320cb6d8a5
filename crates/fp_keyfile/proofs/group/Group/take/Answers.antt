use Rattle.std.proofs.Common.{sym, ap, ◌∙◌}
use Rattle.std.specs.List.{position}
use Rattle.std.specs.Option.{option_map}
use Rattle.std.specs.Str.{bytes_eq}
use Rattle.std.proofs.Common.{List}
use Rattle.fp_keyfile.specs.declared.group.Pair.{Pair}
use Rattle.fp_keyfile.proofs.Removal.{find_none, find_some, without_key_found}
use Rattle.fp_keyfile.proofs.group.Group.take.Goals as goal

pub returns-in_err-at-clause-value : goal.returns-in_err-at-clause-value
returns-in_err-at-clause-value c =
    let pairs = c.args.self.now.pairs in
    let key = c.args.key.now in
    let missed = ap (position (λ (p : Pair). bytes_eq p.key key)) (sym c.as_slice.ensures) ∙ sym c.in_err-at.ensures in
    c.from_residual.ensures ∙ sym (ap (option_map (λ (p : Pair). p.value)) (find_none (λ (p : Pair). bytes_eq p.key key) pairs missed))

pub returns-clause-value : goal.returns-clause-value
returns-clause-value c =
    let pairs = c.args.self.now.pairs in
    let key = c.args.key.now in
    let found = ap (position (λ (p : Pair). bytes_eq p.key key)) (sym c.as_slice.ensures) ∙ sym c.in_ok-at.ensures in
    sym (ap (option_map (λ (p : Pair). p.value)) (find_some (λ (p : Pair). bytes_eq p.key key) pairs c.in_ok-at.at c.remove.result found c.remove.ensures.value))

pub returns-clause-found : goal.returns-clause-found
returns-clause-found c =
    let g = c.args.self.now in
    let key = c.args.key.now in
    let found = ap (position (λ (p : Pair). bytes_eq p.key key)) (sym c.as_slice.ensures) ∙ sym c.in_ok-at.ensures in
    ap (λ (ps : List Pair). record g { pairs = ps }) (c.remove.ensures.items ∙ sym (without_key_found g.pairs key c.in_ok-at.at found))
