use Rattle.std.proofs.Common.{◌≡◌, List, length, get_or, set, sym, ap, ◌∙◌}
use Rattle.std.specs.List.{position, remove}
use Rattle.std.specs.Str.{bytes_eq}
use Rattle.std.proofs.lemmas.Bool.{eqb-true, eqb-false}
use Rattle.fp_keyfile.specs.declared.group.Group.{Group}
use Rattle.fp_keyfile.proofs.Removal.{IsPlaced, value_at_place, value_at_missed, without_pair_missed, without_pair_kept, without_pair_left, without_pair_last}
use Rattle.fp_keyfile.proofs.change.take_pair.Goals as goal
use Rattle.fp_keyfile.proofs.change.take_pair.Goals.{then-is_last, else-is_last}

pub returns-in_err-at-clause-value : goal.returns-in_err-at-clause-value
returns-in_err-at-clause-value c =
    let name = c.args.name.now in
    let missed = ap (position (λ (f : Group). bytes_eq f.name name)) (sym c.as_slice.ensures) ∙ sym c.in_err-at.ensures in
    c.from_residual.ensures ∙ sym (value_at_missed c.args.groups.now name c.args.key.now missed)

pub returns-in_err-at-clause-after : goal.returns-in_err-at-clause-after
returns-in_err-at-clause-after c =
    let name = c.args.name.now in
    let missed = ap (position (λ (f : Group). bytes_eq f.name name)) (sym c.as_slice.ensures) ∙ sym c.in_err-at.ensures in
    sym (without_pair_missed c.args.groups.now name c.args.key.now missed)

pub returns-in_err-value-clause-value : goal.returns-in_err-value-clause-value
returns-in_err-value-clause-value c =
    let groups = c.args.groups.now in
    let name = c.args.name.now in
    let at = c.in_ok-at.at in
    let g = c.at_mut-group.result.now in
    let place = ap (position (λ (f : Group). bytes_eq f.name name)) (sym c.as_slice.ensures) ∙ sym c.in_ok-at.ensures in
    let is : g ≡ get_or groups at g = c.at_mut-group.ensures.value in
    c.from_residual-in_err-value.ensures ∙ c.in_err-value.ensures.value ∙ sym (value_at_place groups name c.args.key.now at g place is)

pub returns-in_err-value-clause-after : goal.returns-in_err-value-clause-after
returns-in_err-value-clause-after c =
    let groups = c.args.groups.now in
    let name = c.args.name.now in
    let at = c.in_ok-at.at in
    let g = c.at_mut-group.result.now in
    let place = ap (position (λ (f : Group). bytes_eq f.name name)) (sym c.as_slice.ensures) ∙ sym c.in_ok-at.ensures in
    let is : g ≡ get_or groups at g = c.at_mut-group.ensures.value in
    let placed : IsPlaced groups name at g = record { place = place; is = is } in
    ap (set groups at) c.in_err-value.ensures.missed ∙ sym (without_pair_kept groups name c.args.key.now at g placed c.in_err-value.ensures.value)

pub returns-clause-value : goal.returns-clause-value
returns-clause-value c =
    let groups = c.args.groups.now in
    let name = c.args.name.now in
    let at = c.in_ok-at.at in
    let g = c.at_mut-group.result.now in
    let place = ap (position (λ (f : Group). bytes_eq f.name name)) (sym c.as_slice.ensures) ∙ sym c.in_ok-at.ensures in
    let is : g ≡ get_or groups at g = c.at_mut-group.ensures.value in
    c.in_ok-value.ensures.value ∙ sym (value_at_place groups name c.args.key.now at g place is)

pub returns-clause-after : goal.returns-clause-after
returns-clause-after c =
    let groups = c.args.groups.now in
    let name = c.args.name.now in
    let at = c.in_ok-at.at in
    let g = c.at_mut-group.result.now in
    let place = ap (position (λ (f : Group). bytes_eq f.name name)) (sym c.as_slice.ensures) ∙ sym c.in_ok-at.ensures in
    let is : g ≡ get_or groups at g = c.at_mut-group.ensures.value in
    let placed : IsPlaced groups name at g = record { place = place; is = is } in
    let u = c.take.new.self in
    elim c.if-is_last.branch [
      | then-is_last w ↦
          let none = eqb-true (length u.pairs) 0 (sym c.is_empty-is_last.ensures ∙ w.if-is_last.true) in
          w.groups-is ∙ w.remove.ensures.items ∙ sym (without_pair_last groups name c.args.key.now at g u c.in_ok-value.value placed c.in_ok-value.ensures.value c.in_ok-value.ensures.found none)
      | else-is_last w ↦
          let more = eqb-false (length u.pairs) 0 (sym c.is_empty-is_last.ensures ∙ w.if-is_last.false) in
          w.groups-is ∙ sym (without_pair_left groups name c.args.key.now at g u c.in_ok-value.value placed c.in_ok-value.ensures.value c.in_ok-value.ensures.found more)
    ]
