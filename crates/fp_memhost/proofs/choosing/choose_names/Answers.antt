use Rattle.std.proofs.Common.{◌≡◌, ◌+◌, ◌<◌, ◌∙◌, refl, sym, ap, subst, arith, List, length, get_or}
use Rattle.std.specs.Prelude.{Some}
use Rattle.std.proofs.lemmas.List.{take_all}
use Rattle.fp_host.specs.declared.host.Entry.{Entry}
use Rattle.fp_memhost.specs.declared.names.Name.{Name}
use Rattle.fp_memhost.specs.Names.{slot_of}
use Rattle.fp_memhost.specs.Choosing.{entry_in}
use Rattle.fp_memhost.specs.Scenes.{seen}
use Rattle.fp_memhost.proofs.Chosen.{NamesTo, names_more, names_skip, names_end}
use Rattle.fp_memhost.proofs.choosing.choose_names.Goals.{in-Some+in_ok-path+in_ok-copy_of+in_ok-push, in_default}
use Rattle.fp_memhost.proofs.choosing.choose_names.Goals as goal

pub loop-name-preserved : goal.loop-name-preserved
loop-name-preserved c =
    let i = c.loop-name.name-index in
    let names = c.args.scene.now.names.items in
    let numbers = c.args.numbers.now in
    let chosen = c.loop-name.chosen.items in
    let name = c.name-item.result in
    let same = c.deref-name-items.ensures.value in
    let is : name ≡ get_or names i name = c.name-item.is ∙ ap (λ (l : List Name). get_or l i name) same in
    let low : i < length names = omega (arith, ap (λ (l : List Name). length l) same) in
    let number = ap (entry_in name) c.number_for-number.ensures in
    elim c.match-entry_in.branch [
      | in-Some+in_ok-path+in_ok-copy_of+in_ok-push w ↦
          subst (NamesTo (i + 1) names numbers) (sym (ap (λ v. v.items) w.chosen-is ∙ w.in_ok-push.ensures.items))
          (names_more i names numbers chosen name c.loop-name.invariant c.args.scene.now.ascending low is w.in_ok-path.path w.in_ok-copy_of.field-0 w.in_ok-path.ensures (ap (λ (e : Entry). slot_of (Some e)) w.in_ok-copy_of.ensures ∙ w.in-Some.ensures ∙ number))
      | in_default w ↦
          subst (NamesTo (i + 1) names numbers) (sym (ap (λ v. v.items) w.chosen-is))
          (names_skip i names numbers chosen name c.loop-name.invariant c.args.scene.now.ascending low is (w.in_default.ensures ∙ number))
    ]

pub returns : goal.returns
returns c = names_end c.args.scene.now.names.items (seen c.args.scene.now) c.args.numbers.now c.loop-name.chosen.items c.loop-name.name-index (take_all c.loop-name.name-index c.args.scene.now.names.items (omega (arith, ap (λ (l : List Name). length l) c.deref-name-items.ensures.value))) (λ q. refl) (λ q. refl) c.loop-name.invariant
