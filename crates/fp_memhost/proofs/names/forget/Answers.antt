use Rattle.std.proofs.Common.{◌∙◌, refl, sym, ap, subst, arith, length, List}
use Rattle.fp_memhost.specs.Names.{ForgetsNames, ascends}
use Rattle.fp_memhost.specs.declared.names.Name.{Name}
use Rattle.fp_memhost.proofs.Forgetting.{forgot_none, forgot_more, forgot_end, forgot_all, forgot_ascends, whole}
use Rattle.fp_memhost.proofs.names.forget.Goals as goal

pub loop-name-init : goal.loop-name-init
loop-name-init c = forgot_none c.deref_mut-name-items.result.now

pub loop-name-preserved : goal.loop-name-preserved
loop-name-preserved c = forgot_more _ _ _ c.name-item.result _ c.loop-name.invariant (omega arith) (record { path = refl; entry = refl; earlier = c.clear.ensures.items })

pub returns-clause-ascending : goal.returns-clause-ascending
returns-clause-ascending c =
    let old = c.args.names.now.items in
    let now = c.loop-name.name-items in
    let same = c.deref_mut-name-items.ensures.value in
    let len = c.loop-name.invariant.len ∙ ap (λ (l : List Name). length l) same in
    let kept = forgot_ascends c.deref_mut-name-items.result.now now c.loop-name.invariant.len (forgot_end _ _ _ c.loop-name.invariant c.loop-name-test.false) in
    record { each = ap ascends (whole c.args.names.now.len now old len c.args.names.now.ok.0) ∙ kept ∙ ap ascends same ∙ c.requires.each }

pub returns-clause-forgets : goal.returns-clause-forgets
returns-clause-forgets c =
    let old = c.args.names.now.items in
    let now = c.loop-name.name-items in
    let same = c.deref_mut-name-items.ensures.value in
    let len = c.loop-name.invariant.len ∙ ap (λ (l : List Name). length l) same in
    let all = forgot_all c.deref_mut-name-items.result.now now c.loop-name.invariant.len (forgot_end _ _ _ c.loop-name.invariant c.loop-name-test.false) in
    subst (ForgetsNames old) (sym (whole c.args.names.now.len now old len c.args.names.now.ok.0)) (subst (λ (l : List Name). ForgetsNames l now) same all)
