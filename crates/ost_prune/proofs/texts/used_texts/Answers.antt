use Rattle.std.proofs.Common.{sym, subst}
use Rattle.std.specs.HashSet.{contains_text}
use Rattle.fp_host.specs.Paths.{Elements}
use Rattle.ost_model.specs.Remotes.{Stores}
use Rattle.ost_prune.specs.Texts.{AreGathered}
use Rattle.ost_prune.proofs.Used.{IsRefusal, used_told, faulty_told}
use Rattle.ost_prune.proofs.texts.used_texts.Goals as goal

pub returns-in-Ok-clause-tells : goal.returns-in-Ok-clause-tells
returns-in-Ok-clause-tells g c =
    let has = contains_text c.in-Ok.texts in
    let root = c.in_ok-places.ensures.0 in
    used_told c.args.root.now c.args.keep.now has c.in-Ok.ensures.unchanged
    (λ have s. subst (λ (r : Elements). AreGathered r have c.args.keep.now has) root (c.in-Ok.ensures.tells have (subst (λ (r : Elements). Stores r (g.H.Host.moments c.args.host.now) have) (sym root) s)))

pub returns-in-Err-Refused-clause-tells : goal.returns-in-Err-Refused-clause-tells
returns-in-Err-Refused-clause-tells g c = faulty_told c.args.root.now c.args.keep.now _ (subst IsRefusal (sym c.in-Err-Refused.field-0-is) tt) c.in-Err-Refused.ensures.unchanged
    (λ have s. c.in-Err-Refused.ensures.tells have (subst (λ (r : Elements). Stores r (g.H.Host.moments c.args.host.now) have) (sym c.in_ok-places.ensures.0) s))
