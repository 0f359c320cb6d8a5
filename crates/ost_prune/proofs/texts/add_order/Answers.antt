use Rattle.std.proofs.Common.{subst, List, ℕ}
use Rattle.std.specs.HashSet.{contains_text}
use Rattle.fp_base.specs.declared.object.ObjKind.{ObjKind}
use Rattle.ost_walk.proofs.Quiet.{stored}
use Rattle.ost_prune.specs.Texts.{AddsTexts}
use Rattle.ost_prune.proofs.texts.add_order.Goals as goal

pub returns-in-Ok-add_texts-clause-tells : goal.returns-in-Ok-add_texts-clause-tells
returns-in-Ok-add_texts-clause-tells g c have s = record {
  objects = c.in-Ok.objects;
  order = c.in-Ok.ensures.tells have (stored c.requires s);
  adds = subst (λ (l : List (List ℕ × ObjKind)). AddsTexts c.args.places.now.root l (contains_text c.args.texts.now) (contains_text c.add_texts.new.texts)) c.as_slice.ensures c.in-Ok-add_texts.ensures;
}

pub returns-clause-tells : goal.returns-clause-tells
returns-clause-tells g c have s = c.in-Err.ensures.tells have (stored c.requires s)
