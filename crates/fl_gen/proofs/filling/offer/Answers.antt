use Rattle.std.proofs.Common.{List, map, OnOk, sym, subst}
use Rattle.std.specs.List.{AllByRecursion}
use Rattle.ost_commit.specs.declared.built.BuiltObject.{BuiltObject}
use Rattle.ost_commit.specs.Objects.{IsNamed}
use Rattle.fl_gen.specs.Stores.{Reads, object_entry}
use Rattle.fl_gen.specs.Keeping.{Adds}
use Rattle.fl_gen.proofs.Wares.{offers_ware}
use Rattle.fl_gen.proofs.filling.offer.Goals as goal

pub put_objects-requires : goal.put_objects-requires
put_objects-requires g c = subst (AllByRecursion IsNamed) (sym c.as_slice.ensures) c.in-Ok.ensures.built.named

pub returns : goal.returns
returns g c =
    let r = c.put_objects.result in
    let s = c.args.store.now.rows.items in
    let t = c.put_ref.new.store.rows.items in
    let u = c.put_objects.new.store.rows.items in
    offers_ware r c.args.version c.args.name.now c.args.rows.now c.in-Ok.built s t u c.in-Ok.ensures.built c.put_ref.ensures.digits c.in_ok-put_ref.ensures.put
    (subst (λ (l : List BuiltObject). OnOk r (Adds (map object_entry l) t u)) c.as_slice.ensures c.put_objects.ensures.put)
    (subst (λ (l : List BuiltObject). OnOk r (AllByRecursion Reads l)) c.as_slice.ensures c.put_objects.ensures.reads)
