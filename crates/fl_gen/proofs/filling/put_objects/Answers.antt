use Rattle.std.proofs.Common.{List, map, subst}
use Rattle.std.specs.List.{AllByRecursion}
use Rattle.std.proofs.lemmas.List.{take_all}
use Rattle.ost_commit.specs.declared.built.BuiltObject.{BuiltObject}
use Rattle.ost_commit.specs.Objects.{IsNamed}
use Rattle.fl_gen.specs.Stores.{Reads, object_entry}
use Rattle.fl_gen.specs.Keeping.{Adds}
use Rattle.fl_gen.proofs.Entries.{adds_none}
use Rattle.fl_gen.proofs.Wares.{all_there, puts_more, reads_more}
use Rattle.fl_gen.proofs.filling.put_objects.Goals as goal

pub put_object-requires : goal.put_object-requires
put_object-requires c = all_there IsNamed c.args.objects.now c.loop-object.object-index c.object-item.result c.loop-object-test.true c.object-item.is c.requires

pub loop-object-init : goal.loop-object-init
loop-object-init c = record { put = adds_none c.args.store.now.rows.items; reads = tt }

pub loop-object-preserved : goal.loop-object-preserved
loop-object-preserved c =
    let objects = c.args.objects.now in
    let i = c.loop-object.object-index in
    let o = c.object-item.result in
    record {
      put = puts_more objects i o c.loop-object-test.true c.object-item.is c.args.store.now.rows.items c.loop-object.store.rows.items c.put_object.new.store.rows.items c.loop-object.invariant.put c.in_ok-put_object.ensures.put;
      reads = reads_more objects i o c.loop-object-test.true c.object-item.is c.loop-object.invariant.reads c.in_ok-put_object.ensures.reads;
    }

pub returns-clause-put : goal.returns-clause-put
returns-clause-put c = subst (λ (l : List BuiltObject). Adds (map object_entry l) c.args.store.now.rows.items c.loop-object.store.rows.items) (take_all c.loop-object.object-index c.args.objects.now c.loop-object-test.false) c.loop-object.invariant.put

pub returns-clause-reads : goal.returns-clause-reads
returns-clause-reads c = subst (AllByRecursion Reads) (take_all c.loop-object.object-index c.args.objects.now c.loop-object-test.false) c.loop-object.invariant.reads
