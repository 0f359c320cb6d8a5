use Rattle.std.proofs.Common.{List, refl, sym, subst, arith}
use Rattle.std.proofs.lemmas.Result.{on_ok_weaker}
use Rattle.fp_memhost.proofs.Editing.{write_ascends, write_same, write_keeps, write_edit, edited_room, add_ascends, add_same, add_keeps, add_edit}
use Rattle.fp_memhost.specs.Names.{IsAscending, SameNames, KeepsRoom, HasRoom}
use Rattle.fp_memhost.specs.declared.names.Name.{Name}
use Rattle.fp_memhost.proofs.names.ready.Goals as goal

pub returns-in-Ok-clause-ascending : goal.returns-in-Ok-clause-ascending
returns-in-Ok-clause-ascending c = write_ascends _ _ _ _ _ c.index_mut-name.result.now _ c.in-Ok.ensures c.deref.ensures.value c.text.ensures.back c.index_mut-name.ensures.value refl c.requires

pub returns-in-Ok-clause-same : goal.returns-in-Ok-clause-same
returns-in-Ok-clause-same c = write_same _ _ _ _ _ c.index_mut-name.result.now _ c.in-Ok.ensures c.deref.ensures.value c.text.ensures.back c.index_mut-name.ensures.value refl refl c.try_reserve.ensures.items

pub returns-in-Ok-clause-keeps : goal.returns-in-Ok-clause-keeps
returns-in-Ok-clause-keeps c =
    write_keeps _ _ _ _ _ c.index_mut-name.result.now _ c.in-Ok.ensures c.deref.ensures.value c.text.ensures.back c.index_mut-name.ensures.value refl 0 (omega (arith, c.try_reserve.ensures.len)) c.try_reserve.ensures.capacity

pub returns-in-Ok-clause-room : goal.returns-in-Ok-clause-room
returns-in-Ok-clause-room c =
    let edit = write_edit _ _ _ _ _ c.index_mut-name.result.now _ c.in-Ok.ensures c.deref.ensures.value c.text.ensures.back c.index_mut-name.ensures.value refl in
    on_ok_weaker c.try_reserve.result (λ room. edited_room edit 2 room) c.try_reserve.ensures.ok

pub returns-in_ok-insert-in-Err-clause-ascending : goal.returns-in_ok-insert-in-Err-clause-ascending
returns-in_ok-insert-in-Err-clause-ascending c =
    subst IsAscending (sym c.in_ok-insert-in-Err.ensures.items) (add_ascends _ _ _ _ _ _ c.in-Err.ensures c.deref.ensures.value c.text.ensures.back c.in_ok-path-in-Err.ensures c.requires)

pub returns-in_ok-insert-in-Err-clause-same : goal.returns-in_ok-insert-in-Err-clause-same
returns-in_ok-insert-in-Err-clause-same c =
    subst (SameNames c.args.names.now.items) (sym c.in_ok-insert-in-Err.ensures.items) (add_same _ _ _ _ _ _ c.in-Err.ensures c.deref.ensures.value c.text.ensures.back c.in_ok-path-in-Err.ensures refl c.in_ok-earlier-in-Err.ensures.items)

pub returns-in_ok-insert-in-Err-clause-keeps : goal.returns-in_ok-insert-in-Err-clause-keeps
returns-in_ok-insert-in-Err-clause-keeps c =
    subst (KeepsRoom 0 c.args.names.now.items) (sym c.in_ok-insert-in-Err.ensures.items) (add_keeps _ _ _ _ _ _ c.in-Err.ensures c.deref.ensures.value c.text.ensures.back c.in_ok-path-in-Err.ensures 0)

pub returns-in_ok-insert-in-Err-clause-room : goal.returns-in_ok-insert-in-Err-clause-room
returns-in_ok-insert-in-Err-clause-room c =
    let edit = add_edit _ _ _ _ _ _ c.in-Err.ensures c.deref.ensures.value c.text.ensures.back c.in_ok-path-in-Err.ensures in
    subst (λ (l : List Name). HasRoom l c.args.path.now 2) (sym c.in_ok-insert-in-Err.ensures.items) (edited_room edit 2 (omega (arith, c.in_ok-earlier-in-Err.ensures.len, c.in_ok-earlier-in-Err.ensures.exact)))
