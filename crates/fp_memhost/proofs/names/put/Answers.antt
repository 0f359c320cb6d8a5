use Rattle.std.proofs.Common.{◌∷◌, ◌++◌, [], Option, refl, ◌∙◌, ap, arith}
use Rattle.fp_memhost.proofs.Editing.{no_room, was_there, room_here, write_ascends, write_keeps, write_puts}
use Rattle.fp_host.specs.declared.host.Entry.{Entry}
use Rattle.fp_memhost.proofs.names.put.Goals as goal

pub unreachable-requires : goal.unreachable-requires
unreachable-requires c = no_room _ _ _ _ _ 1 c.deref.ensures.value c.text.ensures.back c.in_default.ensures c.requires.room

pub unwrap-requires : goal.unwrap-requires
unwrap-requires c =
    let there = was_there _ _ _ _ _ c.index_mut-name.result.now c.index_mut-name.result.now c.in-Ok.ensures c.deref.ensures.value c.text.ensures.back c.index_mut-name.ensures.value refl in
    let room = room_here _ _ _ 1 there c.requires.room in
    c.push.ensures.succeeds (omega arith)

pub returns-clause-ascending : goal.returns-clause-ascending
returns-clause-ascending c = write_ascends _ _ _ _ _ c.index_mut-name.result.now _ c.in-Ok.ensures c.deref.ensures.value c.text.ensures.back c.index_mut-name.ensures.value refl c.requires.ascending

pub returns-clause-puts : goal.returns-clause-puts
returns-clause-puts c =
    let items = rw c.unwrap.ensures at c.push.ensures.items in
    write_puts _ _ _ _ _ c.index_mut-name.result.now _ c.in-Ok.ensures c.deref.ensures.value c.text.ensures.back c.index_mut-name.ensures.value refl c.args.entry c.replace-held.ensures.after
    (items ∙ ap (λ (e : Option Entry). c.index_mut-name.result.now.earlier.items ++ e ∷ []) c.replace-held.ensures.value)

pub returns-clause-keeps : goal.returns-clause-keeps
returns-clause-keeps c =
    write_keeps _ _ _ _ _ c.index_mut-name.result.now _ c.in-Ok.ensures c.deref.ensures.value c.text.ensures.back c.index_mut-name.ensures.value refl 1 c.push.ensures.upper_bound c.push.ensures.capacity
