use Rattle.std.proofs.Common.{refl}
use Rattle.fp_memhost.proofs.Results.{on_ok_if, on_err_if}
use Rattle.fp_memhost.proofs.Filing.{write_file, write_there, grows_file, same_file}
use Rattle.fp_memhost.proofs.files.grow.Goals as goal

pub returns-in-Some-clause-ok : goal.returns-in-Some-clause-ok
returns-in-Some-clause-ok c =
    let there = write_there c.args.files.now.items c.deref.result.now c.args.id c.in-Some.at c.index_mut-file.result.now c.in-Some.ensures c.deref.ensures.value c.index_mut-file.ensures.value in
    let edit = write_file c.args.files.now.items c.deref.result.now c.args.id c.in-Some.at _ c.in-Some.ensures c.deref.ensures.value there.1 in
    on_ok_if c.extend_from_slice.result _ _ _ c.extend_from_slice.ensures.items (λ is. grows_file edit c.index_mut-file.result.now c.args.bytes.now there.0 refl refl is)

pub returns-in-Some-clause-err : goal.returns-in-Some-clause-err
returns-in-Some-clause-err c =
    let there = write_there c.args.files.now.items c.deref.result.now c.args.id c.in-Some.at c.index_mut-file.result.now c.in-Some.ensures c.deref.ensures.value c.index_mut-file.ensures.value in
    let edit = write_file c.args.files.now.items c.deref.result.now c.args.id c.in-Some.at _ c.in-Some.ensures c.deref.ensures.value there.1 in
    on_err_if c.extend_from_slice.result _ _ _ c.extend_from_slice.ensures.items (λ is. same_file edit c.index_mut-file.result.now there.0 refl refl is)
