use Rattle.std.proofs.Common.{◌∙◌, ◌+◌, ap, List, map}
use Rattle.std.specs.Prelude.{option_map}
use Rattle.ost_model.specs.Look.{find_dir}
use Rattle.ost_object.specs.declared.dirtree.DirEntry.{DirEntry}
use Rattle.ost_object.specs.Views.{tree_view, dir_row as row_of}
use Rattle.ost_walk.specs.Dirs.{child}
use Rattle.ost_walk.proofs.Followed.{dir_at, dir_refused}
use Rattle.ost_walk.proofs.looking.enter.Goals as goal

pub returns-in-Ok-clause-tells : goal.returns-in-Ok-clause-tells
returns-in-Ok-clause-tells g c have commit up s at =
    dir_at have commit c.args.name.now up (tree_view c.args.tree.now) c.args.depth at c.in-Some.dir
    (c.in-Some.ensures ∙ ap (λ (ds : List DirEntry). option_map (child (c.args.depth + 1)) (find_dir c.args.name.now (map row_of ds))) c.as_slice.ensures)
    (tree_view c.in-Ok.tree) (c.in-Ok.ensures.tells have s)

pub returns-in-Err-clause-tells : goal.returns-in-Err-clause-tells
returns-in-Err-clause-tells g c have commit up s at =
    dir_refused have commit c.args.name.now up (tree_view c.args.tree.now) c.args.depth at c.in-Some.dir
    (c.in-Some.ensures ∙ ap (λ (ds : List DirEntry). option_map (child (c.args.depth + 1)) (find_dir c.args.name.now (map row_of ds))) c.as_slice.ensures)
    c.in-Err.end (c.in-Err.ensures.tells have s)
