use Rattle.std.proofs.Common.{◌≡◌, List, map, flat_map, true, subst, sym, ap, ◌∙◌}
use Rattle.fp_keyfile.specs.KeyFile.{are_distinct}
use Rattle.fl_extension.specs.Points.{name_of, point_of}
use Rattle.fl_extension.specs.declared.point.Point.{Point}
use Rattle.fl_extension.proofs.Groups.{points_distinct}
use Rattle.fl_extension.proofs.reading.points.Goals as goal

pub sort_by_name-requires : goal.sort_by_name-requires
sort_by_name-requires c =
    let all = c.in_ok-points.ensures.points ∙ ap (flat_map (point_of c.args.of.now)) (c.as_slice.ensures ∙ c.groups.ensures.groups) in
    subst (λ (ps : List Point). are_distinct (map name_of ps) ≡ true) (sym all) (points_distinct c.args.of.now c.args.file.now c.groups.ensures.good)
