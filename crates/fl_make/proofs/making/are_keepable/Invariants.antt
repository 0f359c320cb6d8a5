use Rattle.std.proofs.Common.{◌≡◌, drop}
use Rattle.std.specs.List.{list_all}
use Rattle.fl_make.specs.Making.{is_keepable}
use Rattle.fl_make.proofs.making.are_keepable.Given as goal

abbrev pub invariant-loop-object : goal.invariant-loop-object
invariant-loop-object l = list_all (λ o. is_keepable o.object) l.objects ≡ list_all (λ o. is_keepable o.object) (drop l.object-index l.objects)
