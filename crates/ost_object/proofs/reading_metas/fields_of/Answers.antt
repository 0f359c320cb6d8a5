use Rattle.std.proofs.Common.{inl, inr, rules}
use Rattle.ost_object.proofs.ReadTrees.{not-four}
use Rattle.ost_object.proofs.reading_metas.fields_of.Goals as goal
use Rattle.ost_object.proofs.reading_metas.fields_of.Goals.{in_default-via-then-members-lt4, in_default-via-else-members-lt4+else-members-lt5}

pub unreachable-requires : goal.unreachable-requires
unreachable-requires c =
    not-four c.args.members.now c.requires (elim c.in_default.branch [
      | in_default-via-then-members-lt4 w ↦ inl (search rules)
      | in_default-via-else-members-lt4+else-members-lt5 w ↦ inr (search rules)
    ])
