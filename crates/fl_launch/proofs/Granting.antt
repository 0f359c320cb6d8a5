-- The last mentions of layers ascend, and are what the layers grant.
use Rattle.std.proofs.Common.{◌≡◌, List, sym, ◌∙◌}
use Rattle.fl_meta.specs.declared.permission.Permission.{Permission}
use Rattle.fl_meta.specs.declared.permission.Mention.{Mention}
use Rattle.fl_context.specs.Grants.{last_mention, value_in, IsAscending}
use Rattle.fl_context.specs.Latest.{merged}
use Rattle.fl_context.proofs.Merging.{value_in-merged, same_list}
use Rattle.fl_context.proofs.Ascending.{merged_ascends}

-- ---- no other list is so

pub merged_alone : (ms grants : List Mention) → IsAscending grants → ((p : Permission) → value_in grants p ≡ last_mention ms p) → grants ≡ merged ms
merged_alone ms grants up same = same_list grants (merged ms) up (merged_ascends ms) (λ p. same p ∙ sym (value_in-merged ms p))
