-- The last mention of each permission so far, as the code keeps it.
use Rattle.std.specs.Prelude.{List, [], ◌∷◌, ◌≡◌, map, fold}
use Rattle.std.specs.Ordering.{match_ordering}
use Rattle.std.specs.BTreeMap.{BTreeMap}
use denote.Ref.{Bor}
use Rattle.fl_meta.specs.declared.permission.Permission.{Permission}
use Rattle.fl_meta.specs.declared.permission.Value.{Value}
use Rattle.fl_meta.specs.declared.permission.Mention.{Mention}
use Rattle.fl_meta.specs.Order.{permission_cmp}

-- A map from each permission to its last value so far
abbrev pub Latest : Type 0
Latest = BTreeMap (Bor Permission) (Bor Value)

-- The mention that an entry of the map stands for
abbrev pub mention_at : Bor Permission × Bor Value → Mention
mention_at entry = record { permission = entry.0.now; value = entry.1.now }

-- The mentions that the map stands for, in ascending order of permissions
abbrev pub mentions_of : Latest → List Mention
mentions_of latest = map mention_at latest.entries

-- The mentions after this one is recorded: it replaces that of its permission, or gets its place in
-- the order
abbrev pub with_mention : List Mention → Mention → List Mention
with_mention [] m = m ∷ []
with_mention (n ∷ mentions) m = match_ordering (permission_cmp m.permission n.permission)
    (m ∷ n ∷ mentions) (record n { value = m.value } ∷ mentions) (n ∷ with_mention mentions m)

-- The list `front` after each of the mentions is recorded onto it, in order
unfoldable pub merged_onto : List Mention → List Mention → List Mention
merged_onto front mentions = fold with_mention front mentions

-- The last mention of each permission, in ascending order of permissions
unfoldable pub merged : List Mention → List Mention
merged mentions = merged_onto [] mentions
