-- The grants of layers of mentions: the last mention of a permission decides.
use Rattle.std.specs.Prelude.{ℕ, Bool, true, false, List, [], ◌∷◌, map, Option, Some, None, if◌then◌else◌}
use Rattle.std.specs.List.{flat_map}
use Rattle.std.specs.List.Sorted.{IsStrictlySortedBy}
use denote.Ref.{Bor}
use Rattle.fl_meta.specs.declared.permission.Permission.{Permission}
use Rattle.fl_meta.specs.declared.permission.Value.{Value}
use Rattle.fl_meta.specs.declared.permission.Value.TheVariants as values
use Rattle.fl_meta.specs.declared.permission.Mention.{Mention}
use Rattle.fl_meta.specs.Order.{is_same, permission_cmp}

-- The mentions of all layers, in order
abbrev pub joined : List (Bor (List Mention)) → List Mention
joined layers = flat_map (λ layer. layer.now) layers

-- The value that the mention gives the permission; None if it is about another
abbrev pub said : Mention → Permission → Option Value
said m p = if is_same m.permission p then Some m.value else None

-- The later of two values, or the earlier one if there is no later one
abbrev pub later : Option Value → Option Value → Option Value
later (Some value) before = Some value
later None before = before

-- The value of the last mention of the permission
abbrev pub last_mention : List Mention → Permission → Option Value
last_mention [] p = None
last_mention (m ∷ mentions) p = later (last_mention mentions p) (said m p)

-- The first of two values, or the second if there is no first one
abbrev pub or_next : Option Value → Option Value → Option Value
or_next (Some value) next = Some value
or_next None next = next

-- The value of the first mention of the permission, which is the only one in an ascending list
abbrev pub value_in : List Mention → Permission → Option Value
value_in [] p = None
value_in (m ∷ mentions) p = or_next (said m p) (value_in mentions p)

-- The permission of a mention
abbrev pub permission_of : Mention → Permission
permission_of m = m.permission

-- The permissions ascend strictly, so each is mentioned once
abbrev pub IsAscending : List Mention → Type 0
IsAscending mentions = IsStrictlySortedBy permission_cmp (map permission_of mentions)

-- Tests whether the value grants its permission: it is neither a denial nor the bus level `none`
abbrev pub is_granted : Value → Bool
is_granted values.Off = false
is_granted values.NoBus = false
is_granted value = true
