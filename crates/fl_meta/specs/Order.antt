-- The order of permissions: by their lists, in the order in which lists are written, and then by
-- the bytes of their names.
use Rattle.std.specs.Prelude.{◌≡◌, ℕ, Bool, List, nat_eq}
use Rattle.std.specs.declared.cmp.Ordering.{Ordering}
use Rattle.std.specs.Ordering.{nat_cmp, is_eq, on, then_cmp, eq_of_both}
use Rattle.std.specs.Cmp.Lexicographic.{slice_cmp, texts_ties}
use Rattle.std.specs.Cmp.{both_tied, unsigned_ties}
use Rattle.std.specs.Str.{bytes_eq}
use Rattle.fl_meta.specs.declared.permission.PermList.{PermList}
use Rattle.fl_meta.specs.declared.permission.PermList.TheVariants as lists
use Rattle.fl_meta.specs.declared.permission.Permission.{Permission}

-- The position of a list in the order in which lists are written
abbrev pub place_of : PermList → ℕ
place_of lists.Shared = 0
place_of lists.Sockets = 1
place_of lists.Devices = 2
place_of lists.Features = 3
place_of lists.Filesystems = 4
place_of lists.Persistent = 5
place_of lists.Environment = 6
place_of lists.SessionBus = 7
place_of lists.SystemBus = 8
place_of lists.UnknownShared = 9
place_of lists.UnknownSockets = 10
place_of lists.UnknownDevices = 11
place_of lists.UnknownFeatures = 12
place_of lists.UnknownSessionBus = 13
place_of lists.UnknownSystemBus = 14

-- The position of a permission's list
abbrev pub list_place : Permission → ℕ
list_place p = place_of p.list

-- The name of a permission
abbrev pub name_of : Permission → List ℕ
name_of p = p.name

-- Tests whether two permissions have the same list and the same name
abbrev pub is_same : Permission → Permission → Bool
is_same = eq_of_both (on list_place nat_eq) (on name_of bytes_eq)

-- The order of two permissions
abbrev pub permission_cmp : Permission → Permission → Ordering
permission_cmp = then_cmp (on list_place nat_cmp) (on name_of (slice_cmp nat_cmp))

-- Two permissions are the same exactly if neither comes before the other
pub same_ties : (p q : Permission) → is_same p q ≡ is_eq (permission_cmp p q)
same_ties p q = both_tied _ _ (nat_cmp (list_place p) (list_place q))
    (slice_cmp nat_cmp (name_of p) (name_of q)) (unsigned_ties (list_place p) (list_place q))
    (texts_ties (name_of p) (name_of q))
