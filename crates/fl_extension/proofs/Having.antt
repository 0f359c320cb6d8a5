-- Groups that have a point.
use Rattle.std.proofs.Common.{◌≡◌, ◌<◌, ℕ, zero, suc, List, [], ◌∷◌, ◌++◌, length, get_or, Result, Ok, Err, OnErr, subst, arith}
use Rattle.std.specs.List.{flat_map}
use Rattle.fp_keyfile.specs.declared.group.Group.{Group}
use Rattle.fp_name.specs.Refs.{Ref}
use Rattle.fl_extension.specs.declared.point.Point.{Point}
use Rattle.fl_extension.specs.Points.{HasPoint, point_of}

pub has_more : (ps qs : List Point) → HasPoint ps → HasPoint (ps ++ qs)
has_more [] qs has = absurd has
has_more (p ∷ ps) qs has = tt

has_after : (ps qs : List Point) → HasPoint qs → HasPoint (ps ++ qs)
has_after [] qs has = has
has_after (p ∷ ps) qs has = tt

-- one of the groups has one
pub has_among : (r : Ref) (groups : List Group) (i : ℕ) (g : Group) → i < length groups → g ≡ get_or groups i g → HasPoint (point_of r g) → HasPoint (flat_map (point_of r) groups)
has_among r [] i g low is has = absurd (omega (arith, low))
has_among r (h ∷ groups) zero g low is has = has_more (point_of r h) (flat_map (point_of r) groups) (subst (λ (k : Group). HasPoint (point_of r k)) is has)
has_among r (h ∷ groups) (suc i) g low is has = has_after (point_of r h) (flat_map (point_of r) groups) (has_among r groups i g (omega (arith, low)) is has)

-- at the exit of a `?`
pub on_err : {A E P : Type 0} (r : Result A E) → P → OnErr r P
on_err (Ok a) p = tt
on_err (Err e) p = p
