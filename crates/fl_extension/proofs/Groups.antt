-- The names of a key file's points.
use Rattle.std.proofs.Common.{◌≡◌, ⊎_elim, ◌⊎◌, ℕ, Bool, true, false, cond, not, append-nil, ◌&&◌, ◌||◌, List, [], ◌∷◌, ◌++◌, map, drop, flat_map, Option, Some, None, codes, refl, sym, ap, subst, ◌∙◌, inl, inr}
use Rattle.std.specs.Prelude.{nat_eq}
use Rattle.std.specs.List.{list_all, list_any, starts_with}
use Rattle.std.specs.Str.{bytes_eq}
use Rattle.std.proofs.lemmas.Bool.{cases_Bool, and_parts, and_from, or_parts, not-true, both_ways, false_from_ne_true}
use Rattle.std.proofs.lemmas.Bool.Decides.{Decides-eqb}
use Rattle.std.proofs.lemmas.List.{map-append}
use Rattle.std.proofs.lemmas.Slice.Eq.{starts_is, bytes_eq-Decides}
use Rattle.fp_base.proofs.Texts.{bytes_eq-true}
use Rattle.fp_keyfile.specs.KeyFile.{names_of, are_distinct, is_good_group, is_good}
use Rattle.fp_keyfile.specs.declared.group.Group.{Group}
use Rattle.fp_name.specs.Grammar.{is_id}
use Rattle.fp_name.specs.Refs.{Ref}
use Rattle.fl_meta.specs.Entries.{is_empty}
use Rattle.fp_keyfile.specs.KeyFile.{value_in}
use Rattle.fl_extension.specs.Points.{is_on, is_directory, point_at, point_named, point_of, name_of}
use Rattle.fl_extension.specs.declared.point.Point.{Point}

abbrev header : List ℕ → List ℕ
header name = codes "Extension " ++ name

-- a group is no point, or a point of the name in its header
abbrev IsNamed : List ℕ → List (List ℕ) → Type 0
IsNamed group names = (names ≡ []) ⊎ ((name : List ℕ) × (names ≡ name ∷ []) × (group ≡ header name))

at_directory : (g : Group) (r : Ref) (name : List ℕ) (directory : Option (List ℕ)) → g.name ≡ header name → IsNamed g.name (map name_of (point_at g r name directory))
at_directory g r name None is = inl refl
at_directory g r name (Some directory) is =
    elim (cases_Bool (is_directory directory)) [
      | inl e ↦ rw e (inr (name, refl, is))
      | inr e ↦ rw e (inl refl)
    ]

at_name : (g : Group) (r : Ref) (name : List ℕ) → g.name ≡ header name → IsNamed g.name (map name_of (point_named g r name))
at_name g r name is =
    elim (cases_Bool (is_id name && not (is_on g (codes "subdirectories")))) [
      | inl e ↦ rw e (at_directory g r name (value_in g (codes "directory")) is)
      | inr e ↦ rw e (inl refl)
    ]

-- a group's header begins with the word and goes on with its name
at_header : (g : Group) (r : Ref) → IsNamed g.name (map name_of (point_of r g))
unfolding point_of
at_header g r =
    elim (cases_Bool (starts_with nat_eq g.name (codes "Extension "))) [
      | inl e ↦ rw e (remainder (is_empty (drop 10 g.name)) ((starts_is Decides-eqb g.name (codes "Extension ") (starts_with nat_eq g.name (codes "Extension ")) refl).0 e))
      | inr e ↦ rw e (inl refl)
    ]
  where
    remainder : (b : Bool) → g.name ≡ header (drop 10 g.name) → IsNamed g.name (map name_of (flat_map (point_named g r) (cond b [] (drop 10 g.name ∷ []))))
    remainder true is = inl refl
    remainder false is = subst (λ (ps : List Point). IsNamed g.name (map name_of ps)) (sym (append-nil (point_named g r (drop 10 g.name)))) (at_name g r (drop 10 g.name) is)

joined : (r : Ref) (g : Group) (file : List Group) → map name_of (flat_map (point_of r) (g ∷ file)) ≡ map name_of (point_of r g) ++ map name_of (flat_map (point_of r) file)
joined r g file = map-append name_of (point_of r g) (flat_map (point_of r) file)

-- no point has a name whose header isn't there
lacks_name : (r : Ref) (file : List Group) (name : List ℕ) → list_any (bytes_eq (header name)) (names_of file) ≡ false → list_any (bytes_eq name) (map name_of (flat_map (point_of r) file)) ≡ false
lacks_name r [] name none = refl
lacks_name r (g ∷ file) name none =
    let a = or_parts (bytes_eq (header name) g.name) (list_any (bytes_eq (header name)) (names_of file)) none in
    let rest = lacks_name r file name a.1 in
    rw (joined r g file) (⊎_elim
    (λ e. rw e rest)
    (λ named. rw (named.1) (or_none (bytes_eq name named.0) (list_any (bytes_eq name) (map name_of (flat_map (point_of r) file))) (other named.0 (named.2) a.0) rest))
    (at_header g r))
  where
    or_none : (b c : Bool) → b ≡ false → c ≡ false → (b || c) ≡ false
    or_none b c p q = rw (p, q) refl

    other : (n : List ℕ) → g.name ≡ header n → bytes_eq (header name) g.name ≡ false → bytes_eq name n ≡ false
    other n is differ = false_from_ne_true (bytes_eq name n) (λ e. both_ways (bytes_eq (header name) g.name) differ ((bytes_eq-Decides (header name) g.name).1 (ap header (bytes_eq-true name n e) ∙ sym is)))

pub names_distinct : (r : Ref) (file : List Group) → are_distinct (names_of file) ≡ true → are_distinct (map name_of (flat_map (point_of r) file)) ≡ true
names_distinct r [] distinct = refl
names_distinct r (g ∷ file) distinct =
    let a = and_parts (not (list_any (bytes_eq g.name) (names_of file))) (are_distinct (names_of file)) distinct in
    let rest = names_distinct r file a.1 in
    rw (joined r g file) (⊎_elim
    (λ e. rw e rest)
    (λ named. rw (named.1) (and_from (not (list_any (bytes_eq named.0) (map name_of (flat_map (point_of r) file)))) (are_distinct (map name_of (flat_map (point_of r) file))) (ap not (lacks_name r file named.0 (subst (λ (n : List ℕ). list_any (bytes_eq n) (names_of file) ≡ false) (named.2) (not-true _ a.0)))) rest))
    (at_header g r))

-- in a key file each group has a name of its own, and so has each point
pub points_distinct : (r : Ref) (file : List Group) → is_good file ≡ true → are_distinct (map name_of (flat_map (point_of r) file)) ≡ true
unfolding is_good
points_distinct r file good = names_distinct r file (and_parts (list_all is_good_group file) (are_distinct (names_of file)) good).1
