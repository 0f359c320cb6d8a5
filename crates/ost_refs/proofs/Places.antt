-- The paths of places.
use Rattle.std.proofs.Common.{◌≡◌, ◌⊎◌, inl, inr, ℕ, List, ◌∷◌, false, codes, length, ◌≤◌, refl, sym, ◌∙◌, ap, arith}
use Rattle.std.specs.Str.{bytes_eq}
use Rattle.std.proofs.lemmas.Bool.{false≢true}
use Rattle.std.proofs.lemmas.Slice.Eq.{bytes_eq-Decides}
use Rattle.fp_host.specs.Paths.{Elements, IsAbove}
use Rattle.fp_host.specs.View.{View}
use Rattle.fp_host.proofs.Separate.{head_of, tail_of}
use Rattle.fp_name.specs.Kinds.{kind_word}
use Rattle.fp_name.specs.Refs.{Ref, ref_with}
use Rattle.fp_name.proofs.Refs.{kind_same}
use Rattle.fp_small.specs.Places.{tmp}
use Rattle.fp_small.specs.Replace.{CanReplace}
use Rattle.fp_small.specs.Clear.{IsWithin}
use Rattle.ost_refs.specs.Places.{heads, remotes, ref_below, place_path}
use Rattle.ost_refs.specs.Changes.{CanWrite}
use Rattle.ost_refs.specs.declared.place.RefPlace.{RefPlace}
use Rattle.ost_refs.specs.declared.place.RefPlace.TheVariants.{Head, Remote}

pub apart : (x y : List ℕ) → bytes_eq x y ≡ false → x ≡ y → ⊥
apart x y differ same = false≢true (sym differ ∙ (bytes_eq-Decides x y).1 same)

-- ---- each place has a path of its own

pub below_same : (up down : Elements) (r s : Ref) → ref_below up r ≡ ref_below down s → (r ≡ s) × (up ≡ down)
below_same up down r s h =
    let arch = tail_of h in
    let id = tail_of arch in
    let kind = tail_of id in
    let kinds = kind_same r.kind s.kind (head_of kind) in
    ((λ i. ref_with (kinds i) (head_of id i) (head_of arch i) (head_of h i)), tail_of kind)

no_remote : (root : Elements) (origin : List ℕ) → heads root ≡ origin ∷ remotes root → ⊥
no_remote root origin h = apart (codes "refs") (codes "remotes") refl (head_of (tail_of h))

pub place_same : (root : Elements) (a b : RefPlace) → place_path root a ≡ place_path root b → a ≡ b
place_same root (Head r) (Head s) h = ap Head (below_same (heads root) (heads root) r s h).0
place_same root (Head r) (Remote origin s) h = absurd (no_remote root origin (below_same (heads root) (origin ∷ remotes root) r s h).1)
place_same root (Remote origin r) (Head s) h = absurd (no_remote root origin (sym (below_same (origin ∷ remotes root) (heads root) r s h).1))
place_same root (Remote origin r) (Remote other s) h =
    let both = below_same (origin ∷ remotes root) (other ∷ remotes root) r s h in
    λ i. Remote (head_of both.1 i) (both.0 i)

-- ---- no place is in repo/tmp

longer : (x y z : List ℕ) (up : Elements) → tmp ≡ x ∷ y ∷ z ∷ up → ⊥
longer x y z up h = absurd (omega (arith, ap (λ (l : Elements). length l) h))

module _ (root : Elements) (no_work : IsWithin tmp root → ⊥) where
  off_refs : (tmp ≡ codes "refs" ∷ root) ⊎ IsAbove tmp (codes "refs" ∷ root) → ⊥
  off_refs (inl is) = apart (codes "tmp") (codes "refs") refl (head_of is)
  off_refs (inr (inl is)) = no_work (inl (sym is))
  off_refs (inr (inr above)) = no_work (inr above)

  off_heads : (tmp ≡ heads root) ⊎ IsAbove tmp (heads root) → ⊥
  off_heads (inl is) = apart (codes "tmp") (codes "heads") refl (head_of is)
  off_heads (inr above) = off_refs above

  off_remotes : (tmp ≡ remotes root) ⊎ IsAbove tmp (remotes root) → ⊥
  off_remotes (inl is) = apart (codes "tmp") (codes "remotes") refl (head_of is)
  off_remotes (inr above) = off_refs above

  off_origin : (origin : List ℕ) → (tmp ≡ origin ∷ remotes root) ⊎ IsAbove tmp (origin ∷ remotes root) → ⊥
  off_origin origin (inl is) = longer origin (codes "remotes") (codes "refs") root is
  off_origin origin (inr above) = off_remotes above

below_off : (x y : List ℕ) (up : Elements) (r : Ref) → ((tmp ≡ x ∷ y ∷ up) ⊎ IsAbove tmp (x ∷ y ∷ up) → ⊥) → IsAbove tmp (ref_below (x ∷ y ∷ up) r) → ⊥
below_off x y up r off (inl is) = longer r.arch r.id (kind_word r.kind) (x ∷ y ∷ up) is
below_off x y up r off (inr (inl is)) = longer r.id (kind_word r.kind) x (y ∷ up) is
below_off x y up r off (inr (inr (inl is))) = longer (kind_word r.kind) x y up is
below_off x y up r off (inr (inr (inr above))) = off above

place_off : (root : Elements) (place : RefPlace) → (IsWithin tmp root → ⊥) → IsAbove tmp (place_path root place) → ⊥
place_off root (Head r) no_work above = below_off (codes "heads") (codes "refs") root r (off_heads root no_work) above
place_off root (Remote origin r) no_work above = below_off origin (codes "remotes") (codes "refs" ∷ root) r (off_origin root no_work origin) above

long_path : (root : Elements) (place : RefPlace) → 6 ≤ length (place_path root place)
long_path root (Head r) = omega arith
long_path root (Remote origin r) = omega arith

pub can_replace : {root : Elements} {place : RefPlace} {v : View} → CanWrite root place v → CanReplace (place_path root place) v
can_replace {root = root} {place = place} can = record {
  entry = can.entry;
  folders = can.folders;
  no_root = λ is. absurd (omega (arith, long_path root place, ap (λ (l : Elements). length l) is));
  no_repo = λ is. absurd (omega (arith, long_path root place, ap (λ (l : Elements). length l) is));
  no_tmp = λ is. absurd (omega (arith, long_path root place, ap (λ (l : Elements). length l) is));
  no_work = place_off root place can.no_work;
}
