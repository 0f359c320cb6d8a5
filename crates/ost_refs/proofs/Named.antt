-- The places that paths name.
use Rattle.std.proofs.Common.{◌≡◌, ◌≢◌, ◌⊎◌, inl, inr, ℕ, true, false, List, [], ◌∷◌, ◌<◌, length, drop, Option, Some, None, option_map, option_and_then, codes, refl, sym, ◌∙◌, ap, subst, arith, if◌then◌else◌}
use Rattle.std.specs.Str.{bytes_eq}
use Rattle.std.proofs.lemmas.Bool.{cases_Bool, and_parts, and_from}
use Rattle.std.proofs.lemmas.List.{length-drop}
use Rattle.fp_host.specs.Paths.{Elements, absent}
use Rattle.fp_host.specs.View.{View, IsTree}
use Rattle.fp_host.specs.Calls.{IsFile}
use Rattle.fp_host.proofs.Separate.{head_of, tail_of}
use Rattle.fp_host.proofs.Shown.{some_above}
use Rattle.fp_name.specs.Grammar.{is_remote_name}
use Rattle.fp_name.specs.Kinds.{kind_word}
use Rattle.fp_name.specs.Refs.{Ref, is_ref, remainder_kind, of_parts, if_ref}
use Rattle.fp_name.proofs.Refs.{parts_are, kind_back}
use Rattle.ost_refs.specs.Places.{heads, remotes, ref_below, place_path, is_place}
use Rattle.fp_small.specs.Walks.{IsLevel}
use Rattle.ost_refs.specs.Found.{ref_named, remote_named, place_named}
use Rattle.ost_refs.specs.declared.place.RefPlace.{RefPlace}
use Rattle.ost_refs.specs.declared.place.RefPlace.TheVariants.{Head, Remote}

-- ---- the six innermost elements

pub deeper : (p q : Elements) (n : ℕ) → q ≡ drop n p → n < length p → q ≡ [] → ⊥
deeper p q n is low none = absurd (omega (arith, low, length-drop n p, ap (λ (l : Elements). length l) (sym is ∙ none)))

-- the place, by the name of the folder of its origin
abbrev pub named_in : List ℕ → List ℕ → Option Ref → Option RefPlace
named_in folder origin r = if bytes_eq folder (codes "remotes") then remote_named origin r else option_map Head r

module _ (b a i k f : List ℕ) where
  -- by the names, but that of the origin
  pub by_names : (p : Elements) → p ≡ b ∷ drop 1 p → drop 1 p ≡ a ∷ drop 1 (drop 1 p) → drop 2 p ≡ i ∷ drop 1 (drop 2 p) → drop 3 p ≡ k ∷ drop 1 (drop 3 p) → drop 5 p ≡ f ∷ drop 1 (drop 5 p)
      → (o : List ℕ) × (drop 4 p ≡ o ∷ drop 5 p) × (place_named p ≡ named_in f o (ref_named k i a b))
  by_names [] hb ha hi hk hf = absurd (cc hb)
  by_names (x ∷ []) hb ha hi hk hf = absurd (cc ha)
  by_names (x ∷ y ∷ []) hb ha hi hk hf = absurd (cc hi)
  by_names (x ∷ y ∷ z ∷ []) hb ha hi hk hf = absurd (cc hk)
  by_names (x ∷ y ∷ z ∷ w ∷ []) hb ha hi hk hf = absurd (cc hf)
  by_names (x ∷ y ∷ z ∷ w ∷ u ∷ []) hb ha hi hk hf = absurd (cc hf)
  by_names (x ∷ y ∷ z ∷ w ∷ u ∷ t ∷ up) hb ha hi hk hf =
      (u, refl, λ j. named_in (head_of hf j) u (ref_named (head_of hk j) (head_of hi j) (head_of ha j) (head_of hb j)))

  module _ (p arch id kind folder : Elements) (in_arch : arch ≡ drop 1 p) (in_id : id ≡ drop 2 p) (in_kind : kind ≡ drop 3 p) (in_folder : folder ≡ drop 5 p)
      (hb : p ≡ b ∷ drop 1 p) (ha : arch ≡ a ∷ drop 1 arch) (hi : id ≡ i ∷ drop 1 id) (hk : kind ≡ k ∷ drop 1 kind) (hf : folder ≡ f ∷ drop 1 folder) where
    named : (o : List ℕ) × (drop 4 p ≡ o ∷ drop 5 p) × (place_named p ≡ named_in f o (ref_named k i a b))
    named = by_names p hb (subst (λ (l : Elements). l ≡ a ∷ drop 1 l) in_arch ha) (subst (λ (l : Elements). l ≡ i ∷ drop 1 l) in_id hi) (subst (λ (l : Elements). l ≡ k ∷ drop 1 l) in_kind hk) (subst (λ (l : Elements). l ≡ f ∷ drop 1 l) in_folder hf)

    pub names_head : (r : Option Ref) → r ≡ ref_named k i a b → bytes_eq f (codes "remotes") ≡ false → place_named p ≡ option_map Head r
    names_head r is other = named.2 ∙ ap (λ c. if c then remote_named named.0 (ref_named k i a b) else option_map Head (ref_named k i a b)) other ∙ ap (option_map Head) (sym is)

    pub names_remote : (r : Option Ref) → r ≡ ref_named k i a b → bytes_eq f (codes "remotes") ≡ true → (origin : Elements) (o : List ℕ) → origin ≡ drop 4 p → origin ≡ o ∷ drop 1 origin → place_named p ≡ remote_named o r
    names_remote r is remote origin o in_origin ho =
        let same : named.0 ≡ o = head_of (sym named.1 ∙ sym in_origin ∙ ho) in
        named.2 ∙ ap (λ c. if c then remote_named named.0 (ref_named k i a b) else option_map Head (ref_named k i a b)) remote ∙ (λ j. remote_named (same j) (sym is j))

-- ---- from a place to its path and back

ref_back : (r : Ref) → is_ref r ≡ true → ref_named (kind_word r.kind) r.id r.arch r.branch ≡ Some r
ref_back r good =
    ap (λ o. option_and_then if_ref (option_and_then (remainder_kind (r.id ∷ r.arch ∷ r.branch ∷ [])) o)) (kind_back r.kind)
    ∙ ap (λ b. if b then Some r else None) good

pub place_back : (root : Elements) (place : RefPlace) → is_place place ≡ true → place_named (place_path root place) ≡ Some place
place_back root (Head r) good = ap (option_map Head) (ref_back r good)
place_back root (Remote origin r) good =
    let parts = and_parts (is_remote_name origin) (is_ref r) good in
    ap (remote_named origin) (ref_back r parts.1) ∙ ap (λ b. if b then Some (Remote origin r) else None) parts.0

if_ref_some : (s r : Ref) → if_ref s ≡ Some r → (s ≡ r) × (is_ref r ≡ true)
if_ref_some s r h = elim (cases_Bool (is_ref s)) [
  | inl e ↦
      let same : s ≡ r = cc (sym (ap (λ b. if b then Some s else None) e) ∙ h) in
      (same, ap is_ref (sym same) ∙ e)
  | inr e ↦ absurd (cc (sym (ap (λ b. if b then Some s else None) e) ∙ h))
]

of_some : (o : Option Ref) (r : Ref) → option_and_then if_ref o ≡ Some r → (o ≡ Some r) × (is_ref r ≡ true)
of_some None r h = absurd (cc h)
of_some (Some s) r h = let is = if_ref_some s r h in (ap Some is.0, is.1)

-- the elements of the path of a ref that was named
ref_path : (up : Elements) (k i a b : List ℕ) (r : Ref) → ref_named k i a b ≡ Some r → (is_ref r ≡ true) × (ref_below up r ≡ b ∷ a ∷ i ∷ k ∷ up)
ref_path up k i a b r h =
    let is = of_some (of_parts (k ∷ i ∷ a ∷ b ∷ [])) r h in
    let kind = parts_are (k ∷ i ∷ a ∷ b ∷ []) r is.0 in
    let id = tail_of kind in
    let arch = tail_of id in
    let branch = tail_of arch in
    (is.1, λ j. sym (head_of branch) j ∷ sym (head_of arch) j ∷ sym (head_of id) j ∷ sym (head_of kind) j ∷ up)

head_some : (o : Option Ref) (place : RefPlace) → option_map Head o ≡ Some place → (r : Ref) × (o ≡ Some r) × (place ≡ Head r)
head_some None place h = absurd (cc h)
head_some (Some r) place h = (r, refl, cc h)

remote_of : (origin : List ℕ) (o : Option Ref) (place : RefPlace) → option_map (Remote origin) o ≡ Some place → (r : Ref) × (o ≡ Some r) × (place ≡ Remote origin r)
remote_of origin None place h = absurd (cc h)
remote_of origin (Some r) place h = (r, refl, cc h)

remote_some : (origin : List ℕ) (o : Option Ref) (place : RefPlace) → remote_named origin o ≡ Some place → (r : Ref) × (o ≡ Some r) × (place ≡ Remote origin r) × (is_remote_name origin ≡ true)
remote_some origin o place h = elim (cases_Bool (is_remote_name origin)) [
  | inl e ↦ let is = remote_of origin o place (sym (ap (λ b. if b then option_map (Remote origin) o else None) e) ∙ h) in (is.0, is.1, is.2, e)
  | inr e ↦ absurd (cc (sym (ap (λ b. if b then option_map (Remote origin) o else None) e) ∙ h))
]

-- ---- paths where refs may stand

four : (folder : Elements) (v : View) (q : Elements) → IsLevel 4 folder v q → (b : List ℕ) × (a : List ℕ) × (i : List ℕ) × (k : List ℕ) × (q ≡ b ∷ a ∷ i ∷ k ∷ folder)
four folder v [] h = absurd h
four folder v (b ∷ []) h = absurd h.0
four folder v (b ∷ a ∷ []) h = absurd h.0.0
four folder v (b ∷ a ∷ i ∷ []) h = absurd h.0.0.0
four folder v (b ∷ a ∷ i ∷ k ∷ up) h = (b, a, i, k, ap (λ (l : Elements). b ∷ a ∷ i ∷ k ∷ l) h.0.0.0.0)

five : (folder : Elements) (v : View) (q : Elements) → IsLevel 5 folder v q → (b : List ℕ) × (a : List ℕ) × (i : List ℕ) × (k : List ℕ) × (o : List ℕ) × (q ≡ b ∷ a ∷ i ∷ k ∷ o ∷ folder)
five folder v [] h = absurd h
five folder v (b ∷ []) h = absurd h.0
five folder v (b ∷ a ∷ []) h = absurd h.0.0
five folder v (b ∷ a ∷ i ∷ []) h = absurd h.0.0.0
five folder v (b ∷ a ∷ i ∷ k ∷ []) h = absurd h.0.0.0.0
five folder v (b ∷ a ∷ i ∷ k ∷ o ∷ up) h = (b, a, i, k, o, ap (λ (l : Elements). b ∷ a ∷ i ∷ k ∷ o ∷ l) h.0.0.0.0.0)

head_path : (root : Elements) (b a i k : List ℕ) (place : RefPlace) → place_named (b ∷ a ∷ i ∷ k ∷ heads root) ≡ Some place → (is_place place ≡ true) × (place_path root place ≡ b ∷ a ∷ i ∷ k ∷ heads root)
head_path root b a i k place h =
    let some = head_some (ref_named k i a b) place h in
    let path = ref_path (heads root) k i a b some.0 some.1 in
    (ap is_place some.2 ∙ path.0, ap (place_path root) some.2 ∙ path.1)

remote_path : (root : Elements) (b a i k o : List ℕ) (place : RefPlace) → place_named (b ∷ a ∷ i ∷ k ∷ o ∷ remotes root) ≡ Some place → (is_place place ≡ true) × (place_path root place ≡ b ∷ a ∷ i ∷ k ∷ o ∷ remotes root)
remote_path root b a i k o place h =
    let some = remote_some o (ref_named k i a b) place h in
    let path = ref_path (o ∷ remotes root) k i a b some.0 some.1 in
    (ap is_place some.2 ∙ and_from (is_remote_name o) (is_ref some.0) some.3 path.0, ap (place_path root) some.2 ∙ path.1)

-- a place that such a path names has this path
pub named_path : (root : Elements) (v : View) (q : Elements) (place : RefPlace) → IsLevel 4 (heads root) v q ⊎ IsLevel 5 (remotes root) v q → place_named q ≡ Some place → (is_place place ≡ true) × (place_path root place ≡ q)
named_path root v q place (inl level) h =
    let is = four (heads root) v q level in
    let path = head_path root is.0 is.1 is.2 is.3 place (ap place_named (sym is.4) ∙ h) in
    (path.0, path.1 ∙ sym is.4)
named_path root v q place (inr level) h =
    let is = five (remotes root) v q level in
    let path = remote_path root is.0 is.1 is.2 is.3 is.4 place (ap place_named (sym is.5) ∙ h) in
    (path.0, path.1 ∙ sym is.5)

-- where the file of a ref stands, a ref may stand
pub file_level : {v : View} → IsTree v → (root : Elements) (place : RefPlace) → IsFile (v.names (place_path root place)) → IsLevel 4 (heads root) v (place_path root place) ⊎ IsLevel 5 (remotes root) v (place_path root place)
file_level {v = v} tree root (Head r) is =
    let branch : v.names (place_path root (Head r)) ≢ absent = λ none. absurd (cc (none, is.1)) in
    let arch = some_above tree r.branch (r.arch ∷ r.id ∷ kind_word r.kind ∷ heads root) branch in
    let id = some_above tree r.arch (r.id ∷ kind_word r.kind ∷ heads root) arch in
    let kind = some_above tree r.id (kind_word r.kind ∷ heads root) id in
    inl ((((refl, kind), id), arch), branch)
file_level {v = v} tree root (Remote o r) is =
    let branch : v.names (place_path root (Remote o r)) ≢ absent = λ none. absurd (cc (none, is.1)) in
    let arch = some_above tree r.branch (r.arch ∷ r.id ∷ kind_word r.kind ∷ o ∷ remotes root) branch in
    let id = some_above tree r.arch (r.id ∷ kind_word r.kind ∷ o ∷ remotes root) arch in
    let kind = some_above tree r.id (kind_word r.kind ∷ o ∷ remotes root) id in
    let origin = some_above tree (kind_word r.kind) (o ∷ remotes root) kind in
    inr (((((refl, origin), kind), id), arch), branch)
