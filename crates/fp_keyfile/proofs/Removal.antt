-- What a search by place finds, and what is left once it is taken away.
use Rattle.std.proofs.Common.{◌≡◌, ◌≢◌, ℕ, suc, ◌<◌, Bool, List, [], ◌∷◌, ◌++◌, length, get_or, set, take, drop, Option, Some, None, refl, sym, ap, subst, ◌∙◌, inl, inr, arith}
use Rattle.std.specs.List.{find, position, remove}
use Rattle.std.specs.Option.{option_map, option_and_then}
use Rattle.std.specs.Str.{bytes_eq}
use Rattle.std.proofs.lemmas.List.{set_split, set-get_or, take-set, drop-set-lt}
use Rattle.fp_keyfile.specs.declared.group.Pair.{Pair}
use Rattle.fp_keyfile.specs.declared.group.Group.{Group}
use Rattle.fp_keyfile.specs.KeyFile.{pair_at, value_at, without_key, with_rest, group_without, without_pair}
use Rattle.fp_keyfile.proofs.FirstPlace.{at_place, at_none}

-- ---- what stands at the first place

pub find_none : {X : Type 0} (p : X → Bool) (xs : List X) → position p xs ≡ None → find p xs ≡ None
find_none p [] h = refl
find_none p (x ∷ xs) h =
    let a = at_none p x xs h in
    rw a.0 (find_none p xs a.1)

pub find_some : {X : Type 0} (p : X → Bool) (xs : List X) (at : ℕ) (y : X) → position p xs ≡ Some at → y ≡ get_or xs at y → find p xs ≡ Some y
find_some p [] at y h is = absurd cc
find_some p (x ∷ xs) at y h is =
    elim (at_place p x xs at h) [
      | inl here ↦
          let same : y ≡ x = is ∙ ap (λ (k : ℕ). get_or (x ∷ xs) k y) here.1 in
          rw here.0 (ap (λ z. Some z) (sym same))
      | inr next ↦
          let same : y ≡ get_or xs next.1.before y = is ∙ ap (λ (k : ℕ). get_or (x ∷ xs) k y) next.1.is in
          rw next.0 (find_some p xs next.1.before y next.1.place same)
    ]

-- ---- pairs

pub without_key_found : (pairs : List Pair) (key : List ℕ) (at : ℕ) → position (λ p. bytes_eq p.key key) pairs ≡ Some at → without_key pairs key ≡ remove pairs at
without_key_found [] key at h = absurd cc
without_key_found (p ∷ pairs) key at h =
    elim (at_place (λ (q : Pair). bytes_eq q.key key) p pairs at h) [
      | inl here ↦ rw (here.1, here.0) refl
      | inr next ↦ rw (next.1.is, next.0) (ap (λ (ps : List Pair). p ∷ ps) (without_key_found pairs key next.1.before next.1.place))
    ]

-- ---- groups

pub value_at_place : (file : List Group) (name key : List ℕ) (at : ℕ) (g : Group) → position (λ f. bytes_eq f.name name) file ≡ Some at → g ≡ get_or file at g → value_at file name key ≡ option_map (λ p. p.value) (pair_at g.pairs key)
unfolding value_at
value_at_place file name key at g h is = ap (option_and_then (λ (f : Group). option_map (λ (p : Pair). p.value) (pair_at f.pairs key))) (find_some (λ (f : Group). bytes_eq f.name name) file at g h is)

pub value_at_missed : (file : List Group) (name key : List ℕ) → position (λ f. bytes_eq f.name name) file ≡ None → value_at file name key ≡ None
unfolding value_at
value_at_missed file name key h = ap (option_and_then (λ (f : Group). option_map (λ (p : Pair). p.value) (pair_at f.pairs key))) (find_none (λ (f : Group). bytes_eq f.name name) file h)

pub without_pair_missed : (file : List Group) (name key : List ℕ) → position (λ f. bytes_eq f.name name) file ≡ None → without_pair file name key ≡ file
unfolding without_pair
without_pair_missed [] name key h = refl
without_pair_missed (f ∷ file) name key h =
    let a = at_none (λ (g : Group). bytes_eq g.name name) f file h in
    rw a.0 (ap (λ (gs : List Group). f ∷ gs) (without_pair_missed file name key a.1))

without_pair_found : (file : List Group) (name key : List ℕ) (at : ℕ) (g : Group) → position (λ f. bytes_eq f.name name) file ≡ Some at → g ≡ get_or file at g
    → without_pair file name key ≡ take at file ++ group_without (pair_at g.pairs key) g key (drop (suc at) file)
unfolding without_pair
without_pair_found [] name key at g h is = absurd cc
without_pair_found (f ∷ file) name key at g h is =
    elim (at_place (λ (q : Group). bytes_eq q.name name) f file at h) [
      | inl here ↦
          let same : g ≡ f = is ∙ ap (λ (k : ℕ). get_or (f ∷ file) k g) here.1 in
          rw (here.1, here.0, same) refl
      | inr next ↦
          let same : g ≡ get_or file next.1.before g = is ∙ ap (λ (k : ℕ). get_or (f ∷ file) k g) next.1.is in
          rw (next.1.is, next.0) (ap (λ (gs : List Group). f ∷ gs) (without_pair_found file name key next.1.before g next.1.place same))
    ]

position-within : {X : Type 0} (p : X → Bool) (xs : List X) (at : ℕ) → position p xs ≡ Some at → at < length xs
position-within p [] at h = absurd cc
position-within p (x ∷ xs) at h =
    elim (at_place p x xs at h) [
      | inl here ↦ omega (arith, here.1)
      | inr next ↦ omega (arith, next.1.is, position-within p xs next.1.before next.1.place)
    ]

-- a group of the file, and its place
pub record IsPlaced (file : List Group) (name : List ℕ) (at : ℕ) (g : Group) : Type 0 where
  pub place : position (λ f. bytes_eq f.name name) file ≡ Some at
  pub is : g ≡ get_or file at g

split_round : (file : List Group) (name : List ℕ) (at : ℕ) (g : Group) → IsPlaced file name at g → (u : Group) → set file at u ≡ take at file ++ (u ∷ drop (suc at) file)
split_round file name at g h u = set_split file at u (position-within (λ (f : Group). bytes_eq f.name name) file at h.place)

written_back : (file : List Group) (name : List ℕ) (at : ℕ) (g : Group) → IsPlaced file name at g → set file at g ≡ file
written_back file name at g h = ap (set file at) h.is ∙ set-get_or file at g

-- the group hasn't the pair
pub without_pair_kept : (file : List Group) (name key : List ℕ) (at : ℕ) (g : Group) → IsPlaced file name at g → None ≡ option_map (λ p. p.value) (pair_at g.pairs key) → without_pair file name key ≡ set file at g
without_pair_kept file name key at g h none =
    without_pair_found file name key at g h.place h.is ∙ ap (λ (found : Option Pair). take at file ++ group_without found g key (drop (suc at) file)) (nothing (pair_at g.pairs key) none) ∙ sym (split_round file name at g h g)
  where
    nothing : (o : Option Pair) → None ≡ option_map (λ (p : Pair). p.value) o → o ≡ None
    nothing None e = refl
    nothing (Some p) e = absurd cc

-- what stands in the place of the group
after_taken : (file : List Group) (name key : List ℕ) (at : ℕ) (g : Group) (value : List ℕ) → IsPlaced file name at g → Some value ≡ option_map (λ p. p.value) (pair_at g.pairs key) → without_pair file name key ≡ take at file ++ with_rest g.name (without_key g.pairs key) (drop (suc at) file)
after_taken file name key at g value h some = without_pair_found file name key at g h.place h.is ∙ found (pair_at g.pairs key) some
  where
    found : (o : Option Pair) → Some value ≡ option_map (λ (p : Pair). p.value) o → take at file ++ group_without o g key (drop (suc at) file) ≡ take at file ++ with_rest g.name (without_key g.pairs key) (drop (suc at) file)
    found None e = absurd cc
    found (Some p) e = refl

with_rest_more : (name : List ℕ) (pairs : List Pair) (file : List Group) → length pairs ≢ 0 → with_rest name pairs file ≡ record { name = name; pairs = pairs } ∷ file
with_rest_more name [] file h = absurd (h refl)
with_rest_more name (p ∷ pairs) file h = refl

with_rest_none : (name : List ℕ) (pairs : List Pair) (file : List Group) → length pairs ≡ 0 → with_rest name pairs file ≡ file
with_rest_none name [] file h = refl
with_rest_none name (p ∷ pairs) file h = absurd (omega arith)

-- the group has other pairs
pub without_pair_left : (file : List Group) (name key : List ℕ) (at : ℕ) (g u : Group) (value : List ℕ) → IsPlaced file name at g → Some value ≡ option_map (λ p. p.value) (pair_at g.pairs key) → u ≡ record g { pairs = without_key g.pairs key } → length u.pairs ≢ 0
    → without_pair file name key ≡ set file at u
without_pair_left file name key at g u value h some is more =
    let left : length (without_key g.pairs key) ≢ 0 = subst (λ (v : Group). length v.pairs ≢ 0) is more in
    after_taken file name key at g value h some ∙ ap (λ (gs : List Group). take at file ++ gs) (with_rest_more g.name (without_key g.pairs key) (drop (suc at) file) left)
    ∙ sym (split_round file name at g h (record g { pairs = without_key g.pairs key })) ∙ ap (set file at) (sym is)

-- the pair was its last
pub without_pair_last : (file : List Group) (name key : List ℕ) (at : ℕ) (g u : Group) (value : List ℕ) → IsPlaced file name at g → Some value ≡ option_map (λ p. p.value) (pair_at g.pairs key) → u ≡ record g { pairs = without_key g.pairs key } → length u.pairs ≡ 0
    → without_pair file name key ≡ remove (set file at u) at
without_pair_last file name key at g u value h some is none =
    let left : length (without_key g.pairs key) ≡ 0 = subst (λ (v : Group). length v.pairs ≡ 0) is none in
    let front : take at (set file at u) ≡ take at file = take-set file at u in
    let remainder : drop (suc at) (set file at u) ≡ drop (suc at) file = drop-set-lt (suc at) file at u (omega arith) in
    after_taken file name key at g value h some ∙ ap (λ (gs : List Group). take at file ++ gs) (with_rest_none g.name (without_key g.pairs key) (drop (suc at) file) left)
    ∙ ap (λ (gs : List Group). gs ++ drop (suc at) file) (sym front) ∙ ap (λ (gs : List Group). take at (set file at u) ++ gs) (sym remainder)
