-- A proof that a view is a well-formed tree, from a statement that merely asserts it.
use Rattle.std.proofs.Common.{◌≡◌, ◌≢◌, ◌⊎◌, ◌<◌, inl, inr, ℕ, zero, suc, List, [], ◌∷◌, length, Some, refl, ap, subst, Contains, arith}
use Rattle.std.proofs.Math.Logic.{∥∥₁_elim, ∥∥₁_map}
use Rattle.std.proofs.Props.{props}
use Rattle.std.proofs.lemmas.Bool.{cases_Bool, cases_eq, both_ways}
use Rattle.std.proofs.lemmas.Slice.Eq.{bytes_eq-Decides}
use Rattle.std.specs.Str.{bytes_eq}
use Rattle.std.specs.Prelude.{slice_index_or}
use mathlib.Core.HLevel.{⊥_prop}
use Rattle.fp_host.specs.Paths.{Elements, Slot, absent, dir, file, link}
use Rattle.fp_host.specs.View.{View, MayBe, IsTree}
use Rattle.fp_host.specs.Moments.{Moments}
use Rattle.fp_host.proofs.Separate.{absent_cases, path_cases}
use Rattle.fp_memhost.specs.declared.mem.MemHost.{MemHost}
use Rattle.fp_memhost.specs.Images.{opened}
use Rattle.fp_memhost.specs.Replay.{view_now}
use Rattle.fp_memhost.specs.Stories.{told_of}

-- The statement holds or is refuted
abbrev Decided : Type 0 → Type 0
Decided P = P ⊎ (P → ⊥)

-- Two texts are equal or not
bytes_cases : (a b : List ℕ) → (a ≡ b) ⊎ (a ≢ b)
bytes_cases a b = elim (cases_Bool (bytes_eq a b)) [
  | inl t ↦ inl ((bytes_eq-Decides a b).0 t)
  | inr f ↦ inr (λ e. both_ways (bytes_eq a b) f ((bytes_eq-Decides a b).1 e))
]

-- Two entries are equal or not
pub slot_cases : (a b : Slot) → (a ≡ b) ⊎ (a ≢ b)
slot_cases absent absent = inl refl
slot_cases absent dir = inr (λ e. cc)
slot_cases absent (file id) = inr (λ e. cc)
slot_cases absent (link text) = inr (λ e. cc)
slot_cases dir absent = inr (λ e. cc)
slot_cases dir dir = inl refl
slot_cases dir (file id) = inr (λ e. cc)
slot_cases dir (link text) = inr (λ e. cc)
slot_cases (file id) absent = inr (λ e. cc)
slot_cases (file id) dir = inr (λ e. cc)
slot_cases (file i) (file j) =
    elim (cases_eq i j) [ inl e ↦ inl (ap file e) | inr ne ↦ inr (λ e. ne (cc)) ]
slot_cases (file id) (link text) = inr (λ e. cc)
slot_cases (link text) absent = inr (λ e. cc)
slot_cases (link text) dir = inr (λ e. cc)
slot_cases (link text) (file id) = inr (λ e. cc)
slot_cases (link s) (link t) =
    elim (bytes_cases s t) [ inl e ↦ inl (ap link e) | inr ne ↦ inr (λ e. ne (cc)) ]

module _ {A : Type 0} (decide : (a b : A) → (a ≡ b) ⊎ (a ≢ b)) where
  -- An element is in a list or not, if equality of elements is decided
  had_cases : (l : List A) (e : A) → Decided (Contains l e)
  had_cases [] e = inr (λ c. omega (arith, c.1))
  had_cases (x ∷ xs) e = elim (decide x e) [
    | inl is ↦ inl (0, omega arith, is)
    | inr ne ↦ elim (had_cases xs e) [
      | inl c ↦ inl (suc c.0, omega (arith, c.1), c.2)
      | inr none ↦ inr (λ c. later c.0 c.1 c.2 ne none)
    ]
  ]
    where
      later : (k : ℕ) → k < length (x ∷ xs) → slice_index_or (x ∷ xs) k e ≡ e → x ≢ e
          → (Contains xs e → ⊥) → ⊥
      later zero low is ne none = ne is
      later (suc k) low is ne none = none (k, omega arith, is)

-- Two pairs of a name and an entry are equal or not
put_cases : (a b : Elements × Slot) → (a ≡ b) ⊎ (a ≢ b)
put_cases a b = elim (path_cases a.0 b.0) [
  | inl path ↦ elim (slot_cases a.1 b.1) [
    | inl slot ↦ inl (λ i. (path i, slot i))
    | inr ne ↦ inr (λ e. ne (ap (λ (x : Elements × Slot). x.1) e))
  ]
  | inr ne ↦ inr (λ e. ne (ap (λ (x : Elements × Slot). x.0) e))
]

-- A crash may leave the entry at the name, or it can't
may_cases : (v : View) (p : Elements) (e : Slot) → Decided (MayBe v p e)
may_cases v p e = elim (slot_cases e (v.names p)) [
  | inl is ↦ inl (inl is)
  | inr ne ↦ elim (had_cases slot_cases (v.earlier p) e) [
    | inl had ↦ inl (inr had)
    | inr none ↦ inr (λ m. elim m [ inl is ↦ ne is | inr had ↦ none had ])
  ]
]

-- A decided statement that follows from an assertion holds
settle : {T P : Type 0} → Decided P → ∥ T ∥₁ → (T → P) → P
settle (inl p) t f = p
settle (inr deny) t f = absurd (∥∥₁_elim t ⊥_prop (λ x. deny (f x)))

-- A view that is asserted to be a tree is a tree
pub told_tree : (v : View) → ∥ IsTree v ∥₁ → IsTree v
told_tree v t = record {
  root = settle (slot_cases (v.names []) dir) t (λ tree. tree.root);
  only_root = λ e m. settle (slot_cases e dir) t (λ tree. tree.only_root e m);
  above = λ x up. elim (absent_cases (v.names (x ∷ up))) [
    | inl gone ↦ inl gone
    | inr some ↦ inr (settle (slot_cases (v.names up) dir) t
        (λ tree. elim (tree.above x up) [ inl gone ↦ absurd (some gone) | inr there ↦ there ]))
  ];
  may_above = λ x up e m. elim (absent_cases e) [
    | inl gone ↦ inl gone
    | inr some ↦ inr (settle (may_cases v up dir) t
        (λ tree. elim (tree.may_above x up e m) [
          | inl gone ↦ absurd (some gone)
          | inr there ↦ there
        ]))
  ];
  known = λ p id m none. ∥∥₁_elim t ⊥_prop (λ tree. tree.known p id m none);
  known_dirty = λ id d none. ∥∥₁_elim t ⊥_prop (λ tree. tree.known_dirty id d none);
  linked = λ p text m. ∥∥₁_elim t (search props) (λ tree. tree.linked p text m);
  remembered = λ x up. elim (absent_cases (v.names (x ∷ up))) [
    | inl gone ↦ inl gone
    | inr some ↦ inr (settle (had_cases put_cases v.stood (x ∷ up, v.names (x ∷ up))) t
        (λ tree. elim (tree.remembered x up) [ inl gone ↦ absurd (some gone) | inr had ↦ had ]))
  ];
  bits = λ id f is. ∥∥₁_elim t (search props) (λ tree. tree.bits id f is);
}

-- Each view that a host in memory reports as its present one is a well-formed tree
pub law : (host : MemHost) (m : Moments) → Some (told_of host) ≡ Some m → IsTree m.now
law host m is =
    let same : told_of host ≡ m = cc is in
    let now : ∥ IsTree (view_now (opened host.history.start) host.history.log.items) ∥₁ =
    ∥∥₁_map host.history.trees (λ t. t.now) in
    subst (λ (k : Moments). IsTree k.now) same (told_tree _ now)
