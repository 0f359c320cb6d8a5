-- What a view remembers of its names after a call.
use Rattle.std.proofs.Common.{◌≡◌, ◌≢◌, ◌⊎◌, inl, inr, ℕ, List, [], ◌∷◌, ◌++◌, Option, Some, None, refl, sym, ◌∙◌, ap, subst, arith, Contains}
use Rattle.std.proofs.lemmas.List.Elements.{Contains-push, Contains-push_cases, Contains-append_left}
use Rattle.fp_host.specs.Paths.{Elements, Slot, absent, dir, file, link}
use Rattle.fp_host.specs.View.{View, Inode}
use Rattle.fp_host.specs.Calls.{Change, makes_dir, creates, appends, links, makes_link, renames, unlinks, removes_dir, syncs, says, Can, put, grow, grown, done, half, Went, Called}
use Rattle.fp_host.specs.Frame.{Keeps, NoPath}
use Rattle.fp_host.specs.Outcome.{Spot}
use Rattle.fp_host.proofs.Separate.{path_cases, set_same, set_other, file_same}
use Rattle.fp_host.proofs.Keep.{grow_stood, stood_half}

module _ (v : View) (x : Elements × Slot) where
  put_stands : (p : Elements) (e : Slot) → Contains (v.stood ++ (p, e) ∷ []) x → Contains v.stood x ⊎ ((put p e v).names x.0 ≡ x.1)
  put_stands p e had = elim (Contains-push_cases v.stood (p, e) x had) [
    | inl old ↦ inl old
    | inr is ↦ inr (set_same v.names p e x.0 (sym (ap (λ (y : Elements × Slot). y.0) is)) ∙ ap (λ (y : Elements × Slot). y.1) is)
  ]

  move_stands : (from to : Elements) → from ≢ to → Contains (done (renames from to) v).stood x → Contains v.stood x ⊎ ((done (renames from to) v).names x.0 ≡ x.1)
  move_stands from to apart had =
      let moved = put to (v.names from) v in
      elim (Contains-push_cases moved.stood (from, absent) x had) [
        | inl old ↦ elim (Contains-push_cases v.stood (to, v.names from) x old) [
          | inl older ↦ inl older
          | inr is ↦
              let here : x.0 ≡ to = sym (ap (λ (y : Elements × Slot). y.0) is) in
              inr (set_other moved.names from absent x.0 (λ e. apart (sym e ∙ here)) ∙ set_same v.names to (v.names from) x.0 here ∙ ap (λ (y : Elements × Slot). y.1) is)
        ]
        | inr is ↦ inr (set_same moved.names from absent x.0 (sym (ap (λ (y : Elements × Slot). y.0) is)) ∙ ap (λ (y : Elements × Slot). y.1) is)
      ]

  stands_done : (change : Change) → Can change v → Contains (done change v).stood x → Contains v.stood x ⊎ ((done change v).names x.0 ≡ x.1)
  stands_done (makes_dir p) can had = put_stands p dir had
  stands_done (creates p mode id) can had = put_stands p (file id) had
  stands_done (appends p bytes) can had = inl (subst (λ (l : List (Elements × Slot)). Contains l x) (grow_stood (v.names p) bytes v) had)
  stands_done (links from to) can had = put_stands to (v.names from) had
  stands_done (makes_link text p) can had = put_stands p (link text) had
  stands_done (renames from to) can had = move_stands from to can.3 had
  stands_done (unlinks p) can had = put_stands p absent had
  stands_done (removes_dir p) can had = put_stands p absent had
  stands_done syncs can had = inl had
  stands_done (says piece) can had = inl had

  stands_of : (change : Change) (w : View) → Went change v w → Contains w.stood x → Contains v.stood x ⊎ (w.names x.0 ≡ x.1)
  stands_of change w (inl same) had = inl (subst (λ (y : View). Contains y.stood x) same had)
  stands_of change w (inr went) had = elim went.1 [
    | inl is ↦ inl (subst (λ (l : List (Elements × Slot)). Contains l x) (ap (λ (y : View). y.stood) is ∙ stood_half v change) had)
    | inr is ↦ subst (λ (y : View). Contains v.stood x ⊎ (y.names x.0 ≡ x.1)) (sym is) (stands_done change went.0 (subst (λ (y : View). Contains y.stood x) is had))
  ]

-- what a call newly remembers stands after it
pub stands_now : (change : Change) (v w : View) (x : Elements × Slot) → Called change v w → Contains w.stood x → Contains v.stood x ⊎ (w.names x.0 ≡ x.1)
stands_now change v w x call had = stands_of v x change w call.went had

module _ (v : View) (q : Elements) where
  put_told : (p : Elements) (e : Slot) → ((put p e v).names q ≡ v.names q) ⊎ Contains (put p e v).stood (q, (put p e v).names q)
  put_told p e = elim (path_cases q p) [
    | inl here ↦ inr (subst (Contains (v.stood ++ (p, e) ∷ [])) (λ i. (sym here i, sym (set_same v.names p e q here) i)) (Contains-push v.stood (p, e)))
    | inr off ↦ inl (set_other v.names p e q off)
  ]

  grow_told : (e : Slot) (bytes : List ℕ) → (grow e bytes v).names q ≡ v.names q
  grow_told absent bytes = refl
  grow_told dir bytes = refl
  grow_told (link text) bytes = refl
  grow_told (file id) bytes = refl

put_twice : (v : View) (q p : Elements) (e : Slot) (w : View) → (w.names q ≡ v.names q) ⊎ Contains w.stood (q, w.names q) → ((put p e w).names q ≡ v.names q) ⊎ Contains (put p e w).stood (q, (put p e w).names q)
put_twice v q p e w first = elim (path_cases q p) [
  | inl here ↦ inr (subst (Contains (w.stood ++ (p, e) ∷ [])) (λ i. (sym here i, sym (set_same w.names p e q here) i)) (Contains-push w.stood (p, e)))
  | inr off ↦
      let same = set_other w.names p e q off in
      elim first [
        | inl old ↦ inl (same ∙ old)
        | inr new ↦ inr (subst (λ (s : Slot). Contains (w.stood ++ (p, e) ∷ []) (q, s)) (sym same) (Contains-append_left w.stood ((p, e) ∷ []) (q, w.names q) new))
      ]
]

told_done : (v : View) (q : Elements) (change : Change) → ((done change v).names q ≡ v.names q) ⊎ Contains (done change v).stood (q, (done change v).names q)
told_done v q (makes_dir p) = put_told v q p dir
told_done v q (creates p mode id) = put_told v q p (file id)
told_done v q (appends p bytes) = inl (grow_told v q (v.names p) bytes)
told_done v q (links from to) = put_told v q to (v.names from)
told_done v q (makes_link text p) = put_told v q p (link text)
told_done v q (renames from to) = put_twice v q from absent (put to (v.names from) v) (put_told v q to (v.names from))
told_done v q (unlinks p) = put_told v q p absent
told_done v q (removes_dir p) = put_told v q p absent
told_done v q syncs = inl refl
told_done v q (says piece) = inl refl

names_half : (v : View) (q : Elements) (change : Change) → (half change v).names q ≡ v.names q
names_half v q (makes_dir p) = refl
names_half v q (creates p mode id) = refl
names_half v q (appends p bytes) = refl
names_half v q (links from to) = refl
names_half v q (makes_link text p) = refl
names_half v q (renames from to) = refl
names_half v q (unlinks p) = refl
names_half v q (removes_dir p) = refl
names_half v q syncs = refl
names_half v q (says piece) = refl

told_of : (v : View) (q : Elements) (change : Change) (w : View) → Went change v w → (w.names q ≡ v.names q) ⊎ Contains w.stood (q, w.names q)
told_of v q change w (inl same) = inl (ap (λ (y : View). y.names q) same)
told_of v q change w (inr went) = elim went.1 [
  | inl is ↦ inl (ap (λ (y : View). y.names q) is ∙ names_half v q change)
  | inr is ↦ subst (λ (y : View). (y.names q ≡ v.names q) ⊎ Contains y.stood (q, y.names q)) (sym is) (told_done v q change)
]

-- each name that a call changed is remembered with what it holds
pub changed_told : (change : Change) (v w : View) (q : Elements) → Called change v w → (w.names q ≡ v.names q) ⊎ Contains w.stood (q, w.names q)
changed_told change v w q call = told_of v q change w call.went

-- a file that is created, renamed and taken away
pub file_told : (v : View) (p q : Elements) (id mode : ℕ) → v.stood ≡ []
    → (done syncs (done (unlinks q) (done (renames p q) (done (creates p mode id) v)))).stood ≡ (p, file id) ∷ (q, file id) ∷ (p, absent) ∷ (q, absent) ∷ []
file_told v p q id mode none = λ i. (none i ++ (p, file id) ∷ []) ++ (q, set_same v.names p (file id) p refl i) ∷ [] ++ (p, absent) ∷ [] ++ (q, absent) ∷ []

-- a file that is created and gets bytes
pub no_bytes : {G : Elements → Spot → Type 0} {W : Elements → Slot → Type 0} (v : View) (p : Elements) (id mode : ℕ) (bytes : List ℕ) → v.files id ≡ None
    → Keeps G W NoPath v (done (appends p bytes) (done (creates p mode id) v)) → bytes ≡ []
no_bytes v p id mode bytes none keeps =
    let made = done (creates p mode id) v in
    let new : Inode = record { mode = mode; bytes = [] } in
    let at : made.names p ≡ file id = set_same v.names p (file id) p refl in
    let row : made.files id ≡ Some new = file_same v.files id (Some new) id refl in
    let some : (grow (made.names p) bytes made).files id ≡ Some (record { mode = mode; bytes = bytes }) =
    ap (λ (e : Slot). (grow e bytes made).files id) at ∙ file_same made.files id (grown (made.files id) bytes) id refl ∙ ap (λ (r : Option Inode). grown r bytes) row in
    keeps.empty (λ q no. no) id (record { mode = mode; bytes = bytes }) none some

-- a frame that allows one name
pub allowed_puts : (v : View) (p q : Elements) (id mode : ℕ) → v.stood ≡ [] → Keeps (λ r spot. Unit {0}) (λ r e. r ≡ q) NoPath v (done (creates p mode id) v) → p ≡ q
allowed_puts v p q id mode none keeps = elim (keeps.puts (p, file id) (Contains-push v.stood (p, file id))) [
  | inl had ↦ absurd (omega (arith, (subst (λ (l : List (Elements × Slot)). Contains l (p, file id)) none had).1))
  | inr is ↦ is
]
