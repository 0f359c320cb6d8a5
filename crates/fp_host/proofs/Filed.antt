-- What a call leaves of the files that were there.
use Rattle.std.proofs.Common.{◌≡◌, ◌≢◌, ◌⊎◌, inl, inr, ℕ, List, [], ◌∷◌, ◌++◌, Some, None, refl, sym, ◌∙◌, ap, subst, Contains}
use Rattle.std.proofs.lemmas.Bool.{cases_eq}
use Rattle.std.proofs.lemmas.List.Elements.{Contains-push_cases}
use Rattle.fp_host.specs.Paths.{Elements, Slot, absent, dir, file, link, set_at}
use Rattle.fp_host.specs.View.{View, Inode}
use Rattle.fp_host.specs.Calls.{Change, makes_dir, creates, appends, links, makes_link, renames, unlinks, removes_dir, syncs, says, Can, put, grow, grown, set_file, done, half, Went, Called}
use Rattle.fp_host.specs.Frame.{ComesFrom}
use Rattle.fp_host.proofs.Keep.{grow_stood, stood_half}
use Rattle.fp_host.proofs.Separate.{path_cases, set_same, set_other, file_same, file_other}
use Rattle.fp_host.proofs.Slots.{grown_none}

-- the file that gets bytes
abbrev pub Fills : Change → View → ℕ → Type 0
Fills (appends p bytes) v id = v.names p ≡ file id
Fills (makes_dir p) v id = ⊥
Fills (creates p mode i) v id = ⊥
Fills (links from to) v id = ⊥
Fills (makes_link text p) v id = ⊥
Fills (renames from to) v id = ⊥
Fills (unlinks p) v id = ⊥
Fills (removes_dir p) v id = ⊥
Fills syncs v id = ⊥
Fills (says piece) v id = ⊥

-- a file that is there isn't a new one
old_id : {f : Inode} (v : View) (id i : ℕ) → v.files id ≡ Some f → v.files i ≡ None → id ≢ i
old_id v id i some none is = absurd (cc (some, none, ap v.files is))

grow_other : (e : Slot) (bytes : List ℕ) (v : View) (id : ℕ) → (e ≡ file id → ⊥) → (grow e bytes v).files id ≡ v.files id
grow_other absent bytes v id off = refl
grow_other dir bytes v id off = refl
grow_other (link text) bytes v id off = refl
grow_other (file i) bytes v id off = file_other v.files i (grown (v.files i) bytes) id (λ is. off (ap file (sym is)))

module _ (v : View) (id : ℕ) (f : Inode) (some : v.files id ≡ Some f) where
  kept_done : (change : Change) → Can change v → (Fills change v id → ⊥) → (done change v).files id ≡ Some f
  kept_done (makes_dir p) can off = some
  kept_done (creates p mode i) can off = file_other v.files i (Some (record { mode = mode; bytes = [] })) id (old_id v id i some can.1) ∙ some
  kept_done (appends p bytes) can off = grow_other (v.names p) bytes v id off ∙ some
  kept_done (links from to) can off = some
  kept_done (makes_link text p) can off = some
  kept_done (renames from to) can off = some
  kept_done (unlinks p) can off = some
  kept_done (removes_dir p) can off = some
  kept_done syncs can off = some
  kept_done (says piece) can off = some

  kept_half : (change : Change) → Can change v → (half change v).files id ≡ Some f
  kept_half (makes_dir p) can = some
  kept_half (creates p mode i) can = file_other v.files i (Some (record { mode = mode; bytes = [] })) id (old_id v id i some can.1) ∙ some
  kept_half (appends p bytes) can = some
  kept_half (links from to) can = some
  kept_half (makes_link text p) can = some
  kept_half (renames from to) can = some
  kept_half (unlinks p) can = some
  kept_half (removes_dir p) can = some
  kept_half syncs can = some
  kept_half (says piece) can = some

  kept_of : (change : Change) (w : View) → Went change v w → (Fills change v id → ⊥) → w.files id ≡ Some f
  kept_of change w (inl same) off = ap (λ (x : View). x.files id) same ∙ some
  kept_of change w (inr went) off = elim went.1 [
    | inl is ↦ ap (λ (x : View). x.files id) is ∙ kept_half change went.0
    | inr is ↦ ap (λ (x : View). x.files id) is ∙ kept_done change went.0 off
  ]

-- a file that a call doesn't fill keeps its mode and its bytes
pub files_kept : {change : Change} {v w : View} → Called change v w → (id : ℕ) (f : Inode) → v.files id ≡ Some f → (Fills change v id → ⊥) → w.files id ≡ Some f
files_kept {change = change} {v = v} {w = w} call id f some off = kept_of v id f some change w call.went off

new_some : (f : Inode) (v : View) (i id : ℕ) → set_file v.files i (Some f) id ≡ None → v.files id ≡ None
new_some f v i id none = elim (cases_eq id i) [
  | inl here ↦ absurd (cc (file_same v.files i (Some f) id here, none))
  | inr off ↦ sym (file_other v.files i (Some f) id off) ∙ none
]

grow_none : (e : Slot) (bytes : List ℕ) (v : View) (id : ℕ) → (grow e bytes v).files id ≡ None → v.files id ≡ None
grow_none absent bytes v id none = none
grow_none dir bytes v id none = none
grow_none (link text) bytes v id none = none
grow_none (file i) bytes v id none = elim (cases_eq id i) [
  | inl here ↦ ap v.files here ∙ grown_none (v.files i) bytes (sym (file_same v.files i (grown (v.files i) bytes) id here) ∙ none)
  | inr off ↦ sym (file_other v.files i (grown (v.files i) bytes) id off) ∙ none
]

module _ (v : View) (id : ℕ) where
  rows_done : (change : Change) → (done change v).files id ≡ None → v.files id ≡ None
  rows_done (makes_dir p) none = none
  rows_done (creates p mode i) none = new_some (record { mode = mode; bytes = [] }) v i id none
  rows_done (appends p bytes) none = grow_none (v.names p) bytes v id none
  rows_done (links from to) none = none
  rows_done (makes_link text p) none = none
  rows_done (renames from to) none = none
  rows_done (unlinks p) none = none
  rows_done (removes_dir p) none = none
  rows_done syncs none = none
  rows_done (says piece) none = none

  rows_half : (change : Change) → (half change v).files id ≡ None → v.files id ≡ None
  rows_half (makes_dir p) none = none
  rows_half (creates p mode i) none = new_some (record { mode = mode; bytes = [] }) v i id none
  rows_half (appends p bytes) none = none
  rows_half (links from to) none = none
  rows_half (makes_link text p) none = none
  rows_half (renames from to) none = none
  rows_half (unlinks p) none = none
  rows_half (removes_dir p) none = none
  rows_half syncs none = none
  rows_half (says piece) none = none

  rows_of : (change : Change) (w : View) → Went change v w → w.files id ≡ None → v.files id ≡ None
  rows_of change w (inl same) none = sym (ap (λ (x : View). x.files id) same) ∙ none
  rows_of change w (inr went) none = elim went.1 [
    | inl is ↦ rows_half change (sym (ap (λ (x : View). x.files id) is) ∙ none)
    | inr is ↦ rows_done change (sym (ap (λ (x : View). x.files id) is) ∙ none)
  ]

-- no file goes
pub rows_kept : {change : Change} {v w : View} → Called change v w → (id : ℕ) → w.files id ≡ None → v.files id ≡ None
rows_kept {change = change} {v = v} {w = w} call id none = rows_of v id change w call.went none

module _ (v : View) (id : ℕ) (f : Inode) (none : v.files id ≡ None) where
  no_file : v.files id ≡ Some f → f.bytes ≡ []
  no_file some = absurd (cc (none, some))

  new_empty : (i mode : ℕ) → set_file v.files i (Some (record { mode = mode; bytes = [] })) id ≡ Some f → f.bytes ≡ []
  new_empty i mode some = elim (cases_eq id i) [
    | inl here ↦
        let is : Some (record { mode = mode; bytes = [] }) ≡ Some f = sym (file_same v.files i (Some (record { mode = mode; bytes = [] })) id here) ∙ some in
        let same : record { mode = mode; bytes = [] } ≡ f = cc is in
        sym (ap (λ (x : Inode). x.bytes) same)
    | inr off ↦ no_file (sym (file_other v.files i (Some (record { mode = mode; bytes = [] })) id off) ∙ some)
  ]

  empty_done : (change : Change) → (Fills change v id → ⊥) → (done change v).files id ≡ Some f → f.bytes ≡ []
  empty_done (makes_dir p) off some = no_file some
  empty_done (creates p mode i) off some = new_empty i mode some
  empty_done (appends p bytes) off some = no_file (sym (grow_other (v.names p) bytes v id off) ∙ some)
  empty_done (links from to) off some = no_file some
  empty_done (makes_link text p) off some = no_file some
  empty_done (renames from to) off some = no_file some
  empty_done (unlinks p) off some = no_file some
  empty_done (removes_dir p) off some = no_file some
  empty_done syncs off some = no_file some
  empty_done (says piece) off some = no_file some

  empty_half : (change : Change) → (half change v).files id ≡ Some f → f.bytes ≡ []
  empty_half (makes_dir p) some = no_file some
  empty_half (creates p mode i) some = new_empty i mode some
  empty_half (appends p bytes) some = no_file some
  empty_half (links from to) some = no_file some
  empty_half (makes_link text p) some = no_file some
  empty_half (renames from to) some = no_file some
  empty_half (unlinks p) some = no_file some
  empty_half (removes_dir p) some = no_file some
  empty_half syncs some = no_file some
  empty_half (says piece) some = no_file some

  empty_of : (change : Change) (w : View) → Went change v w → (Fills change v id → ⊥) → w.files id ≡ Some f → f.bytes ≡ []
  empty_of change w (inl same) off some = no_file (sym (ap (λ (x : View). x.files id) same) ∙ some)
  empty_of change w (inr went) off some = elim went.1 [
    | inl is ↦ empty_half change (sym (ap (λ (x : View). x.files id) is) ∙ some)
    | inr is ↦ empty_done change off (sym (ap (λ (x : View). x.files id) is) ∙ some)
  ]

-- a new file that a call doesn't fill is empty
pub empty_kept : {change : Change} {v w : View} → Called change v w → (id : ℕ) (f : Inode) → v.files id ≡ None → w.files id ≡ Some f → (Fills change v id → ⊥) → f.bytes ≡ []
empty_kept {change = change} {v = v} {w = w} call id f none some off = empty_of v id f none change w call.went off some

-- A name of A that a call gives a file gets it from another name of A, or the file is new.
abbrev pub Passes : (Elements → Type 0) → Change → Type 0
Passes A (links from to) = A to → A from
Passes A (renames from to) = A to → A from
Passes A (makes_dir p) = Unit {0}
Passes A (creates p mode i) = Unit {0}
Passes A (appends p bytes) = Unit {0}
Passes A (makes_link text p) = Unit {0}
Passes A (unlinks p) = Unit {0}
Passes A (removes_dir p) = Unit {0}
Passes A syncs = Unit {0}
Passes A (says piece) = Unit {0}

module _ (A : Elements → Type 0) (v : View) (q : Elements) (id : ℕ) (at : A q) where
  had_put : (p : Elements) (e : Slot) → (q ≡ p → e ≡ file id → ComesFrom A v id) → set_at v.names p e q ≡ file id → ComesFrom A v id
  had_put p e given is = elim (path_cases q p) [
    | inl here ↦ given here (sym (set_same v.names p e q here) ∙ is)
    | inr off ↦ inr (q, at, sym (set_other v.names p e q off) ∙ is)
  ]

  had_grow : (e : Slot) (bytes : List ℕ) → (grow e bytes v).names q ≡ file id → ComesFrom A v id
  had_grow absent bytes is = inr (q, at, is)
  had_grow dir bytes is = inr (q, at, is)
  had_grow (link text) bytes is = inr (q, at, is)
  had_grow (file i) bytes is = inr (q, at, is)

  moved : (from to : Elements) → (A to → A from) → q ≡ to → v.names from ≡ file id → ComesFrom A v id
  moved from to passes here is = inr (from, passes (subst A here at), is)

  had_done : (change : Change) → Can change v → Passes A change → (done change v).names q ≡ file id → ComesFrom A v id
  had_done (makes_dir p) can passes is = had_put p dir (λ here e. absurd (cc e)) is
  had_done (creates p mode i) can passes is = had_put p (file i) (λ here e. inl (ap v.files (let same : id ≡ i = cc e in same) ∙ can.1)) is
  had_done (appends p bytes) can passes is = had_grow (v.names p) bytes is
  had_done (links from to) can passes is = had_put to (v.names from) (moved from to passes) is
  had_done (makes_link text p) can passes is = had_put p (link text) (λ here e. absurd (cc e)) is
  had_done (renames from to) can passes is = elim (path_cases q from) [
    | inl here ↦ absurd (cc (set_same (put to (v.names from) v).names from absent q here, is))
    | inr off ↦ had_put to (v.names from) (moved from to passes) (sym (set_other (put to (v.names from) v).names from absent q off) ∙ is)
  ]
  had_done (unlinks p) can passes is = had_put p absent (λ here e. absurd (cc e)) is
  had_done (removes_dir p) can passes is = had_put p absent (λ here e. absurd (cc e)) is
  had_done syncs can passes is = inr (q, at, is)
  had_done (says piece) can passes is = inr (q, at, is)

  had_half : (change : Change) → (half change v).names q ≡ file id → ComesFrom A v id
  had_half (makes_dir p) is = inr (q, at, is)
  had_half (creates p mode i) is = inr (q, at, is)
  had_half (appends p bytes) is = inr (q, at, is)
  had_half (links from to) is = inr (q, at, is)
  had_half (makes_link text p) is = inr (q, at, is)
  had_half (renames from to) is = inr (q, at, is)
  had_half (unlinks p) is = inr (q, at, is)
  had_half (removes_dir p) is = inr (q, at, is)
  had_half syncs is = inr (q, at, is)
  had_half (says piece) is = inr (q, at, is)

  had_of : (change : Change) (w : View) → Went change v w → Passes A change → w.names q ≡ file id → ComesFrom A v id
  had_of change w (inl same) passes is = inr (q, at, sym (ap (λ (x : View). x.names q) same) ∙ is)
  had_of change w (inr went) passes is = elim went.1 [
    | inl e ↦ had_half change (sym (ap (λ (x : View). x.names q) e) ∙ is)
    | inr e ↦ had_done change went.0 passes (sym (ap (λ (x : View). x.names q) e) ∙ is)
  ]

pub held_call : (A : Elements → Type 0) {change : Change} {v w : View} → Called change v w → Passes A change → (q : Elements) (id : ℕ) → A q → w.names q ≡ file id → ComesFrom A v id
held_call A {change = change} {v = v} {w = w} call passes q id at is = had_of A v q id at change w call.went passes is

-- what a call may put at which names
abbrev pub PutsOf : Change → View → Elements → Slot → Type 0
PutsOf (makes_dir p) v q e = (q ≡ p) × (e ≡ dir)
PutsOf (creates p mode id) v q e = (q ≡ p) × (e ≡ file id)
PutsOf (appends p bytes) v q e = ⊥
PutsOf (links from to) v q e = (q ≡ to) × (e ≡ v.names from)
PutsOf (makes_link text p) v q e = (q ≡ p) × (e ≡ link text)
PutsOf (renames from to) v q e = ((q ≡ to) × (e ≡ v.names from)) ⊎ ((q ≡ from) × (e ≡ absent))
PutsOf (unlinks p) v q e = (q ≡ p) × (e ≡ absent)
PutsOf (removes_dir p) v q e = (q ≡ p) × (e ≡ absent)
PutsOf syncs v q e = ⊥
PutsOf (says piece) v q e = ⊥

module _ (v : View) (q : Elements) where
  put_name : (p : Elements) (e : Slot) → (set_at v.names p e q ≡ v.names q) ⊎ ((q ≡ p) × (set_at v.names p e q ≡ e))
  put_name p e = elim (path_cases q p) [ inl here ↦ inr (here, set_same v.names p e q here) | inr off ↦ inl (set_other v.names p e q off) ]

  grow_name : (e : Slot) (bytes : List ℕ) → (grow e bytes v).names q ≡ v.names q
  grow_name absent bytes = refl
  grow_name dir bytes = refl
  grow_name (link text) bytes = refl
  grow_name (file id) bytes = refl

  puts_done : (change : Change) → ((done change v).names q ≡ v.names q) ⊎ PutsOf change v q ((done change v).names q)
  puts_done (makes_dir p) = put_name p dir
  puts_done (creates p mode id) = put_name p (file id)
  puts_done (appends p bytes) = inl (grow_name (v.names p) bytes)
  puts_done (links from to) = put_name to (v.names from)
  puts_done (makes_link text p) = put_name p (link text)
  puts_done (renames from to) = elim (path_cases q from) [
    | inl here ↦ inr (inr (here, set_same (put to (v.names from) v).names from absent q here))
    | inr off ↦
        let same = set_other (put to (v.names from) v).names from absent q off in
        elim (put_name to (v.names from)) [ inl old ↦ inl (same ∙ old) | inr new ↦ inr (inl (new.0, same ∙ new.1)) ]
  ]
  puts_done (unlinks p) = put_name p absent
  puts_done (removes_dir p) = put_name p absent
  puts_done syncs = inl refl
  puts_done (says piece) = inl refl

  names_half : (change : Change) → (half change v).names q ≡ v.names q
  names_half (makes_dir p) = refl
  names_half (creates p mode id) = refl
  names_half (appends p bytes) = refl
  names_half (links from to) = refl
  names_half (makes_link text p) = refl
  names_half (renames from to) = refl
  names_half (unlinks p) = refl
  names_half (removes_dir p) = refl
  names_half syncs = refl
  names_half (says piece) = refl

  puts_of : (change : Change) (w : View) → Went change v w → (w.names q ≡ v.names q) ⊎ PutsOf change v q (w.names q)
  puts_of change w (inl same) = inl (ap (λ (x : View). x.names q) same)
  puts_of change w (inr went) = elim went.1 [
    | inl is ↦ inl (ap (λ (x : View). x.names q) is ∙ names_half change)
    | inr is ↦ subst (λ (x : View). (x.names q ≡ v.names q) ⊎ PutsOf change v q (x.names q)) (sym is) (puts_done change)
  ]

-- a name holds what it held, or what the call puts there
pub puts_call : {change : Change} {v w : View} → Called change v w → (q : Elements) → (w.names q ≡ v.names q) ⊎ PutsOf change v q (w.names q)
puts_call {change = change} {v = v} {w = w} call q = puts_of v q change w call.went

-- ---- what a call remembers

pushed : (l : List (Elements × Slot)) (p : Elements) (e : Slot) (x : Elements × Slot) → Contains (l ++ (p, e) ∷ []) x → Contains l x ⊎ ((x.0 ≡ p) × (x.1 ≡ e))
pushed l p e x had = elim (Contains-push_cases l (p, e) x had) [ inl old ↦ inl old | inr is ↦ inr (ap (λ (y : Elements × Slot). y.0) (sym is), ap (λ (y : Elements × Slot). y.1) (sym is)) ]

module _ (v : View) (x : Elements × Slot) where
  new_done : (change : Change) → Contains (done change v).stood x → Contains v.stood x ⊎ PutsOf change v x.0 x.1
  new_done (makes_dir p) had = pushed v.stood p dir x had
  new_done (creates p mode id) had = pushed v.stood p (file id) x had
  new_done (appends p bytes) had = inl (subst (λ (l : List (Elements × Slot)). Contains l x) (grow_stood (v.names p) bytes v) had)
  new_done (links from to) had = pushed v.stood to (v.names from) x had
  new_done (makes_link text p) had = pushed v.stood p (link text) x had
  new_done (renames from to) had = elim (pushed (v.stood ++ (to, v.names from) ∷ []) from absent x had) [
    | inl before ↦ elim (pushed v.stood to (v.names from) x before) [ inl old ↦ inl old | inr is ↦ inr (inl is) ]
    | inr is ↦ inr (inr is)
  ]
  new_done (unlinks p) had = pushed v.stood p absent x had
  new_done (removes_dir p) had = pushed v.stood p absent x had
  new_done syncs had = inl had
  new_done (says piece) had = inl had

  new_of : (change : Change) (w : View) → Went change v w → Contains w.stood x → Contains v.stood x ⊎ PutsOf change v x.0 x.1
  new_of change w (inl same) had = inl (subst (λ (y : View). Contains y.stood x) same had)
  new_of change w (inr went) had = elim went.1 [
    | inl is ↦ inl (subst (λ (l : List (Elements × Slot)). Contains l x) (stood_half v change) (subst (λ (y : View). Contains y.stood x) is had))
    | inr is ↦ new_done change (subst (λ (y : View). Contains y.stood x) is had)
  ]

-- what was put at a name was put there before, or the call puts it there
pub put_call : {change : Change} {v w : View} → Called change v w → (x : Elements × Slot) → Contains w.stood x → Contains v.stood x ⊎ PutsOf change v x.0 x.1
put_call {change = change} {v = v} {w = w} call x had = new_of v x change w call.went had
