-- What a call leaves as it was, in the present view.
use Rattle.std.proofs.Common.{◌≡◌, inl, inr, ℕ, List, [], ◌∷◌, ◌++◌, refl, sym, ◌∙◌, ap, subst, Contains}
use Rattle.std.proofs.lemmas.List.Elements.{Contains-append_left}
use Rattle.fp_host.specs.Paths.{Elements, Slot, absent, dir, file, link}
use Rattle.fp_host.specs.View.{View}
use Rattle.fp_host.specs.Calls.{Change, makes_dir, creates, appends, links, makes_link, renames, unlinks, removes_dir, syncs, says, put, grow, done, half, Went, Called, Touches, IsSilent}
use Rattle.fp_host.proofs.Separate.{set_other}

grow_names : (e : Slot) (bytes : List ℕ) (v : View) → (grow e bytes v).names ≡ v.names
grow_names absent bytes v = refl
grow_names dir bytes v = refl
grow_names (file id) bytes v = refl
grow_names (link text) bytes v = refl

grow_printed : (e : Slot) (bytes : List ℕ) (v : View) → (grow e bytes v).printed ≡ v.printed
grow_printed absent bytes v = refl
grow_printed dir bytes v = refl
grow_printed (file id) bytes v = refl
grow_printed (link text) bytes v = refl

module _ (v : View) (q : Elements) where
  names_done : (change : Change) → (Touches change q → ⊥) → (done change v).names q ≡ v.names q
  names_done (makes_dir p) off = set_other v.names p dir q off
  names_done (creates p mode id) off = set_other v.names p (file id) q off
  names_done (appends p bytes) off = ap (λ (n : Elements → Slot). n q) (grow_names (v.names p) bytes v)
  names_done (links from to) off = set_other v.names to (v.names from) q off
  names_done (makes_link text p) off = set_other v.names p (link text) q off
  names_done (renames from to) off = set_other (put to (v.names from) v).names from absent q (λ e. off (inl e)) ∙ set_other v.names to (v.names from) q (λ e. off (inr e))
  names_done (unlinks p) off = set_other v.names p absent q off
  names_done (removes_dir p) off = set_other v.names p absent q off
  names_done syncs off = refl
  names_done (says piece) off = refl

  names_half : (change : Change) → (half change v).names q ≡ v.names q
  names_half (makes_dir p) = refl
  names_half (creates p mode id) = refl
  names_half (appends p bytes) = refl
  names_half (links from to) = refl
  names_half (makes_link text p) = refl
  names_half (renames from to) = refl
  names_half (unlinks p) = refl
  names_half (removes_dir p) = refl
  names_half syncs = refl
  names_half (says piece) = refl

  names_of : (change : Change) (w : View) → Went change v w → (Touches change q → ⊥) → w.names q ≡ v.names q
  names_of change w (inl same) off = ap (λ (x : View). x.names q) same
  names_of change w (inr went) off = elim went.1 [
    | inl is ↦ ap (λ (x : View). x.names q) is ∙ names_half change
    | inr is ↦ ap (λ (x : View). x.names q) is ∙ names_done change off
  ]

-- a name that a call doesn't touch is what it was
pub names_kept : {change : Change} {v w : View} → Called change v w → (q : Elements) → (Touches change q → ⊥) → w.names q ≡ v.names q
names_kept {change = change} {v = v} {w = w} call q off = names_of v q change w call.went off

printed_done : (v : View) (change : Change) → IsSilent change → (done change v).printed ≡ v.printed
printed_done v (makes_dir p) silent = refl
printed_done v (creates p mode id) silent = refl
printed_done v (appends p bytes) silent = grow_printed (v.names p) bytes v
printed_done v (links from to) silent = refl
printed_done v (makes_link text p) silent = refl
printed_done v (renames from to) silent = refl
printed_done v (unlinks p) silent = refl
printed_done v (removes_dir p) silent = refl
printed_done v syncs silent = refl
printed_done v (says piece) silent = absurd silent

printed_half : (v : View) (change : Change) → (half change v).printed ≡ v.printed
printed_half v (makes_dir p) = refl
printed_half v (creates p mode id) = refl
printed_half v (appends p bytes) = refl
printed_half v (links from to) = refl
printed_half v (makes_link text p) = refl
printed_half v (renames from to) = refl
printed_half v (unlinks p) = refl
printed_half v (removes_dir p) = refl
printed_half v syncs = refl
printed_half v (says piece) = refl

printed_of : (v : View) (change : Change) (w : View) → Went change v w → IsSilent change → w.printed ≡ v.printed
printed_of v change w (inl same) silent = ap (λ (x : View). x.printed) same
printed_of v change w (inr went) silent = elim went.1 [
  | inl is ↦ ap (λ (x : View). x.printed) is ∙ printed_half v change
  | inr is ↦ ap (λ (x : View). x.printed) is ∙ printed_done v change silent
]

pub printed_kept : {change : Change} {v w : View} → Called change v w → IsSilent change → w.printed ≡ v.printed
printed_kept {change = change} {v = v} {w = w} call silent = printed_of v change w call.went silent

-- ---- what was put at names

pub grow_stood : (e : Slot) (bytes : List ℕ) (v : View) → (grow e bytes v).stood ≡ v.stood
grow_stood absent bytes v = refl
grow_stood dir bytes v = refl
grow_stood (file id) bytes v = refl
grow_stood (link text) bytes v = refl

module _ (v : View) (x : Elements × Slot) (had : Contains v.stood x) where
  more : (p : Elements) (e : Slot) → Contains (v.stood ++ (p, e) ∷ []) x
  more p e = Contains-append_left v.stood ((p, e) ∷ []) x had

  stood_done : (change : Change) → Contains (done change v).stood x
  stood_done (makes_dir p) = more p dir
  stood_done (creates p mode id) = more p (file id)
  stood_done (appends p bytes) = subst (λ (l : List (Elements × Slot)). Contains l x) (sym (grow_stood (v.names p) bytes v)) had
  stood_done (links from to) = more to (v.names from)
  stood_done (makes_link text p) = more p (link text)
  stood_done (renames from to) = Contains-append_left (v.stood ++ (to, v.names from) ∷ []) ((from, absent) ∷ []) x (more to (v.names from))
  stood_done (unlinks p) = more p absent
  stood_done (removes_dir p) = more p absent
  stood_done syncs = had
  stood_done (says piece) = had

pub stood_half : (v : View) (change : Change) → (half change v).stood ≡ v.stood
stood_half v (makes_dir p) = refl
stood_half v (creates p mode id) = refl
stood_half v (appends p bytes) = refl
stood_half v (links from to) = refl
stood_half v (makes_link text p) = refl
stood_half v (renames from to) = refl
stood_half v (unlinks p) = refl
stood_half v (removes_dir p) = refl
stood_half v syncs = refl
stood_half v (says piece) = refl

stood_of : (v : View) (x : Elements × Slot) (change : Change) (w : View) → Went change v w → Contains v.stood x → Contains w.stood x
stood_of v x change w (inl same) had = subst (λ (y : View). Contains y.stood x) (sym same) had
stood_of v x change w (inr went) had = elim went.1 [
  | inl is ↦ subst (λ (y : View). Contains y.stood x) (sym is) (subst (λ (l : List (Elements × Slot)). Contains l x) (sym (stood_half v change)) had)
  | inr is ↦ subst (λ (y : View). Contains y.stood x) (sym is) (stood_done v x had change)
]

-- what was put at a name stays remembered
pub stood_kept : {change : Change} {v w : View} → Called change v w → (x : Elements × Slot) → Contains v.stood x → Contains w.stood x
stood_kept {change = change} {v = v} {w = w} call x had = stood_of v x change w call.went had
