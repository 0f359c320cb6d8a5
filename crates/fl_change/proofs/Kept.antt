-- The commits that a state keeps after an operation.
use Rattle.std.proofs.Common.{◌≡◌, ◌⊎◌, inl, inr, ℕ, List, [], ◌∷◌, Bool, true, false, Option, Some, None, if◌then◌else◌, refl, sym, subst}
use Rattle.std.specs.Str.{bytes_eq}
use Rattle.fp_name.specs.Refs.{Ref, ref_text}
use Rattle.fp_small.specs.Order.{comes_before, inserted, removed, replaced}
use Rattle.fp_small.specs.declared.state.State.{State}
use Rattle.fp_small.specs.declared.state.RefRow.{RefRow}
use Rattle.fp_small.specs.declared.state.Previous.{Previous}
use Rattle.fp_small.specs.declared.op.Op.{Op}
use Rattle.fp_small.specs.declared.op.Op.TheVariants.{Install, Update, Uninstall, AddPin, DropPin, AddRemote, ModifyRemote, DropRemote, SetOverride, DropOverride, Migrate, Rollback}
use Rattle.ost_model.specs.Order.{In}
use Rattle.ost_model.proofs.Members.{in_append, in_left, in_right}
use Rattle.dep_states.specs.Shown.{at_name, ref_key}
use Rattle.dep_states.specs.After.{row_at, after_op, updated, rolled_back, back, moved, exchanged}
use Rattle.dep_states.specs.Effects.{Effect, effect_of, brings, writes}
use Rattle.dep_tidy.specs.Kept.{previous_commits, kept_by, kept_of}
use Rattle.fl_change.specs.World.{kept_commits}

-- ---- rows

-- the commit is kept by the one row, or by one of the others
abbrev OneOf : RefRow → List RefRow → List ℕ → Type 0
OneOf x rows c = In (kept_by x) c ⊎ In (kept_of rows) c

insert_by : (c : List ℕ) (y : RefRow) (ys rest : List RefRow) (x : RefRow) (b : Bool) → (In (kept_of rest) c → OneOf x ys c) → In (kept_of (if b then y ∷ rest else x ∷ y ∷ ys)) c → OneOf x (y ∷ ys) c
insert_by c y ys rest x true later h = elim (in_append (kept_by y) (kept_of rest) c h) [
  | inl here ↦ inr (in_left (kept_by y) (kept_of ys) c here)
  | inr more ↦ elim (later more) [ inl new ↦ inl new | inr old ↦ inr (in_right (kept_by y) (kept_of ys) c old) ]
]
insert_by c y ys rest x false later h = in_append (kept_by x) (kept_of (y ∷ ys)) c h

in_inserted : (c : List ℕ) (rows : List RefRow) (x : RefRow) → In (kept_of (inserted ref_key rows x)) c → OneOf x rows c
in_inserted c [] x has = in_append (kept_by x) [] c has
in_inserted c (y ∷ ys) x has = insert_by c y ys (inserted ref_key ys x) x (comes_before (ref_key y) (ref_key x)) (λ h. in_inserted c ys x h) has

remove_by : (c : List ℕ) (y : RefRow) (ys rest : List RefRow) (b : Bool) → (In (kept_of rest) c → In (kept_of ys) c) → In (kept_of (if b then rest else y ∷ rest)) c → In (kept_of (y ∷ ys)) c
remove_by c y ys rest true later h = in_right (kept_by y) (kept_of ys) c (later h)
remove_by c y ys rest false later h = elim (in_append (kept_by y) (kept_of rest) c h) [
  | inl here ↦ in_left (kept_by y) (kept_of ys) c here
  | inr more ↦ in_right (kept_by y) (kept_of ys) c (later more)
]

in_removed : (c : List ℕ) (rows : List RefRow) (text : List ℕ) → In (kept_of (removed ref_key rows text)) c → In (kept_of rows) c
in_removed c [] text has = has
in_removed c (y ∷ ys) text has = remove_by c y ys (removed ref_key ys text) (bytes_eq (ref_key y) text) (λ h. in_removed c ys text h) has

in_replaced : (c : List ℕ) (rows : List RefRow) (x : RefRow) → In (kept_of (replaced ref_key rows x)) c → OneOf x rows c
in_replaced c rows x has = elim (in_inserted c (removed ref_key rows (ref_key x)) x has) [ inl new ↦ inl new | inr old ↦ inr (in_removed c rows (ref_key x) old) ]

row_by : (c : List ℕ) (y : RefRow) (ys : List RefRow) (row : RefRow) (o : Option RefRow) (b : Bool) → In (kept_by row) c → (o ≡ Some row → In (kept_of ys) c) → (if b then Some y else o) ≡ Some row → In (kept_of (y ∷ ys)) c
row_by c y ys row o true has later same = let one : y ≡ row = cc same in in_left (kept_by y) (kept_of ys) c (subst (λ (r : RefRow). In (kept_by r) c) (sym one) has)
row_by c y ys row o false has later same = in_right (kept_by y) (kept_of ys) c (later same)

-- what a row that is there keeps
in_row : (c : List ℕ) (rows : List RefRow) (text : List ℕ) (row : RefRow) → at_name ref_key rows text ≡ Some row → In (kept_by row) c → In (kept_of rows) c
in_row c [] text row is has = absurd (cc is)
in_row c (y ∷ ys) text row is has = row_by c y ys row (at_name ref_key ys text) (bytes_eq (ref_key y) text) has (λ same. in_row c ys text row same has) is

-- ---- operations

-- the commit that is brought
abbrev pub BringsThis : Effect → List ℕ → Type 0
BringsThis (brings name origin commit) c = commit ≡ c
BringsThis (writes write) c = ⊥

module _ (s : State) (c : List ℕ) where
  after_update : (name : Ref) (origin commit : List ℕ) (timestamp : ℕ) (o : Option RefRow) → row_at s name ≡ o → In (kept_of (updated s name origin commit timestamp o).refs) c → In (kept_of s.refs) c ⊎ (commit ≡ c)
  after_update name origin commit timestamp None is has = inl has
  after_update name origin commit timestamp (Some row) is has = elim (in_replaced c s.refs (moved name origin commit timestamp row) has) [
    | inl new ↦ elim new [
      | inl it ↦ inr it
      | inr old ↦ elim old [ inl was ↦ inl (in_row c s.refs (ref_text name) row is (inl was)) | inr none ↦ absurd none ]
    ]
    | inr old ↦ inl old
  ]

  back_by : (name : Ref) (row : RefRow) → row_at s name ≡ Some row → (o : Option Previous) → row.previous ≡ o → In (kept_of (back s row o).refs) c → In (kept_of s.refs) c
  back_by name row is None was has = has
  back_by name row is (Some p) was has = elim (in_replaced c s.refs (exchanged row p) has) [
    | inl new ↦ in_row c s.refs (ref_text name) row is (elim new [
      | inl it ↦ inr (subst (λ (q : Option Previous). In (previous_commits q) c) (sym was) (inl it))
      | inr old ↦ elim old [ inl it ↦ inl it | inr none ↦ absurd none ]
    ])
    | inr old ↦ old
  ]

  after_back : (name : Ref) (o : Option RefRow) → row_at s name ≡ o → In (kept_of (rolled_back s o).refs) c → In (kept_of s.refs) c
  after_back name None is has = has
  after_back name (Some row) is has = back_by name row is row.previous refl has

  -- a commit that is kept afterwards was kept before, or is brought
  pub kept_after : (op : Op) (timestamp : ℕ) → In (kept_commits (after_op s timestamp op)) c → In (kept_commits s) c ⊎ BringsThis (effect_of op) c
  kept_after (Install name origin commit) timestamp has =
      elim (in_inserted c s.refs (record { name = name; origin = origin; commit = commit; timestamp = timestamp; previous = None }) has) [
        | inl new ↦ elim new [ inl it ↦ inr it | inr none ↦ absurd none ]
        | inr old ↦ inl old
      ]
  kept_after (Update name origin commit) timestamp has = after_update name origin commit timestamp (row_at s name) refl has
  kept_after (Uninstall name) timestamp has = inl (in_removed c s.refs (ref_text name) has)
  kept_after (AddPin pin) timestamp has = inl has
  kept_after (DropPin pin) timestamp has = inl has
  kept_after (AddRemote row) timestamp has = inl has
  kept_after (ModifyRemote row) timestamp has = inl has
  kept_after (DropRemote name) timestamp has = inl has
  kept_after (SetOverride row) timestamp has = inl has
  kept_after (DropOverride name) timestamp has = inl has
  kept_after Migrate timestamp has = inl has
  kept_after (Rollback name commit) timestamp has = inl (after_back name (row_at s name) refl has)
