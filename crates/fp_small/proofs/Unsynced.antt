-- What calls do without a sync.
use Rattle.std.proofs.Common.{◌≡◌, ◌⊎◌, inl, inr, ℕ, List, [], ◌∷◌, ◌++◌, true, Option, Some, None, Result, refl, sym, ◌∙◌, ap, subst, Contains}
use Rattle.std.proofs.lemmas.Bool.{cases_eq}
use Rattle.std.proofs.lemmas.List.Elements.{Contains-append_left}
use Rattle.fp_host.specs.Paths.{Elements, Slot, absent, dir, file, link, set_at}
use Rattle.fp_host.specs.View.{View, Inode}
use Rattle.fp_host.specs.Calls.{Change, makes_dir, creates, appends, links, makes_link, renames, unlinks, removes_dir, syncs, says, Called, Creates, Step, put, may_put, with_file, grow, grown, set_file}
use Rattle.fp_host.specs.declared.host.HostError.{HostError}
use Rattle.fp_host.proofs.Separate.{set_same, set_other, path_cases, file_same, file_other}
use Rattle.fp_host.proofs.Follow.{called, called_create}
use Rattle.fp_host.proofs.Slots.{grown_none}
use Rattle.fp_small.specs.Unsynced.{Unsynced, MakesNoFile, MakesOneFile}

-- ---- one after another

pub unsynced_on : {u v w : View} → Unsynced u v → Unsynced v w → Unsynced u w
unsynced_on {u = u} {v = v} {w = w} a b = record {
  earlier = λ q e h. b.earlier q e (a.earlier q e h);
  dirty = λ id f had. go id f had (v.files id) refl;
  rows = λ id none. a.rows id (b.rows id none);
}
  where
    go : (id : ℕ) (f : Inode) → u.files id ≡ Some f → (o : Option Inode) → v.files id ≡ o → w.dirty id ≡ u.dirty id
    go id f had (Some g) is = b.dirty id g is ∙ a.dirty id f had
    go id f had None is = absurd (cc (a.rows id is, had))

pub none_on : {u v w : View} → MakesNoFile u v → MakesNoFile v w → MakesNoFile u w
none_on a b = record { unsynced = unsynced_on a.unsynced b.unsynced; none = λ id h. b.none id (a.none id h) }

pub none_refl : (v : View) → MakesNoFile v v
none_refl v = record { unsynced = record { earlier = λ q e h. h; dirty = λ id f h. refl; rows = λ id h. h }; none = λ id h. h }

pub none_same : {v w : View} → w ≡ v → MakesNoFile v w
none_same {v = v} same = subst (λ (x : View). MakesNoFile v x) (sym same) (none_refl v)

pub none_one : {v w : View} → MakesNoFile v w → MakesOneFile v w
none_one a = record { unsynced = a.unsynced; one = λ i j f g ni si nj sj. cc (a.none i ni, si); dirty = λ id f n s. cc (a.none id n, s) }

pub one_on : {u v w : View} → MakesOneFile u v → MakesNoFile v w → MakesOneFile u w
one_on {u = u} {v = v} {w = w} a b = record {
  unsynced = unsynced_on a.unsynced b.unsynced;
  one = λ i j f g ni si nj sj. let p = there i f si in let q = there j g sj in a.one i j p.0 q.0 ni p.1 nj q.1;
  dirty = λ id f n s. let p = there id f s in b.unsynced.dirty id p.0 p.1 ∙ a.dirty id p.0 n p.1;
}
  where
    go : (id : ℕ) (f : Inode) → w.files id ≡ Some f → (o : Option Inode) → v.files id ≡ o → (g : Inode) × (v.files id ≡ Some g)
    go id f some (Some g) is = (g, is)
    go id f some None is = absurd (cc (b.none id is, some))

    there : (id : ℕ) (f : Inode) → w.files id ≡ Some f → (g : Inode) × (v.files id ≡ Some g)
    there id f some = go id f some (v.files id) refl

pub on_one : {u v w : View} → MakesNoFile u v → MakesOneFile v w → MakesOneFile u w
on_one a b = record {
  unsynced = unsynced_on a.unsynced b.unsynced;
  one = λ i j f g ni si nj sj. b.one i j f g (a.none i ni) si (a.none j nj) sj;
  dirty = λ id f n s. b.dirty id f (a.none id n) s;
}

-- ---- one name

module _ (v : View) (p : Elements) (x : Slot) where
  pushed : (q : Elements) (e : Slot) → Contains (v.earlier q) e → Contains (set_at v.earlier p (v.earlier p ++ x ∷ []) q) e
  pushed q e has = elim (path_cases q p) [
    | inl here ↦ subst (λ (l : List Slot). Contains l e) (sym (set_same v.earlier p (v.earlier p ++ x ∷ []) q here))
        (Contains-append_left (v.earlier p) (x ∷ []) e (subst (λ (r : Elements). Contains (v.earlier r) e) here has))
    | inr off ↦ subst (λ (l : List Slot). Contains l e) (sym (set_other v.earlier p (v.earlier p ++ x ∷ []) q off)) has
  ]

pub put_none : (p : Elements) (e : Slot) (v : View) → MakesNoFile v (put p e v)
put_none p e v = record { unsynced = record { earlier = pushed v p (v.names p); dirty = λ id f h. refl; rows = λ id h. h }; none = λ id h. h }

may_put_none : (p : Elements) (e : Slot) (v : View) → MakesNoFile v (may_put p e v)
may_put_none p e v = record { unsynced = record { earlier = pushed v p e; dirty = λ id f h. refl; rows = λ id h. h }; none = λ id h. h }

-- ---- one file

grow_none : (e : Slot) (bytes : List ℕ) (v : View) → MakesNoFile v (grow e bytes v)
grow_none absent bytes v = none_refl v
grow_none dir bytes v = none_refl v
grow_none (link text) bytes v = none_refl v
grow_none (file k) bytes v = record {
  unsynced = record { earlier = λ q e h. h; dirty = λ id f h. refl; rows = rows };
  none = none;
}
  where
    rows : (id : ℕ) → set_file v.files k (grown (v.files k) bytes) id ≡ None → v.files id ≡ None
    rows id is = elim (cases_eq id k) [
      | inl same ↦ ap v.files same ∙ grown_none (v.files k) bytes (sym (file_same v.files k (grown (v.files k) bytes) id same) ∙ is)
      | inr off ↦ sym (file_other v.files k (grown (v.files k) bytes) id off) ∙ is
    ]

    none : (id : ℕ) → v.files id ≡ None → set_file v.files k (grown (v.files k) bytes) id ≡ None
    none id is = elim (cases_eq id k) [
      | inl same ↦ file_same v.files k (grown (v.files k) bytes) id same ∙ ap (λ (o : Option Inode). grown o bytes) (sym (ap v.files same) ∙ is)
      | inr off ↦ file_other v.files k (grown (v.files k) bytes) id off ∙ is
    ]

pub with_file_one : (k mode : ℕ) (v : View) → v.files k ≡ None → MakesOneFile v (with_file k mode v)
with_file_one k mode v free = record {
  unsynced = record {
    earlier = λ q e h. h;
    dirty = λ id f had. elim (cases_eq id k) [ inl same ↦ cc (sym (ap v.files same) ∙ had, free) | inr off ↦ file_other v.dirty k true id off ];
    rows = λ id none. elim (cases_eq id k) [ inl same ↦ ap v.files same ∙ free | inr off ↦ sym (file_other v.files k (Some (record { mode = mode; bytes = [] })) id off) ∙ none ];
  };
  one = λ i j f g ni si nj sj. new i f ni si ∙ sym (new j g nj sj);
  dirty = λ id f n s. file_same v.dirty k true id (new id f n s);
}
  where
    new : (id : ℕ) (f : Inode) → v.files id ≡ None → set_file v.files k (Some (record { mode = mode; bytes = [] })) id ≡ Some f → id ≡ k
    new id f none some = elim (cases_eq id k) [
      | inl same ↦ same
      | inr off ↦ cc (sym (file_other v.files k (Some (record { mode = mode; bytes = [] })) id off) ∙ some, none)
    ]

-- ---- one call

-- neither a sync nor a new file
abbrev pub IsPlain : Change → Type 0
IsPlain (creates p mode id) = ⊥
IsPlain syncs = ⊥
IsPlain change = Unit {0}

either : {v w : View} {half done : View} → MakesNoFile v half → MakesNoFile v done → (w ≡ half) ⊎ (w ≡ done) → MakesNoFile v w
either {v = v} a b (inl is) = subst (λ (x : View). MakesNoFile v x) (sym is) a
either {v = v} a b (inr is) = subst (λ (x : View). MakesNoFile v x) (sym is) b

two_puts : (from to : Elements) (e : Slot) (v : View) → MakesNoFile v (put from absent (put to e v))
two_puts from to e v = none_on (put_none to e v) (put_none from absent (put to e v))

two_may : (from to : Elements) (e : Slot) (v : View) → MakesNoFile v (may_put from absent (may_put to e v))
two_may from to e v = none_on (may_put_none to e v) (may_put_none from absent (may_put to e v))

pub call_none : (change : Change) {v w : View} → IsPlain change → Called change v w → MakesNoFile v w
call_none (makes_dir p) {v = v} plain call = elim call.went [ inl same ↦ none_same same | inr did ↦ either (may_put_none p dir v) (put_none p dir v) did.1 ]
call_none (creates p mode id) plain call = absurd plain
call_none (appends p bytes) {v = v} plain call = elim call.went [ inl same ↦ none_same same | inr did ↦ either (none_refl v) (grow_none (v.names p) bytes v) did.1 ]
call_none (links from to) {v = v} plain call = elim call.went [ inl same ↦ none_same same | inr did ↦ either (may_put_none to (v.names from) v) (put_none to (v.names from) v) did.1 ]
call_none (makes_link text p) {v = v} plain call = elim call.went [ inl same ↦ none_same same | inr did ↦ either (may_put_none p (link text) v) (put_none p (link text) v) did.1 ]
call_none (renames from to) {v = v} plain call = elim call.went [ inl same ↦ none_same same | inr did ↦ either (two_may from to (v.names from) v) (two_puts from to (v.names from) v) did.1 ]
call_none (unlinks p) {v = v} plain call = elim call.went [ inl same ↦ none_same same | inr did ↦ either (may_put_none p absent v) (put_none p absent v) did.1 ]
call_none (removes_dir p) {v = v} plain call = elim call.went [ inl same ↦ none_same same | inr did ↦ either (may_put_none p absent v) (put_none p absent v) did.1 ]
call_none syncs plain call = absurd plain
call_none (says piece) {v = v} plain call = elim call.went [
  | inl same ↦ none_same same
  | inr did ↦ either (none_refl v) (record { unsynced = record { earlier = λ q e h. h; dirty = λ id f h. refl; rows = λ id h. h }; none = λ id h. h }) did.1
]

-- a step of such a call
pub step_none : {change : Change} {r : Result (Unit {0}) HostError} {v w : View} → IsPlain change → Step change r v w → MakesNoFile v w
step_none {change = change} plain step = call_none change plain (called step)

pub create_one : {p : Elements} {mode : ℕ} {r : Result (Unit {0}) HostError} {v w : View} → Creates p mode r v w → MakesOneFile v w
create_one {p = p} {mode = mode} {v = v} {w = w} step = elim (called_create step) [
  | inl same ↦ none_one (none_same same)
  | inr call ↦ elim call.1.went [
    | inl same ↦ none_one (none_same same)
    | inr did ↦
        let new = with_file_one call.0 mode v did.0.1 in
        elim did.1 [
          | inl is ↦ subst (λ (x : View). MakesOneFile v x) (sym is) (one_on new (may_put_none p (file call.0) (with_file call.0 mode v)))
          | inr is ↦ subst (λ (x : View). MakesOneFile v x) (sym is) (one_on new (put_none p (file call.0) (with_file call.0 mode v)))
        ]
  ]
]
