-- What a stop may leave after a call, against what it might have left before it.
use Rattle.std.proofs.Common.{◌≡◌, ◌≢◌, ◌⊎◌, inl, inr, ℕ, List, [], ◌∷◌, ◌++◌, Bool, true, false, Option, Some, None, Result, Ok, Err, refl, sym, ◌∙◌, ap, subst, Contains, length, arith}
use Rattle.std.proofs.Common.{Decides, ◌||◌}
use Rattle.std.proofs.lemmas.Bool.{both_ways, cases_Bool, cases_eq, false≢true}
use Rattle.std.proofs.lemmas.Bool.Decides.{Decides-by_or}
use Rattle.std.proofs.lemmas.List.Elements.{Contains-push_cases, Decides-contains}
use Rattle.fp_host.specs.Paths.{Elements, Slot, absent, dir, file, link, set_at, under, at}
use Rattle.fp_host.specs.View.{View, Inode, MayBe, IsTree}
use Rattle.fp_host.specs.Calls.{IsNoDir, IsDirty, set_file, put, may_put, with_file, grow, grown, done, syncs}
use Rattle.fp_host.specs.Outcome.{Spot, gone, folder, holds, Disk, spot_of, holding, MayHold, IsSameMode, Leaves, Follows, Gives, Nothing}
use Rattle.fp_host.specs.Calls.{Change, Can, half, makes_dir, creates, appends, links, makes_link, renames, unlinks, removes_dir, says, IsFile, IsLeaf, Step, StepOf, Creates, CreatesOf, Went, Called}
use Rattle.fp_host.specs.Outcome.{GivesOf}
use Rattle.fp_host.specs.declared.host.HostError.{HostError}
use Rattle.fp_host.specs.declared.host.HostError.TheVariants.{Failed, Clash, NoMemory}
use Rattle.fp_host.proofs.Separate.{clear_in, clear_same, clear_cases, clear_other, path_cases, set_same, set_other, file_same, file_other, under_no_dir, at_cases, IsClosed, at_off}
use Rattle.fp_host.proofs.Slots.{no_dir_absent, no_dir_leaf}

pub follows_refl : {G : Elements → Spot → Type 0} {v : View} → Follows G v v
follows_refl = record { from = λ disk left. (disk, left, λ p. inl refl) }

pub follows_on : {G : Elements → Spot → Type 0} {u v w : View} → Follows G u v → Follows G v w → Follows G u w
follows_on {G = G} first second = record {
  from = λ disk left.
      let b = second.from disk left in
      let a = first.from b.0 b.1 in (
        a.0,
        a.1,
        λ p. elim (b.2 p) [
          | inl same ↦ elim (a.2 p) [ inl s ↦ inl (same ∙ s) | inr given ↦ inr (subst (G p) (sym same) given) ]
          | inr given ↦ inr given
        ],
      );
}

pub follows_to : {G H : Elements → Spot → Type 0} {u v : View} → ((p : Elements) (spot : Spot) → G p spot → H p spot) → Follows G u v → Follows H u v
follows_to wider first = record {
  from = λ disk left.
      let a = first.from disk left in
      (a.0, a.1, λ p. elim (a.2 p) [ inl same ↦ inl same | inr given ↦ inr (wider p (disk p) given) ]);
}

-- one name may be one thing more; the files are as they were
pub record Grows (v w : View) (p : Elements) (e : Slot) : Type 0 where
  pub files : (id : ℕ) → w.files id ≡ v.files id
  pub dirty : (id : ℕ) → w.dirty id ≡ v.dirty id
  pub may : (q : Elements) (e' : Slot) → MayBe w q e' → MayBe v q e' ⊎ ((q ≡ p) × (e' ≡ e))

pub Grows-put : (v : View) (p : Elements) (e : Slot) → Grows v (put p e v) p e
Grows-put v p e = record { files = λ id. refl; dirty = λ id. refl; may = may }
  where
    pushed : (q : Elements) (e' : Slot) → q ≡ p → Contains (v.earlier p) e' ⊎ (v.names p ≡ e') → MayBe v q e'
    pushed q e' at_p (inl c) = inr (subst (λ (r : Elements). Contains (v.earlier r) e') (sym at_p) c)
    pushed q e' at_p (inr now) = inl (sym now ∙ ap v.names (sym at_p))

    may : (q : Elements) (e' : Slot) → MayBe (put p e v) q e' → MayBe v q e' ⊎ ((q ≡ p) × (e' ≡ e))
    may q e' m = elim (path_cases q p) [
      | inl at_p ↦ elim m [
        | inl now ↦ inr (at_p, now ∙ set_same v.names p e q at_p)
        | inr before ↦ inl (pushed q e' at_p (Contains-push_cases (v.earlier p) (v.names p) e' (subst (λ (l : List Slot). Contains l e') (set_same v.earlier p (v.earlier p ++ v.names p ∷ []) q at_p) before)))
      ]
      | inr off ↦ elim m [
        | inl now ↦ inl (inl (now ∙ set_other v.names p e q off))
        | inr before ↦ inl (inr (subst (λ (l : List Slot). Contains l e') (set_other v.earlier p (v.earlier p ++ v.names p ∷ []) q off) before))
      ]
    ]

pub Grows-may_put : (v : View) (p : Elements) (e : Slot) → Grows v (may_put p e v) p e
Grows-may_put v p e = record { files = λ id. refl; dirty = λ id. refl; may = may }
  where
    pushed : (q : Elements) (e' : Slot) → q ≡ p → Contains (v.earlier p) e' ⊎ (e ≡ e') → MayBe v q e' ⊎ ((q ≡ p) × (e' ≡ e))
    pushed q e' at_p (inl c) = inl (inr (subst (λ (r : Elements). Contains (v.earlier r) e') (sym at_p) c))
    pushed q e' at_p (inr now) = inr (at_p, sym now)

    may : (q : Elements) (e' : Slot) → MayBe (may_put p e v) q e' → MayBe v q e' ⊎ ((q ≡ p) × (e' ≡ e))
    may q e' m = elim m [
      | inl now ↦ inl (inl now)
      | inr before ↦ elim (path_cases q p) [
        | inl at_p ↦ pushed q e' at_p (Contains-push_cases (v.earlier p) e e' (subst (λ (l : List Slot). Contains l e') (set_same v.earlier p (v.earlier p ++ e ∷ []) q at_p) before))
        | inr off ↦ inl (inr (subst (λ (l : List Slot). Contains l e') (set_other v.earlier p (v.earlier p ++ e ∷ []) q off) before))
      ]
    ]

module _ (v w : View) (p : Elements) (e : Slot) (grows : Grows v w p e) where
  rows : (files : ℕ → Option Inode) → ((id : ℕ) → MayHold w id (files id)) → (id : ℕ) → MayHold v id (files id)
  rows files r id = elim (r id) [
    | inl same ↦ inl (same ∙ grows.files id)
    | inr any ↦ inr (sym (grows.dirty id) ∙ any.0, subst (λ (f : Option Inode). IsSameMode f (files id)) (grows.files id) any.1)
  ]

  -- the name is one of its older entries: the disk could be left before
  older : (disk : Disk) (left : Leaves w disk) → MayBe v p (left.names p) → Leaves v disk
  older disk left old = record {
    names = left.names;
    files = left.files;
    may_be = λ q. elim (grows.may q (left.names q) (left.may_be q)) [
      | inl m ↦ m
      | inr here ↦ subst (λ (r : Elements). MayBe v r (left.names r)) (sym here.0) old
    ];
    rows = rows left.files left.rows;
    seen = left.seen;
  }

  -- the name put back to what it was
  abbrev back : (names : Elements → Slot) → Elements → Slot
  back names = set_at names p (v.names p)

  back_may : (names : Elements → Slot) → ((q : Elements) → MayBe w q (names q)) → (q : Elements) → MayBe v q (back names q)
  back_may names may q = elim (path_cases q p) [
    | inl at_p ↦ inl (set_same names p (v.names p) q at_p ∙ ap v.names (sym at_p))
    | inr off ↦ subst (MayBe v q) (sym (set_other names p (v.names p) q off)) (elim (grows.may q (names q) (may q)) [ inl m ↦ m | inr here ↦ absurd (off here.0) ])
  ]

  -- Where nothing counts below the name, neither with the new entry nor with the old one.
  newer : (disk : Disk) (left : Leaves w disk) → left.names p ≡ e → IsClosed left.names p → IsClosed (back left.names) p
      → (before : Disk) × Leaves v before × ((q : Elements) → (disk q ≡ before q) ⊎ Gives v p e q (disk q))
  newer disk left is shut shut_back =
      let before = λ (q : Elements). spot_of left.files (at (back left.names) q) in (
        before,
        record { names = back left.names; files = left.files; may_be = back_may left.names left.may_be; rows = rows left.files left.rows; seen = λ q. refl },
        λ q. elim (at_off left.names (back left.names) p (λ r off child. sym (set_other left.names p (v.names p) r off)) shut shut_back q) [
          | inl same ↦ inl (left.seen q ∙ ap (spot_of left.files) same)
          | inr here ↦ inr (here.0, (left.files, rows left.files left.rows, left.seen q ∙ ap (spot_of left.files) (here.1 ∙ ap left.names here.0 ∙ is)))
        ],
      )

  -- a Inode, a Link or nothing comes in the place of a Inode, a Link or nothing
  pub follows_leaf : IsNoDir e → IsNoDir (v.names p) → Follows (Gives v p e) v w
  follows_leaf no_dir no_dir_before = record {
    from = λ disk left. elim (grows.may p (left.names p) (left.may_be p)) [
      | inl old ↦ (disk, older disk left old, λ q. inl refl)
      | inr new ↦ newer disk left new.1
          (λ x. under_no_dir (left.names p) (left.names (x ∷ p)) (subst IsNoDir (sym new.1) no_dir))
          (λ x. under_no_dir (back left.names p) (back left.names (x ∷ p)) (subst IsNoDir (sym (set_same left.names p (v.names p) p refl)) no_dir_before))
    ];
  }

abbrev is_dir : Slot → Bool
is_dir dir = true
is_dir absent = false
is_dir (file id) = false
is_dir (link text) = false

is_dir_decides : (e : Slot) → Decides (is_dir e) (e ≡ dir)
is_dir_decides dir = (λ t. refl, λ e. refl)
is_dir_decides absent = (λ t. absurd (false≢true t), λ e. cc)
is_dir_decides (file id) = (λ t. absurd (false≢true t), λ e. cc)
is_dir_decides (link text) = (λ t. absurd (false≢true t), λ e. cc)

abbrev any_dir : List Slot → Bool
any_dir [] = false
any_dir (e ∷ es) = is_dir e || any_dir es

dir_in : (es : List Slot) → Contains es dir ⊎ (Contains es dir → ⊥)
dir_in es =
    let d = Decides-contains es dir (any_dir es) (Decides-by_or is_dir (λ e. e ≡ dir) any_dir is_dir_decides refl (λ _ _. refl) es) in
    elim (cases_Bool (any_dir es)) [ inl t ↦ inl (d.0 t) | inr f ↦ inr (λ c. both_ways (any_dir es) f (d.1 c)) ]

-- no path is below itself
pub no_loop : (x : List ℕ) (p : Elements) → x ∷ p ≡ p → ⊥
no_loop x p e = omega (arith, ap length e)

-- a Dir comes where there was nothing
pub follows_dir : (v w : View) (p : Elements) → IsTree v → v.names p ≡ absent → Grows v w p dir → Follows (λ q spot. (q ≡ p) × (spot ≡ folder)) v w
follows_dir v w p tree none grows = record {
  from = λ disk left. elim (grows.may p (left.names p) (left.may_be p)) [
    | inl old ↦ (disk, older v w p dir grows disk left old, λ q. inl refl)
    | inr new ↦ elim (dir_in (v.earlier p)) [
      | inl had ↦ (disk, older v w p dir grows disk left (inr (subst (Contains (v.earlier p)) (sym new.1) had)), λ q. inl refl)
      | inr never ↦
          let b = newer v w p dir grows disk left new.1 (shut never left.names left.may_be new.1) (λ x. under_no_dir (set_at left.names p (v.names p) p) _ (subst IsNoDir (sym (set_same left.names p (v.names p) p refl ∙ none)) tt)) in
          (b.0, b.1, λ q. elim (b.2 q) [ inl same ↦ inl same | inr given ↦ inr (given.0, given.1.2) ])
    ]
  ];
}
  where
    never_below : (Contains (v.earlier p) dir → ⊥) → (x : List ℕ) (e : Slot) → MayBe v (x ∷ p) e → e ≡ absent
    never_below never x e m = elim (tree.may_above x p e m) [
      | inl is ↦ is
      | inr above ↦ elim above [ inl now ↦ absurd (cc (now, none)) | inr had ↦ absurd (never had) ]
    ]

    shut : (Contains (v.earlier p) dir → ⊥) → (names : Elements → Slot) → ((q : Elements) → MayBe w q (names q)) → names p ≡ dir → IsClosed names p
    shut never names may is x = ap (λ (e : Slot). under e (names (x ∷ p))) is ∙ elim (grows.may (x ∷ p) (names (x ∷ p)) (may (x ∷ p))) [
      | inl m ↦ never_below never x (names (x ∷ p)) m
      | inr here ↦ absurd (no_loop x p here.0)
    ]

pub follows_sync : (v : View) → Follows Nothing v (done syncs v)
follows_sync v = record {
  from = λ disk left. (
    disk,
    record {
      names = left.names;
      files = left.files;
      may_be = λ q. elim (left.may_be q) [ inl now ↦ inl now | inr had ↦ absurd (none_in had) ];
      rows = λ id. elim (left.rows id) [ inl same ↦ inl same | inr any ↦ absurd (false≢true any.0) ];
      seen = left.seen;
    },
    λ q. inl refl,
  );
}
  where
    none_in : {e : Slot} → Contains [] e → ⊥
    none_in h = omega (arith, h.1)

pub follows_say : (v : View) (printed : List ℕ) → Follows Nothing v (record v { printed = printed })
follows_say v printed = record {
  from = λ disk left.
      (disk, record { names = left.names; files = left.files; may_be = left.may_be; rows = left.rows; seen = left.seen }, λ q. inl refl);
}

same_row : (row : Option Inode) (bytes : List ℕ) (f : Option Inode) → IsSameMode (grown row bytes) f → IsSameMode row f
same_row None bytes f s = s
same_row (Some r) bytes None s = s
same_row (Some r) bytes (Some f) s = s

same_grown : (row : Option Inode) (bytes : List ℕ) → IsSameMode row (grown row bytes)
same_grown None bytes = tt
same_grown (Some r) bytes = refl

pub follows_append : (v : View) (e : Slot) (bytes : List ℕ) → IsDirty v e → Follows Nothing v (grow e bytes v)
follows_append v absent bytes dirty = absurd dirty
follows_append v dir bytes dirty = absurd dirty
follows_append v (link text) bytes dirty = absurd dirty
follows_append v (file id) bytes dirty = record {
  from = λ disk left. (
    disk,
    record {
      names = left.names;
      files = left.files;
      may_be = left.may_be;
      rows = λ i. elim (cases_eq i id) [
        | inl here ↦ inr (
          subst (λ (j : ℕ). v.dirty j ≡ true) (sym here) dirty,
          subst (λ (j : ℕ). IsSameMode (v.files j) (left.files i)) (sym here) (elim (left.rows i) [
            | inl same ↦ subst (λ (f : Option Inode). IsSameMode (v.files id) f) (sym (same ∙ file_same v.files id (grown (v.files id) bytes) i here)) (same_grown (v.files id) bytes)
            | inr any ↦ same_row (v.files id) bytes (left.files i) (subst (λ (f : Option Inode). IsSameMode f (left.files i)) (file_same v.files id (grown (v.files id) bytes) i here) any.1)
          ]),
        )
        | inr off ↦ elim (left.rows i) [
          | inl same ↦ inl (same ∙ file_other v.files id (grown (v.files id) bytes) i off)
          | inr any ↦ inr (any.0, subst (λ (f : Option Inode). IsSameMode f (left.files i)) (file_other v.files id (grown (v.files id) bytes) i off) any.1)
        ]
      ];
      seen = left.seen;
    },
    λ q. inl refl,
  );
}

spot_same : (f g : ℕ → Option Inode) (e : Slot) → ((id : ℕ) → e ≡ file id → f id ≡ g id) → spot_of f e ≡ spot_of g e
spot_same f g absent same = refl
spot_same f g dir same = refl
spot_same f g (link text) same = refl
spot_same f g (file id) same = ap (holding id) (same id refl)

-- a file that has no name yet
file_from : (v : View) (id mode : ℕ) → IsTree v → v.files id ≡ None → (disk : Disk) → Leaves (with_file id mode v) disk → (before : Disk) × Leaves v before × ((q : Elements) → (disk q ≡ before q) ⊎ Nothing q (disk q))
file_from v id mode tree fresh disk left = (
  disk,
  record {
    names = left.names;
    files = files0;
    may_be = left.may_be;
    rows = rows0;
    seen = λ q. left.seen q ∙ spot_same left.files files0 (at left.names q) (λ j is. sym (set_off q j is));
  },
  λ q. inl refl,
)
  where
    files0 : ℕ → Option Inode
    files0 = set_file left.files id None

    unnamed : (q : Elements) → at left.names q ≡ file id → ⊥
    unnamed q is = elim (at_cases left.names q) [
      | inl counts ↦ tree.known q id (subst (MayBe v q) (sym counts ∙ is) (left.may_be q)) fresh
      | inr none ↦ cc (is, none)
    ]

    set_off : (q : Elements) (j : ℕ) → at left.names q ≡ file j → files0 j ≡ left.files j
    set_off q j is = file_other left.files id None j (λ e. unnamed q (is ∙ ap file e))

    rows0 : (i : ℕ) → MayHold v i (files0 i)
    rows0 i = elim (cases_eq i id) [
      | inl here ↦ inl (file_same left.files id None i here ∙ sym fresh ∙ ap v.files (sym here))
      | inr off ↦ subst (MayHold v i) (sym (file_other left.files id None i off)) (elim (left.rows i) [
        | inl same ↦ inl (same ∙ file_other v.files id (Some (record { mode = mode; bytes = [] })) i off)
        | inr any ↦ inr (sym (file_other v.dirty id true i off) ∙ any.0, subst (λ (f : Option Inode). IsSameMode f (left.files i)) (file_other v.files id (Some (record { mode = mode; bytes = [] })) i off) any.1)
      ])
    ]

pub follows_file : (v : View) (id mode : ℕ) → IsTree v → v.files id ≡ None → Follows Nothing v (with_file id mode v)
follows_file v id mode tree fresh = record { from = file_from v id mode tree fresh }

-- an empty folder goes; what is below it in any outcome goes with it
clear_from : (v w : View) (p : Elements) → v.names p ≡ dir → ((x : List ℕ) → v.names (x ∷ p) ≡ absent) → Grows v w p absent → (disk : Disk) → Leaves w disk → (before : Disk) × Leaves v before × ((q : Elements) → (disk q ≡ before q) ⊎ ((q ≡ p) × (disk q ≡ gone)))
clear_from v w p is_dir_now empty grows disk left = elim (grows.may p (left.names p) (left.may_be p)) [
  | inl old ↦ (disk, older v w p absent grows disk left old, λ q. inl refl)
  | inr new ↦ (
    λ q. spot_of left.files (at full q),
    record { names = full; files = left.files; may_be = may_full; rows = rows v w p absent grows left.files left.rows; seen = λ q. refl },
    λ q. elim (at_off left.names full p (λ r off child. sym (set_other cleared p (v.names p) r off ∙ clear_other left.names p r child)) (λ x. under_no_dir (left.names p) _ (subst IsNoDir (sym new.1) tt)) shut q) [
      | inl same ↦ inl (left.seen q ∙ ap (spot_of left.files) same)
      | inr here ↦ inr (here.0, left.seen q ∙ ap (spot_of left.files) (here.1 ∙ ap left.names here.0 ∙ new.1))
    ],
  )
]
  where
    cleared : Elements → Slot
    cleared = clear_in left.names p

    full : Elements → Slot
    full = set_at cleared p (v.names p)

    shut : IsClosed full p
    shut x = ap (λ (e : Slot). under e (full (x ∷ p))) (set_same cleared p (v.names p) p refl ∙ is_dir_now) ∙ set_other cleared p (v.names p) (x ∷ p) (no_loop x p) ∙ clear_same left.names p x

    kept_may : (q : Elements) → q ≢ p → MayBe v q (left.names q)
    kept_may q off = elim (grows.may q (left.names q) (left.may_be q)) [ inl m ↦ m | inr here ↦ absurd (off here.0) ]

    may_cleared : (q : Elements) → q ≢ p → MayBe v q (cleared q)
    may_cleared q off = elim (clear_cases left.names p q) [
      | inl same ↦ subst (MayBe v q) (sym same) (kept_may q off)
      | inr child ↦ inl (child.2 ∙ sym (empty child.0) ∙ ap v.names (sym child.1))
    ]

    may_full : (q : Elements) → MayBe v q (full q)
    may_full q = elim (path_cases q p) [
      | inl at_p ↦ inl (set_same cleared p (v.names p) q at_p ∙ ap v.names (sym at_p))
      | inr off ↦ subst (MayBe v q) (sym (set_other cleared p (v.names p) q off)) (may_cleared q off)
    ]

pub follows_clear : (v w : View) (p : Elements) → v.names p ≡ dir → ((x : List ℕ) → v.names (x ∷ p) ≡ absent) → Grows v w p absent → Follows (λ q spot. (q ≡ p) × (spot ≡ gone)) v w
follows_clear v w p is_dir_now empty grows = record { from = clear_from v w p is_dir_now empty grows }

no_dir_file : (e : Slot) → IsFile e → IsNoDir e
no_dir_file e is = subst IsNoDir (sym is.1) tt

new_bytes : (id mode : ℕ) (row : Option Inode) → (row ≡ Some (record { mode = mode; bytes = [] })) ⊎ IsSameMode (Some (record { mode = mode; bytes = [] })) row → (bytes : List ℕ) × (holding id row ≡ holds id mode bytes)
new_bytes id mode None (inl is) = absurd (cc)
new_bytes id mode None (inr same) = absurd same
new_bytes id mode (Some f) (inl is) = ([], ap (holding id) is)
new_bytes id mode (Some f) (inr same) = (f.bytes, ap (λ (m : ℕ). holds id m f.bytes) (sym same))

given_new : (v : View) (id mode : ℕ) (p q : Elements) (spot : Spot) → Gives (with_file id mode v) p (file id) q spot → GivesOf (creates p mode id) v q spot
given_new v id mode p q spot given =
    let row = given.1.0 id in
    let some = file_same v.files id (Some (record { mode = mode; bytes = [] })) id refl in
    let b = new_bytes id mode row (elim (given.1.1 id) [ inl is ↦ inl (is ∙ some) | inr any ↦ inr (subst (λ (f : Option Inode). IsSameMode f row) some any.1) ]) in
    (given.0, (b.0, given.1.2 ∙ b.1))

module _ (v : View) (tree : IsTree v) where
  created : (p : Elements) (id mode : ℕ) (w : View) → v.files id ≡ None → v.names p ≡ absent → Grows (with_file id mode v) w p (file id) → Follows (GivesOf (creates p mode id) v) v w
  created p id mode w fresh none grows =
      follows_on
      (follows_to (λ q spot h. absurd h) (follows_file v id mode tree fresh))
      (follows_to (given_new v id mode p) (follows_leaf (with_file id mode v) w p (file id) grows tt (no_dir_absent none)))

  renamed : (from to : Elements) (u w : View) → IsLeaf (v.names from) → IsNoDir (v.names to) → Grows v u to (v.names from) → u.names from ≡ v.names from → Grows u w from absent → Follows (GivesOf (renames from to) v) v w
  renamed from to u w leaf no_dir first same second =
      follows_on
      (follows_to (λ q spot h. inl h) (follows_leaf v u to (v.names from) first (no_dir_leaf _ leaf) no_dir))
      (follows_to (λ q spot h. inr (h.0, h.1.2)) (follows_leaf u w from absent second tt (subst IsNoDir (sym same) (no_dir_leaf _ leaf))))

  -- a call that was done, or that failed half done
  pub follows_done : (change : Change) → Can change v → Follows (GivesOf change v) v (done change v)
  follows_done (makes_dir p) can = follows_dir v _ p tree can.1 (Grows-put v p dir)
  follows_done (creates p mode id) can = created p id mode _ can.1 can.0.1 (Grows-put (with_file id mode v) p (file id))
  follows_done (appends p bytes) can = follows_append v (v.names p) bytes can
  follows_done (links from to) can = follows_leaf v _ to (v.names from) (Grows-put v to (v.names from)) (no_dir_file _ can.0) (no_dir_absent can.2)
  follows_done (makes_link text p) can = follows_to (λ q spot h. (h.0, h.1.2)) (follows_leaf v _ p (link text) (Grows-put v p (link text)) tt (no_dir_absent can.2))
  follows_done (renames from to) can = renamed from to _ _ can.0 can.2 (Grows-put v to (v.names from)) (set_other v.names to (v.names from) from can.3) (Grows-put (put to (v.names from) v) from absent)
  follows_done (unlinks p) can = follows_to (λ q spot h. (h.0, h.1.2)) (follows_leaf v _ p absent (Grows-put v p absent) tt (no_dir_leaf _ can))
  follows_done (removes_dir p) can = follows_clear v _ p can.0 (λ x. can.2 (x ∷ p) (inl refl)) (Grows-put v p absent)
  follows_done syncs can = follows_sync v
  follows_done (says piece) can = follows_say v (v.printed ++ piece)

  pub follows_half : (change : Change) → Can change v → Follows (GivesOf change v) v (half change v)
  follows_half (makes_dir p) can = follows_dir v _ p tree can.1 (Grows-may_put v p dir)
  follows_half (creates p mode id) can = created p id mode _ can.1 can.0.1 (Grows-may_put (with_file id mode v) p (file id))
  follows_half (appends p bytes) can = follows_refl
  follows_half (links from to) can = follows_leaf v _ to (v.names from) (Grows-may_put v to (v.names from)) (no_dir_file _ can.0) (no_dir_absent can.2)
  follows_half (makes_link text p) can = follows_to (λ q spot h. (h.0, h.1.2)) (follows_leaf v _ p (link text) (Grows-may_put v p (link text)) tt (no_dir_absent can.2))
  follows_half (renames from to) can = renamed from to _ _ can.0 can.2 (Grows-may_put v to (v.names from)) refl (Grows-may_put (may_put to (v.names from) v) from absent)
  follows_half (unlinks p) can = follows_to (λ q spot h. (h.0, h.1.2)) (follows_leaf v _ p absent (Grows-may_put v p absent) tt (no_dir_leaf _ can))
  follows_half (removes_dir p) can = follows_clear v _ p can.0 (λ x. can.2 (x ∷ p) (inl refl)) (Grows-may_put v p absent)
  follows_half syncs can = follows_refl
  follows_half (says piece) can = follows_refl

follows_of : (change : Change) (v w : View) → IsTree v → Went change v w → Follows (GivesOf change v) v w
follows_of change v w tree (inl same) = subst (λ (x : View). Follows (GivesOf change v) v x) (sym same) follows_refl
follows_of change v w tree (inr went) = elim went.1 [
  | inl is ↦ subst (λ (x : View). Follows (GivesOf change v) v x) (sym is) (follows_half v tree change went.0)
  | inr is ↦ subst (λ (x : View). Follows (GivesOf change v) v x) (sym is) (follows_done v tree change went.0)
]

-- any call, however it ends
pub follows_call : {change : Change} {v w : View} → IsTree v → Called change v w → Follows (GivesOf change v) v w
follows_call {change = change} {v = v} {w = w} tree call = follows_of change v w tree call.went

went_of : (change : Change) (result : Result (Unit {0}) HostError) (v w : View) → StepOf change result v w → Went change v w
went_of change (Ok u) v w how = inr (how.0, inr how.1)
went_of change (Err Clash) v w how = inl how.1
went_of change (Err NoMemory) v w how = absurd how
went_of change (Err Failed) v w (inl same) = inl same
went_of (makes_dir p) (Err Failed) v w (inr went) = inr went
went_of (creates p mode id) (Err Failed) v w (inr went) = inr went
went_of (appends p bytes) (Err Failed) v w (inr went) = inr went
went_of (links from to) (Err Failed) v w (inr went) = inr went
went_of (makes_link text p) (Err Failed) v w (inr went) = inr went
went_of (renames from to) (Err Failed) v w (inr went) = inr went
went_of (unlinks p) (Err Failed) v w (inr went) = inr went
went_of (removes_dir p) (Err Failed) v w (inr went) = inr went
went_of syncs (Err Failed) v w (inr same) = inl same
went_of (says piece) (Err Failed) v w (inr went) = inr went

-- what a step of the trait may be
pub called : {change : Change} {result : Result (Unit {0}) HostError} {v w : View} → Step change result v w → Called change v w
called {change = change} {result = result} {v = v} {w = w} step = record { went = went_of change result v w step.how }

create_of : (p : Elements) (mode : ℕ) (result : Result (Unit {0}) HostError) (v w : View) → CreatesOf p mode result v w → (w ≡ v) ⊎ ((id : ℕ) × Called (creates p mode id) v w)
create_of p mode (Ok u) v w how = inr (how.0, record { went = went_of (creates p mode how.0) (Ok u) v w how.1 })
create_of p mode (Err Failed) v w how = inr (how.0, record { went = went_of (creates p mode how.0) (Err Failed) v w how.1 })
create_of p mode (Err Clash) v w how = inl how.1
create_of p mode (Err NoMemory) v w how = absurd how

-- a create that may have made a file
pub called_create : {p : Elements} {mode : ℕ} {result : Result (Unit {0}) HostError} {v w : View} → Creates p mode result v w → (w ≡ v) ⊎ ((id : ℕ) × Called (creates p mode id) v w)
called_create {p = p} {mode = mode} {result = result} {v = v} {w = w} step = create_of p mode result v w step.how
