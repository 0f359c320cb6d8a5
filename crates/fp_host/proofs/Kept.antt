-- Each call keeps a view a tree.
use Rattle.std.proofs.Common.{◌≡◌, ◌≢◌, ◌⊎◌, ◌≤◌, inl, inr, ℕ, List, [], ◌∷◌, ◌++◌, true, Option, Some, None, refl, sym, ◌∙◌, ap, subst, Contains}
use Rattle.std.proofs.lemmas.Bool.{cases_eq, false≢true}
use Rattle.std.proofs.lemmas.List.Elements.{Contains-push, Contains-append_left}
use Rattle.fp_host.specs.Paths.{Elements, Slot, absent, dir, file, link, is_link_text}
use Rattle.fp_host.specs.View.{View, Inode, MayBe, IsTree}
use Rattle.fp_host.specs.Calls.{Change, makes_dir, creates, appends, links, makes_link, renames, unlinks, removes_dir, syncs, says, Can, HasFolder, IsNoDir, set_file, put, may_put, with_file, grow, grown, done, half}
use Rattle.fp_host.proofs.Separate.{path_cases, set_same, set_other, file_same, file_other}
use Rattle.fp_host.proofs.Follow.{Grows-put, Grows-may_put, no_loop}
use Rattle.fp_host.proofs.Settled.{none_in}
use Rattle.fp_host.proofs.Slots.{grown_none, no_dir_absent, no_dir_leaf}

-- what may be there may be there after a change of a name too
put_keeps : (v : View) (p : Elements) (e : Slot) (q : Elements) (e' : Slot) → MayBe v q e' → MayBe (put p e v) q e'
put_keeps v p e q e' m = elim (path_cases q p) [
  | inl here ↦ inr (subst (λ (l : List Slot). Contains l e') (sym (set_same v.earlier p (v.earlier p ++ v.names p ∷ []) q here)) (pushed here m))
  | inr off ↦ elim m [
    | inl now ↦ inl (now ∙ sym (set_other v.names p e q off))
    | inr had ↦ inr (subst (λ (l : List Slot). Contains l e') (sym (set_other v.earlier p (v.earlier p ++ v.names p ∷ []) q off)) had)
  ]
]
  where
    pushed : q ≡ p → MayBe v q e' → Contains (v.earlier p ++ v.names p ∷ []) e'
    pushed here (inl now) = subst (Contains (v.earlier p ++ v.names p ∷ [])) (sym (now ∙ ap v.names here)) (Contains-push (v.earlier p) (v.names p))
    pushed here (inr had) = Contains-append_left (v.earlier p) (v.names p ∷ []) e' (subst (λ (r : Elements). Contains (v.earlier r) e') here had)

may_put_keeps : (v : View) (p : Elements) (e : Slot) (q : Elements) (e' : Slot) → MayBe v q e' → MayBe (may_put p e v) q e'
may_put_keeps v p e q e' (inl now) = inl now
may_put_keeps v p e q e' (inr had) = elim (path_cases q p) [
  | inl here ↦ inr (subst (λ (l : List Slot). Contains l e') (sym (set_same v.earlier p (v.earlier p ++ e ∷ []) q here)) (Contains-append_left (v.earlier p) (e ∷ []) e' (subst (λ (r : Elements). Contains (v.earlier r) e') here had)))
  | inr off ↦ inr (subst (λ (l : List Slot). Contains l e') (sym (set_other v.earlier p (v.earlier p ++ e ∷ []) q off)) had)
]

folder_up : (v : View) (p : Elements) (x : List ℕ) (up : Elements) → x ∷ up ≡ p → HasFolder v p → v.names up ≡ dir
folder_up v p x up is has = subst (HasFolder v) (sym is) has

-- A name may come to be this: nothing, or something in a folder.
pub record MayCome (v : View) (p : Elements) (e : Slot) : Type 0 where
  pub no_root : p ≢ []
  pub above : (e ≡ absent) ⊎ HasFolder v p
  pub known : (id : ℕ) → e ≡ file id → v.files id ≢ None
  pub linked : (text : List ℕ) → e ≡ link text → is_link_text text ≡ true

pub tree_may_put : (v : View) (p : Elements) (e : Slot) → IsTree v → MayCome v p e → IsTree (may_put p e v)
tree_may_put v p e tree come = record {
  root = tree.root;
  only_root = λ e' m. elim ((Grows-may_put v p e).may [] e' m) [ inl old ↦ tree.only_root e' old | inr new ↦ absurd (come.no_root (sym new.0)) ];
  above = tree.above;
  may_above = λ x up e' m. elim ((Grows-may_put v p e).may (x ∷ up) e' m) [
    | inl old ↦ elim (tree.may_above x up e' old) [ inl gone ↦ inl gone | inr there ↦ inr (may_put_keeps v p e up dir there) ]
    | inr new ↦ elim come.above [ inl gone ↦ inl (new.1 ∙ gone) | inr has ↦ inr (may_put_keeps v p e up dir (inl (sym (folder_up v p x up new.0 has)))) ]
  ];
  known = λ q id m. elim ((Grows-may_put v p e).may q (file id) m) [ inl old ↦ tree.known q id old | inr new ↦ come.known id (sym new.1) ];
  known_dirty = tree.known_dirty;
  linked = λ q text m. elim ((Grows-may_put v p e).may q (link text) m) [ inl old ↦ tree.linked q text old | inr new ↦ come.linked text (sym new.1) ];
  remembered = tree.remembered;
  bits = tree.bits;
}

pub tree_put : (v : View) (p : Elements) (e : Slot) → IsTree v → MayCome v p e → (e ≡ dir) ⊎ ((x : List ℕ) → v.names (x ∷ p) ≡ absent) → IsTree (put p e v)
tree_put v p e tree come below = record {
  root = set_other v.names p e [] (λ is. come.no_root (sym is)) ∙ tree.root;
  only_root = λ e' m. elim ((Grows-put v p e).may [] e' m) [ inl old ↦ tree.only_root e' old | inr new ↦ absurd (come.no_root (sym new.0)) ];
  above = λ x up. elim (path_cases (x ∷ up) p) [
    | inl here ↦ elim come.above [
      | inl gone ↦ inl (set_same v.names p e (x ∷ up) here ∙ gone)
      | inr has ↦ inr (set_other v.names p e up (λ is. no_loop x up (here ∙ sym is)) ∙ folder_up v p x up here has)
    ]
    | inr off ↦ elim (path_cases up p) [
      | inl child ↦ elim below [
        | inl is ↦ inr (set_same v.names p e up child ∙ is)
        | inr empty ↦ inl (set_other v.names p e (x ∷ up) off ∙ ap (λ (r : Elements). v.names (x ∷ r)) child ∙ empty x)
      ]
      | inr other ↦ elim (tree.above x up) [ inl gone ↦ inl (set_other v.names p e (x ∷ up) off ∙ gone) | inr there ↦ inr (set_other v.names p e up other ∙ there) ]
    ]
  ];
  may_above = λ x up e' m. elim ((Grows-put v p e).may (x ∷ up) e' m) [
    | inl old ↦ elim (tree.may_above x up e' old) [ inl gone ↦ inl gone | inr there ↦ inr (put_keeps v p e up dir there) ]
    | inr new ↦ elim come.above [ inl gone ↦ inl (new.1 ∙ gone) | inr has ↦ inr (put_keeps v p e up dir (inl (sym (folder_up v p x up new.0 has)))) ]
  ];
  known = λ q id m. elim ((Grows-put v p e).may q (file id) m) [ inl old ↦ tree.known q id old | inr new ↦ come.known id (sym new.1) ];
  known_dirty = tree.known_dirty;
  linked = λ q text m. elim ((Grows-put v p e).may q (link text) m) [ inl old ↦ tree.linked q text old | inr new ↦ come.linked text (sym new.1) ];
  remembered = λ x up. elim (path_cases (x ∷ up) p) [
    | inl here ↦
        let there : Contains (v.stood ++ (p, e) ∷ []) (x ∷ up, e) = subst (λ (q : Elements). Contains (v.stood ++ (p, e) ∷ []) (q, e)) (sym here) (Contains-push v.stood (p, e)) in
        inr (subst (λ (s : Slot). Contains (v.stood ++ (p, e) ∷ []) (x ∷ up, s)) (sym (set_same v.names p e (x ∷ up) here)) there)
    | inr off ↦
        let same = set_other v.names p e (x ∷ up) off in
        elim (tree.remembered x up) [
          | inl gone ↦ inl (same ∙ gone)
          | inr had ↦ inr (subst (λ (s : Slot). Contains (v.stood ++ (p, e) ∷ []) (x ∷ up, s)) (sym same) (Contains-append_left v.stood ((p, e) ∷ []) (x ∷ up, v.names (x ∷ up)) had))
        ]
  ];
  bits = tree.bits;
}

none_some : {f : Inode} {row : Option Inode} → row ≡ Some f → row ≢ None
none_some is none = cc

pub tree_file : (v : View) (id mode : ℕ) → mode ≤ 4095 → IsTree v → IsTree (with_file id mode v)
tree_file v id mode small tree = record {
  root = tree.root;
  only_root = tree.only_root;
  above = tree.above;
  may_above = tree.may_above;
  known = λ q i m. row i (tree.known q i m);
  known_dirty = λ i d. elim (cases_eq i id) [
    | inl here ↦ none_some (file_same v.files id (Some (record { mode = mode; bytes = [] })) i here)
    | inr off ↦ row i (tree.known_dirty i (sym (file_other v.dirty id true i off) ∙ d))
  ];
  linked = tree.linked;
  remembered = tree.remembered;
  bits = λ i f is. elim (cases_eq i id) [
    | inl here ↦ let same : record { mode = mode; bytes = [] } ≡ f = cc (sym (file_same v.files id (Some (record { mode = mode; bytes = [] })) i here) ∙ is) in subst (λ (g : Inode). g.mode ≤ 4095) same small
    | inr off ↦ tree.bits i f (sym (file_other v.files id (Some (record { mode = mode; bytes = [] })) i off) ∙ is)
  ];
}
  where
    row : (i : ℕ) → v.files i ≢ None → set_file v.files id (Some (record { mode = mode; bytes = [] })) i ≢ None
    row i some = elim (cases_eq i id) [
      | inl here ↦ none_some (file_same v.files id (Some (record { mode = mode; bytes = [] })) i here)
      | inr off ↦ λ none. some (sym (file_other v.files id (Some (record { mode = mode; bytes = [] })) i off) ∙ none)
    ]

grown_bits : (row : Option Inode) (bytes : List ℕ) (f : Inode) → ((g : Inode) → row ≡ Some g → g.mode ≤ 4095) → grown row bytes ≡ Some f → f.mode ≤ 4095
grown_bits None bytes f small is = absurd (cc is)
grown_bits (Some g) bytes f small is = let same : record g { bytes = g.bytes ++ bytes } ≡ f = cc is in subst (λ (h : Inode). h.mode ≤ 4095) same (small g refl)

pub tree_grow : (v : View) (e : Slot) (bytes : List ℕ) → IsTree v → IsTree (grow e bytes v)
tree_grow v absent bytes tree = tree
tree_grow v dir bytes tree = tree
tree_grow v (link text) bytes tree = tree
tree_grow v (file id) bytes tree = record {
  root = tree.root;
  only_root = tree.only_root;
  above = tree.above;
  may_above = tree.may_above;
  known = λ q i m. row i (tree.known q i m);
  known_dirty = λ i d. row i (tree.known_dirty i d);
  linked = tree.linked;
  remembered = tree.remembered;
  bits = λ i f is. elim (cases_eq i id) [
    | inl here ↦ grown_bits (v.files id) bytes f (λ g was. tree.bits id g was) (sym (file_same v.files id (grown (v.files id) bytes) i here) ∙ is)
    | inr off ↦ tree.bits i f (sym (file_other v.files id (grown (v.files id) bytes) i off) ∙ is)
  ];
}
  where
    row : (i : ℕ) → v.files i ≢ None → set_file v.files id (grown (v.files id) bytes) i ≢ None
    row i some = elim (cases_eq i id) [
      | inl here ↦ λ none. some (ap v.files here ∙ grown_none (v.files id) bytes (sym (file_same v.files id (grown (v.files id) bytes) i here) ∙ none))
      | inr off ↦ λ none. some (sym (file_other v.files id (grown (v.files id) bytes) i off) ∙ none)
    ]

pub tree_sync : (v : View) → IsTree v → IsTree (done syncs v)
tree_sync v tree = record {
  root = tree.root;
  only_root = λ e m. tree.only_root e (now [] e m);
  above = tree.above;
  may_above = λ x up e m. elim m [
    | inl is ↦ elim (tree.above x up) [ inl gone ↦ inl (is ∙ gone) | inr there ↦ inr (inl (sym there)) ]
    | inr had ↦ absurd (none_in [] e refl had)
  ];
  known = λ q id m. tree.known q id (now q (file id) m);
  known_dirty = λ id d. absurd (false≢true d);
  linked = λ q text m. tree.linked q text (now q (link text) m);
  remembered = tree.remembered;
  bits = tree.bits;
}
  where
    now : (q : Elements) (e : Slot) → MayBe (done syncs v) q e → MayBe v q e
    now q e (inl is) = inl is
    now q e (inr had) = absurd (none_in [] e refl had)

no_root : (v : View) (p : Elements) → HasFolder v p → p ≢ []
no_root v [] has is = has
no_root v (x ∷ up) has is = cc

leaf_no_root : (v : View) (p : Elements) → IsTree v → IsNoDir (v.names p) → p ≢ []
leaf_no_root v p tree no_dir is = subst IsNoDir (ap v.names is ∙ tree.root) no_dir

-- nothing is below what is no folder
leaf_empty : (v : View) (p : Elements) → IsTree v → IsNoDir (v.names p) → (x : List ℕ) → v.names (x ∷ p) ≡ absent
leaf_empty v p tree no_dir x = elim (tree.above x p) [ inl gone ↦ gone | inr there ↦ absurd (subst IsNoDir there no_dir) ]

module _ (v : View) (tree : IsTree v) where
  comes : (p : Elements) (e : Slot) → HasFolder v p → ((id : ℕ) → e ≡ file id → v.files id ≢ None) → ((text : List ℕ) → e ≡ link text → is_link_text text ≡ true) → MayCome v p e
  comes p e has known linked = record { no_root = no_root v p has; above = inr has; known = known; linked = linked }

  goes : (p : Elements) → p ≢ [] → MayCome v p absent
  goes p ne = record { no_root = ne; above = inl refl; known = λ id is. absurd (cc is); linked = λ text is. absurd (cc is) }

  from_known : (from : Elements) (id : ℕ) → v.names from ≡ file id → v.files id ≢ None
  from_known from id is = tree.known from id (inl (sym is))

  from_linked : (from : Elements) (text : List ℕ) → v.names from ≡ link text → is_link_text text ≡ true
  from_linked from text is = tree.linked from text (inl (sym is))

  pub tree_done : (change : Change) → Can change v → IsTree (done change v)
  tree_done (makes_dir p) can = tree_put v p dir tree (comes p dir can.0 (λ id is. absurd (cc is)) (λ text is. absurd (cc is))) (inl refl)
  tree_done (creates p mode id) can = tree_put (with_file id mode v) p (file id) (tree_file v id mode can.0.2 tree)
      (record { no_root = no_root v p can.0.0; above = inr can.0.0; known = λ i is. none_some (file_same v.files id (Some (record { mode = mode; bytes = [] })) i (cc is)); linked = λ text is. absurd (cc is) })
      (inr (leaf_empty v p tree (no_dir_absent can.0.1)))
  tree_done (appends p bytes) can = tree_grow v (v.names p) bytes tree
  tree_done (links from to) can = tree_put v to (v.names from) tree (comes to (v.names from) can.1 (from_known from) (from_linked from)) (inr (leaf_empty v to tree (no_dir_absent can.2)))
  tree_done (makes_link text p) can = tree_put v p (link text) tree (comes p (link text) can.1 (λ id is. absurd (cc is)) (λ t is. let same : text ≡ t = cc is in subst (λ (x : List ℕ). is_link_text x ≡ true) same can.0)) (inr (leaf_empty v p tree (no_dir_absent can.2)))
  tree_done (renames from to) can =
      let no_dir = no_dir_leaf (v.names from) can.0 in
      tree_put (put to (v.names from) v) from absent
      (tree_put v to (v.names from) tree (comes to (v.names from) can.1 (from_known from) (from_linked from)) (inr (leaf_empty v to tree can.2)))
      (record { no_root = leaf_no_root v from tree no_dir; above = inl refl; known = λ id is. absurd (cc is); linked = λ text is. absurd (cc is) })
      (inr (λ x. set_other v.names to (v.names from) (x ∷ from) (λ is. subst IsNoDir (folder_up v to x from is can.1) no_dir) ∙ leaf_empty v from tree no_dir x))
  tree_done (unlinks p) can = let no_dir = no_dir_leaf (v.names p) can in tree_put v p absent tree (goes p (leaf_no_root v p tree no_dir)) (inr (leaf_empty v p tree no_dir))
  tree_done (removes_dir p) can = tree_put v p absent tree (goes p can.1) (inr (λ x. can.2 (x ∷ p) (inl refl)))
  tree_done syncs can = tree_sync v tree
  tree_done (says piece) can = record { root = tree.root; only_root = tree.only_root; above = tree.above; may_above = tree.may_above; known = tree.known; known_dirty = tree.known_dirty; linked = tree.linked; remembered = tree.remembered; bits = tree.bits }

  pub tree_half : (change : Change) → Can change v → IsTree (half change v)
  tree_half (makes_dir p) can = tree_may_put v p dir tree (comes p dir can.0 (λ id is. absurd (cc is)) (λ text is. absurd (cc is)))
  tree_half (creates p mode id) can = tree_may_put (with_file id mode v) p (file id) (tree_file v id mode can.0.2 tree)
      (record { no_root = no_root v p can.0.0; above = inr can.0.0; known = λ i is. none_some (file_same v.files id (Some (record { mode = mode; bytes = [] })) i (cc is)); linked = λ text is. absurd (cc is) })
  tree_half (appends p bytes) can = tree
  tree_half (links from to) can = tree_may_put v to (v.names from) tree (comes to (v.names from) can.1 (from_known from) (from_linked from))
  tree_half (makes_link text p) can = tree_may_put v p (link text) tree (comes p (link text) can.1 (λ id is. absurd (cc is)) (λ t is. let same : text ≡ t = cc is in subst (λ (x : List ℕ). is_link_text x ≡ true) same can.0))
  tree_half (renames from to) can = tree_may_put (may_put to (v.names from) v) from absent (tree_may_put v to (v.names from) tree (comes to (v.names from) can.1 (from_known from) (from_linked from)))
      (record { no_root = leaf_no_root v from tree (no_dir_leaf (v.names from) can.0); above = inl refl; known = λ id is. absurd (cc is); linked = λ text is. absurd (cc is) })
  tree_half (unlinks p) can = tree_may_put v p absent tree (goes p (leaf_no_root v p tree (no_dir_leaf (v.names p) can)))
  tree_half (removes_dir p) can = tree_may_put v p absent tree (goes p can.1)
  tree_half syncs can = tree
  tree_half (says piece) can = tree
