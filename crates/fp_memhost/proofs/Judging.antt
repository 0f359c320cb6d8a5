-- The conditions of calls, from what was looked up.
use Rattle.std.proofs.Common.{◌≡◌, ◌≢◌, ◌↔◌, inl, inr, ℕ, ◌&&◌, List, [], ◌∷◌, length, Bool, true, false, not, Option, Some, None, IsTrue, refl, sym, ◌∙◌, ap, subst}
use Rattle.std.specs.Prelude.{is_some}
use Rattle.std.specs.List.{list_all, list_any}
use Rattle.std.proofs.lemmas.Bool.{false≢true, cases_Bool, cond-true, cond-false, or_parts, and_parts, or_cases, both_ways, false_from_ne_true, not_from_false, not-true}
use Rattle.fp_host.specs.Paths.{Elements, Slot, absent, dir, file, elements_of, path_text, IsAbove}
use Rattle.fp_host.specs.View.{View, IsTree}
use Rattle.fp_host.specs.Calls.{IsNoDir, IsFile, IsLeaf, HasFolder, Can, renames, removes_dir}
use Rattle.fp_host.proofs.Separate.{path_decides, dir_cases}
use Rattle.fp_host.specs.declared.host.Entry.{Entry}
use Rattle.fp_memhost.specs.declared.names.Name.{Name}
use Rattle.fp_memhost.specs.declared.files.Content.{Content}
use Rattle.fp_memhost.specs.Files.{inode_in}
use Rattle.fp_host.specs.Reads.{IsStat}
use Rattle.fp_host.specs.declared.host.Stat.{Stat}
use Rattle.fp_host.specs.declared.host.Stat.TheVariants.{File as StatFile}
use Rattle.fp_memhost.specs.Names.{slot_of, slot_in, names_of, name_at, is_at, ascends, comes_before}
use Rattle.fp_memhost.specs.Folders.{child_in, is_child}
use Rattle.std.proofs.lemmas.Cmp.{nat_list_cmp_total, tied_itself}
use Rattle.fp_base.proofs.Texts.{less_from}
use Rattle.fp_host.specs.declared.host.Entry.TheVariants.{Dir, File, Link}
use Rattle.fp_memhost.proofs.Ordered.{compare, less_no}

pub looked_up : (names xs : List Name) (p : Elements) (t : List ℕ) (e : Option Entry) → slot_of e ≡ names_of xs (elements_of t) → xs ≡ names → elements_of t ≡ p → slot_of e ≡ names_of names p
looked_up names xs p t e tells same of = tells ∙ ap (λ (l : List Name). names_of l (elements_of t)) same ∙ ap (names_of names) of

no_dir : (e : Slot) → e ≢ dir → IsNoDir e
no_dir e ne = elim (dir_cases e) [ inl is ↦ absurd (ne is) | inr nd ↦ nd ]

dir_no : (e : Slot) → IsNoDir e → e ≢ dir
dir_no e nd is = subst IsNoDir is nd

pub can_rename_is : (v : View) (from to : Elements) (a b : Slot) (r : Bool) → a ≡ v.names from → b ≡ v.names to → IsLeaf (v.names from) → HasFolder v to → b ≢ dir → from ≢ to → (IsTrue r ↔ (IsFile a → a ≢ b)) → IsTrue r ↔ Can (renames from to) v
can_rename_is v from to a b r is_a is_b leaf has nd ne tells = (
  λ t. (leaf, has, no_dir (v.names to) (λ e. nd (is_b ∙ e)), ne, λ f same. tells.0 t (subst IsFile (sym is_a) f) (is_a ∙ same ∙ sym is_b)),
  λ can. tells.1 (λ f same. can.4 (subst IsFile is_a f) (sym is_a ∙ same ∙ is_b)),
)

pub cannot_rename : (v : View) (from to : Elements) → (Can (renames from to) v → ⊥) → IsTrue false ↔ Can (renames from to) v
cannot_rename v from to bad = (λ t. absurd (false≢true t), λ can. absurd (bad can))

-- nothing stands below a folder of a tree in which nothing stands
pub below_empty : (v : View) (p : Elements) → IsTree v → ((x : List ℕ) → v.names (x ∷ p) ≡ absent) → (q : Elements) → IsAbove p q → v.names q ≡ absent
below_empty v p tree none [] above = absurd above
below_empty v p tree none (x ∷ up) (inl is) = subst (λ (r : Elements). v.names (x ∷ r) ≡ absent) is (none x)
below_empty v p tree none (x ∷ up) (inr above) = elim (tree.above x up) [ inl gone ↦ gone | inr there ↦ absurd (cc (sym (below_empty v p tree none up above) ∙ there)) ]

-- no name stands in the folder
pub no_child : (names : List Name) (p : Elements) → list_any (is_child p) names ≡ false → (x : List ℕ) → names_of names (x ∷ p) ≡ absent
no_child [] p none x = refl
no_child (n ∷ names) p none x = elim (cases_Bool (is_at (x ∷ p) n)) [
  | inl here ↦
      let same = (path_decides (x ∷ p) n.path).0 here in
      ap slot_in (cond-true (is_at (x ∷ p) n) (Some n) (name_at names (x ∷ p)) here) ∙ empty n.entry (no_entry (is_some n.entry) (child_in p n.path) (or_parts (is_child p n) _ none).0 (ap (child_in p) (sym same) ∙ (path_decides p p).1 refl))
  | inr off ↦ ap slot_in (cond-false (is_at (x ∷ p) n) (Some n) (name_at names (x ∷ p)) off) ∙ no_child names p (or_parts (is_child p n) _ none).1 x
]
  where
    no_entry : (a b : Bool) → (a && b) ≡ false → b ≡ true → a ≡ false
    no_entry true b f t = absurd (both_ways b f t)
    no_entry false b f t = refl

    empty : (e : Option Entry) → is_some e ≡ false → slot_of e ≡ absent
    empty None f = refl
    empty (Some x) f = absurd (false≢true (sym f))

-- no later name has the path
pub later_none : (names : List Name) (x : Name) → list_all (comes_before x) names ≡ true → name_at names x.path ≡ None
later_none [] x all = refl
later_none (y ∷ ys) x all =
    let parts = and_parts (comes_before x y) (list_all (comes_before x) ys) all in
    cond-false (is_at x.path y) _ _ (false_from_ne_true (is_at x.path y) (λ t.
    let same = (path_decides x.path y.path).0 t in
    less_no _ (less_from _ parts.0) (ap (λ (p : Elements). compare (path_text x.path) (path_text p)) (sym same) ∙ tied_itself nat_list_cmp_total (path_text x.path))))
    ∙ later_none ys x parts.1

pub entry_present : (e : Option Entry) → is_some e ≡ true → slot_of e ≢ absent
entry_present None t is = false≢true t
entry_present (Some Dir) t is = cc
entry_present (Some (File id)) t is = cc
entry_present (Some (Link text)) t is = cc

-- a name that stands later is not this one
pub not_first : (n : Name) (names : List Name) (q : Elements) → names_of names q ≢ absent → list_all (comes_before n) names ≡ true → names_of (n ∷ names) q ≡ names_of names q
not_first n names q there all = ap slot_in (cond-false (is_at q n) (Some n) (name_at names q) (false_from_ne_true (is_at q n) (λ t.
    let same = (path_decides q n.path).0 t in
    there (ap (names_of names) same ∙ ap slot_in (later_none names n all)))))

-- some name stands in the folder
pub some_child : (names : List Name) (p : Elements) → ascends names ≡ true → list_any (is_child p) names ≡ true → (x : List ℕ) × (names_of names (x ∷ p) ≢ absent)
some_child [] p asc some = absurd (false≢true some)
some_child (n ∷ names) p asc some = elim (or_cases (is_child p n) (list_any (is_child p) names) some) [
  | inl here ↦ first n.path refl (and_parts (is_some n.entry) (child_in p n.path) here)
  | inr later ↦
      let parts = and_parts (list_all (comes_before n) names) (ascends names) asc in
      let rest = some_child names p parts.1 later in
      (rest.0, λ gone. rest.1 (sym (not_first n names (rest.0 ∷ p) rest.1 parts.0) ∙ gone))
]
  where
    first : (q : Elements) → n.path ≡ q → (is_some n.entry ≡ true) × (child_in p q ≡ true) → (x : List ℕ) × (names_of (n ∷ names) (x ∷ p) ≢ absent)
    first [] is both = absurd (false≢true both.1)
    first (x ∷ up) is both =
        let same : x ∷ p ≡ n.path = ap (λ (r : Elements). x ∷ r) (sym ((path_decides up p).0 both.1)) ∙ sym is in
        (x, λ gone. entry_present n.entry both.0 (sym (ap slot_in (cond-true (is_at (x ∷ p) n) (Some n) (name_at names (x ∷ p)) ((path_decides (x ∷ p) n.path).1 same))) ∙ gone))

pub can_remove_is : (names : List Name) (v : View) (p : Elements) (r : Bool) → v.names ≡ names_of names → IsTree v → ascends names ≡ true → v.names p ≡ dir → p ≢ [] → r ≡ list_any (is_child p) names → IsTrue (not r) ↔ Can (removes_dir p) v
can_remove_is names v p r shows tree asc is_dir ne tells = (
  λ t. (is_dir, ne, below_empty v p tree (λ x. ap (λ (f : Elements → Slot). f (x ∷ p)) shows ∙ no_child names p (sym tells ∙ not-true r t) x)),
  λ can. not_from_false r (false_from_ne_true r (λ t. let some = some_child names p asc (sym tells ∙ t) in some.1 (sym (ap (λ (f : Elements → Slot). f (some.0 ∷ p)) shows) ∙ can.2 (some.0 ∷ p) (inl refl)))),
)

pub stat_is : (v : View) (slot : Slot) (id : ℕ) (c : Content) (s : Stat) → slot ≡ file id → v.files id ≡ inode_in (Some c) → c.id ≡ id → s ≡ StatFile c.id c.mode (length c.bytes.items) → IsStat v slot s
stat_is v slot id c s is row same stat =
    subst (λ (e : Slot). IsStat v e s) (sym is) (record { mode = c.mode; bytes = c.bytes.items }, row, stat ∙ ap (λ i. StatFile i c.mode (length c.bytes.items)) same)
