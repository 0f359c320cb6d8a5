-- Two dirtrees that find the same under each name are the same.
use Rattle.std.proofs.Common.{◌≡◌, inl, inr, ℕ, List, [], ◌∷◌, map, Bool, true, false, not, ◌||◌, ◌&&◌, Option, Some, None, refl, sym, ◌∙◌, ap, subst}
use Rattle.std.specs.Prelude.{if◌then◌else◌}
use Rattle.std.specs.List.{list_all, list_any}
use Rattle.std.specs.Str.{bytes_eq}
use Rattle.std.proofs.lemmas.Bool.{cases_Bool, and_parts, or_right, both_ways, not-true, false≢true}
use Rattle.fp_base.specs.declared.rule.Rule.{Rule}
use Rattle.fp_base.specs.declared.rule.Rule.TheVariants as rules
use Rattle.fp_base.proofs.Options.{none_some}
use Rattle.fp_base.proofs.Texts.{bytes_eq-true, bytes_eq-same}
use Rattle.fp_host.specs.Paths.{is_element}
use Rattle.fp_host.specs.Reads.{is_ascending}
use Rattle.ost_model.specs.Fields.{DirRow, FileRow, TreeView}
use Rattle.ost_model.specs.Readers.{file_name, dir_name, file_names, dir_names, has_long, has_both_long, shares, name_tests, tree_breaks}
use Rattle.ost_model.specs.Look.{directory, find_dir, find_file, either, entry_in}
use Rattle.ost_model.proofs.Readers.{passed}
use Rattle.ost_commit.specs.Shows.{found_said}
use Rattle.dep_states.specs.Shown.{at_name}
use Rattle.dep_states.proofs.Single.{some_is, same_list}

-- ---- what is found under a name

dirs_found : (x : List ℕ) (ds : List DirRow) → find_dir x ds ≡ at_name dir_name ds x
dirs_found x [] = refl
dirs_found x (d ∷ ds) = ap (λ (o : Option DirRow). if bytes_eq d.name x then Some d else o) (dirs_found x ds)

files_found : (x : List ℕ) (fs : List FileRow) → find_file x fs ≡ at_name file_name fs x
files_found x [] = refl
files_found x (f ∷ fs) = ap (λ (o : Option FileRow). if bytes_eq f.name x then Some f else o) (files_found x fs)

entry_is : (v : TreeView) (x : List ℕ) → entry_in x (Some v) ≡ either (at_name dir_name v.dirs x) (at_name file_name v.files x)
entry_is v x = ap (λ (o : Option DirRow). either o (find_file x v.files)) (dirs_found x v.dirs) ∙ ap (either (at_name dir_name v.dirs x)) (files_found x v.files)

module _ {A : Type 0} (name : A → List ℕ) where
  -- what is found has the name
  name_found : (x : List ℕ) (xs : List A) (a : A) → at_name name xs x ≡ Some a → name a ≡ x
  name_found x [] a is = absurd (none_some is)
  name_found x (y ∷ ys) a is = elim (cases_Bool (bytes_eq (name y) x)) [
    | inl t ↦ let one : y ≡ a = some_is (rw t at is) in ap name (sym one) ∙ bytes_eq-true (name y) x t
    | inr f ↦ name_found x ys a (rw f at is)
  ]

  -- and the name is among theirs
  name_among : (x : List ℕ) (xs : List A) (a : A) → at_name name xs x ≡ Some a → list_any (bytes_eq x) (map name xs) ≡ true
  name_among x [] a is = absurd (none_some is)
  name_among x (y ∷ ys) a is = elim (cases_Bool (bytes_eq (name y) x)) [
    | inl t ↦ ap (λ b. b || list_any (bytes_eq x) (map name ys)) (subst (λ z. bytes_eq z (name y) ≡ true) (bytes_eq-true (name y) x t) (bytes_eq-same (name y)))
    | inr f ↦ or_right (bytes_eq x (name y)) (list_any (bytes_eq x) (map name ys)) (name_among x ys a (rw f at is))
  ]

-- a name of both lists is shared
shared : (x : List ℕ) (ys : List (List ℕ)) → list_any (bytes_eq x) ys ≡ true → (xs : List (List ℕ)) → list_any (bytes_eq x) xs ≡ true → shares xs ys ≡ true
shared x ys among [] other = absurd (false≢true other)
shared x ys among (z ∷ zs) other = elim (cases_Bool (bytes_eq x z)) [
  | inl t ↦ ap (λ b. b || shares zs ys) (subst (λ w. list_any (bytes_eq w) ys ≡ true) (bytes_eq-true x z t) among)
  | inr f ↦ or_right (list_any (bytes_eq z) ys) (shares zs ys) (shared x ys among zs (rw f at other))
]

-- ---- the names of a dirtree that breaks no rule

pub record AreGoodNames (v : TreeView) : Type 0 where
  pub files : is_ascending (file_names v) ≡ true
  pub dirs : is_ascending (dir_names v) ≡ true
  pub apart : shares (file_names v) (dir_names v) ≡ false

abbrev apart_tests : TreeView → List (Bool × Rule)
apart_tests v = (not (shares (file_names v) (dir_names v)), rules.Both) ∷ []

abbrev order_tests : TreeView → List (Bool × Rule)
order_tests v = (is_ascending (file_names v) && is_ascending (dir_names v), rules.Order) ∷ apart_tests v

pub good_names : (v : TreeView) → tree_breaks v ≡ None → AreGoodNames v
good_names v good =
    let digests = passed (list_all has_long v.files && list_all has_both_long v.dirs) rules.Digest (name_tests v) good in
    let elements = passed (list_all is_element (file_names v) && list_all is_element (dir_names v)) rules.Name (order_tests v) digests.1 in
    let order = passed (is_ascending (file_names v) && is_ascending (dir_names v)) rules.Order (apart_tests v) elements.1 in
    let apart = passed (not (shares (file_names v) (dir_names v))) rules.Both [] order.1 in
    let each = and_parts (is_ascending (file_names v)) (is_ascending (dir_names v)) order.0 in
    record { files = each.0; dirs = each.1; apart = not-true (shares (file_names v) (dir_names v)) apart.0 }

-- no file has the name of a directory
no_file : (v : TreeView) → AreGoodNames v → (x : List ℕ) (d : DirRow) → at_name dir_name v.dirs x ≡ Some d → at_name file_name v.files x ≡ None
no_file v good x d is = go (at_name file_name v.files x) refl
  where
    go : (o : Option FileRow) → at_name file_name v.files x ≡ o → o ≡ None
    go None e = refl
    go (Some f) e = absurd (both_ways (shares (file_names v) (dir_names v)) good.apart
        (shared x (dir_names v) (name_among dir_name x v.dirs d is) (file_names v) (name_among file_name x v.files f e)))

-- ---- rows by their fields

file_is : (f g : FileRow) → f.name ≡ g.name → f.digest ≡ g.digest → f ≡ g
file_is f g name digest = ap (λ x. record { name = x; digest = f.digest }) name ∙ ap (λ x. record { name = g.name; digest = x }) digest

dir_is : (d e : DirRow) → d.name ≡ e.name → d.tree ≡ e.tree → d.meta ≡ e.meta → d ≡ e
dir_is d e name tree meta = ap (λ x. record { name = x; tree = d.tree; meta = d.meta }) name
    ∙ ap (λ x. record { name = e.name; tree = x; meta = d.meta }) tree ∙ ap (λ x. record { name = e.name; tree = e.tree; meta = x }) meta

view_is : (v w : TreeView) → v.files ≡ w.files → v.dirs ≡ w.dirs → v ≡ w
view_is v w files dirs = ap (λ x. record { files = x; dirs = v.dirs }) files ∙ ap (λ x. record { files = w.files; dirs = x }) dirs

-- ---- what two dirtrees find

-- Under one name: the same, where it is said alike, and directories of it name the same objects.
same_found : (x : List ℕ) (dv dw : Option DirRow) (fv fw : Option FileRow)
    → ((d : DirRow) → dv ≡ Some d → (d.name ≡ x) × (fv ≡ None)) → ((e : DirRow) → dw ≡ Some e → (e.name ≡ x) × (fw ≡ None))
    → ((f : FileRow) → fv ≡ Some f → f.name ≡ x) → ((g : FileRow) → fw ≡ Some g → g.name ≡ x)
    → found_said (either dv fv) ≡ found_said (either dw fw)
    → ((d e : DirRow) → either dv fv ≡ directory d → either dw fw ≡ directory e → (d.tree ≡ e.tree) × (d.meta ≡ e.meta))
    → (dv ≡ dw) × (fv ≡ fw)
same_found x None None None None d e f g said below = (refl, refl)
same_found x None None None (Some w) d e f g said below = absurd (cc said)
same_found x None None (Some v) None d e f g said below = absurd (cc said)
same_found x None None (Some v) (Some w) d e f g said below =
    let digest : v.digest ≡ w.digest = cc said in
    (refl, ap Some (file_is v w (f v refl ∙ sym (g w refl)) digest))
same_found x None (Some w) None fw d e f g said below = absurd (cc said)
same_found x None (Some w) (Some v) fw d e f g said below = absurd (cc said)
same_found x (Some v) None fv None d e f g said below = absurd (cc said)
same_found x (Some v) None fv (Some w) d e f g said below = absurd (cc said)
same_found x (Some v) (Some w) fv fw d e f g said below =
    let same = below v w refl refl in
    let at_v = d v refl in
    let at_w = e w refl in
    (ap Some (dir_is v w (at_v.0 ∙ sym at_w.0) same.0 same.1), at_v.1 ∙ sym at_w.1)

module _ (v w : TreeView) (good_v : AreGoodNames v) (good_w : AreGoodNames w)
    (said : (x : List ℕ) → found_said (entry_in x (Some v)) ≡ found_said (entry_in x (Some w)))
    (below : (x : List ℕ) (d e : DirRow) → entry_in x (Some v) ≡ directory d → entry_in x (Some w) ≡ directory e → (d.tree ≡ e.tree) × (d.meta ≡ e.meta)) where
  same_at : (x : List ℕ) → (at_name dir_name v.dirs x ≡ at_name dir_name w.dirs x) × (at_name file_name v.files x ≡ at_name file_name w.files x)
  same_at x = same_found x (at_name dir_name v.dirs x) (at_name dir_name w.dirs x) (at_name file_name v.files x) (at_name file_name w.files x)
      (λ d is. (name_found dir_name x v.dirs d is, no_file v good_v x d is)) (λ e is. (name_found dir_name x w.dirs e is, no_file w good_w x e is))
      (λ f is. name_found file_name x v.files f is) (λ g is. name_found file_name x w.files g is)
      (ap found_said (sym (entry_is v x)) ∙ said x ∙ ap found_said (entry_is w x))
      (λ d e at_v at_w. below x d e (entry_is v x ∙ at_v) (entry_is w x ∙ at_w))

  pub one_dirtree : v ≡ w
  one_dirtree = view_is v w (same_list file_name v.files w.files good_v.files good_w.files (λ x. (same_at x).1))
      (same_list dir_name v.dirs w.dirs good_v.dirs good_w.dirs (λ x. (same_at x).0))
