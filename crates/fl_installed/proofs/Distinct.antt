-- In metadata each extension has a name of its own.
use Rattle.std.proofs.Common.{◌≡◌, ⊎_elim, ◌⊎◌, ℕ, Bool, true, false, cond, not, ◌||◌, List, [], ◌∷◌, ◌++◌, drop, flat_map, Option, Some, None, Ok, Err, codes, refl, sym, ap, subst, ◌∙◌, inl, inr}
use Rattle.std.specs.Prelude.{nat_eq, if◌then◌else◌}
use Rattle.std.specs.List.{list_all, list_any, starts_with}
use Rattle.std.specs.Str.{bytes_eq}
use Rattle.std.proofs.lemmas.Bool.{cases_Bool, and_parts, and_from, or_parts, not-true, both_ways, false_from_ne_true}
use Rattle.std.proofs.lemmas.Bool.Decides.{Decides-eqb}
use Rattle.std.proofs.lemmas.Slice.Eq.{starts_is, bytes_eq-Decides}
use Rattle.fp_base.specs.declared.meta_rule.MetaRule.TheVariants as rules
use Rattle.fp_base.proofs.Texts.{bytes_eq-true}
use Rattle.fp_keyfile.specs.KeyFile.{names_of, are_distinct, is_good_group, is_good}
use Rattle.fp_keyfile.specs.declared.group.Group.{Group}
use Rattle.fp_name.specs.Refs.{Ref}
use Rattle.fl_meta.specs.Entries.{is_empty}
use Rattle.fl_meta.specs.Metadata.{has_group, kind_group, meta_of, meta_in, meta_with, app_of, runtime_meta, runtime_in, command_in, extension_of, extensions_of}
use Rattle.fl_meta.specs.declared.meta.Meta.{Meta}
use Rattle.fl_meta.specs.declared.meta.MetaKind.{MetaKind}
use Rattle.fl_meta.specs.declared.meta.MetaKind.TheVariants as kinds

abbrev header : List ℕ → List ℕ
header name = codes "Extension " ++ name

-- a group names no extension, or that of its header
abbrev IsNamed : List ℕ → List (List ℕ) → Type 0
IsNamed group names = (names ≡ []) ⊎ ((name : List ℕ) × (names ≡ name ∷ []) × (group ≡ header name))

at_header : (g : Group) → IsNamed g.name (extension_of g)
at_header g =
    elim (cases_Bool (starts_with nat_eq g.name (codes "Extension "))) [
      | inl e ↦ rw e (remainder (is_empty (drop 10 g.name)) ((starts_is Decides-eqb g.name (codes "Extension ") (starts_with nat_eq g.name (codes "Extension ")) refl).0 e))
      | inr e ↦ rw e (inl refl)
    ]
  where
    remainder : (b : Bool) → g.name ≡ header (drop 10 g.name) → IsNamed g.name (cond b [] (drop 10 g.name ∷ []))
    remainder true is = inl refl
    remainder false is = inr (drop 10 g.name, refl, is)

-- no extension has a name whose header isn't there
lacks_name : (file : List Group) (name : List ℕ) → list_any (bytes_eq (header name)) (names_of file) ≡ false → list_any (bytes_eq name) (flat_map extension_of file) ≡ false
lacks_name [] name none = refl
lacks_name (g ∷ file) name none =
    let a = or_parts (bytes_eq (header name) g.name) (list_any (bytes_eq (header name)) (names_of file)) none in
    let rest = lacks_name file name a.1 in
    ⊎_elim
    (λ e. rw e rest)
    (λ named. rw (named.1) (or_none (bytes_eq name named.0) (list_any (bytes_eq name) (flat_map extension_of file)) (other named.0 (named.2) a.0) rest))
    (at_header g)
  where
    or_none : (b c : Bool) → b ≡ false → c ≡ false → (b || c) ≡ false
    or_none b c p q = rw (p, q) refl

    other : (n : List ℕ) → g.name ≡ header n → bytes_eq (header name) g.name ≡ false → bytes_eq name n ≡ false
    other n is differ = false_from_ne_true (bytes_eq name n) (λ e. both_ways (bytes_eq (header name) g.name) differ ((bytes_eq-Decides (header name) g.name).1 (ap header (bytes_eq-true name n e) ∙ sym is)))

names_distinct : (file : List Group) → are_distinct (names_of file) ≡ true → are_distinct (flat_map extension_of file) ≡ true
names_distinct [] distinct = refl
names_distinct (g ∷ file) distinct =
    let a = and_parts (not (list_any (bytes_eq g.name) (names_of file))) (are_distinct (names_of file)) distinct in
    let rest = names_distinct file a.1 in
    ⊎_elim
    (λ e. rw e rest)
    (λ named. rw (named.1) (and_from (not (list_any (bytes_eq named.0) (flat_map extension_of file))) (are_distinct (flat_map extension_of file)) (ap not (lacks_name file named.0 (subst (λ (n : List ℕ). list_any (bytes_eq n) (names_of file) ≡ false) (named.2) (not-true _ a.0)))) rest))
    (at_header g)

extensions_distinct : (file : List Group) → is_good file ≡ true → are_distinct (extensions_of file) ≡ true
unfolding is_good extensions_of
extensions_distinct file good = names_distinct file (and_parts (list_all is_good_group file) (are_distinct (names_of file)) good).1

app_names : (file : List Group) (runtime : Option Ref) (meta : Meta) → app_of file runtime ≡ Ok meta → meta.extensions ≡ extensions_of file
app_names file None meta is = absurd (cc is)
app_names file (Some runtime) meta is =
    let same : meta_with file kinds.App (Some runtime) (command_in file) ≡ meta = cc is in
    ap (λ (m : Meta). m.extensions) (sym same)

kind_names : (kind : MetaKind) (file : List Group) (meta : Meta) → meta_in kind file ≡ Ok meta → meta.extensions ≡ extensions_of file
kind_names kinds.App file meta is = app_names file (runtime_in file) meta is
kind_names kinds.Runtime file meta is =
    let same : runtime_meta file ≡ meta = cc is in
    ap (λ (m : Meta). m.extensions) (sym same)

meta_names : (kind : MetaKind) (file : List Group) (meta : Meta) → meta_of kind file ≡ Ok meta → meta.extensions ≡ extensions_of file
unfolding meta_of
meta_names kind file meta is = go (has_group file (kind_group kind)) is
  where
    go : (b : Bool) → (if b then meta_in kind file else Err rules.Group) ≡ Ok meta → meta.extensions ≡ extensions_of file
    go true e = kind_names kind file meta e
    go false e = absurd (cc e)

-- in the metadata that a key file is each extension stands once
pub meta_distinct : (kind : MetaKind) (file : List Group) (meta : Meta) → is_good file ≡ true → meta_of kind file ≡ Ok meta → are_distinct meta.extensions ≡ true
meta_distinct kind file meta good is = subst (λ (names : List (List ℕ)). are_distinct names ≡ true) (sym (meta_names kind file meta is)) (extensions_distinct file good)
