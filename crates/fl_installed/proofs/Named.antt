-- What metadata names is a runtime, and an application names it.
use Rattle.std.proofs.Common.{◌≡◌, ℕ, List, [], ◌∷◌, ◌++◌, get_or, Bool, true, false, Option, Some, None, Ok, Err, refl, sym, ◌∙◌, ap, arith}
use Rattle.std.specs.Prelude.{option_and_then, codes, if◌then◌else◌}
use Rattle.std.specs.List.{join_with_byte}
use Rattle.std.specs.Str.{bytes_eq}
use Rattle.std.proofs.lemmas.Bool.{false_from_ne_true}
use Rattle.fp_base.specs.declared.meta_rule.MetaRule.TheVariants as rules
use Rattle.fp_base.proofs.Texts.{bytes_eq-true}
use Rattle.fp_keyfile.specs.declared.group.Group.{Group}
use Rattle.fp_keyfile.specs.KeyFile.{file_of, value_at}
use Rattle.fp_name.specs.Kinds.{kind_word}
use Rattle.fp_name.specs.Pins.{same_kind}
use Rattle.fp_name.specs.Refs.{Ref, is_ref, ref_text}
use Rattle.fp_name.specs.declared.kind.RefKind.{RefKind}
use Rattle.fp_name.specs.declared.kind.RefKind.TheVariants.{App, Runtime}
use Rattle.fp_name.proofs.Refs.{ref_of-some}
use Rattle.fl_meta.specs.Metadata.{has_group, meta_of, app_of, runtime_meta, runtime_of, runtime_in as runtime_said, meta_kind}
use Rattle.fl_installed.specs.Metadata.{groups_in, runtime_in, runtime_named}
use Rattle.fl_installed.specs.Standing.{ApplicationsName}
use Rattle.fp_name.specs.Pins.{is_app}

first_text : (r : Ref) (k : RefKind) → r.kind ≡ k → get_or (ref_text r) 0 0 ≡ get_or (join_with_byte 47 (kind_word k ∷ r.id ∷ r.arch ∷ r.branch ∷ [])) 0 0
first_text r k is = ap (λ (j : RefKind). get_or (join_with_byte 47 (kind_word j ∷ r.id ∷ r.arch ∷ r.branch ∷ [])) 0 0) is

texts_differ : (a b : Ref) → a.kind ≡ Runtime → b.kind ≡ App → bytes_eq (ref_text a) (ref_text b) ≡ false
texts_differ a b runtime app = false_from_ne_true (bytes_eq (ref_text a) (ref_text b)) (λ t.
    let same = ap (λ (xs : List ℕ). get_or xs 0 0) (bytes_eq-true (ref_text a) (ref_text b) t) in
    let x : get_or (ref_text a) 0 0 ≡ 114 = first_text a Runtime runtime in
    let y : get_or (ref_text b) 0 0 ≡ 97 = first_text b App app in
    absurd (omega (arith, same, x, y)))

runtime_kind : (text : List ℕ) (r : Ref) → runtime_of text ≡ Some r → r.kind ≡ Runtime
runtime_kind text r is = go r.kind refl
  where
    begins : 114 ≡ get_or (ref_text r) 0 0
    begins = ap (λ (xs : List ℕ). get_or xs 0 0) (ref_of-some (kind_word Runtime ++ 47 ∷ text) r is).0

    go : (k : RefKind) → r.kind ≡ k → r.kind ≡ Runtime
    go Runtime same = same
    go App same = let y : get_or (ref_text r) 0 0 ≡ 97 = first_text r App same in absurd (omega (arith, begins, y))

said_kind : (value : Option (List ℕ)) (r : Ref) → option_and_then runtime_of value ≡ Some r → r.kind ≡ Runtime
said_kind None r is = absurd (cc is)
said_kind (Some text) r is = runtime_kind text r is

file_kind : (file : List Group) (r : Ref) → runtime_said file ≡ Some r → r.kind ≡ Runtime
unfolding runtime_said
file_kind file r is = said_kind (value_at file (codes "Application") (codes "runtime")) r is

app_kind : (file : List Group) (said : Option Ref) (r : Ref) → runtime_said file ≡ said → runtime_in (app_of file said) ≡ Some r → r.kind ≡ Runtime
app_kind file None r is named = absurd (cc named)
app_kind file (Some x) r is named = file_kind file r (is ∙ named)

text_good : (text : List ℕ) (r : Ref) → runtime_of text ≡ Some r → is_ref r ≡ true
text_good text r is = (ref_of-some (kind_word Runtime ++ 47 ∷ text) r is).1

value_good : (value : Option (List ℕ)) (r : Ref) → option_and_then runtime_of value ≡ Some r → is_ref r ≡ true
value_good None r is = absurd (cc is)
value_good (Some text) r is = text_good text r is

file_good : (file : List Group) (r : Ref) → runtime_said file ≡ Some r → is_ref r ≡ true
unfolding runtime_said
file_good file r is = value_good (value_at file (codes "Application") (codes "runtime")) r is

app_good : (file : List Group) (said : Option Ref) (r : Ref) → runtime_said file ≡ said → runtime_in (app_of file said) ≡ Some r → is_ref r ≡ true
app_good file None r is named = absurd (cc named)
app_good file (Some x) r is named = file_good file r (is ∙ named)

-- what metadata names is a ref
pub named_good : (kind : RefKind) (file : List Group) (r : Ref) → runtime_in (meta_of (meta_kind kind) file) ≡ Some r → is_ref r ≡ true
unfolding meta_of
named_good App file r is = go (has_group file (codes "Application")) is
  where
    go : (b : Bool) → runtime_in (if b then app_of file (runtime_said file) else Err rules.Group) ≡ Some r → is_ref r ≡ true
    go true named = app_good file (runtime_said file) r refl named
    go false named = absurd (cc named)
named_good Runtime file r is = go (has_group file (codes "Runtime")) is
  where
    go : (b : Bool) → runtime_in (if b then Ok (runtime_meta file) else Err rules.Group) ≡ Some r → is_ref r ≡ true
    go true named = absurd (cc named)
    go false named = absurd (cc named)

named_kinds : (kind : RefKind) (file : List Group) (r : Ref) → runtime_in (meta_of (meta_kind kind) file) ≡ Some r → (r.kind ≡ Runtime) × (kind ≡ App)
unfolding meta_of
named_kinds App file r is = go (has_group file (codes "Application")) is
  where
    go : (b : Bool) → runtime_in (if b then app_of file (runtime_said file) else Err rules.Group) ≡ Some r → (r.kind ≡ Runtime) × (◌≡◌ {A = RefKind} App App)
    go true named = (app_kind file (runtime_said file) r refl named, refl)
    go false named = absurd (cc named)
named_kinds Runtime file r is = go (has_group file (codes "Runtime")) is
  where
    go : (b : Bool) → runtime_in (if b then Ok (runtime_meta file) else Err rules.Group) ≡ Some r → (r.kind ≡ Runtime) × (◌≡◌ {A = RefKind} Runtime App)
    go true named = absurd (cc named)
    go false named = absurd (cc named)

pub applications_name : ApplicationsName
unfolding runtime_named
applications_name name bytes r is = named_kinds name.kind (groups_in (file_of bytes)) r is

-- what is named is another ref
pub named_apart : (name : Ref) (bytes : List ℕ) (r : Ref) → Some r ≡ runtime_named name bytes → bytes_eq (ref_text r) (ref_text name) ≡ false
named_apart name bytes r is = let k = applications_name name bytes r (sym is) in texts_differ r name k.0 k.1

-- a runtime's metadata names none
pub none_named : (name : Ref) (bytes : List ℕ) → is_app name ≡ false → runtime_named name bytes ≡ None
none_named name bytes is = go (runtime_named name bytes) refl
  where
    go : (r : Option Ref) → runtime_named name bytes ≡ r → r ≡ None
    go None at = refl
    go (Some r) at = let app : is_app name ≡ true = ap (same_kind App) (applications_name name bytes r at).1 in absurd (cc (is, app))
