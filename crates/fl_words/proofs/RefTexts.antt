-- Refs as words.
use Rattle.std.proofs.Common.{◌≡◌, ℕ, true, false, List, Option, Some, None, refl, ap, sym, rules}
use Rattle.std.specs.Prelude.{codes, IsSome, unwrap_or, []}
use Rattle.std.specs.Option.{is_some, option_map_or}
use Rattle.std.specs.Str.{IsUtf8}
use Rattle.fp_name.specs.declared.kind.RefKind.TheVariants.{App}
use Rattle.fp_name.specs.Grammar.{is_id, is_arch, is_branch}
use Rattle.fp_name.specs.Refs.{Ref, is_ref, ref_text, ref_of, ref_at, ref_with}
use Rattle.fp_name.proofs.Refs.{ref_of-ref_text, kept_text, kept_good, no_text_no_ref}
use Rattle.fp_name.specs.Pins.{is_app}

-- ---- what parsing tells

pub is_read : (text : List ℕ) (name : Ref) → ref_of text ≡ Some name → name ≡ ref_at text
is_read text name h = sym (ap (λ (o : Option Ref). unwrap_or o (ref_with App [] [] [])) h)

pub is_none : (text : List ℕ) → ref_of text ≡ None → is_some (ref_of text) ≡ false
is_none text h = ap is_some h

-- ---- texts that are refs

some_by : (o : Option Ref) → is_some o ≡ true → IsSome o
some_by None h = absurd (cc h)
some_by (Some name) h = search rules

pub same_text : (text : List ℕ) → is_some (ref_of text) ≡ true → text ≡ ref_text (ref_at text)
same_text text h = kept_text text (some_by (ref_of text) h)

pub is_good : (text : List ℕ) → is_some (ref_of text) ≡ true → is_ref (ref_at text) ≡ true
is_good text h = kept_good text (some_by (ref_of text) h)

pub no_text : (text : List ℕ) → (IsUtf8 text → ⊥) → is_some (ref_of text) ≡ false
no_text text bad = ap is_some (no_text_no_ref text bad)

-- and those of applications
pub app_is_ref : (text : List ℕ) → option_map_or is_app (ref_of text) false ≡ true → is_some (ref_of text) ≡ true
app_is_ref text = by (ref_of text)
  where
    by : (o : Option Ref) → option_map_or is_app o false ≡ true → is_some o ≡ true
    by None h = h
    by (Some name) h = refl

pub app_at : (text : List ℕ) → option_map_or is_app (ref_of text) false ≡ true → is_app (ref_at text) ≡ true
app_at text = by (ref_of text)
  where
    by : (o : Option Ref) → option_map_or is_app o false ≡ true → is_app (unwrap_or o (ref_with App [] [] [])) ≡ true
    by None h = refl
    by (Some name) h = h

-- the ref of its own text
pub ref_back : (name : Ref) → is_ref name ≡ true → ref_at (ref_text name) ≡ name
ref_back name h = sym (is_read (ref_text name) name (ref_of-ref_text name h))

-- ---- some ref, and a word that is none

pub some_ref : is_some (ref_of (codes "app/a.b.c/x/1")) ≡ true
unfolding ref_of is_id is_arch is_branch
some_ref = refl

pub some_app : option_map_or is_app (ref_of (codes "app/a.b.c/x/1")) false ≡ true
unfolding ref_of is_id is_arch is_branch
some_app = refl

pub unused_is_none : ref_of (codes "--unused") ≡ None
unfolding ref_of
unused_is_none = refl
