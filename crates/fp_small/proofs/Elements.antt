-- Names that may stand in a path.
use Rattle.std.specs.Str.{bytes_eq}
use Rattle.std.proofs.Common.{true, List, ℕ, ◌≡◌, refl, sym, inr, inl, codes, subst, Some}
use Rattle.std.proofs.lemmas.Slice.Eq.{bytes_eq-Decides}
use Rattle.std.proofs.lemmas.Bool.{or_cases}
use Rattle.fp_host.specs.Paths.{is_element}
use Rattle.fp_name.specs.FileNames.{is_file_name}
use Rattle.fp_name.specs.Grammar.{is_id, is_arch, is_branch, is_override}
use Rattle.fp_name.specs.declared.kind.RefKind.TheVariants.{App, Runtime}
use Rattle.fp_name.specs.declared.kind.RefKind.{RefKind}
use Rattle.fp_name.specs.Kinds.{kind_word}
use Rattle.fp_name.specs.Hex.{unhex}
use Rattle.fp_name.proofs.Files.{file_id, file_arch, file_branch, file_digest}
use Rattle.fp_name.proofs.HexTexts.{unhex-some}

pub element_file : (text : List ℕ) → is_file_name text ≡ true → is_element text ≡ true
element_file text h = h

pub element_id : (text : List ℕ) → is_id text ≡ true → is_element text ≡ true
element_id text h = element_file text (file_id text h)

pub element_arch : (text : List ℕ) → is_arch text ≡ true → is_element text ≡ true
element_arch text h = element_file text (file_arch text h)

pub element_branch : (text : List ℕ) → is_branch text ≡ true → is_element text ≡ true
element_branch text h = element_file text (file_branch text h)

pub element_kind : (kind : RefKind) → is_element (kind_word kind) ≡ true
element_kind App = refl
element_kind Runtime = refl

pub element_override : (name : List ℕ) → is_override name ≡ true → is_element name ≡ true
element_override name h = elim (or_cases (bytes_eq name (codes "global")) (is_id name) h) [
  | inl global ↦ subst (λ n. is_element n ≡ true) (sym ((bytes_eq-Decides name (codes "global")).0 global)) refl
  | inr id ↦ element_file name (file_id name id)
]

pub digest_element : (text d : List ℕ) → unhex text ≡ Some d → is_element text ≡ true
digest_element text d is = let t = unhex-some text d is in subst (λ x. is_element x ≡ true) (sym t.0) (file_digest d t.1)
