-- The texts of links to icons.
use Rattle.std.proofs.Common.{◌≡◌, ℕ, ◌≤◌, List, ◌∷◌, ◌++◌, length, Bool, true, not, leb, codes, refl, sym, ◌∙◌, subst, arith, length-append, Contains}
use Rattle.std.specs.Prelude.{◌==◌, ◌&&◌}
use Rattle.std.specs.List.{list_all}
use Rattle.std.proofs.lemmas.Bool.{and_parts, and_from, leb-true}
use Rattle.std.proofs.lemmas.Bool.Decides.{nat_tests}
use Rattle.std.proofs.lemmas.List.Folds.{list_all-append}
use Rattle.fp_base.proofs.Lists.{all_has}
use Rattle.fp_host.specs.Paths.{is_element, is_name_byte, path_text}
use Rattle.fp_host.specs.View.{View}
use Rattle.fp_host.specs.Outcome.{shows}
use Rattle.fp_host.proofs.Shown.{now_left}
use Rattle.fp_name.specs.Bytes.{is_dotted}
use Rattle.fp_name.specs.Grammar.{is_id, is_arch, is_branch}
use Rattle.fp_name.specs.Kinds.{kind_word}
use Rattle.fp_name.specs.Refs.{Ref, is_ref, ref_text}
use Rattle.fp_name.specs.declared.kind.RefKind.{RefKind}
use Rattle.fp_name.specs.declared.kind.RefKind.TheVariants.{App, Runtime}
use Rattle.fp_name.proofs.Bytes.{list_all-wider, dotted_id, dotted_arch, dotted_branch}
use Rattle.fp_name.proofs.Lengths.{id_short, arch_short, branch_short, word_short}
use Rattle.fp_small.specs.declared.state.State.{State}
use Rattle.ost_model.specs.Objects.{Have}
use Rattle.dep_states.specs.After.{IsGoodRow}
use Rattle.dep_states.specs.Sound.{Opens}
use Rattle.dep_states.proofs.Good.{shown_good}
use Rattle.fl_export.specs.declared.rows.ExportRow.{ExportRow}
use Rattle.fl_export.specs.Texts.{icon_path, link_text}
use Rattle.fl_export.specs.Exported.{exported}
use Rattle.fl_export.specs.Steps.{HasLinkText}
use Rattle.fl_export.proofs.Rowed.{IsOf, is_desktop_row, is_icon_row, of_state}

abbrev is_set : ℕ → Bool
is_set b = not (b == 0)

dotted_set : (c : ℕ) → is_dotted c ≡ true → is_set c ≡ true
dotted_set c h = grind (arith, nat_tests)

name_set : (c : ℕ) → is_name_byte c ≡ true → is_set c ≡ true
name_set c h = grind (arith, nat_tests)

-- ---- parts

element_short : (x : List ℕ) → is_element x ≡ true → length x ≤ 255
element_short x h =
    let a = and_parts (leb 1 (length x)) _ h in
    leb-true (length x) 255 (and_parts (leb (length x) 255) _ a.1).0

element_set : (x : List ℕ) → is_element x ≡ true → list_all is_set x ≡ true
element_set x h =
    let a = and_parts (leb 1 (length x)) _ h in
    let b = and_parts (leb (length x) 255) _ a.1 in
    list_all-wider is_name_byte is_set name_set x (and_parts (list_all is_name_byte x) _ b.1).0

kind_set : (kind : RefKind) → list_all is_set (kind_word kind) ≡ true
kind_set App = refl
kind_set Runtime = refl

both : (xs ys : List ℕ) → list_all is_set xs ≡ true → list_all is_set ys ≡ true → list_all is_set (xs ++ ys) ≡ true
both xs ys a b = list_all-append is_set xs ys ∙ and_from (list_all is_set xs) (list_all is_set ys) a b

set_of : (x : List ℕ) → list_all is_dotted x ≡ true → list_all is_set x ≡ true
set_of x h = list_all-wider is_dotted is_set dotted_set x h

module _ (name : Ref) (good : is_ref name ≡ true) where
  parts : (is_id name.id ≡ true) × (is_arch name.arch ≡ true) × (is_branch name.branch ≡ true)
  parts = let a = and_parts (is_id name.id) (is_arch name.arch && is_branch name.branch) good in let b = and_parts (is_arch name.arch) (is_branch name.branch) a.1 in (a.0, b.0, b.1)

  ref_length : length (ref_text name) ≤ 780
  ref_length =
      let k = word_short name.kind in
      let i = id_short name.id parts.0 in
      let a = arch_short name.arch parts.1 in
      let b = branch_short name.branch parts.2 in
      rw (length-append, length-append, length-append) (omega (arith, k, i, a, b))

  ref_set : list_all is_set (ref_text name) ≡ true
  ref_set = simp (list_all-append, kind_set name.kind, set_of name.id (dotted_id name.id parts.0), set_of name.arch (dotted_arch name.arch parts.1), set_of name.branch (dotted_branch name.branch parts.2))

  module _ (size file : List ℕ) (a : is_element size ≡ true) (b : is_element file ≡ true) where
    icon_length : length (path_text (icon_path size file)) ≤ 600
    icon_length = omega (arith, length-append size (47 ∷ (codes "apps" ++ 47 ∷ file)), element_short size a, element_short file b)

    icon_set : list_all is_set (path_text (icon_path size file)) ≡ true
    icon_set = simp (list_all-append, element_set size a, element_set file b)

    long : length (link_text name (icon_path size file)) ≤ 4095
    long = omega (arith, length-append (ref_text name) (codes "/active/export/" ++ path_text (icon_path size file)), ref_length, icon_length)

    set : list_all is_set (link_text name (icon_path size file)) ≡ true
    set =
        both (codes "../../../../../../") (ref_text name ++ (codes "/active/export/" ++ path_text (icon_path size file))) refl
        (both (ref_text name) (codes "/active/export/" ++ path_text (icon_path size file)) ref_set (both (codes "/active/export/") (path_text (icon_path size file)) refl icon_set))

  text_of : (r : ExportRow) → IsOf name r → HasLinkText r.what
  text_of r (is_desktop_row file text is) = subst (λ (x : ExportRow). HasLinkText x.what) (sym is) tt
  text_of r (is_icon_row size file a b is) = subst (λ (x : ExportRow). HasLinkText x.what) (sym is) (omega arith, long size file a b, set size file a b)

-- ---- the rows of a state

pub texts_good : (have : Have) (s : State) {v : View} → Opens s v → (r : ExportRow) → Contains (exported have s) r → HasLinkText r.what
texts_good have s {v = v} opens r has =
    let m = of_state have s r has in
    text_of m.0.name (all_has IsGoodRow s.refs ((shown_good (shows v) s (opens.shown (shows v) (now_left v))).rows) m.0 m.1).name r m.2
