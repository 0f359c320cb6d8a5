-- What holds of the rows that are exported.
use Rattle.std.proofs.Common.{◌≡◌, ◌⊎◌, inl, inr, ℕ, List, [], ◌∷◌, map, Bool, true, false, Option, Some, None, codes, refl, sym, ◌∙◌, ap, subst, Contains}
use Rattle.std.specs.Prelude.{if◌then◌else◌, ◌&&◌, option_and_then, option_map, option_to_list}
use Rattle.std.specs.List.{flat_map}
use Rattle.std.specs.Str.{bytes_eq}
use Rattle.std.specs.Cmp.Lexicographic.{slice_cmp}
use Rattle.std.specs.Ordering.{is_lt, is_eq, nat_cmp}
use Rattle.std.specs.declared.cmp.Ordering.{Ordering}
use Rattle.std.specs.declared.cmp.Ordering.TheVariants.{Less, Equal, Greater}
use Rattle.std.proofs.lemmas.Bool.{and_parts, and_from}
use Rattle.std.proofs.lemmas.List.Elements.{Contains-append_cases}
use Rattle.std.proofs.lemmas.Map.Text.{is_eq-slice_cmp}
use Rattle.fp_base.specs.declared.object.ObjKind.TheVariants as kinds
use Rattle.fp_base.proofs.Lists.{in_none, in_first, in_rest, in_cases}
use Rattle.fp_base.proofs.Texts.{bytes_eq-true, bytes_eq-same}
use Rattle.fp_host.specs.Paths.{is_element, path_text}
use Rattle.fp_host.specs.Reads.{comes_first, is_ascending}
use Rattle.fp_name.specs.Refs.{Ref}
use Rattle.fp_name.specs.declared.kind.RefKind.{RefKind}
use Rattle.fp_name.specs.declared.kind.RefKind.TheVariants.{App, Runtime}
use Rattle.fp_small.specs.Order.{comes_before}
use Rattle.fp_small.proofs.Ordered.{before_back, before_on, before_differs}
use Rattle.fp_small.specs.declared.state.State.{State}
use Rattle.fp_small.specs.declared.state.RefRow.{RefRow}
use Rattle.ost_model.specs.Fields.{FileRow, DirRow}
use Rattle.ost_model.specs.Objects.{Have}
use Rattle.ost_store.proofs.Lists.{in_one}
use Rattle.fl_export.specs.declared.rows.ExportRow.{ExportRow}
use Rattle.fl_export.specs.Rewritten.{rewritten}
use Rattle.fl_export.specs.Texts.{is_own, is_desktop, applications, hicolor}
use Rattle.fl_export.specs.Trees.{files_in, dirs_in, tree_look, tree_next, is_file, short_content}
use Rattle.fl_export.specs.Exported.{desktop_row, desktop_of, desktop_files, icon_row, icon_of, icon_files, icons_of, icons, desktops_by, icons_by, exported_by, if_app, exported_at, all_exported, key, by_order, put_in, in_order, exported, in_export}
use Rattle.fl_export.specs.Steps.{HasForm, AreRows}

-- ---- where rows come from

from_flat : {A B : Type 0} (f : A → List B) (xs : List A) (y : B) → Contains (flat_map f xs) y → (x : A) × Contains xs x × Contains (f x) y
from_flat f [] y has = absurd (in_none y has)
from_flat f (x ∷ xs) y has = elim (Contains-append_cases (f x) (flat_map f xs) y has) [
  | inl here ↦ (x, in_first x xs, here)
  | inr later ↦ let m = from_flat f xs y later in (m.0, in_rest x xs m.0 m.1, m.2)
]

from_option : {A : Type 0} (o : Option A) (x : A) → Contains (option_to_list o) x → o ≡ Some x
from_option None x has = absurd (in_none x has)
from_option (Some y) x has = ap Some (sym (in_one y x has))

from_order : (o : Ordering) (x y : ExportRow) (rows put : List ExportRow) (r : ExportRow) → (Contains put r → (r ≡ x) ⊎ Contains rows r) → Contains (by_order o x y rows put) r → (r ≡ x) ⊎ Contains (y ∷ rows) r
from_order Less x y rows put r more has = in_cases x (y ∷ rows) r has
from_order Equal x y rows put r more has = elim (in_cases x rows r has) [ inl is ↦ inl is | inr later ↦ inr (in_rest y rows r later) ]
from_order Greater x y rows put r more has = elim (in_cases y put r has) [
  | inl is ↦ inr (subst (Contains (y ∷ rows)) (sym is) (in_first y rows))
  | inr later ↦ elim (more later) [ inl is ↦ inl is | inr had ↦ inr (in_rest y rows r had) ]
]

from_put : (x : ExportRow) (rows : List ExportRow) (r : ExportRow) → Contains (put_in x rows) r → (r ≡ x) ⊎ Contains rows r
from_put x [] r has = inl (in_one x r has)
from_put x (y ∷ rows) r has = from_order (slice_cmp nat_cmp (key x) (key y)) x y rows (put_in x rows) r (from_put x rows r) has

pub from_in_order : (rows : List ExportRow) (r : ExportRow) → Contains (in_order rows) r → Contains rows r
from_in_order [] r has = has
from_in_order (x ∷ rows) r has = elim (from_put x (in_order rows) r has) [
  | inl is ↦ subst (Contains (x ∷ rows)) (sym is) (in_first x rows)
  | inr later ↦ in_rest x rows r (from_in_order rows r later)
]

-- a row that an application exports
pub data IsOf (name : Ref) (r : ExportRow) : Type 0 where
  is_desktop_row : (file text : List ℕ) → r ≡ desktop_row name file text → IsOf name r
  is_icon_row : (size file : List ℕ) → is_element size ≡ true → is_element file ≡ true → r ≡ icon_row name size file → IsOf name r

by_text : (name : Ref) (file : List ℕ) (text : Option (List ℕ)) (r : ExportRow) → option_map (desktop_row name file) text ≡ Some r → IsOf name r
by_text name file None r is = absurd (cc is)
by_text name file (Some text) r is = let same : desktop_row name file text ≡ r = cc is in is_desktop_row file text (sym same)

by_test : (name : Ref) (file : List ℕ) (b : Bool) (text : Option (List ℕ)) (r : ExportRow) → (if b then option_map (desktop_row name file) text else None) ≡ Some r → IsOf name r
by_test name file true text r is = by_text name file text r is
by_test name file false text r is = absurd (cc is)

by_icon : (name : Ref) (size file : List ℕ) (b : Bool) (r : ExportRow) → is_element size ≡ true → (b ≡ true → is_element file ≡ true) → (if b then Some (icon_row name size file) else None) ≡ Some r → IsOf name r
by_icon name size file true r good own is = let same : icon_row name size file ≡ r = cc is in is_icon_row size file good (own refl) (sym same)
by_icon name size file false r good own is = absurd (cc is)

module _ (have : Have) (name : Ref) where
  own_element : (file : List ℕ) (b : Bool) → (is_own name file && b) ≡ true → is_element file ≡ true
  own_element file b h = (and_parts (is_element file) _ (and_parts (is_own name file) b h).0).0

  of_desktops : (files : List FileRow) (r : ExportRow) → Contains (desktop_files have name files) r → IsOf name r
  of_desktops files r has =
      let m = from_flat (λ f. option_to_list (desktop_of have name f)) files r has in
      by_test name m.0.name (is_own name m.0.name && is_desktop m.0.name) (option_and_then (λ bytes. rewritten bytes name) (short_content (have m.0.digest kinds.File))) r (from_option (desktop_of have name m.0) r m.2)

  of_icons : (size : List ℕ) → is_element size ≡ true → (files : List FileRow) (r : ExportRow) → Contains (icon_files have name size files) r → IsOf name r
  of_icons size good files r has =
      let m = from_flat (λ f. option_to_list (icon_of have name size f)) files r has in
      by_icon name size m.0.name (is_own name m.0.name && is_file (have m.0.digest kinds.File)) r good (own_element m.0.name (is_file (have m.0.digest kinds.File))) (from_option (icon_of have name size m.0) r m.2)

  of_size : (d : DirRow) (b : Bool) → is_element d.name ≡ b → (r : ExportRow) → Contains (if b then icon_files have name d.name (files_in (tree_next have (codes "apps") d)) else []) r → IsOf name r
  of_size d true good r has = of_icons d.name good (files_in (tree_next have (codes "apps") d)) r has
  of_size d false good r has = absurd (in_none r has)

  of_sizes : (sizes : List DirRow) (r : ExportRow) → Contains (icons have name sizes) r → IsOf name r
  of_sizes sizes r has = let m = from_flat (icons_of have name) sizes r has in of_size m.0 (is_element m.0.name) refl r m.2

  of_commit : (commit : List ℕ) (r : ExportRow) → Contains (exported_by have name commit) r → IsOf name r
  of_commit commit r has = elim (Contains-append_cases (desktops_by have name commit) (icons_by have name commit) r has) [
    | inl one ↦ of_desktops (files_in (tree_look have commit (applications in_export))) r one
    | inr other ↦ of_sizes (dirs_in (tree_look have commit (hicolor in_export))) r other
  ]

of_kind : (have : Have) (row : RefRow) (kind : RefKind) (r : ExportRow) → Contains (if_app kind (exported_by have row.name row.commit)) r → IsOf row.name r
of_kind have row App r has = of_commit have row.name row.commit r has
of_kind have row Runtime r has = absurd (in_none r has)

pub of_state : (have : Have) (s : State) (r : ExportRow) → Contains (exported have s) r → (row : RefRow) × Contains s.refs row × IsOf row.name r
unfolding exported
of_state have s r has =
    let m = from_flat (exported_at have) s.refs r (from_in_order (all_exported have s.refs) r has) in
    (m.0, m.1, of_kind have m.0 m.0.name.kind r m.2)

form_of : {name : Ref} (r : ExportRow) → IsOf name r → HasForm r.path
form_of r (is_desktop_row file text is) = inl (file, ap (λ (x : ExportRow). x.path) is)
form_of r (is_icon_row size file a b is) = inr (size, file, ap (λ (x : ExportRow). x.path) is)

-- ---- they ascend

keys : List ExportRow → List (List ℕ)
keys rows = map key rows

lower : (x : ExportRow) (rows : List ExportRow) (r : ExportRow) → comes_first (key x) (keys rows) ≡ true → is_ascending (keys rows) ≡ true → Contains rows r → comes_before (key x) (key r) ≡ true
unfolding keys
lower x [] r first up has = absurd (in_none r has)
lower x (y ∷ rows) r first up has = elim (in_cases y rows r has) [
  | inl is ↦ subst (λ (z : ExportRow). comes_before (key x) (key z) ≡ true) (sym is) first
  | inr later ↦ let a = and_parts (comes_first (key y) (keys rows)) (is_ascending (keys rows)) up in before_on (key x) (key y) (key r) first (lower y rows r a.0 a.1 later)
]

-- what comes first of a list into which a row was put
first_put : (w x : ExportRow) (rows : List ExportRow) → comes_before (key w) (key x) ≡ true → comes_first (key w) (keys rows) ≡ true → comes_first (key w) (keys (put_in x rows)) ≡ true
unfolding keys
first_put w x [] before first = before
first_put w x (y ∷ rows) before first = by_case (slice_cmp nat_cmp (key x) (key y))
  where
    by_case : (o : Ordering) → comes_first (key w) (keys (by_order o x y rows (put_in x rows))) ≡ true
    by_case Less = before
    by_case Equal = before
    by_case Greater = first

put_up : (x : ExportRow) (rows : List ExportRow) → is_ascending (keys rows) ≡ true → is_ascending (keys (put_in x rows)) ≡ true
unfolding keys
put_up x [] up = refl
put_up x (y ∷ rows) up = by_case (put_up x rows above.1) (slice_cmp nat_cmp (key x) (key y)) refl
  where
    above : (comes_first (key y) (keys rows) ≡ true) × (is_ascending (keys rows) ≡ true)
    above = and_parts (comes_first (key y) (keys rows)) (is_ascending (keys rows)) up

    same_first : (zs : List ExportRow) → key x ≡ key y → comes_first (key y) (keys zs) ≡ true → comes_first (key x) (keys zs) ≡ true
    same_first zs same first = subst (λ (k : List ℕ). comes_first k (keys zs) ≡ true) (sym same) first

    by_case : is_ascending (keys (put_in x rows)) ≡ true → (o : Ordering) → slice_cmp nat_cmp (key x) (key y) ≡ o → is_ascending (keys (by_order o x y rows (put_in x rows))) ≡ true
    by_case more Less is = and_from (comes_first (key x) (keys (y ∷ rows))) (is_ascending (keys (y ∷ rows))) (ap is_lt is) up
    by_case more Equal is = and_from (comes_first (key x) (keys rows)) (is_ascending (keys rows)) (same_first rows (bytes_eq-true (key x) (key y) (sym (is_eq-slice_cmp (key x) (key y)) ∙ ap is_eq is)) above.0) above.1
    by_case more Greater is = and_from (comes_first (key y) (keys (put_in x rows))) (is_ascending (keys (put_in x rows)))
        (first_put y x rows (before_back (key x) (key y) (ap is_lt is) (sym (is_eq-slice_cmp (key x) (key y)) ∙ ap is_eq is)) above.0) more

order_up : (rows : List ExportRow) → is_ascending (keys (in_order rows)) ≡ true
unfolding keys
order_up [] = refl
order_up (x ∷ rows) = put_up x (in_order rows) (order_up rows)

one_of : (rows : List ExportRow) → is_ascending (keys rows) ≡ true → (r o : ExportRow) → Contains rows r → Contains rows o → key r ≡ key o → r ≡ o
unfolding keys
one_of [] up r o has other same = absurd (in_none r has)
one_of (x ∷ rows) up r o has other same =
    let a = and_parts (comes_first (key x) (keys rows)) (is_ascending (keys rows)) up in
    elim (in_cases x rows r has) [
      | inl r_is ↦ elim (in_cases x rows o other) [
        | inl o_is ↦ r_is ∙ sym o_is
        | inr o_in ↦ absurd (apart o (lower x rows o a.0 a.1 o_in) (sym (ap key r_is) ∙ same))
      ]
      | inr r_in ↦ elim (in_cases x rows o other) [
        | inl o_is ↦ absurd (apart r (lower x rows r a.0 a.1 r_in) (sym (ap key o_is) ∙ sym same))
        | inr o_in ↦ one_of rows a.1 r o r_in o_in same
      ]
    ]
  where
    apart : (y : ExportRow) → comes_before (key x) (key y) ≡ true → key x ≡ key y → ⊥
    apart y before is = cc (sym (before_differs (key x) (key y) before) ∙ ap (bytes_eq (key y)) is ∙ bytes_eq-same (key y))

pub are_rows : (have : Have) (s : State) → AreRows (exported have s)
unfolding exported
are_rows have s = record {
  forms = λ r has. form_of r ((of_state have s r has).2);
  one = λ r o has other same. one_of (in_order (all_exported have s.refs)) (order_up (all_exported have s.refs)) r o has other (ap path_text same);
}
