-- Rows that are put in order by the texts of their paths.
use Rattle.std.proofs.Common.{◌≡◌, List, [], ◌∷◌, ◌++◌, refl, sym, ◌∙◌, ap, subst, append-nil, append_assoc}
use Rattle.std.specs.Prelude.{String, string_bytes}
use Rattle.std.specs.declared.cmp.Ordering.{Ordering}
use Rattle.std.specs.declared.cmp.Ordering.TheVariants.{Less, Equal, Greater}
use Rattle.std.specs.Ordering.{nat_cmp, match_ordering}
use Rattle.std.specs.Cmp.Lexicographic.{slice_cmp}
use Rattle.std.specs.List.{AllByRecursion}
use Rattle.std.specs.String.{string_cmp}
use Rattle.std.specs.BTreeMap.{insert_entry}
use Rattle.std.specs.Map.{values_of}
use Rattle.fp_base.proofs.Texts.{equal_texts}
use Rattle.fl_export.specs.declared.rows.ExportRow.{ExportRow}
use Rattle.fl_export.specs.Exported.{key, by_order, put_in, in_order}

-- each row stands at the text of its path
abbrev pub AreKeyed : {Z : Type 0} → List (String Z × ExportRow) → Type 0
AreKeyed es = AllByRecursion (λ e. string_bytes e.0 ≡ key e.1) es

-- these rows were put in
pub record ArePutIn {Z : Type 0} (rows : List ExportRow) (es : List (String Z × ExportRow)) : Type 0 where
  pub values : values_of es ≡ in_order rows
  pub keyed : AreKeyed es

module _ {Z : Type 0} (text : String Z) (row : ExportRow) (is : string_bytes text ≡ key row) where
  order_is : (e : String Z × ExportRow) → string_bytes e.0 ≡ key e.1 → slice_cmp nat_cmp (key row) (key e.1) ≡ string_cmp text e.0
  order_is e at = λ i. slice_cmp nat_cmp (sym is i) (sym at i)

  abbrev Put : List (String Z × ExportRow) → List (String Z × ExportRow) → Type 0
  Put es fs = (values_of fs ≡ put_in row (values_of es)) × AreKeyed fs

  put_by : (e : String Z × ExportRow) (es : List (String Z × ExportRow)) (o : Ordering) → string_cmp text e.0 ≡ o → string_bytes e.0 ≡ key e.1 → AreKeyed es → Put es (insert_entry string_cmp es text row)
      → Put (e ∷ es) (match_ordering o ((text, row) ∷ e ∷ es) ((e.0, row) ∷ es) (e ∷ insert_entry string_cmp es text row))
  put_by e es Less h at keyed more = (sym (ap (λ o. by_order o row e.1 (values_of es) (put_in row (values_of es))) (order_is e at ∙ h)), (is, (at, keyed)))
  put_by e es Equal h at keyed more = (sym (ap (λ o. by_order o row e.1 (values_of es) (put_in row (values_of es))) (order_is e at ∙ h)), (sym (equal_texts text e.0 h) ∙ is, keyed))
  put_by e es Greater h at keyed more =
      (ap (λ l. e.1 ∷ l) more.0 ∙ sym (ap (λ o. by_order o row e.1 (values_of es) (put_in row (values_of es))) (order_is e at ∙ h)), (at, more.1))

  put : (es : List (String Z × ExportRow)) → AreKeyed es → Put es (insert_entry string_cmp es text row)
  put [] keyed = (refl, (is, tt))
  put (e ∷ es) keyed = put_by e es (string_cmp text e.0) refl keyed.0 keyed.1 (put es keyed.1)

  pub put_next : (rows : List ExportRow) (es fs : List (String Z × ExportRow)) → ArePutIn rows es → fs ≡ insert_entry string_cmp es text row → ArePutIn (row ∷ rows) fs
  put_next rows es fs so_far grown =
      let one = put es so_far.keyed in
      subst (ArePutIn (row ∷ rows)) (sym grown) (record { values = one.0 ∙ ap (put_in row) so_far.values; keyed = one.1 })

-- the rows that are left, and those that were put in
pub record IsPartly {Z : Type 0} (all left : List ExportRow) (es : List (String Z × ExportRow)) : Type 0 where
  pub rows : List ExportRow
  pub whole : all ≡ left ++ rows
  pub are : ArePutIn rows es

pub partly_none : {Z : Type 0} (all : List ExportRow) (es : List (String Z × ExportRow)) → es ≡ [] → IsPartly all all es
partly_none all es none = record { rows = []; whole = sym (append-nil all); are = subst (ArePutIn []) (sym none) (record { values = refl; keyed = tt }) }

pub partly_next : {Z : Type 0} (all left left' : List ExportRow) (row : ExportRow) (text : String Z) (es fs : List (String Z × ExportRow)) → IsPartly all left es → left ≡ left' ++ row ∷ [] → string_bytes text ≡ key row
    → fs ≡ insert_entry string_cmp es text row → IsPartly all left' fs
partly_next all left left' row text es fs so_far popped is grown = record {
  rows = row ∷ so_far.rows;
  whole = so_far.whole ∙ ap (λ l. l ++ so_far.rows) popped ∙ append_assoc left' (row ∷ []) so_far.rows;
  are = put_next text row is so_far.rows es fs so_far.are grown;
}

pub partly_all : {Z : Type 0} (all left : List ExportRow) (es : List (String Z × ExportRow)) → IsPartly all left es → left ≡ [] → values_of es ≡ in_order all
partly_all all left es so_far none = so_far.are.values ∙ ap in_order (sym (so_far.whole ∙ ap (λ l. l ++ so_far.rows) none))
