-- The report of a small store.
use Rattle.std.proofs.Common.{◌≡◌, ◌⊎◌, inl, inr, ℕ, List, [], ◌∷◌, Bool, true, false, length, Some, None, refl, sym, ap, subst, Contains, arith}
use Rattle.fp_host.specs.Paths.{Elements, path_eq}
use Rattle.fp_host.proofs.Separate.{path_decides}
use Rattle.fp_base.specs.declared.object.ObjKind.{ObjKind}
use Rattle.fp_base.specs.declared.object.ObjKind.TheVariants as kinds
use Rattle.fp_name.specs.Hex.{is_digest, hex}
use Rattle.sha2.specs.Sha256.{sha256, digest_bytes, hash_after, compress, rounds, schedule, first_words}
use Rattle.fp_base.proofs.Lists.{in_first, in_rest, in_cases}
use Rattle.ost_model.specs.declared.object.Object.TheVariants as objects
use Rattle.ost_model.specs.Contents.{meta_digest}
use Rattle.ost_model.specs.Objects.{corrupt, name_fault, object_path, Named}
use Rattle.ost_model.proofs.Sample.{meta_named}
use Rattle.ost_model.proofs.Stores.{one_name}
use Rattle.ost_store.proofs.Lists.{in_one}
use Rattle.ost_fsck.specs.declared.report.Finding.{Finding}
use Rattle.ost_fsck.specs.declared.report.Finding.TheVariants as findings
use Rattle.ost_fsck.specs.Report.{IsNameless, IsEntry, IsBad, IsSo}
use Rattle.ost_store.specs.Names.{name_in}
use Rattle.fp_host.specs.Outcome.{IsLeafSpot}
use Rattle.ost_fsck.specs.Laws.{meta, root, good_name, bad_name, stray_name, is_folder, spot_by, small_disk, small_report, SmallReport}

abbrev Object : Type 0
Object = List ℕ × ObjKind

meta_good : is_digest meta ≡ true
meta_good = refl

-- ---- what the disk has

-- a file stands at these three names alone
by_name : (path : Elements) (a b c d : Bool) → path_eq path good_name ≡ a → path_eq path bad_name ≡ b → path_eq path stray_name ≡ c → IsLeafSpot (spot_by a b c d) → (path ≡ good_name) ⊎ ((path ≡ bad_name) ⊎ (path ≡ stray_name))
by_name path true b c d ea eb ec leaf = inl ((path_decides path good_name).0 ea)
by_name path false true c d ea eb ec leaf = inr (inl ((path_decides path bad_name).0 eb))
by_name path false false true d ea eb ec leaf = inr (inr ((path_decides path stray_name).0 ec))
by_name path false false false true ea eb ec leaf = absurd leaf
by_name path false false false false ea eb ec leaf = absurd leaf

three_leaves : (path : Elements) → IsLeafSpot (small_disk path) → (path ≡ good_name) ⊎ ((path ≡ bad_name) ⊎ (path ≡ stray_name))
three_leaves path leaf = by_name path (path_eq path good_name) (path_eq path bad_name) (path_eq path stray_name) (is_folder path) refl refl refl leaf

good_there : IsLeafSpot (small_disk good_name)
unfolding hex
good_there = tt

bad_there : IsLeafSpot (small_disk bad_name)
unfolding hex
bad_there = tt

stray_there : IsLeafSpot (small_disk stray_name)
unfolding hex
stray_there = tt

-- ---- what each is

good_named : Named meta kinds.DirMeta (small_disk good_name)
unfolding hex
good_named = record { bits = refl; good = meta_named }

empty_is_another : name_fault meta kinds.DirTree (Some (objects.Meta [])) ≡ None → ⊥
unfolding meta_digest sha256 digest_bytes hash_after compress rounds schedule first_words
empty_is_another is = let off : name_fault meta kinds.DirTree (Some (objects.Meta [])) ≡ Some (corrupt (meta_digest [])) = refl in cc (is, off)

bad_unnamed : Named meta kinds.DirTree (small_disk bad_name) → ⊥
unfolding hex
bad_unnamed named = empty_is_another named.good

-- an object's name has four elements, the stray one three
stray_nameless : IsNameless root stray_name
stray_nameless object good same = let long = ap length same in omega (arith, long)

one_object : (d : List ℕ) (kind other : ObjKind) → is_digest d ≡ true → object_path root d kind ≡ object_path root meta other → (d ≡ meta) × (kind ≡ other)
one_object d kind other digits same = one_name root d meta kind other digits meta_good same

-- ---- the report

bad_found : (d : List ℕ) (kind : ObjKind) → IsBad root small_disk (d, kind) → Contains small_report.findings (findings.Bad d kind)
bad_found d kind bad = elim (three_leaves (object_path root d kind) bad.entry.there) [
  | inl same ↦
      let is = one_object d kind kinds.DirMeta bad.entry.digits same in
      absurd (bad.untrue (subst (λ (o : Object). Named o.0 o.1 (small_disk (name_in root o))) (λ i. (sym is.0 i, sym is.1 i)) good_named))
  | inr more ↦ elim more [
    | inl same ↦
        let is = one_object d kind kinds.DirTree bad.entry.digits same in
        subst (λ (f : Finding). Contains small_report.findings f) (λ i. findings.Bad (sym is.0 i) (sym is.1 i)) (in_first (findings.Bad meta kinds.DirTree) (findings.Stray stray_name ∷ []))
    | inr same ↦ absurd (stray_nameless (d, kind) bad.entry.digits (sym same))
  ]
]

found_is_so : (f : Finding) → Contains small_report.findings f → IsSo root small_disk f
found_is_so f has = elim (in_cases (findings.Bad meta kinds.DirTree) (findings.Stray stray_name ∷ []) f has) [
  | inl same ↦ subst (IsSo root small_disk) (sym same) (record { entry = record { digits = meta_good; there = bad_there }; untrue = bad_unnamed })
  | inr later ↦ subst (IsSo root small_disk) (sym (in_one (findings.Stray stray_name) f later)) (record { below = inl refl; there = stray_there; nameless = stray_nameless })
]

so_is_found : (f : Finding) → IsSo root small_disk f → Contains small_report.findings f
so_is_found (findings.Bad d kind) so = bad_found d kind so
so_is_found (findings.Stray path) so = elim (three_leaves path so.there) [
  | inl same ↦ absurd (so.nameless (meta, kinds.DirMeta) meta_good same)
  | inr more ↦ elim more [
    | inl same ↦ absurd (so.nameless (meta, kinds.DirTree) meta_good same)
    | inr same ↦ subst (λ (p : Elements). Contains small_report.findings (findings.Stray p)) (sym same) (in_rest (findings.Bad meta kinds.DirTree) (findings.Stray stray_name ∷ []) (findings.Stray stray_name) (in_first (findings.Stray stray_name) []))
  ]
]

abbrev both : List Object
both = (meta, kinds.DirMeta) ∷ (meta, kinds.DirTree) ∷ []

entry_of : (o : Object) → Contains both o → IsEntry root small_disk o
entry_of o has = elim (in_cases (meta, kinds.DirMeta) ((meta, kinds.DirTree) ∷ []) o has) [
  | inl same ↦ subst (IsEntry root small_disk) (sym same) (record { digits = meta_good; there = good_there })
  | inr later ↦ subst (IsEntry root small_disk) (sym (in_one (meta, kinds.DirTree) o later)) (record { digits = meta_good; there = bad_there })
]

entry_in : (o : Object) → IsEntry root small_disk o → Contains both o
entry_in o entry = elim (three_leaves (name_in root o) entry.there) [
  | inl same ↦
      let is = one_object o.0 o.1 kinds.DirMeta entry.digits same in
      subst (Contains both) (λ i. (sym is.0 i, sym is.1 i)) (in_first (meta, kinds.DirMeta) ((meta, kinds.DirTree) ∷ []))
  | inr more ↦ elim more [
    | inl same ↦
        let is = one_object o.0 o.1 kinds.DirTree entry.digits same in
        subst (Contains both) (λ i. (sym is.0 i, sym is.1 i)) (in_rest (meta, kinds.DirMeta) ((meta, kinds.DirTree) ∷ []) (meta, kinds.DirTree) (in_first (meta, kinds.DirTree) []))
    | inr same ↦ absurd (stray_nameless o entry.digits (sym same))
  ]
]

pub small_reported : SmallReport
unfolding hex
small_reported = record {
  each = λ f. (found_is_so f, so_is_found f);
  ascending = refl;
  objects = both;
  entries = λ o. (entry_of o, entry_in o);
  once = refl;
  count = refl;
}
