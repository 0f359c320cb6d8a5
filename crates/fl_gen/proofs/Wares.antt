-- Wares that are put into a store.
use Rattle.std.proofs.Common.{◌≡◌, ◌+◌, ◌<◌, ℕ, zero, suc, List, [], ◌∷◌, ◌++◌, map, take, length, get_or, true, Result, Ok, Err, OnOk, refl, sym, ◌∙◌, ap, subst, arith}
use Rattle.std.specs.List.{AllByRecursion}
use Rattle.std.proofs.lemmas.List.{take_more, map-append}
use Rattle.fp_name.specs.Hex.{is_digest}
use Rattle.fp_name.specs.Refs.{Ref}
use Rattle.ost_commit.specs.declared.row.TreeRow.{TreeRow}
use Rattle.ost_commit.specs.declared.built.Built.{Built}
use Rattle.ost_commit.specs.declared.built.BuiltObject.{BuiltObject}
use Rattle.ost_commit.specs.Built.{BuiltCommit}
use Rattle.ost_commit.proofs.Holding.{all_push}
use Rattle.fl_gen.specs.declared.filling.TheConstants.{SUBJECT}
use Rattle.fl_gen.specs.declared.store.Row.{Row}
use Rattle.fl_gen.specs.Stores.{Entry, Offer, Reads, object_entry, ref_entry}
use Rattle.fl_gen.specs.Keeping.{Adds, Brings}
use Rattle.fl_gen.proofs.Entries.{adds_on}
use Rattle.fl_gen.proofs.Stocking.{brings_one}

-- ---- objects in turn

module _ (objects : List BuiltObject) (i : ℕ) (o : BuiltObject) (low : i < length objects) (is : o ≡ get_or objects i o) where
  one_more : take (i + 1) objects ≡ take i objects ++ o ∷ []
  one_more = take_more objects i o low ∙ ap (λ (x : BuiltObject). take i objects ++ x ∷ []) (sym is)

  pub puts_more : (s t u : List Row) → Adds (map object_entry (take i objects)) s t → Adds (object_entry o ∷ []) t u → Adds (map object_entry (take (i + 1) objects)) s u
  puts_more s t u first second =
      let entries : map object_entry (take (i + 1) objects) ≡ map object_entry (take i objects) ++ object_entry o ∷ [] = ap (map object_entry) one_more ∙ map-append object_entry (take i objects) (o ∷ []) in
      subst (λ (l : List Entry). Adds l s u) (sym entries) (adds_on first second)

  pub reads_more : AllByRecursion Reads (take i objects) → Reads o → AllByRecursion Reads (take (i + 1) objects)
  reads_more all one = subst (AllByRecursion Reads) (sym one_more) (all_push Reads (take i objects) o all one)

pub all_there : {A : Type 0} (P : A → Type 0) (xs : List A) (i : ℕ) (a : A) → i < length xs → a ≡ get_or xs i a → AllByRecursion P xs → P a
all_there P [] i a low is all = absurd (omega (arith, low))
all_there P (x ∷ xs) zero a low is all = subst P (sym is) all.0
all_there P (x ∷ xs) (suc i) a low is all = all_there P xs i a (omega (arith, low)) is all.1

-- ---- an offer

pub offers_ware : {T E : Type 0} (r : Result T E) (version : ℕ) (name : Ref) (rows : List TreeRow) (built : Built) (s t u : List Row)
    → BuiltCommit rows name SUBJECT.now version built → is_digest built.commit ≡ true → Adds (ref_entry name built.commit ∷ []) s t
    → OnOk r (Adds (map object_entry built.objects) t u) → OnOk r (AllByRecursion Reads built.objects)
    → OnOk r (Brings version (record { name = name; rows = rows } ∷ []) s u)
offers_ware (Ok x) version name rows built s t u of digits first objects reads =
    let o : Offer = record { name = name; built = built } in
    brings_one version (record { name = name; rows = rows }) o (record { name = refl; built = of; digits = digits; reads = reads }) (adds_on first objects)
offers_ware (Err e) version name rows built s t u of digits first objects reads = tt

pub brings_as : {version : ℕ} {name other : Ref} {rows others : List TreeRow} {s t : List Row} → name ≡ other → rows ≡ others
    → Brings version (record { name = name; rows = rows } ∷ []) s t → Brings version (record { name = other; rows = others } ∷ []) s t
brings_as {version = version} {other = other} {rows = rows} {s = s} {t = t} same like brings =
    subst (λ (l : List TreeRow). Brings version (record { name = other; rows = l } ∷ []) s t) like
    (subst (λ (n : Ref). Brings version (record { name = n; rows = rows } ∷ []) s t) same brings)
