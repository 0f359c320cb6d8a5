-- The objects of rows in a table.
use Rattle.std.proofs.Common.{◌≡◌, ◌⊎◌, inl, inr, ◌<◌, ℕ, zero, suc, List, [], ◌∷◌, ◌++◌, length, get_or, Bool, true, false, Some, None, refl, sym, ◌∙◌, ap, subst, arith}
use Rattle.std.specs.Prelude.{if◌then◌else◌, ◌≢◌, Option, Result, Ok, Err, IfErr}
use Rattle.std.specs.Result.{IsErrAnd}
use Rattle.std.specs.Str.{bytes_eq}
use Rattle.std.specs.List.{AllByRecursion}
use Rattle.std.proofs.lemmas.Slice.Eq.{bytes_eq-Decides}
use Rattle.std.proofs.lemmas.Bool.{false≢true}
use Rattle.fp_base.specs.declared.object.ObjKind.{ObjKind}
use Rattle.fp_base.specs.declared.object.ObjKind.TheVariants as kinds
use Rattle.ost_model.specs.declared.object.Object.{Object}
use Rattle.ost_model.specs.declared.object.Object.TheVariants as objects
use Rattle.ost_model.specs.Contents.{header, file_digest, link_digest}
use Rattle.sha2.specs.Sha256.{sha256}
use Rattle.fp_base.proofs.Options.{none_some}
use Rattle.fp_base.proofs.Lists.{all_to}
use Rattle.ost_model.specs.Objects.{Have, object_fault}
use Rattle.ost_commit.specs.declared.row.TreeRow.{TreeRow}
use Rattle.ost_commit.specs.declared.row.TreeRow.TheVariants as row
use Rattle.ost_commit.specs.Rows.{put_by}
use Rattle.ost_commit.specs.Refusals.{is_good_row, is_content}
use Rattle.ost_commit.specs.Objects.{Holds}
use Rattle.ost_commit.specs.Shows.{IsThere}
use Rattle.ost_commit.specs.Digests.{IsDigestOf, AreDigests, object_by}
use Rattle.ost_commit.specs.Folders.{At, put_at}
use Rattle.fp_name.specs.Refs.{Ref}
use Rattle.ost_commit.specs.Rows.{says}
use Rattle.ost_commit.specs.Refusals.{first_refused, IsRefusal}
use Rattle.ost_commit.specs.Built.{IsBuildFault}
use Rattle.ost_commit.specs.Sizes.{IsTooLarge}
use Rattle.ost_object.specs.Writes.{Writes}
use Rattle.ost_object.specs.declared.error.ObjectError.{ObjectError}
use Rattle.fp_base.specs.declared.rule.Rule.{Rule}
use Rattle.ost_commit.specs.Writing.{IsWantOfRoom, IsRefused}
use Rattle.ost_commit.specs.Tables.{object_in, PutsObject, IsOtherThere, HasRow, AreUsable, AreContents, Collide, IsFaultOfPut, IsFaultOfTables}
use Rattle.ost_commit.specs.declared.built.BuildError.{BuildError}
use Rattle.ost_commit.specs.declared.built.BuildError.TheVariants as error
use Rattle.ost_commit.proofs.Reading.{digest_if_good, row_good}

pub all_push : {A : Type 0} (P : A → Type 0) (xs : List A) (a : A) → AllByRecursion P xs → P a → AllByRecursion P (xs ++ a ∷ [])
all_push P [] a all one = (one, tt)
all_push P (x ∷ xs) a all one = (all.0, all_push P xs a all.1 one)

pub all_at : {A : Type 0} (P : A → Type 0) (xs : List A) (i : ℕ) (a : A) → AllByRecursion P xs → At xs i a → P a
all_at P [] i a all h = absurd h
all_at P (x ∷ xs) zero a all h = subst P h all.0
all_at P (x ∷ xs) (suc i) a all h = all_at P xs i a all.1 h

-- the digest of a row's place
pub digest_of_row : (rows : List TreeRow) (ds : List (List ℕ)) (i : ℕ) (r : TreeRow) → AreDigests rows ds → At rows i r → IsDigestOf r (get_or ds i [])
digest_of_row [] ds i r all h = absurd h
digest_of_row (s ∷ rows) [] i r all h = absurd all
digest_of_row (s ∷ rows) (d ∷ ds) zero r all h = subst (λ x. IsDigestOf x d) h all.0
digest_of_row (s ∷ rows) (d ∷ ds) (suc i) r all h = digest_of_row rows ds i r all.1 h

row_there : (table : List (List ℕ × Object)) (r : TreeRow) (d : List ℕ) (o : Object) → IsDigestOf r d → object_by r ≡ Some o → object_in table d ≡ Some o → HasRow table r
row_there table (row.Dir path) d o is by there = tt
row_there table (row.File path mode bytes) d o is by there = sym (ap (object_in table) is) ∙ (there ∙ sym by)
row_there table (row.Link path target) d o is by there = sym (ap (object_in table) is) ∙ (there ∙ sym by)

row_kept : (old new : List (List ℕ × Object)) → ((q : List ℕ) (o : Object) → object_in old q ≡ Some o → object_in new q ≡ Some o) → (r : TreeRow) → HasRow old r → HasRow new r
row_kept old new kept (row.Dir path) has = tt
row_kept old new kept (row.File path mode bytes) has = kept (file_digest mode bytes) (objects.File mode bytes) has
row_kept old new kept (row.Link path target) has = kept (link_digest target) (objects.Link target) has

pub no_contents : AreContents [] []
no_contents = record { there = tt; usable = record { each = λ d o h. absurd (cc h) } }

-- an object that may be used came to its digest
pub usable_more : (kind : ObjKind) (old new : List (List ℕ × Object)) (d : List ℕ) (o : Object) → AreUsable kind old → object_fault d kind (Some o) ≡ None → PutsObject old new d o → AreUsable kind new
usable_more kind old new d o usable good puts = record {
  each = λ q x h. elim (puts.only q x h) [
    | inl k ↦ usable.each q x k
    | inr k ↦ subst (λ z. object_fault z kind (Some x) ≡ None) (sym k.0) (subst (λ z. object_fault d kind (Some z) ≡ None) (sym k.1) good)
  ];
}

-- a row more
pub contents_more : (before : List TreeRow) (r : TreeRow) (old new : List (List ℕ × Object)) (d : List ℕ) (o : Object) → AreContents before old → is_good_row r ≡ true → IsDigestOf r d → object_by r ≡ Some o
    → PutsObject old new d o → AreContents (before ++ r ∷ []) new
contents_more before r old new d o contents good is by puts = record {
  there = all_push (HasRow new) before r (all_to (HasRow old) (HasRow new) (row_kept old new puts.kept) before contents.there) (row_there new r d o is by puts.there);
  usable = usable_more kinds.File old new d o contents.usable (row_good r d o good is by) puts;
}

pub contents_same : (before : List TreeRow) (r : TreeRow) (table : List (List ℕ × Object)) → AreContents before table → object_by r ≡ None → AreContents (before ++ r ∷ []) table
contents_same before r table contents by = record {
  there = all_push (HasRow table) before r contents.there (go r by);
  usable = contents.usable;
}
  where
    go : (s : TreeRow) → object_by s ≡ None → HasRow table s
    go (row.Dir path) e = tt
    go (row.File path mode bytes) e = absurd (cc e)
    go (row.Link path target) e = absurd (cc e)

-- another object has the digest
pub collide : (kind : ObjKind) (table : List (List ℕ × Object)) (d : List ℕ) (o : Object) → AreUsable kind table → object_fault d kind (Some o) ≡ None → IsOtherThere table d o → Collide
collide kind table d o usable good other = record {
  first = other.other;
  second = o;
  apart = other.apart;
  same = digest_if_good d kind other.other (usable.each d other.other other.there) ∙ sym (digest_if_good d kind o good);
}

-- ---- rows whose objects are there

pub holds_rows : (have : Have) (table : List (List ℕ × Object)) → ((d : List ℕ) (o : Object) → object_in table d ≡ Some o → have d kinds.File ≡ Some o) → (rows : List TreeRow) → AllByRecursion (HasRow table) rows → AllByRecursion (Holds have) rows
holds_rows have table has rows all = all_to (HasRow table) (Holds have) go rows all
  where
    go : (r : TreeRow) → HasRow table r → Holds have r
    go (row.Dir path) h = tt
    go (row.File path mode bytes) h = has (file_digest mode bytes) (objects.File mode bytes) h
    go (row.Link path target) h = has (link_digest target) (objects.Link target) h

pub there_rows : (have : Have) (rows : List TreeRow) (ds : List (List ℕ)) → AllByRecursion (Holds have) rows → AreDigests rows ds → (k : ℕ) → k < length rows → is_content (put_at rows k) ≡ true → IsThere have (get_or ds k []) kinds.File
there_rows have [] ds all digests k low is = absurd (omega (arith, low))
there_rows have (r ∷ rows) [] all digests k low is = absurd digests
there_rows have (r ∷ rows) (d ∷ ds) all digests zero low is = go r all.0 digests.0 is
  where
    go : (s : TreeRow) → Holds have s → IsDigestOf s d → is_content (put_by s) ≡ true → IsThere have d kinds.File
    go (row.Dir path) h e c = absurd (false≢true c)
    go (row.File path mode bytes) h e c = record { object = objects.File mode bytes; is = ap (λ q. have q kinds.File) e ∙ h }
    go (row.Link path target) h e c = record { object = objects.Link target; is = ap (λ q. have q kinds.File) e ∙ h }
there_rows have (r ∷ rows) (d ∷ ds) all digests (suc k) low is = there_rows have rows ds all.1 digests.1 k (omega (arith, low)) is

-- ---- a table that an object comes to

pub puts_new : (old new : List (List ℕ × Object)) (d : List ℕ) (o : Object) → object_in old d ≡ None → ((q : List ℕ) → object_in new q ≡ (if bytes_eq d q then Some o else object_in old q)) → PutsObject old new d o
puts_new old new d o none updates = record {
  there = updates d ∙ ap (λ b. if b then Some o else object_in old d) ((bytes_eq-Decides d d).1 refl);
  kept = λ q x h. keeps q x h (bytes_eq d q) (bytes_eq-Decides d q).0 (updates q);
  only = λ q x h. known q x (bytes_eq d q) (bytes_eq-Decides d q).0 (sym (updates q) ∙ h);
}
  where
    keeps : (q : List ℕ) (x : Object) → object_in old q ≡ Some x → (b : Bool) → (b ≡ true → d ≡ q) → object_in new q ≡ (if b then Some o else object_in old q) → object_in new q ≡ Some x
    keeps q x h true same is = absurd (none_some (sym none ∙ (ap (object_in old) (same refl) ∙ h)))
    keeps q x h false same is = is ∙ h

    known : (q : List ℕ) (x : Object) (b : Bool) → (b ≡ true → d ≡ q) → (if b then Some o else object_in old q) ≡ Some x → (object_in old q ≡ Some x) ⊎ ((q ≡ d) × (x ≡ o))
    known q x true same is = inr (sym (same refl), cc is)
    known q x false same is = inl is

-- ---- why an object doesn't come to its digest

pub fault_of_put : (large : Type 0) (kind : ObjKind) (table : List (List ℕ × Object)) (d : List ℕ) (o : Object) (e : BuildError) → AreUsable kind table → object_fault d kind (Some o) ≡ None → IsFaultOfPut table d o e → IsFaultOfTables large e
fault_of_put large kind table d o (error.Row n) usable good h = h
fault_of_put large kind table d o error.Collision usable good h = collide kind table d o usable good h
fault_of_put large kind table d o error.TooLarge usable good h = absurd h
fault_of_put large kind table d o error.NoMemory usable good h = tt

-- why no table is made, by another reason for what is too large
pub fault_for : (large larger : Type 0) (e : BuildError) → (large → larger) → IsFaultOfTables large e → IsFaultOfTables larger e
fault_for large larger (error.Row n) to h = h
fault_for large larger error.Collision to h = h
fault_for large larger error.TooLarge to h = to h
fault_for large larger error.NoMemory to h = tt

pub want_for : (large larger : Type 0) (e : BuildError) → (large → larger) → IsWantOfRoom large e → IsWantOfRoom larger e
want_for large larger (error.Row n) to h = h
want_for large larger error.Collision to h = h
want_for large larger error.TooLarge to h = to h
want_for large larger error.NoMemory to h = tt

pub fault_of_want : (large larger : Type 0) (e : BuildError) → (large → larger) → IsWantOfRoom large e → IsFaultOfTables larger e
fault_of_want large larger (error.Row n) to h = h
fault_of_want large larger error.Collision to h = absurd h
fault_of_want large larger error.TooLarge to h = to h
fault_of_want large larger error.NoMemory to h = tt

-- an error that is handed on
pub err_at : {T : Type 0} (r : Result T BuildError) (e : BuildError) (P : BuildError → Type 0) → IsErrAnd r (λ x. x ≡ e) → P e → IfErr r P
err_at (Ok x) e P h p = absurd h
err_at (Err x) e P h p = subst P (sym h) p

-- bytes that were refused are none
pub refused_reads : {Y : Type 0} (read : List ℕ → Result Y Rule) (breaks : Y → Option Rule) (r : Result (List ℕ) ObjectError) (y : Y) → Writes read breaks r y → IsRefused r → (bytes : List ℕ) → read bytes ≢ Ok y
refused_reads read breaks r y w refused = (subst (λ (x : Result (List ℕ) ObjectError). Writes read breaks x y) refused.1 w).1

-- and why rows make no commit
pub fault_of_refusal : (rows : List TreeRow) (r : Ref) (subject : List ℕ) (timestamp : ℕ) (e : BuildError) → IsRefusal rows e → IsBuildFault rows r subject timestamp e
fault_of_refusal rows r subject timestamp (error.Row n) h = h
fault_of_refusal rows r subject timestamp error.Collision h = absurd h
fault_of_refusal rows r subject timestamp error.TooLarge h = absurd h
fault_of_refusal rows r subject timestamp error.NoMemory h = tt

pub fault_of_build : (rows : List TreeRow) (r : Ref) (subject : List ℕ) (timestamp : ℕ) (e : BuildError) → first_refused rows ≡ None → IsFaultOfTables (IsTooLarge rows (says rows) r subject timestamp) e → IsBuildFault rows r subject timestamp e
fault_of_build rows r subject timestamp (error.Row n) none h = absurd h
fault_of_build rows r subject timestamp error.Collision none h = (none, h)
fault_of_build rows r subject timestamp error.TooLarge none h = (none, h)
fault_of_build rows r subject timestamp error.NoMemory none h = tt

pub usable_none : (kind : ObjKind) (table : List (List ℕ × Object)) → table ≡ [] → AreUsable kind table
usable_none kind table is = subst (AreUsable kind) (sym is) (record { each = λ d o h. absurd (cc h) })

-- ---- what digests are taken of

pub file_item : (mode : ℕ) (bytes head body : List ℕ) → head ≡ header mode → body ≡ bytes → sha256 (head ++ body) ≡ file_digest mode bytes
unfolding file_digest
file_item mode bytes head body h b = ap (λ x. sha256 (x ++ body)) h ∙ ap (λ y. sha256 (header mode ++ y)) b

pub any_get : (ds : List (List ℕ)) (i : ℕ) (d : List ℕ) → i < length ds → d ≡ get_or ds i d → d ≡ get_or ds i []
any_get [] i d low is = absurd (omega (arith, low))
any_get (x ∷ ds) zero d low is = is
any_get (x ∷ ds) (suc i) d low is = any_get ds i d (omega (arith, low)) is
