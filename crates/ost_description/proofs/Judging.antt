-- Why rows make no commit, and which line that is.
use Rattle.std.proofs.Common.{◌≡◌, ℕ, ◌+◌, ◌≤◌, Bool, true, false, List, [], ◌∷◌, ◌++◌, length, Some, None, Option, Ok, Err, Result, refl, sym, ap, subst, arith, length-append}
use Rattle.std.specs.Prelude.{if◌then◌else◌, IfErr}
use Rattle.std.specs.Result.{IsErrAnd}
use Rattle.ost_commit.specs.declared.row.TreeRow.{TreeRow}
use Rattle.ost_commit.specs.Rows.{says, row_path}
use Rattle.ost_commit.specs.declared.built.BuildError.{BuildError}
use Rattle.ost_commit.specs.declared.built.BuildError.TheVariants as errors
use Rattle.ost_commit.specs.Built.{IsBuildFault}
use Rattle.ost_commit.specs.Refusals.{is_taken, new_names, refused_remainder, first_refused}
use Rattle.ost_description.specs.declared.description.Description.{Description}
use Rattle.ost_description.specs.declared.description.DescriptionError.{DescriptionError}
use Rattle.ost_description.specs.Descriptions.{checked_description}
use Rattle.fp_name.specs.Refs.{Ref}
use Rattle.ost_description.specs.declared.description.DescriptionError.TheVariants as error
use Rattle.ost_description.specs.Commits.{IsFaultOf, IsDescriptionFault, IsReadFault}

step : (b : Bool) (o : Option ℕ) (k n m : ℕ) → (o ≡ Some n → n ≤ m) → k ≤ m → (if b then o else Some k) ≡ Some n → n ≤ m
step true o k n m ih h e = ih e
step false o k n m ih h e = let s : k ≡ n = cc in omega arith

refused_within : (before : List TreeRow) (names : ℕ) (rs : List TreeRow) (n : ℕ) → refused_remainder before names rs ≡ Some n → n ≤ length before + length rs
refused_within before names [] n e = absurd cc
refused_within before names (r ∷ rs) n e =
    let more = names + new_names (says before) (row_path r) in
    step (is_taken (says before) names r) (refused_remainder (before ++ r ∷ []) more rs) (length before + 1) n (length before + length (r ∷ rs))
    (λ f. omega (arith, refused_within (before ++ r ∷ []) more rs n f, length-append before (r ∷ []))) (omega arith) e

-- the first row that is refused is one of the rows
pub refused_among : (rs : List TreeRow) (n : ℕ) → first_refused rs ≡ Some n → n ≤ length rs
refused_among rs n e = let h = refused_within [] 0 rs n e in omega (arith, h)

pub refused_row : (d : Description) (unformed : Option ℕ) (n : ℕ) → first_refused d.rows ≡ Some n → checked_description d unformed (first_refused d.rows) ≡ Err (n + 2)
refused_row d unformed n e = ap (checked_description d unformed) e

pub unformed_line : (d : Description) (n : ℕ) → first_refused d.rows ≡ None → checked_description d (Some n) (first_refused d.rows) ≡ Err n
unformed_line d n e = ap (checked_description d (Some n)) e

pub whole : (d : Description) → first_refused d.rows ≡ None → checked_description d None (first_refused d.rows) ≡ Ok d
whole d e = ap (checked_description d None) e

-- ---- why there is no commit

pub in_front : (r : Ref) (d : Description) (unformed : Option ℕ) (reason : DescriptionError) → first_refused d.rows ≡ None → IsFaultOf r (checked_description d unformed None) reason → IsFaultOf r (checked_description d unformed (first_refused d.rows)) reason
in_front r d unformed reason e h = subst (λ (o : Option ℕ). IsFaultOf r (checked_description d unformed o) reason) (sym e) h

pub as_read : (r : Ref) (read : Result Description ℕ) (other : Result Description ℕ) (reason : DescriptionError) → read ≡ other → IsFaultOf r other reason → IsFaultOf r read reason
as_read r read other reason e h = subst (λ (d : Result Description ℕ). IsFaultOf r d reason) (sym e) h

-- two objects have one digest, or a line isn't formed as a row
pub collided : (r : Ref) (d : Description) (unformed : Option ℕ) (why : BuildError) (reason : DescriptionError) → why ≡ errors.Collision → IsBuildFault d.rows r d.subject d.timestamp why
    → (IsFaultOf r (checked_description d None None) error.Collision → IsFaultOf r (checked_description d unformed None) reason)
    → IsFaultOf r (checked_description d unformed (first_refused d.rows)) reason
collided r d unformed why reason is fault on =
    let both = subst (IsBuildFault d.rows r d.subject d.timestamp) is fault in
    in_front r d unformed reason both.0 (on (record { description = d; is = refl }, both.1))

-- what isn't read is a fault
pub fault_of_reading : (r : Ref) (bytes : List ℕ) (reason : DescriptionError) → IsReadFault bytes reason → IsDescriptionFault r bytes reason
fault_of_reading r bytes (error.Record number) h = h
fault_of_reading r bytes error.Collision h = absurd h
fault_of_reading r bytes error.TooLarge h = absurd h
fault_of_reading r bytes error.NoMemory h = tt

-- where that is handed on
pub read_fault : {A : Type 0} (result : Result A DescriptionError) (reason : DescriptionError) (r : Ref) (bytes : List ℕ) → IsErrAnd result (λ e. e ≡ reason) → IsReadFault bytes reason → IfErr result (IsDescriptionFault r bytes)
read_fault (Ok a) reason r bytes is h = absurd is
read_fault (Err e) reason r bytes is h = subst (IsDescriptionFault r bytes) (sym is) (fault_of_reading r bytes reason h)

pub fault_of : (rows rs : List TreeRow) (r : Ref) (text subject : List ℕ) (timestamp : ℕ) (reason : BuildError) → rows ≡ rs → text ≡ subject → IsBuildFault rows r text timestamp reason → IsBuildFault rs r subject timestamp reason
fault_of rows rs r text subject timestamp reason e s f = subst (λ (l : List TreeRow). IsBuildFault l r subject timestamp reason) e (subst (λ (t : List ℕ). IsBuildFault rows r t timestamp reason) s f)

-- a row that is refused is one of the rows
pub number_within : (rs : List TreeRow) (r : Ref) (subject : List ℕ) (timestamp : ℕ) (reason : BuildError) (n : ℕ) → IsBuildFault rs r subject timestamp reason → reason ≡ errors.Row n → n ≤ length rs
number_within rs r subject timestamp reason n f is = refused_among rs n (subst (IsBuildFault rs r subject timestamp) is f)
