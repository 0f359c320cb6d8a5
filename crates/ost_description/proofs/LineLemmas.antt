-- Lines one after another.
use Rattle.std.proofs.Common.{◌≡◌, ◌==◌, ℕ, ◌+◌, ◌<◌, List, [], ◌∷◌, length, Some, None, Option, refl, ap, ◌∙◌, arith}
use Rattle.std.specs.Prelude.{if◌then◌else◌, option_map, is_some}
use Rattle.std.proofs.lemmas.List.Splits.{slice_split_none, slice_split_first, length-slice_split}
use Rattle.ost_commit.specs.declared.row.TreeRow.{TreeRow}
use Rattle.fp_base.specs.Parts.{parts_at}
use Rattle.fp_base.proofs.Lines.{is_end, found, missed, none_ends}
use Rattle.ost_description.specs.Descriptions.{pieces, first_by, row_in, row_before, rows_in, unformed_in}

-- a line, and the pieces after it
pub pieces_step : (bytes line remainder : List ℕ) → parts_at 10 bytes ≡ Some (line, remainder) → pieces bytes ≡ line ∷ pieces remainder
pieces_step bytes line remainder e =
    let f = found bytes line remainder e in
    slice_split_first is_end bytes 0 f.0 ∙ (λ i. f.1 i ∷ pieces (f.2 i))

pub pieces_end : (bytes : List ℕ) → parts_at 10 bytes ≡ None → pieces bytes ≡ bytes ∷ []
pieces_end bytes e = slice_split_none is_end bytes (none_ends bytes (missed bytes e))

pub some_pieces : (bytes : List ℕ) → 0 < length (pieces bytes)
some_pieces bytes = omega (arith, length-slice_split is_end bytes)

-- ---- the first line

pub first_cons : {A : Type 0} (read : List ℕ → Option A) (line : List ℕ) (lines : List (List ℕ)) → 0 < length lines → first_by read (line ∷ lines) ≡ option_map (λ x. (x, lines)) (read line)
first_cons read line [] l = absurd (omega arith)
first_cons read line (next ∷ lines) l = refl

pub first_line : {A : Type 0} (read : List ℕ → Option A) (bytes line remainder : List ℕ) → parts_at 10 bytes ≡ Some (line, remainder)
    → first_by read (pieces bytes) ≡ option_map (λ x. (x, pieces remainder)) (read line)
first_line read bytes line remainder e = ap (first_by read) (pieces_step bytes line remainder e) ∙ first_cons read line (pieces remainder) (some_pieces remainder)

pub no_line : {A : Type 0} (read : List ℕ → Option A) (bytes : List ℕ) → parts_at 10 bytes ≡ None → first_by read (pieces bytes) ≡ None
no_line read bytes e = ap (first_by read) (pieces_end bytes e)

pub good_first : {A : Type 0} (read : List ℕ → Option A) (x : A) (bytes line remainder : List ℕ) → parts_at 10 bytes ≡ Some (line, remainder) → read line ≡ Some x
    → first_by read (pieces bytes) ≡ Some (x, pieces remainder)
good_first read x bytes line remainder e r = first_line read bytes line remainder e ∙ ap (option_map (λ x. (x, pieces remainder))) r

pub bad_first : {A : Type 0} (read : List ℕ → Option A) (bytes line remainder : List ℕ) → parts_at 10 bytes ≡ Some (line, remainder) → read line ≡ None
    → first_by read (pieces bytes) ≡ None
bad_first read bytes line remainder e r = first_line read bytes line remainder e ∙ ap (option_map (λ x. (x, pieces remainder))) r

-- ---- rows

pub rows_cons : (line : List ℕ) (lines : List (List ℕ)) → 0 < length lines → rows_in (line ∷ lines) ≡ row_before (row_in line) (rows_in lines)
rows_cons line [] l = absurd (omega arith)
rows_cons line (next ∷ lines) l = refl

pub unformed_cons : (number : ℕ) (line : List ℕ) (lines : List (List ℕ)) → 0 < length lines
    → unformed_in number (line ∷ lines) ≡ (if is_some (row_in line) then unformed_in (number + 1) lines else Some number)
unformed_cons number line [] l = absurd (omega arith)
unformed_cons number line (next ∷ lines) l = refl

pub rows_step : (bytes line remainder : List ℕ) (r : TreeRow) → parts_at 10 bytes ≡ Some (line, remainder) → row_in line ≡ Some r
    → rows_in (pieces bytes) ≡ r ∷ rows_in (pieces remainder)
rows_step bytes line remainder r e f = ap rows_in (pieces_step bytes line remainder e) ∙ rows_cons line (pieces remainder) (some_pieces remainder) ∙ ap (λ o. row_before o (rows_in (pieces remainder))) f

pub rows_stop : (bytes line remainder : List ℕ) → parts_at 10 bytes ≡ Some (line, remainder) → row_in line ≡ None → rows_in (pieces bytes) ≡ []
rows_stop bytes line remainder e f = ap rows_in (pieces_step bytes line remainder e) ∙ rows_cons line (pieces remainder) (some_pieces remainder) ∙ ap (λ o. row_before o (rows_in (pieces remainder))) f

pub rows_end : (bytes : List ℕ) → parts_at 10 bytes ≡ None → rows_in (pieces bytes) ≡ []
rows_end bytes e = ap rows_in (pieces_end bytes e)

pub unformed_step : (number : ℕ) (bytes line remainder : List ℕ) (r : TreeRow) → parts_at 10 bytes ≡ Some (line, remainder) → row_in line ≡ Some r
    → unformed_in number (pieces bytes) ≡ unformed_in (number + 1) (pieces remainder)
unformed_step number bytes line remainder r e f =
    ap (unformed_in number) (pieces_step bytes line remainder e) ∙ unformed_cons number line (pieces remainder) (some_pieces remainder)
    ∙ ap (λ (o : Option TreeRow). if is_some o then unformed_in (number + 1) (pieces remainder) else Some number) f

pub unformed_stop : (number : ℕ) (bytes line remainder : List ℕ) → parts_at 10 bytes ≡ Some (line, remainder) → row_in line ≡ None → unformed_in number (pieces bytes) ≡ Some number
unformed_stop number bytes line remainder e f =
    ap (unformed_in number) (pieces_step bytes line remainder e) ∙ unformed_cons number line (pieces remainder) (some_pieces remainder)
    ∙ ap (λ (o : Option TreeRow). if is_some o then unformed_in (number + 1) (pieces remainder) else Some number) f

pub unformed_end : (number : ℕ) (bytes : List ℕ) → parts_at 10 bytes ≡ None → unformed_in number (pieces bytes) ≡ (if length bytes == 0 then None else Some number)
unformed_end number bytes e = ap (unformed_in number) (pieces_end bytes e)
