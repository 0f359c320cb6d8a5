-- The first two lines, and what they leave.
use Rattle.std.proofs.Common.{◌≡◌, ℕ, List, Some, None, Option, Err, Result, sym, ap, ◌∙◌}
use Rattle.ost_commit.specs.declared.row.TreeRow.{TreeRow}
use Rattle.ost_commit.specs.Refusals.{first_refused}
use Rattle.ost_description.specs.declared.description.Description.{Description}
use Rattle.ost_description.specs.Descriptions.{pieces, first_by, timestamp_in, subject_in, or_bad, with_rows, rows_in, unformed_in, checked_description, described}

after_time : Option (ℕ × List (List ℕ)) → Result Description ℕ
after_time first = or_bad 1 first λ first. or_bad 2 (first_by subject_in first.1) λ second. with_rows first.0 second.0 second.1

after_subject : ℕ → Option (List ℕ × List (List ℕ)) → Result Description ℕ
after_subject t second = or_bad 2 second λ second. with_rows t second.0 second.1

by_time : (bytes : List ℕ) (first : Option (ℕ × List (List ℕ))) → first_by timestamp_in (pieces bytes) ≡ first → described bytes ≡ after_time first
unfolding described after_time
by_time bytes first e = ap after_time e

by_subject : (bytes : List ℕ) (t : ℕ) (lines : List (List ℕ)) (second : Option (List ℕ × List (List ℕ))) → first_by timestamp_in (pieces bytes) ≡ Some (t, lines) → first_by subject_in lines ≡ second
    → described bytes ≡ after_subject t second
unfolding after_time after_subject
by_subject bytes t lines second e f = by_time bytes (Some (t, lines)) e ∙ ap (after_subject t) f

pub bad_time : (bytes : List ℕ) → first_by timestamp_in (pieces bytes) ≡ None → described bytes ≡ Err 1
unfolding after_time
bad_time bytes e = by_time bytes None e

pub bad_subject : (bytes remainder : List ℕ) (t : ℕ) → first_by timestamp_in (pieces bytes) ≡ Some (t, pieces remainder) → first_by subject_in (pieces remainder) ≡ None → described bytes ≡ Err 2
unfolding after_subject
bad_subject bytes remainder t e f = by_subject bytes t (pieces remainder) None e f

pub good_heading : (bytes remainder rest s : List ℕ) (t : ℕ) → first_by timestamp_in (pieces bytes) ≡ Some (t, pieces remainder) → first_by subject_in (pieces remainder) ≡ Some (s, pieces rest)
    → described bytes ≡ with_rows t s (pieces rest)
unfolding after_subject
good_heading bytes remainder rest s t e f = by_subject bytes t (pieces remainder) (Some (s, pieces rest)) e f

pub draft_is : (t : ℕ) (s : List ℕ) (lines : List (List ℕ)) (rows : List TreeRow) (unformed : Option ℕ) → rows ≡ rows_in lines → unformed ≡ unformed_in 3 lines
    → with_rows t s lines ≡ checked_description (record { timestamp = t; subject = s; rows = rows }) unformed (first_refused rows)
draft_is t s lines rows unformed e f = λ i. checked_description (record { timestamp = t; subject = s; rows = sym e i }) (sym f i) (first_refused (sym e i))
