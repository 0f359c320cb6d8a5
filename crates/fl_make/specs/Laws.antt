-- The digests of commits that are built of rows or of descriptions.
use Rattle.std.specs.Prelude.{◌≡◌, ℕ, List}
use Rattle.fp_name.specs.Refs.{Ref}
use Rattle.ost_commit.specs.declared.row.TreeRow.{TreeRow}
use Rattle.ost_commit.specs.declared.built.Built.{Built}
use Rattle.ost_commit.specs.Built.{BuiltCommit}
use Rattle.ost_description.specs.Commits.{IsDescribed}

-- Two commits that are built of the same rows, ref, subject and timestamp have the same digest
abbrev pub RowsHaveOneCommit : Type 0
RowsHaveOneCommit = (rows : List TreeRow) (r : Ref) (subject : List ℕ) (timestamp : ℕ)
    (one two : Built) → BuiltCommit rows r subject timestamp one
    → BuiltCommit rows r subject timestamp two → one.commit ≡ two.commit

-- Two commits of the tree that the same bytes describe, bound to the same ref, have the same digest
abbrev pub DescriptionsHaveOneCommit : Type 0
DescriptionsHaveOneCommit = (bytes : List ℕ) (r : Ref) (one two : Built)
    → IsDescribed bytes r one → IsDescribed bytes r two → one.commit ≡ two.commit
