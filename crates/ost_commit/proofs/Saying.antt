-- What rows say, row by row.
use Rattle.std.proofs.Common.{◌≡◌, ◌≢◌, List, [], ◌∷◌, ◌++◌, Bool, true, false, refl, ◌∙◌, ap}
use Rattle.std.specs.Prelude.{if◌then◌else◌}
use Rattle.fp_host.specs.Paths.{Elements, path_eq}
use Rattle.fp_host.proofs.Separate.{path_decides}
use Rattle.ost_commit.specs.declared.row.TreeRow.{TreeRow}
use Rattle.ost_commit.specs.Rows.{Said, no_entry, a_directory, content, said_by, first_said, said_by_rows, said_of_root, says}
use Rattle.ost_commit.specs.Folders.{with_entry, with_row}

pub or_nothing : (a : Said) → first_said a no_entry ≡ a
or_nothing no_entry = refl
or_nothing a_directory = refl
or_nothing (content d) = refl

pub first_assoc : (a b c : Said) → first_said a (first_said b c) ≡ first_said (first_said a b) c
first_assoc no_entry b c = refl
first_assoc a_directory b c = refl
first_assoc (content d) b c = refl

rows_push : (rs : List TreeRow) (r : TreeRow) (q : Elements) → said_by_rows (rs ++ r ∷ []) q ≡ first_said (said_by_rows rs q) (said_by r q)
rows_push [] r q = or_nothing (said_by r q)
rows_push (s ∷ rs) r q = ap (first_said (said_by s q)) (rows_push rs r q) ∙ first_assoc (said_by s q) (said_by_rows rs q) (said_by r q)

-- with one row more the rows say what they said, and what it says
pub says_push : (rs : List TreeRow) (r : TreeRow) (q : Elements) → says (rs ++ r ∷ []) q ≡ with_row (says rs) r q
says_push rs r q = ap (first_said (said_of_root q)) (rows_push rs r q) ∙ first_assoc (said_of_root q) (said_by_rows rs q) (said_by r q)

-- ---- an entry more

pub entry_here : (said : Elements → Said) (p : Elements) (v : Said) → said p ≡ no_entry → with_entry said p v p ≡ v
entry_here said p v none = ap (λ s. first_said s (if path_eq p p then v else no_entry)) none ∙ ap (λ b. if b then v else no_entry) ((path_decides p p).1 refl)

not_eq : (q p : Elements) → q ≢ p → path_eq q p ≡ false
not_eq q p apart = go (path_eq q p) (path_decides q p).0
  where
    go : (b : Bool) → (b ≡ true → q ≡ p) → b ≡ false
    go true f = absurd (apart (f refl))
    go false f = refl

pub entry_elsewhere : (said : Elements → Said) (p : Elements) (v : Said) (q : Elements) → q ≢ p → with_entry said p v q ≡ said q
entry_elsewhere said p v q apart = ap (λ b. first_said (said q) (if b then v else no_entry)) (not_eq q p apart) ∙ or_nothing (said q)

pub entry_dir : (said : Elements → Said) (p : Elements) (v : Said) (q : Elements) → said q ≡ a_directory → with_entry said p v q ≡ a_directory
entry_dir said p v q is = ap (λ s. first_said s (if path_eq q p then v else no_entry)) is
