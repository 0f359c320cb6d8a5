-- What an image of rows has in a folder, by the rest of the paths.
use Rattle.std.proofs.Common.{◌≡◌, ◌≢◌, inl, inr, ◌-◌, List, [], ◌∷◌, ◌++◌, length, take, drop, Bool, true, false, cond, refl, sym, ◌∙◌, ap, arith}
use Rattle.std.specs.Prelude.{if◌then◌else◌}
use Rattle.std.proofs.lemmas.Bool.{cases_Bool, both_ways, false_from_ne_true}
use Rattle.std.proofs.lemmas.List.{length-append, take-append-drop}
use Rattle.std.proofs.Math.Seq.{drop-append_seam, take-append_seam}
use Rattle.fp_host.specs.Paths.{Elements, path_eq}
use Rattle.fp_host.specs.Outcome.{Spot}
use Rattle.fp_host.proofs.Separate.{path_decides}
use Rattle.dep_states.specs.Samples.{rows_at}

abbrev pub rest_in : Elements → Elements → Elements
rest_in dir q = take (length q - length dir) q

abbrev pub is_in : Elements → Elements → Bool
is_in dir q = path_eq (drop (length q - length dir) q) dir

abbrev pub below : Elements → List (Elements × Spot) → List (Elements × Spot)
below dir [] = []
below dir (row ∷ rs) =
    if is_in dir row.0 then (rest_in dir row.0, row.1) ∷ below dir rs else below dir rs

same_bool : (a b : Bool) → (a ≡ true → b ≡ true) → (b ≡ true → a ≡ true) → a ≡ b
same_bool true true f g = refl
same_bool false false f g = refl
same_bool true false f g = sym (f refl)
same_bool false true f g = g refl

long : (rest dir : Elements) → length (rest ++ dir) - length dir ≡ length rest
long rest dir = omega (arith, length-append rest dir)

pub front_of : (rest dir : Elements) → rest_in dir (rest ++ dir) ≡ rest
front_of rest dir = ap (λ n. take n (rest ++ dir)) (long rest dir) ∙ take-append_seam rest dir

pub end_of : (rest dir : Elements) → drop (length (rest ++ dir) - length dir) (rest ++ dir) ≡ dir
end_of rest dir = ap (λ n. drop n (rest ++ dir)) (long rest dir) ∙ drop-append_seam rest dir

pub one_rest : (rest other dir : Elements) → rest ++ dir ≡ other ++ dir → rest ≡ other
one_rest rest other dir e = sym (front_of rest dir) ∙ ap (rest_in dir) e ∙ front_of other dir

pub is_in_dir : (rest dir : Elements) → is_in dir (rest ++ dir) ≡ true
is_in_dir rest dir = (path_decides (drop (length (rest ++ dir) - length dir) (rest ++ dir)) dir).1 (end_of rest dir)

-- a path in the folder is its rest and the folder
pub joined : (dir q : Elements) → is_in dir q ≡ true → rest_in dir q ++ dir ≡ q
joined dir q t =
    let n = length q - length dir in
    ap (λ e. take n q ++ e) (sym ((path_decides (drop n q) dir).0 t)) ∙ take-append-drop n q

same_test : (dir rest q : Elements) → is_in dir q ≡ true → path_eq (rest ++ dir) q ≡ path_eq rest (rest_in dir q)
same_test dir rest q t = same_bool (path_eq (rest ++ dir) q) (path_eq rest (rest_in dir q))
    (λ same. (path_decides rest (rest_in dir q)).1 (one_rest rest (rest_in dir q) dir ((path_decides (rest ++ dir) q).0 same ∙ sym (joined dir q t))))
    (λ same. (path_decides (rest ++ dir) q).1 (ap (λ r. r ++ dir) ((path_decides rest (rest_in dir q)).0 same) ∙ joined dir q t))

other_test : (dir rest q : Elements) → is_in dir q ≡ false → path_eq (rest ++ dir) q ≡ false
other_test dir rest q f = false_from_ne_true (path_eq (rest ++ dir) q) (λ t. both_ways (is_in dir q) f (ap (is_in dir) (sym ((path_decides (rest ++ dir) q).0 t)) ∙ is_in_dir rest dir))

pub below_at : (dir rest : Elements) (rs : List (Elements × Spot)) → rows_at rs (rest ++ dir) ≡ rows_at (below dir rs) rest
below_at dir rest [] = refl
below_at dir rest (row ∷ rs) = elim (cases_Bool (is_in dir row.0)) [
  | inl t ↦ rw t (λ i. cond (same_test dir rest row.0 t i) row.1 (below_at dir rest rs i))
  | inr f ↦ rw f (ap (λ b. cond b row.1 (rows_at rs (rest ++ dir))) (other_test dir rest row.0 f) ∙ below_at dir rest rs)
]

-- without the rows of one path
abbrev pub without : Elements → List (Elements × Spot) → List (Elements × Spot)
without p [] = []
without p (row ∷ rs) = if path_eq p row.0 then without p rs else row ∷ without p rs

pub without_at : (p rest : Elements) (rs : List (Elements × Spot)) → rest ≢ p → rows_at rs rest ≡ rows_at (without p rs) rest
without_at p rest [] off = refl
without_at p rest (row ∷ rs) off = elim (cases_Bool (path_eq p row.0)) [
  | inl t ↦ rw t (ap (λ b. cond b row.1 (rows_at rs rest)) (false_from_ne_true (path_eq rest row.0) (λ s. off ((path_decides rest row.0).0 s ∙ sym ((path_decides p row.0).0 t)))) ∙ without_at p rest rs off)
  | inr f ↦ rw f (ap (cond (path_eq rest row.0) row.1) (without_at p rest rs off))
]
