-- What the type reader does at a type, whatever the room.
use Rattle.std.proofs.Common.{◌≡◌, ℕ, zero, suc, ◌+◌, ◌-◌, ◌<◌, Bool, false, eqb, List, [], ◌∷◌, length, Option, Some, None, refl, ap, sym, ◌∙◌, arith}
use Rattle.bus_frame.specs.Steps.{remainder_byte}
use Rattle.bus_frame.specs.Types.{members_after, type_step, type_after, whole_type_after, are_types_text}

pub step : (all arrays structs : ℕ) (types : List ℕ) → type_after all arrays structs types ≡ type_step all arrays structs (type_after (all - 1)) types
unfolding type_after
step zero arrays structs [] = refl
step zero arrays structs (c ∷ types) = refl
step (suc all) arrays structs types =
    let below : all ≡ suc all - 1 = omega arith in
    ap (λ (n : ℕ). type_step (suc all) arrays structs (type_after n) types) below

-- a member that another follows
pub members_after_more : (one : List ℕ → Option (List ℕ)) (i count : ℕ) (types rest : List ℕ) (total : Option (List ℕ)) → i < count → one types ≡ Some rest → remainder_byte 41 rest ≡ None → members_after one (count - i) types ≡ total → members_after one (count - (i + 1)) rest ≡ total
members_after_more one i count types rest total lt read unclosed so_far =
    let k : count - i ≡ suc (count - (i + 1)) = omega arith in
    let here : members_after one (count - i) types ≡ members_after one (count - (i + 1)) rest = rw (k, read, unclosed) refl in
    sym here ∙ so_far

-- a type that more of a signature follows
pub are_types_more : (i count : ℕ) (types rest : List ℕ) (total : Bool) → i < count → eqb (length types) 0 ≡ false → whole_type_after types ≡ Some rest → are_types_text (count - i) types ≡ total → are_types_text (count - (i + 1)) rest ≡ total
are_types_more i count types rest total lt some_left read so_far =
    let k : count - i ≡ suc (count - (i + 1)) = omega arith in
    let here : are_types_text (count - i) types ≡ are_types_text (count - (i + 1)) rest = rw (k, some_left, read) refl in
    sym here ∙ so_far
