-- What the value reader does at a value, whatever the room, and the steps of its loops.
use Rattle.std.proofs.Common.{◌≡◌, ℕ, zero, suc, ◌+◌, ◌-◌, ◌<◌, Bool, false, eqb, List, [], ◌∷◌, length, Option, Some, None, refl, ap, sym, ◌∙◌, arith}
use Rattle.bus_frame.specs.Places.{Place}
use Rattle.bus_frame.specs.Values.{value_step, value_at, Ended, closed, members_at, elements_at}

pub step : (little : Bool) (all arrays structs : ℕ) (types : List ℕ) (p : Place) → value_at little all arrays structs types p ≡ value_step little all arrays structs (value_at little (all - 1)) types p
unfolding value_at
step little zero arrays structs [] p = refl
step little zero arrays structs (c ∷ types) p = refl
step little (suc all) arrays structs types p =
    let below : all ≡ suc all - 1 = omega arith in
    ap (λ (n : ℕ). value_step little (suc all) arrays structs (value_at little n) types p) below

-- a member that another follows
pub members_at_more : (one : List ℕ → Place → Option Ended) (i count : ℕ) (types rest : List ℕ) (p q : Place) (total : Option Ended) → i < count → one types p ≡ Some (rest, q) → closed rest ≡ None → members_at one (count - i) types p ≡ total → members_at one (count - (i + 1)) rest q ≡ total
members_at_more one i count types rest p q total lt read unclosed so_far =
    let k : count - i ≡ suc (count - (i + 1)) = omega arith in
    let here : members_at one (count - i) types p ≡ members_at one (count - (i + 1)) rest q = rw (k, read, unclosed) refl in
    sym here ∙ so_far

-- an element that another follows
pub elements_at_more : (one : List ℕ → Place → Option Ended) (i count : ℕ) (types rest : List ℕ) (p q : Place) (total : Option (List ℕ)) → i < count → one types p ≡ Some (rest, q) → eqb (length q.rest) 0 ≡ false → elements_at one (count - i) types p ≡ total → elements_at one (count - (i + 1)) types q ≡ total
elements_at_more one i count types rest p q total lt read some_left so_far =
    let k : count - i ≡ suc (count - (i + 1)) = omega arith in
    let here : elements_at one (count - i) types p ≡ elements_at one (count - (i + 1)) types q = rw (k, read, some_left) refl in
    sym here ∙ so_far
