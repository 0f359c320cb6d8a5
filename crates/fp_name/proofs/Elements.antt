-- The elements of an ID, one after another.
use Rattle.std.proofs.Common.{◌≡◌, ◌+◌, ◌≤◌, ◌<◌, ℕ, true, false, ◌&&◌, leb, List, [], ◌∷◌, length, refl, sym, ap, ◌∙◌, arith}
use Rattle.std.specs.List.{slice_split}
use Rattle.std.proofs.lemmas.Bool.{and_left, le-leb, lt-leb}
use Rattle.fp_name.specs.Bytes.{is_dot}
use Rattle.fp_name.specs.Grammar.{is_element, is_last_element, are_elements}
use Rattle.fp_name.proofs.Cuts.{HasFirst, HasFirst-split}

-- an element in front of others is an inner one
pub are_elements-front : (element : List ℕ) (parts : List (List ℕ)) → HasFirst parts → are_elements (element ∷ parts) ≡ (is_element element && are_elements parts)
are_elements-front element parts first = rw first.2 refl

-- the front is an element, so the rest decides
pub are_elements-on : (element rest text : List ℕ) → slice_split is_dot text ≡ element ∷ slice_split is_dot rest → is_element element ≡ true → are_elements (slice_split is_dot rest) ≡ are_elements (slice_split is_dot text)
are_elements-on element rest text cut good =
    sym (ap are_elements cut ∙ are_elements-front element (slice_split is_dot rest) (HasFirst-split is_dot rest) ∙ rw good refl)

-- the front is none
pub are_elements-none : (element rest text : List ℕ) → slice_split is_dot text ≡ element ∷ slice_split is_dot rest → is_element element ≡ false → are_elements (slice_split is_dot text) ≡ false
are_elements-none element rest text cut bad =
    ap are_elements cut ∙ are_elements-front element (slice_split is_dot rest) (HasFirst-split is_dot rest) ∙ rw bad refl

-- after enough dots the last element decides
pub enough_dots : (dots : ℕ) (rest text : List ℕ) → slice_split is_dot rest ≡ rest ∷ []
    → dots + length (slice_split is_dot rest) ≡ length (slice_split is_dot text)
    → are_elements (slice_split is_dot rest) ≡ are_elements (slice_split is_dot text)
    → 2 ≤ dots → is_last_element rest ≡ (leb 3 (length (slice_split is_dot text)) && are_elements (slice_split is_dot text))
enough_dots dots rest text one count same enough =
    let many : leb 3 (length (slice_split is_dot text)) ≡ true = le-leb 3 (length (slice_split is_dot text)) (omega (arith, count, ap length one)) in
    sym (ap are_elements one) ∙ same ∙ rw many refl

-- with fewer the text is none
pub few_dots : (dots : ℕ) (rest text : List ℕ) → slice_split is_dot rest ≡ rest ∷ []
    → dots + length (slice_split is_dot rest) ≡ length (slice_split is_dot text)
    → dots < 2 → leb 2 dots ≡ (leb 3 (length (slice_split is_dot text)) && are_elements (slice_split is_dot text))
few_dots dots rest text one count few =
    lt-leb 2 dots few ∙ sym (and_left (leb 3 (length (slice_split is_dot text))) (are_elements (slice_split is_dot text)) (lt-leb 3 (length (slice_split is_dot text)) (omega (arith, count, ap length one))))
