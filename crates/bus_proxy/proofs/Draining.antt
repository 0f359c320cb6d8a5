-- Pieces one after another.
use Rattle.std.proofs.Common.{◌≡◌, ℕ, ◌+◌, ◌<◌, ◌≤◌, Bool, true, false, List, [], ◌∷◌, ◌++◌, length, take, drop, get_or, Option, Some, None, refl, sym, ap, ◌∙◌}
use Rattle.std.specs.Option.{option_or}
use Rattle.std.specs.Prelude.{reverse, is_some, if◌then◌else◌}
use Rattle.std.proofs.lemmas.List.{take_more, take_all, reverse-append, take-append-drop}
use Rattle.fp_base.specs.declared.side.Side.{Side}
use Rattle.fp_base.specs.declared.side.Side.TheVariants as side
use Rattle.bus_policy.specs.Events.{Event}
use Rattle.bus_proxy.specs.Arrivals.{Pieces, End, bytes_of, breach, events, broken_end, cut_end, end_of, news, arrived}

pub next_piece : (pieces : Pieces) (i : ℕ) (d : Side × List ℕ) → i < length pieces → reverse (take (i + 1) pieces) ≡ get_or pieces i d ∷ reverse (take i pieces)
next_piece pieces i d lt =
    ap reverse (take_more pieces i d lt) ∙ reverse-append (take i pieces) (get_or pieces i d ∷ [])

pub all_pieces : (pieces : Pieces) (i : ℕ) → reverse pieces ≡ reverse (drop i pieces) ++ reverse (take i pieces)
all_pieces pieces i = ap reverse (sym (take-append-drop i pieces)) ∙ reverse-append (take i pieces) (drop i pieces)

-- after a broken rule nothing comes
pub breach_stays : (more fed : Pieces) (end : End) → breach fed ≡ Some end → breach (more ++ fed) ≡ Some end
breach_stays [] fed end e = e
breach_stays (piece ∷ more) fed end e = ap (λ (o : Option End). option_or o (broken_end piece.0 (bytes_of piece.0 ((piece ∷ more) ++ fed)))) (breach_stays more fed end e)

pub nothing_comes : (more fed : Pieces) (end : End) → breach fed ≡ Some end → events (more ++ fed) ≡ events fed
nothing_comes [] fed end e = refl
nothing_comes (piece ∷ more) fed end e =
    ap (λ (o : Option End). if is_some o then events (more ++ fed) else arrived piece.0 (news (bytes_of piece.0 (more ++ fed)) (bytes_of piece.0 ((piece ∷ more) ++ fed))) ++ events (more ++ fed)) (breach_stays more fed end e)
    ∙ nothing_comes more fed end e

pub end_stays : (more fed : Pieces) (end : End) → breach fed ≡ Some end → end_of (more ++ fed) ≡ Some end
end_stays more fed end e =
    let all = more ++ fed in
    ap (λ (o : Option End). option_or o (option_or (cut_end side.Client (bytes_of side.Client all)) (cut_end side.Bus (bytes_of side.Bus all)))) (breach_stays more fed end e)

-- ---- over the pieces of a recording

pub stepped : (pieces : Pieces) (i : ℕ) (item : Side × List ℕ) (piece : List ℕ) → i < length pieces → item ≡ get_or pieces i item → piece ≡ item.1
    → reverse (take (i + 1) pieces) ≡ (item.0, piece) ∷ reverse (take i pieces)
stepped pieces i item piece lt is same =
    next_piece pieces i item lt
    ∙ ap (λ (p : Side × List ℕ). p ∷ reverse (take i pieces)) (sym is)
    ∙ ap (λ (b : List ℕ). (item.0, b) ∷ reverse (take i pieces)) (sym same)

pub at_the_end : (pieces : Pieces) (i : ℕ) → length pieces ≤ i → reverse (take i pieces) ≡ reverse pieces
at_the_end pieces i le = ap reverse (take_all i pieces le)
