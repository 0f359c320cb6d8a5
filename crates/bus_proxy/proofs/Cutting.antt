-- A piece may be cut in two anywhere.
use Rattle.std.proofs.Common.{◌≡◌, ℕ, zero, suc, ◌+◌, ◌<◌, ◌≤◌, Bool, true, false, List, [], ◌∷◌, ◌++◌, length, take, drop, Option, Some, None, refl, sym, ap, subst, ◌∙◌, append_assoc, arith}
use Rattle.std.specs.Option.{option_or}
use Rattle.std.specs.Prelude.{is_some, if◌then◌else◌, map, reverse, option_map}
use Rattle.std.proofs.lemmas.List.{length-append, length-drop, append-nil, take-append-le, drop-append-le, drop_at, drop_all, reverse-append, map-append}
use Rattle.bus_frame.specs.declared.header.Header.{Header}
use Rattle.fp_base.specs.declared.frame_rule.FrameRule.{FrameRule}
use Rattle.fp_base.specs.declared.side.Side.{Side}
use Rattle.fp_base.specs.declared.side.Side.TheVariants as side
use Rattle.bus_frame.specs.Reading.{Read, need, bad, whole, frame_of}
use Rattle.bus_frame.proofs.Frames.{has_body, stays_whole, stays_bad}
use Rattle.bus_stream.specs.Stream.{Message, first_taken, taken_in, messages_in, rule_remainder, broken_remainder, broken_in}
use Rattle.bus_policy.specs.Events.{Event}
use Rattle.bus_proxy.proofs.Fronts.{same}
use Rattle.bus_proxy.proofs.Arriving.{ended_at}
use Rattle.bus_proxy.specs.Arrivals.{Pieces, End, other_side, same_side, counted, bytes_of, event_of, arrived, end_at, broken_end, breach, news, events, end_of, cut_end, bytes_fed, Alike}

-- ---- a stream with more bytes after it

-- nothing of it is lost; after a broken rule nothing comes
pub record Grows (before now : List Message) (rule later : Option FrameRule) : Type 0 where
  pub more : List Message
  pub grown : now ≡ before ++ more
  pub stays : (r : FrameRule) → rule ≡ Some r → (now ≡ before) × (later ≡ Some r)

moved : (b before a now : List Message) (rb rule ra later : Option FrameRule) → b ≡ before → a ≡ now → rb ≡ rule → ra ≡ later → Grows before now rule later → Grows b a rb ra
moved b before a now rb rule ra later eb ea erb era g = record {
  more = g.more;
  grown = ea ∙ g.grown ∙ ap (λ (l : List Message). l ++ g.more) (sym eb);
  stays = λ r e. let s = g.stays r (sym erb ∙ e) in (ea ∙ s.0 ∙ sym eb, era ∙ s.1);
}

no_rule : (r : FrameRule) → None ≡ Some r → ⊥
no_rule r e = cc

same_rule : (a b : FrameRule) → Some a ≡ Some b → a ≡ b
same_rule a b e = cc

from_nothing : (now : List Message) (later : Option FrameRule) → Grows [] now None later
from_nothing now later = record { more = now; grown = refl; stays = λ r e. absurd (no_rule r e) }

from_broken : (rule : FrameRule) → Grows [] [] (Some rule) (Some rule)
from_broken rule = record { more = []; grown = refl; stays = λ r e. (refl, e) }

one_on : (m : Message) (before now : List Message) (rule later : Option FrameRule) → Grows before now rule later → Grows (m ∷ before) (m ∷ now) rule later
one_on m before now rule later g = record {
  more = g.more;
  grown = ap (λ (l : List Message). m ∷ l) g.grown;
  stays = λ r e. let s = g.stays r e in (ap (λ (l : List Message). m ∷ l) s.0, s.1);
}

grows_from : (n m : ℕ) (x y : List ℕ) → length x ≤ n → length (x ++ y) ≤ m → Grows (taken_in n x) (taken_in m (x ++ y)) (broken_remainder n x) (broken_remainder m (x ++ y))
grows_from zero m x y le also = from_nothing (taken_in m (x ++ y)) (broken_remainder m (x ++ y))
grows_from (suc n) zero x y le also =
    let fuel = same (suc n) zero x le (omega (arith, also, length-append x y)) in
    moved _ _ _ _ _ _ _ _ fuel.messages refl fuel.rule refl (from_nothing [] None)
grows_from (suc n) (suc m) x y le also = by_read (frame_of x) refl (λ k less more. grows_from n m (drop k x) y less more)
  where
    by_read : (r : Read) → frame_of x ≡ r
        → ((k : ℕ) → length (drop k x) ≤ n → length (drop k x ++ y) ≤ m → Grows (taken_in n (drop k x)) (taken_in m (drop k x ++ y)) (broken_remainder n (drop k x)) (broken_remainder m (drop k x ++ y)))
        → Grows (taken_in (suc n) x) (taken_in (suc m) (x ++ y)) (broken_remainder (suc n) x) (broken_remainder (suc m) (x ++ y))
    by_read (need k) e rest_grows =
        moved _ [] _ (taken_in (suc m) (x ++ y)) _ None _ (broken_remainder (suc m) (x ++ y))
        (ap (λ (r : Read). first_taken r x (taken_in n)) e) refl (ap (λ (r : Read). rule_remainder r x (broken_remainder n)) e) refl
        (from_nothing (taken_in (suc m) (x ++ y)) (broken_remainder (suc m) (x ++ y)))
    by_read (bad rule) e rest_grows =
        let all = stays_bad x y rule e in
        moved _ [] _ [] _ (Some rule) _ (Some rule)
        (ap (λ (r : Read). first_taken r x (taken_in n)) e) (ap (λ (r : Read). first_taken r (x ++ y) (taken_in m)) all)
        (ap (λ (r : Read). rule_remainder r x (broken_remainder n)) e) (ap (λ (r : Read). rule_remainder r (x ++ y) (broken_remainder m)) all)
        (from_broken rule)
    by_read (whole h k) e rest_grows =
        let body = has_body x h k e in
        let all = stays_whole x y h k e in
        let le_x : k ≤ length x = body.within in
        let front : take k (x ++ y) ≡ take k x = take-append-le k x y le_x in
        let back : drop k (x ++ y) ≡ drop k x ++ y = drop-append-le k x y le_x in
        let rest = length-drop k x in
        let others = rest_grows k (omega (arith, rest, body.start, body.end, le)) (omega (arith, rest, body.start, body.end, le_x, also, length-append x y, length-append (drop k x) y)) in
        let one : Message = record { header = h; bytes = take k x } in
        moved _ (one ∷ taken_in n (drop k x)) _ (one ∷ taken_in m (drop k x ++ y)) _ (broken_remainder n (drop k x)) _ (broken_remainder m (drop k x ++ y))
        (ap (λ (r : Read). first_taken r x (taken_in n)) e)
        (ap (λ (r : Read). first_taken r (x ++ y) (taken_in m)) all
        ∙ ap (λ (b : List ℕ). record { header = h; bytes = b } ∷ taken_in m (drop k (x ++ y))) front
        ∙ ap (λ (l : List ℕ). one ∷ taken_in m l) back)
        (ap (λ (r : Read). rule_remainder r x (broken_remainder n)) e)
        (ap (λ (r : Read). rule_remainder r (x ++ y) (broken_remainder m)) all ∙ ap (broken_remainder m) back)
        (one_on one _ _ _ _ others)

pub grows : (x y : List ℕ) → Grows (messages_in x) (messages_in (x ++ y)) (broken_in x) (broken_in (x ++ y))
unfolding messages_in broken_in
grows x y = grows_from (length x) (length (x ++ y)) x y (omega arith) (omega arith)

-- ---- what is alike

-- what decides on what comes later
pub record Equal (fed other : Pieces) : Type 0 where
  pub bytes : (side : Side) → bytes_of side fed ≡ bytes_of side other
  pub breaches : breach fed ≡ breach other
  pub events : events fed ≡ events other

pub equal_refl : (fed : Pieces) → Equal fed fed
equal_refl fed = record { bytes = λ side. refl; breaches = refl; events = refl }

pub equal_trans : (a b c : Pieces) → Equal a b → Equal b c → Equal a c
equal_trans a b c p q = record { bytes = λ side. p.bytes side ∙ q.bytes side; breaches = p.breaches ∙ q.breaches; events = p.events ∙ q.events }

pub equal_sym : (a b : Pieces) → Equal a b → Equal b a
equal_sym a b p = record { bytes = λ side. sym (p.bytes side); breaches = sym p.breaches; events = sym p.events }

pub end_alike : (a b : Pieces) → Equal a b → end_of a ≡ end_of b
end_alike a b p = λ i. option_or (p.breaches i) (option_or (cut_end side.Client (p.bytes side.Client i)) (cut_end side.Bus (p.bytes side.Bus i)))

-- a piece more on both
pub one_piece : (a b : Pieces) (piece : Side × List ℕ) → Equal a b → Equal (piece ∷ a) (piece ∷ b)
one_piece a b piece p =
    let now : (side : Side) → bytes_of side (piece ∷ a) ≡ bytes_of side (piece ∷ b) = λ side i. p.bytes side i ++ (if same_side side piece.0 then piece.1 else []) in
    record {
      bytes = now;
      breaches = λ i. option_or (p.breaches i) (broken_end piece.0 (now piece.0 i));
      events = λ i. if is_some (p.breaches i) then p.events i else arrived piece.0 (news (p.bytes piece.0 i) (now piece.0 i)) ++ p.events i;
    }

pub pieces_on : (more a b : Pieces) → Equal a b → Equal (more ++ a) (more ++ b)
pieces_on [] a b p = p
pieces_on (piece ∷ more) a b p = one_piece (more ++ a) (more ++ b) piece (pieces_on more a b p)

-- ---- a piece cut in two

arrived-append : (s : Side) (a b : List Message) → arrived s (a ++ b) ≡ arrived s b ++ arrived s a
arrived-append s a b = ap reverse (map-append (event_of s) a b) ∙ reverse-append (map (event_of s) a) (map (event_of s) b)

module _ (s : Side) (b x y : List ℕ) where
  grouped : b ++ (x ++ y) ≡ (b ++ x) ++ y
  grouped = sym (append_assoc b x y)

  breach_cut_by : (r : Option FrameRule) → broken_in (b ++ x) ≡ r → broken_end s (b ++ (x ++ y)) ≡ option_or (broken_end s (b ++ x)) (broken_end s ((b ++ x) ++ y))
  breach_cut_by None e =
      ap (broken_end s) grouped
      ∙ sym (ap (λ (r : Option FrameRule). option_or (option_map (end_at s (b ++ x)) r) (broken_end s ((b ++ x) ++ y))) e)
  breach_cut_by (Some rule) e =
      let kept = (grows (b ++ x) y).stays rule e in
      ap (broken_end s) grouped
      ∙ ap (option_map (end_at s ((b ++ x) ++ y))) kept.1
      ∙ ap (λ (l : List Message). ended_at s (counted (length l)) rule) kept.0
      ∙ sym (ap (λ (r : Option FrameRule). option_or (option_map (end_at s (b ++ x)) r) (broken_end s ((b ++ x) ++ y))) e)

  breach_cut : (o : Option End) → option_or o (broken_end s (b ++ (x ++ y))) ≡ option_or (option_or o (broken_end s (b ++ x))) (broken_end s ((b ++ x) ++ y))
  breach_cut (Some end) = refl
  breach_cut None = breach_cut_by (broken_in (b ++ x)) refl

  news_of : (c z : List ℕ) (more : List Message) → messages_in z ≡ messages_in c ++ more → news c z ≡ more
  news_of c z more e = ap (drop (length (messages_in c))) e ∙ drop_at (messages_in c) more (length (messages_in c)) refl

  two_news : news b ((b ++ x) ++ y) ≡ news b (b ++ x) ++ news (b ++ x) ((b ++ x) ++ y)
  two_news =
      let g = grows b x in
      let h = grows (b ++ x) y in
      news_of b ((b ++ x) ++ y) (g.more ++ h.more) (h.grown ∙ ap (λ (l : List Message). l ++ h.more) g.grown ∙ append_assoc (messages_in b) g.more h.more)
      ∙ sym (λ i. news_of b (b ++ x) g.more g.grown i ++ news_of (b ++ x) ((b ++ x) ++ y) h.more h.grown i)

  events_cut_by : (ev : List Event) (r : Option FrameRule) → broken_in (b ++ x) ≡ r
      → arrived s (news b (b ++ (x ++ y))) ++ ev
      ≡ (if is_some (broken_end s (b ++ x)) then arrived s (news b (b ++ x)) ++ ev else arrived s (news (b ++ x) ((b ++ x) ++ y)) ++ (arrived s (news b (b ++ x)) ++ ev))
  events_cut_by ev None e =
      ap (λ (l : List ℕ). arrived s (news b l) ++ ev) grouped
      ∙ ap (λ (l : List Message). arrived s l ++ ev) two_news
      ∙ ap (λ (l : List Event). l ++ ev) (arrived-append s (news b (b ++ x)) (news (b ++ x) ((b ++ x) ++ y)))
      ∙ append_assoc (arrived s (news (b ++ x) ((b ++ x) ++ y))) (arrived s (news b (b ++ x))) ev
      ∙ sym (ap (λ (r : Option FrameRule). if is_some (option_map (end_at s (b ++ x)) r) then arrived s (news b (b ++ x)) ++ ev else arrived s (news (b ++ x) ((b ++ x) ++ y)) ++ (arrived s (news b (b ++ x)) ++ ev)) e)
  events_cut_by ev (Some rule) e =
      let kept = (grows (b ++ x) y).stays rule e in
      ap (λ (l : List ℕ). arrived s (news b l) ++ ev) grouped
      ∙ ap (λ (l : List Message). arrived s (drop (length (messages_in b)) l) ++ ev) kept.0
      ∙ sym (ap (λ (r : Option FrameRule). if is_some (option_map (end_at s (b ++ x)) r) then arrived s (news b (b ++ x)) ++ ev else arrived s (news (b ++ x) ((b ++ x) ++ y)) ++ (arrived s (news b (b ++ x)) ++ ev)) e)

  events_cut : (o : Option End) (ev : List Event)
      → (if is_some o then ev else arrived s (news b (b ++ (x ++ y))) ++ ev)
      ≡ (if is_some (option_or o (broken_end s (b ++ x))) then (if is_some o then ev else arrived s (news b (b ++ x)) ++ ev)
      else arrived s (news (b ++ x) ((b ++ x) ++ y)) ++ (if is_some o then ev else arrived s (news b (b ++ x)) ++ ev))
  events_cut (Some end) ev = refl
  events_cut None ev = events_cut_by ev (broken_in (b ++ x)) refl

nothing_twice : (l : List ℕ) → l ++ [] ≡ (l ++ []) ++ []
nothing_twice l = sym (append-nil (l ++ []))

pub cut_in_two : (s : Side) (x y : List ℕ) (before : Pieces) → Equal ((s, x ++ y) ∷ before) ((s, y) ∷ (s, x) ∷ before)
cut_in_two side.Client x y before =
    let b = bytes_of side.Client before in
    record {
      bytes = bytes;
      breaches = breach_cut side.Client b x y (breach before);
      events = events_cut side.Client b x y (breach before) (events before);
    }
  where
    bytes : (t : Side) → bytes_of t ((side.Client, x ++ y) ∷ before) ≡ bytes_of t ((side.Client, y) ∷ (side.Client, x) ∷ before)
    bytes side.Client = sym (append_assoc (bytes_of side.Client before) x y)
    bytes side.Bus = nothing_twice (bytes_of side.Bus before)
cut_in_two side.Bus x y before =
    let b = bytes_of side.Bus before in
    record {
      bytes = bytes;
      breaches = breach_cut side.Bus b x y (breach before);
      events = events_cut side.Bus b x y (breach before) (events before);
    }
  where
    bytes : (t : Side) → bytes_of t ((side.Bus, x ++ y) ∷ before) ≡ bytes_of t ((side.Bus, y) ∷ (side.Bus, x) ∷ before)
    bytes side.Client = nothing_twice (bytes_of side.Client before)
    bytes side.Bus = sym (append_assoc (bytes_of side.Bus before) x y)

-- ---- a piece without a byte

first_none : (a b : Option End) → option_or a b ≡ None → (a ≡ None) × (b ≡ None)
first_none None b e = (refl, e)
first_none (Some x) b e = absurd cc

map_none : (f : FrameRule → End) (o : Option FrameRule) → option_map f o ≡ None → o ≡ None
map_none f None e = refl
map_none f (Some r) e = absurd cc

-- where no rule was named, none is broken
sound : (fed : Pieces) (s : Side) → breach fed ≡ None → broken_in (bytes_of s fed) ≡ None
unfolding broken_in
sound [] s e = refl
sound ((side.Client, x) ∷ before) side.Client e = map_none _ _ (first_none _ _ e).1
sound ((side.Client, x) ∷ before) side.Bus e = ap broken_in (append-nil (bytes_of side.Bus before)) ∙ sound before side.Bus (first_none _ _ e).0
sound ((side.Bus, x) ∷ before) side.Client e = ap broken_in (append-nil (bytes_of side.Client before)) ∙ sound before side.Client (first_none _ _ e).0
sound ((side.Bus, x) ∷ before) side.Bus e = map_none _ _ (first_none _ _ e).1

either_nothing : (b : Bool) (l : List ℕ) → l ++ (if b then [] else []) ≡ l
either_nothing true l = append-nil l
either_nothing false l = append-nil l

pub no_bytes : (s : Side) (before : Pieces) → Equal ((s, []) ∷ before) before
no_bytes s before = record {
  bytes = λ t. either_nothing (same_side t s) (bytes_of t before);
  breaches = breaches (breach before) refl;
  events = by_breach (breach before);
}
  where
    same_bytes : bytes_of s ((s, []) ∷ before) ≡ bytes_of s before
    same_bytes = either_nothing (same_side s s) (bytes_of s before)

    breaches : (o : Option End) → breach before ≡ o → option_or o (broken_end s (bytes_of s ((s, []) ∷ before))) ≡ o
    breaches (Some end) e = refl
    breaches None e = ap (broken_end s) same_bytes ∙ ap (option_map (end_at s (bytes_of s before))) (sound before s e)

    by_breach : (o : Option End) → (if is_some o then events before else arrived s (news (bytes_of s before) (bytes_of s ((s, []) ∷ before))) ++ events before) ≡ events before
    by_breach (Some end) = refl
    by_breach None =
        ap (λ (l : List ℕ). arrived s (news (bytes_of s before) l) ++ events before) same_bytes
        ∙ ap (λ (l : List Message). arrived s l ++ events before) (drop_all (length (messages_in (bytes_of s before))) (messages_in (bytes_of s before)) (omega arith))

-- ---- bytes one by one

abbrev pub singles : List (Side × ℕ) → Pieces
singles = map (λ p. (p.0, p.1 ∷ []))

one_by_one : (s : Side) (bytes : List ℕ) (before : Pieces) → Equal ((s, bytes) ∷ before) (singles (reverse (map (λ b. (s, b)) bytes)) ++ before)
one_by_one s [] before = no_bytes s before
one_by_one s (b ∷ bytes) before =
    let rest : List (Side × ℕ) = map (λ (c : ℕ). (s, c)) bytes in
    let last : List (Side × ℕ) = (s, b) ∷ [] in
    let later : Pieces = (s, b ∷ []) ∷ before in
    let split : singles (reverse (map (λ (c : ℕ). (s, c)) (b ∷ bytes))) ++ before ≡ singles (reverse rest) ++ later =
    ap (λ (l : List (Side × ℕ)). singles l ++ before) (reverse-append last rest)
    ∙ ap (λ (l : Pieces). l ++ before) (map-append (λ (p : Side × ℕ). (p.0, p.1 ∷ [])) (reverse rest) last)
    ∙ append_assoc (singles (reverse rest)) ((s, b ∷ []) ∷ []) before in
    subst (Equal ((s, b ∷ bytes) ∷ before)) (sym split)
    (equal_trans _ _ _ (cut_in_two s (b ∷ []) bytes before) (one_by_one s bytes later))

all_singles : (fed : Pieces) → Equal fed (singles (bytes_fed fed))
all_singles [] = equal_refl []
all_singles (piece ∷ before) =
    let front : List (Side × ℕ) = reverse (map (λ (b : ℕ). (piece.0, b)) piece.1) in
    subst (Equal (piece ∷ before)) (sym (map-append (λ (p : Side × ℕ). (p.0, p.1 ∷ [])) front (bytes_fed before)))
    (equal_trans _ _ _ (one_by_one piece.0 piece.1 before) (pieces_on (singles front) before (singles (bytes_fed before)) (all_singles before)))

pub alike : (fed other : Pieces) → bytes_fed fed ≡ bytes_fed other → Alike fed other
alike fed other e =
    let both = equal_trans _ _ _ (subst (λ (l : List (Side × ℕ)). Equal fed (singles l)) e (all_singles fed)) (equal_sym _ _ (all_singles other)) in
    record { events = both.events; end = end_alike fed other both }
