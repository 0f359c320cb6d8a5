-- What was fed to a filter, and which of its lines are printed.
use Rattle.std.proofs.Common.{◌≡◌, ℕ, Bool, true, false, ◌+◌, ◌≤◌, length, List, [], ◌∷◌, ◌++◌, map, take, drop, Option, Some, None, Result, Ok, Err, IsErrAnd, IsErrOf, refl, sym, ap, subst, ◌∙◌, append_assoc}
use Rattle.std.specs.Prelude.{reverse, is_some, if◌then◌else◌, option_map}
use Rattle.std.specs.Option.{option_to_list}
use Rattle.std.proofs.lemmas.List.{append-nil, append_cancel_left, map-append}
use Rattle.fp_host.specs.View.{View}
use Rattle.fp_host.specs.Moments.{Moments, Goes}
use Rattle.fp_host.specs.declared.host.HostEnd.{HostEnd}
use Rattle.fp_host.specs.declared.host.HostEnd.TheVariants as host
use Rattle.fp_host.proofs.Framed.{IsTold}
use Rattle.fp_host.proofs.Goes.{goes_on, ends as goes_ends}
use Rattle.bus_stream.specs.Stream.{messages_in}
use Rattle.bus_policy.specs.Events.{Event}
use Rattle.bus_proxy.specs.declared.out.Out.{Out}
use Rattle.bus_proxy.specs.declared.proxy.Filter.{Filter}
use Rattle.bus_proxy.specs.declared.proxy.Next.TheVariants as next
use Rattle.bus_proxy.specs.declared.error.FilterError.{FilterError}
use Rattle.bus_proxy.specs.declared.error.FilterError.TheVariants as error
use Rattle.bus_proxy.specs.Arrivals.{Pieces, End, bytes_of, breach, events, end_of, news, arrived}
use Rattle.bus_proxy.specs.Outs.{Setting, out_after, forwarded}
use Rattle.bus_proxy.specs.Streaming.{stream_of}
use Rattle.bus_proxy.specs.Filters.{FilterAt, Gives, AllTaken, AnswersEnd}
use Rattle.bus_proxy.proofs.Draining.{all_pieces, nothing_comes, end_stays, at_the_end}
use Rattle.fp_small.specs.declared.refusal.Refusal.{Refusal}
use Rattle.fl_filter.specs.declared.end.FilterEnd.{FilterEnd}
use Rattle.fl_filter.specs.declared.end.FilterEnd.TheVariants as ends
use Rattle.fl_filter.specs.Filtered.{Filtered, out_text, broken}
use Rattle.fl_filter.specs.Printed.{end_of as end_of_host, end_by, with_lines, PrintsFirst, PrintedAll, Printed, IsRefusedBy, Remains, remaining}
use Rattle.fl_filter.proofs.Speaking.{Far, far_none, far_on, far_ends, first_on, all_on, not_all, all_printed, by_err}

-- ---- what more gives

-- more events give more
gives_more : (s : Setting) (new old : List Event) → (more : List Out) × (forwarded s (new ++ old) ≡ forwarded s old ++ more)
gives_more s [] old = ([], sym (append-nil (forwarded s old)))
gives_more s (e ∷ new) old =
    let before = gives_more s new old in
    let own = option_to_list (out_after s (new ++ old) e) in
    (before.0 ++ own, ap (λ (l : List Out). l ++ own) before.1 ∙ append_assoc (forwarded s old) before.0 own)

-- more pieces bring more events
brings_more : (more fed : Pieces) → (new : List Event) × (events (more ++ fed) ≡ new ++ events fed)
brings_more [] fed = ([], refl)
brings_more (piece ∷ more) fed = by (is_some (breach (more ++ fed))) (brings_more more fed)
  where
    come : List Event
    come = arrived piece.0 (news (bytes_of piece.0 (more ++ fed)) (bytes_of piece.0 (piece ∷ (more ++ fed))))

    by : (b : Bool) → (new : List Event) × (events (more ++ fed) ≡ new ++ events fed)
        → (new : List Event) × ((if b then events (more ++ fed) else come ++ events (more ++ fed)) ≡ new ++ events fed)
    by true rest = rest
    by false rest = (come ++ rest.0, ap (λ (l : List Event). come ++ l) rest.1 ∙ sym (append_assoc come rest.0 (events fed)))

-- what is left of what was fed
pub left_of : {S H : Type 0} (f : Filter S H) (s : Setting) (fed : Pieces) (taken : List Event) (given : List Out) → FilterAt f s fed taken given
    → (more : List Out) × (forwarded s (events fed) ≡ given ++ more)
left_of f s fed taken given at =
    let more = gives_more s (arrived f.streams.latest (messages_in (stream_of f.streams f.streams.latest).cutter)) taken in
    (more.0, ap (forwarded s) at.streams.waiting ∙ more.1 ∙ ap (λ (l : List Out). l ++ more.0) (sym at.gave))

-- what more pieces give
pub left_after : (s : Setting) (more fed : Pieces) → (outs : List Out) × (forwarded s (events (more ++ fed)) ≡ forwarded s (events fed) ++ outs)
left_after s more fed =
    let new = brings_more more fed in
    let outs = gives_more s new.0 (events fed) in
    (outs.0, ap (forwarded s) new.1 ∙ outs.1)

-- what is left of a recording after its first pieces
pub left_in : (s : Setting) (pieces : Pieces) (i : ℕ) → (outs : List Out) × (forwarded s (events (reverse pieces)) ≡ forwarded s (events (reverse (take i pieces))) ++ outs)
left_in s pieces i =
    let outs = left_after s (reverse (drop i pieces)) (reverse (take i pieces)) in
    (outs.0, ap (λ (l : Pieces). forwarded s (events l)) (all_pieces pieces i) ∙ outs.1)

-- ---- the lines of a part of what was fed

-- the lines that remain are those of what comes now and of what comes after
pub parted : (given now after all : List Out) (lines : List (List ℕ)) → map out_text all ≡ map out_text given ++ lines → all ≡ (given ++ now) ++ after
    → lines ≡ map out_text now ++ map out_text after
parted given now after all lines remain is =
    append_cancel_left (map out_text given) lines (map out_text now ++ map out_text after)
    (sym remain
    ∙ ap (map out_text) (is ∙ append_assoc given now after)
    ∙ map-append out_text given (now ++ after)
    ∙ ap (λ (l : List (List ℕ)). map out_text given ++ l) (map-append out_text now after))

pub lines_all : (given now all : List Out) (lines : List (List ℕ)) → map out_text all ≡ map out_text given ++ lines → all ≡ given ++ now → lines ≡ map out_text now
lines_all given now all lines remain is =
    parted given now [] all lines remain (is ∙ sym (append-nil (given ++ now))) ∙ append-nil (map out_text now)

-- some lines were printed, the first ones, and others are left
pub first_of_all : {a b : Option Moments} (lines said left : List (List ℕ)) → lines ≡ said ++ left → Far lines said a b → Goes a b (PrintsFirst lines) (PrintsFirst lines)
first_of_all lines said left parts far = goes_ends far (λ u w is. record { said = said; left = left; first = parts; is = is })

-- all were printed
pub all_of_them : {a b : Option Moments} (f : Filtered) (said : List (List ℕ)) → f.lines ≡ said → f.refusal ≡ None → Far f.lines said a b
    → Goes a b (PrintsFirst f.lines) (Printed f (Ok tt))
all_of_them f said same none far = goes_ends far (λ u w is. (none, is ∙ ap (λ (l : List (List ℕ)). with_lines l u) (sym same)))

-- ---- the messages that are whole

-- a message was taken, and its line printed
pub line_on : {a b c : Option Moments} (given now after all : List Out) (out : Out) (lines : List (List ℕ)) → IsTold b
    → map out_text all ≡ map out_text given ++ lines → all ≡ ((given ++ now) ++ out ∷ []) ++ after
    → Far lines (map out_text now) a b → Goes b c (PrintsFirst (out_text out ∷ [])) (PrintedAll (out_text out ∷ []) (Ok tt)) → Far lines (map out_text (now ++ out ∷ [])) a c
line_on {a = a} {c = c} given now after all out lines told remain is far one =
    subst (λ (l : List (List ℕ)). Far lines l a c) (sym (map-append out_text now (out ∷ [])))
    (far_on lines (map out_text now) (out_text out ∷ []) (map out_text after) told (parted given now (out ∷ after) all lines remain (is ∙ append_assoc (given ++ now) (out ∷ []) after)) far one)

-- its line wasn't printed
pub line_fails : {a b c : Option Moments} (fed : Pieces) (given now after all : List Out) (out : Out) (lines : List (List ℕ)) (e : HostEnd) → IsTold b
    → map out_text all ≡ map out_text given ++ lines → all ≡ ((given ++ now) ++ out ∷ []) ++ after
    → Far lines (map out_text now) a b → Goes b c (PrintsFirst (out_text out ∷ [])) (PrintedAll (out_text out ∷ []) (Err e))
    → Goes a c (PrintsFirst lines) (Printed (remaining fed lines) (Err (end_of_host e)))
line_fails fed given now after all out lines e told remain is far one =
    not_all (remaining fed lines) lines e refl
    (far_ends lines (map out_text now) (out_text out ∷ []) (map out_text after) e told
    (parted given now (out ∷ after) all lines remain (is ∙ append_assoc (given ++ now) (out ∷ []) after)) far one)

-- no message is whole any more
pub none_left : {S H : Type 0} {a b : Option Moments} (f : Filter S H) (s : Setting) (fed : Pieces) (taken : List Event) (given now : List Out) (lines : List (List ℕ))
    → Remains s fed given lines → FilterAt f s fed taken (given ++ now) → AllTaken fed taken → Far lines (map out_text now) a b
    → Goes a b (PrintsFirst lines) (Printed (remaining fed lines) (Ok tt))
none_left f s fed taken given now lines remain at all far =
    all_of_them (remaining fed lines) (map out_text now)
    (lines_all given now (forwarded s (events fed)) lines remain (ap (forwarded s) all.all ∙ sym at.gave))
    (ap (option_map broken) all.sound) far

-- a rule is broken, or memory ran out
pub next_fails : {S H : Type 0} {a b : Option Moments} (old new : Filter S H) (s : Setting) (fed : Pieces) (taken : List Event) (given now : List Out) (lines : List (List ℕ)) (e : FilterError)
    → Remains s fed given lines → FilterAt old s fed taken (given ++ now) → Gives (Err e) new s fed taken (given ++ now) → Far lines (map out_text now) a b
    → Goes a b (PrintsFirst lines) (Printed (remaining fed lines) (Err (end_by e)))
next_fails old new s fed taken given now lines (error.Bad side index rule) remain at gives far =
    goes_ends far (λ u w is. (
      ap (option_map broken) gives.2,
      is ∙ ap (λ (l : List (List ℕ)). with_lines l u) (sym (lines_all given now (forwarded s (events fed)) lines remain (ap (forwarded s) gives.1 ∙ sym gives.0.gave))),
    ))
next_fails old new s fed taken given now lines error.NoMemory remain at gives far =
    let left = left_of old s fed taken (given ++ now) at in
    first_of_all lines (map out_text now) (map out_text left.0) (parted given now left.0 (forwarded s (events fed)) lines remain left.1) far

-- how far a filter is: these messages of what was fed are given and printed since
pub record Ready {S H : Type 0} (f : Filter S H) (s : Setting) (fed : Pieces) (given : List Out) (a b : Option Moments) : Type 0 where
  pub taken : List Event
  pub now : List Out
  pub at : FilterAt f s fed taken (given ++ now)
  pub far : (lines : List (List ℕ)) → Remains s fed given lines → Far lines (map out_text now) a b

pub ready_none : {S H : Type 0} {a : Option Moments} (f : Filter S H) (s : Setting) (fed : Pieces) (taken : List Event) (given : List Out) → IsTold a
    → FilterAt f s fed taken given → Ready f s fed given a a
ready_none f s fed taken given told at = record {
  taken = taken;
  now = [];
  at = subst (λ (l : List Out). FilterAt f s fed taken l) (sym (append-nil given)) at;
  far = λ lines remain. far_none lines told;
}

pub ready_out : {S H : Type 0} {a b c : Option Moments} (old new : Filter S H) (s : Setting) (fed : Pieces) (given : List Out) (out : Out) → IsTold b
    → (r : Ready old s fed given a b) → Gives (Ok (next.Out out)) new s fed r.taken (given ++ r.now)
    → Goes b c (PrintsFirst (out_text out ∷ [])) (PrintedAll (out_text out ∷ []) (Ok tt)) → Ready new s fed given a c
ready_out old new s fed given out told r gives one =
    let left = left_of new s fed (gives.0 ∷ r.taken) ((given ++ r.now) ++ out ∷ []) gives.2 in
    record {
      taken = gives.0 ∷ r.taken;
      now = r.now ++ out ∷ [];
      at = subst (λ (l : List Out). FilterAt new s fed (gives.0 ∷ r.taken) l) (append_assoc given r.now (out ∷ [])) gives.2;
      far = λ lines remain. line_on given r.now left.0 (forwarded s (events fed)) out lines told remain left.1 (r.far lines remain) one;
    }

pub ready_quiet : {S H : Type 0} {a b : Option Moments} (old new : Filter S H) (s : Setting) (fed : Pieces) (given : List Out)
    → (r : Ready old s fed given a b) → Gives (Ok next.Quiet) new s fed r.taken (given ++ r.now) → Ready new s fed given a b
ready_quiet old new s fed given r gives = record { taken = gives.0 ∷ r.taken; now = r.now; at = gives.2; far = r.far }

-- ---- the pieces of a recording

-- the lines of what is printed, of what comes now, and of what comes after
piece_parts : (s : Setting) (pieces before fed : Pieces) (i : ℕ) (more : List Out) → reverse (take (i + 1) pieces) ≡ fed → forwarded s (events fed) ≡ forwarded s (events before) ++ more
    → (left : List (List ℕ)) × (map out_text (forwarded s (events (reverse pieces))) ≡ map out_text (forwarded s (events before)) ++ (map out_text more ++ left))
piece_parts s pieces before fed i more is gives =
    let left = left_in s pieces (i + 1) in (
      map out_text left.0,
      ap (map out_text) (left.1 ∙ ap (λ (l : Pieces). forwarded s (events l) ++ left.0) is ∙ ap (λ (l : List Out). l ++ left.0) gives ∙ append_assoc (forwarded s (events before)) more left.0)
          ∙ map-append out_text (forwarded s (events before)) (more ++ left.0)
          ∙ ap (λ (l : List (List ℕ)). map out_text (forwarded s (events before)) ++ l) (map-append out_text more left.0),
    )

-- the messages that a piece made whole were printed
pub piece_on : {a b c : Option Moments} (s : Setting) (pieces before fed : Pieces) (i : ℕ) (more : List Out) → IsTold b
    → reverse (take (i + 1) pieces) ≡ fed → forwarded s (events fed) ≡ forwarded s (events before) ++ more
    → Far (map out_text (forwarded s (events (reverse pieces)))) (map out_text (forwarded s (events before))) a b
    → Goes b c (PrintsFirst (map out_text more)) (Printed (remaining fed (map out_text more)) (Ok tt))
    → Far (map out_text (forwarded s (events (reverse pieces)))) (map out_text (forwarded s (events fed))) a c
piece_on {a = a} {c = c} s pieces before fed i more told is gives far ready =
    let all = forwarded s (events (reverse pieces)) in
    let parts = piece_parts s pieces before fed i more is gives in
    subst (λ (l : List (List ℕ)). Far (map out_text all) l a c) (sym (ap (map out_text) gives ∙ map-append out_text (forwarded s (events before)) more))
    (far_on (map out_text all) (map out_text (forwarded s (events before))) (map out_text more) parts.0 told parts.1 far (goes_ends ready (λ u w p. p.1)))

-- what a filter makes of pieces
abbrev pub of_pieces : Setting → Pieces → Filtered
of_pieces s pieces = record {
  lines = map out_text (forwarded s (events (reverse pieces)));
  refusal = option_map broken (end_of (reverse pieces));
}

-- a rule that is broken ends the recording
cut_short : (pieces fed : Pieces) (i : ℕ) → reverse (take i pieces) ≡ fed → (bad : Option End) → breach fed ≡ bad → (r : Refusal) → option_map broken bad ≡ Some r
    → (events (reverse pieces) ≡ events fed) × (option_map broken (end_of (reverse pieces)) ≡ Some r)
cut_short pieces fed i is None e r same = absurd cc
cut_short pieces fed i is (Some end) e r same =
    let rest = reverse (drop i pieces) in
    let all : reverse pieces ≡ rest ++ fed = all_pieces pieces i ∙ ap (λ (l : Pieces). rest ++ l) is in
    (ap events all ∙ nothing_comes rest fed end e, ap (λ (l : Pieces). option_map broken (end_of l)) all ∙ ap (option_map broken) (end_stays rest fed end e) ∙ same)

-- not all messages that a piece made whole were printed, or a rule is broken after them
pub piece_fails : {a b c : Option Moments} (s : Setting) (pieces before fed : Pieces) (i : ℕ) (more : List Out) (e : FilterEnd) → IsTold b
    → reverse (take (i + 1) pieces) ≡ fed → forwarded s (events fed) ≡ forwarded s (events before) ++ more
    → Far (map out_text (forwarded s (events (reverse pieces)))) (map out_text (forwarded s (events before))) a b
    → Goes b c (PrintsFirst (map out_text more)) (Printed (remaining fed (map out_text more)) (Err e))
    → Goes a c (PrintsFirst (of_pieces s pieces).lines) (Printed (of_pieces s pieces) (Err e))
piece_fails s pieces before fed i more e told is gives far ready =
    goes_on told far ready
    (λ u v w t a q p. first_on (map out_text (forwarded s (events (reverse pieces)))) (map out_text (forwarded s (events before))) (map out_text more) parts.0 u v w parts.1 q p)
    (λ u v w t a q p k. end e u v w q p k)
  where
    parts : (left : List (List ℕ)) × (map out_text (forwarded s (events (reverse pieces))) ≡ map out_text (forwarded s (events before)) ++ (map out_text more ++ left))
    parts = piece_parts s pieces before fed i more is gives

    end : (e : FilterEnd) → (u v w : View) → v ≡ with_lines (map out_text (forwarded s (events before))) u → PrintsFirst (map out_text more) v w
        → Printed (remaining fed (map out_text more)) (Err e) v w → Printed (of_pieces s pieces) (Err e) u w
    end (ends.Refused r) u v w q p k =
        let short = cut_short pieces fed (i + 1) is (breach fed) refl r k.0 in (
          short.1,
          all_on (map out_text (forwarded s (events before))) (map out_text more) u v w q k.1
              ∙ ap (λ (l : List (List ℕ)). with_lines l u) (sym (ap (λ (l : List Event). map out_text (forwarded s l)) short.0 ∙ ap (map out_text) gives ∙ map-append out_text (forwarded s (events before)) more)),
        )
    end ends.Fault u v w q p k = tt
    end ends.NoMemory u v w q p k = first_on (map out_text (forwarded s (events (reverse pieces)))) (map out_text (forwarded s (events before))) (map out_text more) parts.0 u v w parts.1 q p

-- a piece wasn't fed
pub feed_fails : {a b : Option Moments} (s : Setting) (pieces : Pieces) (i : ℕ)
    → Far (map out_text (forwarded s (events (reverse pieces)))) (map out_text (forwarded s (events (reverse (take i pieces))))) a b
    → Goes a b (PrintsFirst (of_pieces s pieces).lines) (Printed (of_pieces s pieces) (Err ends.NoMemory))
feed_fails s pieces i far =
    let left = left_in s pieces i in
    first_of_all (of_pieces s pieces).lines (map out_text (forwarded s (events (reverse (take i pieces))))) (map out_text left.0)
    (ap (map out_text) left.1 ∙ map-append out_text (forwarded s (events (reverse (take i pieces)))) left.0) far

-- all pieces were fed
pub all_fed : {a b : Option Moments} (s : Setting) (pieces : Pieces) (i : ℕ) (r : Result (Unit {0}) FilterEnd) → length pieces ≤ i
    → IsRefusedBy (option_map broken (end_of (reverse (take i pieces)))) r
    → Far (map out_text (forwarded s (events (reverse pieces)))) (map out_text (forwarded s (events (reverse (take i pieces))))) a b
    → Goes a b (PrintsFirst (of_pieces s pieces).lines) (Printed (of_pieces s pieces) r)
all_fed {a = a} {b = b} s pieces i r le refused far =
    let all = at_the_end pieces i le in
    let lines = map out_text (forwarded s (events (reverse pieces))) in
    all_printed (of_pieces s pieces) lines (option_map broken (end_of (reverse (take i pieces)))) r refl
    (ap (λ (l : Pieces). option_map broken (end_of l)) all) refused
    (subst (λ (l : Pieces). Far lines (map out_text (forwarded s (events l))) a b) all far)

-- how a filter ends tells the refusal
pub refused_end : (e : FilterError) (end : Option End) (r : Result (Unit {0}) FilterEnd) → IsErrAnd r (λ x. x ≡ end_by e) → AnswersEnd (Err e) end
    → IsRefusedBy (option_map broken end) r
refused_end (error.Bad side index rule) end r is answers = by_err (IsRefusedBy (option_map broken end)) r (end_by (error.Bad side index rule)) is (ap (option_map broken) answers)
refused_end error.NoMemory end r is answers = absurd answers

-- all events are taken, and what they give is given
pub all_taken : {S H : Type 0} (f : Filter S H) (s : Setting) (fed : Pieces) (taken : List Event) (given : List Out) → FilterAt f s fed taken given → events fed ≡ taken
    → FilterAt f s fed (events fed) (forwarded s (events fed))
all_taken f s fed taken given at all =
    subst (λ (l : List Out). FilterAt f s fed (events fed) l) (at.gave ∙ ap (forwarded s) (sym all)) (subst (λ (l : List Event). FilterAt f s fed l given) (sym all) at)

-- a fault of the filter is the host's
abbrev pub host_err : HostEnd → Result (Unit {0}) HostEnd
host_err e = Err e

pub host_fault : (e : HostEnd) (r : Result (Unit {0}) FilterEnd) → IsErrAnd r (λ x. x ≡ end_of_host e) → IsErrOf r ends.Fault → IsErrOf (host_err e) host.Fault
host_fault host.Fault r is faulted = refl
host_fault host.NoMemory (Ok t) is faulted = absurd is
host_fault host.NoMemory (Err x) is faulted = absurd (never x is (cc faulted))
  where
    never : (x : FilterEnd) → x ≡ ends.NoMemory → x ≡ ends.Fault → ⊥
    never x a b = cc
