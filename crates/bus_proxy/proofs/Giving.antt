-- What a filter is after each answer of its streams.
use Rattle.std.proofs.Common.{◌≡◌, ℕ, ◌+◌, ◌<◌, List, [], ◌∷◌, ◌++◌, length, Option, Some, None, Result, Ok, Err, refl, sym, ap, subst, ◌∙◌, arith}
use Rattle.std.specs.Option.{option_to_list}
use Rattle.std.proofs.lemmas.List.{append-nil, length-append}
use Rattle.bus_frame.specs.declared.header.Header.{Header}
use Rattle.fp_base.specs.declared.frame_rule.FrameRule.{FrameRule}
use Rattle.fp_base.specs.declared.side.Side.{Side}
use Rattle.fp_base.specs.declared.side.Side.TheVariants as side
use Rattle.bus_stream.specs.Stream.{Message, CutterAt, messages_in}
use Rattle.bus_stream.proofs.Streams.{some_len}
use Rattle.bus_policy.specs.Events.{Event}
use Rattle.bus_policy.specs.Watching.{event}
use Rattle.bus_proxy.specs.declared.out.Out.{Out}
use Rattle.bus_proxy.specs.declared.error.FilterError.{FilterError}
use Rattle.bus_proxy.specs.declared.error.FilterError.TheVariants.{Bad, NoMemory}
use Rattle.bus_proxy.specs.declared.stream.Arrival.{Arrival}
use Rattle.bus_proxy.specs.declared.stream.Arrival.TheVariants as arrival
use Rattle.bus_proxy.specs.declared.stream.Stream.{Stream}
use Rattle.bus_proxy.specs.declared.streams.Streams.{Streams}
use Rattle.bus_proxy.specs.declared.judge.Judge.{Judge}
use Rattle.bus_proxy.specs.declared.proxy.Filter.{Filter}
use Rattle.bus_proxy.specs.declared.proxy.Next.{Next}
use Rattle.bus_proxy.specs.declared.proxy.Next.TheVariants as next
use Rattle.bus_proxy.specs.Arrivals.{Pieces, End, other_side, arrived, breach, events}
use Rattle.bus_proxy.specs.Outs.{Setting, out_after, forwarded}
use Rattle.bus_proxy.specs.Streaming.{StreamsAt, StreamsGave, TookOne, Keeps, NoneWaits, Fed, stream_of, unread_bytes}
use Rattle.bus_proxy.specs.Filters.{JudgeAt, FilterAt, AllTaken, Made, Gives, IsNotYet}
use Rattle.bus_proxy.proofs.Taking.{took_at, stays_at, all_taken, unbroken, broken}
use Rattle.bus_proxy.proofs.Feeding.{none_waits, fed_at}
use Rattle.bus_proxy.proofs.Arriving.{ended_at}

-- ---- a message

streams_took : (old new : Streams) (fed : Pieces) (taken : List Event) (of : Side) (h : Header) (bytes : List ℕ) → StreamsAt old fed taken
    → StreamsGave (Ok (arrival.Message of h bytes)) old new → StreamsAt new fed (event of h bytes ∷ taken)
streams_took old new fed taken of h bytes at g =
    subst (λ (s : Side). StreamsAt new fed (event s h bytes ∷ taken)) (sym g.gave.0) (took_at old new fed taken h bytes at g.gave.1 g.keeps)

pub passes : {S H : Type 0} (f g : Filter S H) (s : Setting) (fed : Pieces) (taken : List Event) (given : List Out) (of : Side) (h : Header) (bytes : List ℕ) (out : Option Out) → FilterAt f s fed taken given
    → StreamsGave (Ok (arrival.Message of h bytes)) f.streams g.streams → out ≡ out_after s taken (event of h bytes) → JudgeAt g.judge s (event of h bytes ∷ taken)
    → FilterAt g s fed (event of h bytes ∷ taken) (given ++ option_to_list out)
passes f g s fed taken given of h bytes out at gave made judge = record {
  streams = streams_took f.streams g.streams fed taken of h bytes at.streams gave;
  judge = judge;
  gave = λ i. at.gave i ++ option_to_list (made i);
}

pub passes_none : {S H : Type 0} (f g : Filter S H) (s : Setting) (fed : Pieces) (taken : List Event) (given : List Out) (of : Side) (h : Header) (bytes : List ℕ) → FilterAt f s fed taken given
    → StreamsGave (Ok (arrival.Message of h bytes)) f.streams g.streams → None ≡ out_after s taken (event of h bytes) → JudgeAt g.judge s (event of h bytes ∷ taken)
    → FilterAt g s fed (event of h bytes ∷ taken) given
passes_none f g s fed taken given of h bytes at gave made judge =
    subst (FilterAt g s fed (event of h bytes ∷ taken)) (append-nil given) (passes f g s fed taken given of h bytes None at gave made judge)

-- ---- none

pub stays : {S H : Type 0} (f g : Filter S H) (s : Setting) (fed : Pieces) (taken : List Event) (given : List Out) → FilterAt f s fed taken given → g.judge ≡ f.judge
    → stream_of g.streams f.streams.latest ≡ stream_of f.streams f.streams.latest → Keeps f.streams g.streams → FilterAt g s fed taken given
stays {S = S} {H = H} f g s fed taken given at judge same keeps = record {
  streams = stays_at f.streams g.streams fed taken at.streams same keeps;
  judge = subst (λ (j : Judge S H). JudgeAt j s taken) (sym judge) at.judge;
  gave = at.gave;
}

pub ended : (s : Streams) (new : Streams) (fed : Pieces) (taken : List Event) → StreamsAt s fed taken → StreamsGave (Ok arrival.NotYet) s new → AllTaken fed taken
ended s new fed taken at g = record {
  all = all_taken s fed taken at g.gave.1;
  sound = unbroken s fed taken at g.gave.2;
}

pub breaks : (s new : Streams) (fed : Pieces) (taken : List Event) (of : Side) (index : ℕ) (rule : FrameRule) → StreamsAt s fed taken → StreamsGave (Err (Bad of index rule)) s new
    → (events fed ≡ taken) × (breach fed ≡ Some (of, index, rule))
breaks s new fed taken of index rule at g = (
  all_taken s fed taken at g.gave.3,
  broken s fed taken rule at g.gave.3 g.gave.4
      ∙ (λ i. ended_at (sym g.gave.1 i) (sym g.gave.2 i) rule),
)

-- ---- which answer comes

none_some : (e : End) → None ≡ Some e → ⊥
none_some e p = cc

-- a message that is given isn't there where all are taken
no_message : (s new : Streams) (fed : Pieces) (taken : List Event) (of : Side) (h : Header) (bytes : List ℕ) → StreamsAt s fed taken → events fed ≡ taken → StreamsGave (Ok (arrival.Message of h bytes)) s new → ⊥
no_message s new fed taken of h bytes at all g =
    let longer = streams_took s new fed taken of h bytes at g in
    absurd (omega (arith, ap (λ (l : List Event). length l) (sym longer.waiting ∙ all), length-append (arrived new.latest (messages_in (stream_of new new.latest).cutter)) (event of h bytes ∷ taken)))

no_want : (s new : Streams) (fed : Pieces) (taken : List Event) → StreamsAt s fed taken → events fed ≡ taken → StreamsGave (Err NoMemory) s new → ⊥
no_want s new fed taken at all g = g.gave (none_waits s fed taken at all s.latest)

pub only_not_yet : (r : Result Arrival FilterError) (s new : Streams) (fed : Pieces) (taken : List Event) → StreamsAt s fed taken → AllTaken fed taken → StreamsGave r s new → r ≡ Ok arrival.NotYet
only_not_yet (Ok (arrival.Message of h bytes)) s new fed taken at t g = absurd (no_message s new fed taken of h bytes at t.all g)
only_not_yet (Ok arrival.NotYet) s new fed taken at t g = refl
only_not_yet (Err (Bad of index rule)) s new fed taken at t g = absurd (none_some _ (sym t.sound ∙ (breaks s new fed taken of index rule at g).1))
only_not_yet (Err NoMemory) s new fed taken at t g = absurd (no_want s new fed taken at t.all g)

same_some : (x y : End) → Some x ≡ Some y → x ≡ y
same_some x y e = cc

same_end : (a b : Side) (m n : ℕ) (p q : FrameRule) → ended_at a m p ≡ ended_at b n q → ◌≡◌ {A = Result Arrival FilterError} (Err (Bad a m p)) (Err (Bad b n q))
same_end a b m n p q e =
    let t : ◌≡◌ {A = End} (a, m, p) (b, n, q) = same_some _ _ e in
    λ i. Err (Bad (t i).0 (t i).1 (t i).2)

pub only_bad : (r : Result Arrival FilterError) (s new : Streams) (fed : Pieces) (taken : List Event) (a : Side) (n : ℕ) (q : FrameRule) → StreamsAt s fed taken → events fed ≡ taken → breach fed ≡ Some (a, n, q)
    → StreamsGave r s new → r ≡ Err (Bad a n q)
only_bad (Ok (arrival.Message of h bytes)) s new fed taken a n q at all b g = absurd (no_message s new fed taken of h bytes at all g)
only_bad (Ok arrival.NotYet) s new fed taken a n q at all b g = absurd (none_some _ (sym (ended s new fed taken at g).sound ∙ b))
only_bad (Err (Bad of index rule)) s new fed taken a n q at all b g = same_end _ _ _ _ _ _ (sym (breaks s new fed taken of index rule at g).1 ∙ b)
only_bad (Err NoMemory) s new fed taken a n q at all b g = absurd (no_want s new fed taken at all g)

-- ---- what the filter answers

pub gives_message : {S H : Type 0} (r : Result Next FilterError) (f g : Filter S H) (s : Setting) (fed : Pieces) (taken : List Event) (given : List Out) (of : Side) (h : Header) (bytes : List ℕ) → FilterAt f s fed taken given
    → StreamsGave (Ok (arrival.Message of h bytes)) f.streams g.streams → Made r g.judge s taken (event of h bytes) → Gives r g s fed taken given
gives_message (Ok (next.Out out)) f g s fed taken given of h bytes at gave made = (event of h bytes, made.0, passes f g s fed taken given of h bytes (Some out) at gave (sym made.0) made.1)
gives_message (Ok next.Quiet) f g s fed taken given of h bytes at gave made = (event of h bytes, made.0, passes_none f g s fed taken given of h bytes at gave (sym made.0) made.1)
gives_message (Ok next.NotYet) f g s fed taken given of h bytes at gave made = elim made [ ]
gives_message (Err (Bad side index rule)) f g s fed taken given of h bytes at gave made = elim made [ ]
gives_message (Err NoMemory) f g s fed taken given of h bytes at gave made = tt

pub gives_none : {S H : Type 0} (f g : Filter S H) (s : Setting) (fed : Pieces) (taken : List Event) (given : List Out) → FilterAt f s fed taken given → StreamsGave (Ok arrival.NotYet) f.streams g.streams → g.judge ≡ f.judge
    → Gives (Ok next.NotYet) g s fed taken given
gives_none f g s fed taken given at gave judge =
    (stays f g s fed taken given at judge gave.gave.0 gave.keeps, ended f.streams g.streams fed taken at.streams gave)

pub gives_err : {S H : Type 0} (e : FilterError) (f g : Filter S H) (s : Setting) (fed : Pieces) (taken : List Event) (given : List Out) → FilterAt f s fed taken given → StreamsGave (Err e) f.streams g.streams → g.judge ≡ f.judge
    → Gives (Err e) g s fed taken given
gives_err (Bad side index rule) f g s fed taken given at gave judge =
    let end = breaks f.streams g.streams fed taken side index rule at.streams gave in
    (stays f g s fed taken given at judge gave.gave.0 gave.keeps, end.0, end.1)
gives_err NoMemory f g s fed taken given at gave judge = tt

message_is_ok : (a : Arrival) (e : FilterError) → ◌≡◌ {A = Result Arrival FilterError} (Ok a) (Err e) → ⊥
message_is_ok a e p = cc

-- where all are taken there is no message, nor an error
pub message_not : (r : Result Next FilterError) (s new : Streams) (fed : Pieces) (taken : List Event) (of : Side) (h : Header) (bytes : List ℕ) → StreamsAt s fed taken → AllTaken fed taken → StreamsGave (Ok (arrival.Message of h bytes)) s new → IsNotYet r
message_not r s new fed taken of h bytes at t g = absurd (no_message s new fed taken of h bytes at t.all g)

pub message_none : {P : Type 0} (s new : Streams) (fed : Pieces) (taken : List Event) (of : Side) (h : Header) (bytes : List ℕ) → StreamsAt s fed taken → events fed ≡ taken → StreamsGave (Ok (arrival.Message of h bytes)) s new → P
message_none s new fed taken of h bytes at all g = absurd (no_message s new fed taken of h bytes at all g)

pub err_not : (e : FilterError) (s new : Streams) (fed : Pieces) (taken : List Event) → StreamsAt s fed taken → AllTaken fed taken → StreamsGave (Err e) s new → ⊥
err_not e s new fed taken at t g = message_is_ok _ _ (sym (only_not_yet (Err e) s new fed taken at t g))

pub none_not : {P : Type 0} (s new : Streams) (fed : Pieces) (taken : List Event) (a : Side) (n : ℕ) (q : FrameRule) → StreamsAt s fed taken → events fed ≡ taken → breach fed ≡ Some (a, n, q) → StreamsGave (Ok arrival.NotYet) s new → P
none_not s new fed taken a n q at all b g = absurd (message_is_ok _ _ (only_bad (Ok arrival.NotYet) s new fed taken a n q at all b g))

same_err : (e x : FilterError) → ◌≡◌ {A = Result Arrival FilterError} (Err e) (Err x) → e ≡ x
same_err e x p = cc

pub err_is : (e : FilterError) (s new : Streams) (fed : Pieces) (taken : List Event) (a : Side) (n : ℕ) (q : FrameRule) → StreamsAt s fed taken → events fed ≡ taken → breach fed ≡ Some (a, n, q) → StreamsGave (Err e) s new
    → ◌≡◌ {A = Result Next FilterError} (Err e) (Err (Bad a n q))
err_is e s new fed taken a n q at all b g =
    let is = same_err e (Bad a n q) (only_bad (Err e) s new fed taken a n q at all b g) in
    λ i. Err (is i)

-- ---- fewer bytes are left

fewer : (old new : Stream) (h : Header) (bytes : List ℕ) → TookOne old new h bytes → length new.cutter < length old.cutter
fewer old new h bytes one =
    let message : Message = record { header = h; bytes = bytes } in
    omega (
      arith,
      some_len message one.cut.each.0,
      ap (λ (l : List ℕ). length l) one.cut.parts,
      length-append (bytes ++ []) new.cutter,
      length-append bytes [],
    )

by_side : (old new : Streams) (of : Side) → length (stream_of new of).cutter < length (stream_of old of).cutter → stream_of new (other_side of) ≡ stream_of old (other_side of) → unread_bytes new < unread_bytes old
by_side old new side.Client less same = omega (arith, less, ap (λ (s : Stream). length s.cutter) same)
by_side old new side.Bus less same = omega (arith, less, ap (λ (s : Stream). length s.cutter) same)

pub fewer_unread : (old new : Streams) (of : Side) (h : Header) (bytes : List ℕ) → StreamsGave (Ok (arrival.Message of h bytes)) old new → unread_bytes new < unread_bytes old
fewer_unread old new of h bytes g = by_side old new old.latest (fewer _ _ h bytes g.gave.1) g.keeps.other

-- ---- a piece

pub feeds : {S H : Type 0} (f g : Filter S H) (s : Setting) (fed : Pieces) (taken : List Event) (given : List Out) (to : Side) (piece : List ℕ) → FilterAt f s fed taken given → AllTaken fed taken
    → g.judge ≡ f.judge → Fed f.streams g.streams to piece → FilterAt g s ((to, piece) ∷ fed) taken given
feeds {S = S} {H = H} f g s fed taken given to piece at all judge more = record {
  streams = fed_at f.streams g.streams fed taken to piece at.streams all.all all.sound more;
  judge = subst (λ (j : Judge S H). JudgeAt j s taken) (sym judge) at.judge;
  gave = at.gave;
}
