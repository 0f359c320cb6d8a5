-- A message is taken, or none is left.
use Rattle.std.proofs.Common.{◌≡◌, ℕ, ◌+◌, Bool, true, false, List, [], ◌∷◌, ◌++◌, length, Option, Some, None, Result, Ok, Err, refl, sym, ap, subst, ◌∙◌}
use Rattle.std.specs.Prelude.{option_map}
use Rattle.std.proofs.lemmas.List.{append-nil}
use Rattle.bus_frame.specs.declared.header.Header.{Header}
use Rattle.fp_base.specs.declared.frame_rule.FrameRule.{FrameRule}
use Rattle.fp_base.specs.declared.side.Side.{Side}
use Rattle.fp_base.specs.declared.side.Side.TheVariants as side
use Rattle.bus_frame.specs.Reading.{whole, frame_of}
use Rattle.bus_frame.proofs.MessageLaws.{frame_whole}
use Rattle.bus_stream.specs.Stream.{Message, CutterAt, messages_in, broken_in}
use Rattle.bus_policy.specs.Events.{Event}
use Rattle.bus_policy.specs.Watching.{event}
use Rattle.bus_proxy.specs.declared.error.FilterError.{FilterError}
use Rattle.bus_proxy.specs.declared.stream.Arrival.{Arrival}
use Rattle.bus_proxy.specs.declared.stream.Arrival.TheVariants as arrival
use Rattle.bus_proxy.specs.declared.stream.Stream.{Stream}
use Rattle.bus_proxy.specs.declared.streams.Streams.{Streams}
use Rattle.bus_proxy.specs.Arrivals.{Pieces, End, other_side, bytes_of, event_of, arrived, counted, end_at, breach, broken_end, events}
use Rattle.bus_proxy.specs.Streaming.{message, StreamAt, StreamsAt, NoneWaits, TookOne, StreamGave, IfArrived, Keeps, stream_of, messages_of}
use Rattle.bus_proxy.proofs.Fronts.{remainder, one_more}
use Rattle.bus_proxy.proofs.Arriving.{ended_at, arrived_remainder, counted-push}
use Rattle.bus_proxy.proofs.Feeding.{messages_taken}

-- ---- a message

taken : (old new : Stream) (fed : List ℕ) (given : List Message) (h : Header) (bytes : List ℕ) → StreamAt old fed given → TookOne old new h bytes → StreamAt new fed (given ++ message h bytes ∷ [])
taken old new fed given h bytes at one = record {
  cut = one_more old.cutter new.cutter fed given (message h bytes) at.cut one.cut;
  count = one.count ∙ ap (λ (n : ℕ). counted (n + 1)) at.count ∙ counted-push given (message h bytes);
}

untaken : (old new : Stream) (fed : List ℕ) (given : List Message) → StreamAt old fed given → new ≡ old → StreamAt new fed (given ++ [])
untaken old new fed given at same =
    subst (λ (l : List Message). StreamAt new fed l) (sym (append-nil given)) (subst (λ (s : Stream). StreamAt s fed given) (sym same) at)

each_taken : (old new : Streams) (fed : Pieces) (before : List Event) (of : Side) (h : Header) (bytes : List ℕ) → StreamsAt old fed before
    → TookOne (stream_of old of) (stream_of new of) h bytes → stream_of new (other_side of) ≡ stream_of old (other_side of)
    → (side : Side) → StreamAt (stream_of new side) (bytes_of side fed) (messages_of side (event of h bytes ∷ before))
each_taken old new fed before side.Client h bytes at one other side.Client = taken _ _ _ _ h bytes (at.each side.Client) one
each_taken old new fed before side.Client h bytes at one other side.Bus = untaken _ _ _ _ (at.each side.Bus) other
each_taken old new fed before side.Bus h bytes at one other side.Client = untaken _ _ _ _ (at.each side.Client) other
each_taken old new fed before side.Bus h bytes at one other side.Bus = taken _ _ _ _ h bytes (at.each side.Bus) one

pub took_at : (old new : Streams) (fed : Pieces) (before : List Event) (h : Header) (bytes : List ℕ) → StreamsAt old fed before
    → TookOne (stream_of old old.latest) (stream_of new old.latest) h bytes → Keeps old new
    → StreamsAt new fed (event old.latest h bytes ∷ before)
took_at old new fed before h bytes at one keeps =
    let of = old.latest in
    let rest = messages_in (stream_of new of).cutter in
    let waiting : events fed ≡ arrived of rest ++ event of h bytes ∷ before =
    at.waiting
    ∙ ap (λ (l : List Message). arrived of l ++ before) (remainder _ _ _ one.cut).messages
    ∙ arrived_remainder of (message h bytes) rest before in
    record {
      each = each_taken old new fed before of h bytes at one keeps.other;
      waiting = subst (λ (s : Side). events fed ≡ arrived s (messages_in (stream_of new s).cutter) ++ event of h bytes ∷ before) (sym keeps.latest) waiting;
      none_else = subst (λ (s : Side). NoneWaits (stream_of new (other_side s))) (sym keeps.latest)
          (ap (λ (s : Stream). messages_in s.cutter) keeps.other ∙ at.none_else);
      broken = subst (λ (s : Side). breach fed ≡ broken_end s (bytes_of s fed)) (sym keeps.latest) at.broken;
    }

-- a message that is given is one, with its header
pub gave_frame : (r : Result Arrival FilterError) (of : Side) (old new : Stream) → StreamGave r of old new → IfArrived r (λ header bytes. frame_of bytes ≡ whole header (length bytes))
gave_frame (Ok (arrival.Message side header bytes)) of old new g = frame_whole bytes header g.1.cut.each.0
gave_frame (Ok arrival.NotYet) of old new g = tt
gave_frame (Err e) of old new g = tt

-- ---- nothing

same_by : (old new : Streams) (of : Side) → new.latest ≡ old.latest → stream_of new of ≡ stream_of old of → stream_of new (other_side of) ≡ stream_of old (other_side of) → new ≡ old
same_by old new side.Client latest this that = λ i. record { client = this i; bus = that i; latest = latest i }
same_by old new side.Bus latest this that = λ i. record { client = that i; bus = this i; latest = latest i }

pub stays_at : (old new : Streams) (fed : Pieces) (before : List Event) → StreamsAt old fed before → stream_of new old.latest ≡ stream_of old old.latest → Keeps old new → StreamsAt new fed before
stays_at old new fed before at this keeps =
    subst (λ (s : Streams). StreamsAt s fed before) (sym (same_by old new old.latest keeps.latest this keeps.other)) at

pub all_taken : (s : Streams) (fed : Pieces) (before : List Event) → StreamsAt s fed before → NoneWaits (stream_of s s.latest) → events fed ≡ before
all_taken s fed before at none = at.waiting ∙ ap (λ (l : List Message). arrived s.latest l ++ before) none

pub unbroken : (s : Streams) (fed : Pieces) (before : List Event) → StreamsAt s fed before → broken_in (stream_of s s.latest).cutter ≡ None → breach fed ≡ None
unbroken s fed before at sound =
    let bytes = bytes_of s.latest fed in
    at.broken ∙ ap (option_map (end_at s.latest bytes)) ((remainder _ _ _ (at.each s.latest).cut).rule ∙ sound)

pub broken : (s : Streams) (fed : Pieces) (before : List Event) (rule : FrameRule) → StreamsAt s fed before → NoneWaits (stream_of s s.latest) → broken_in (stream_of s s.latest).cutter ≡ Some rule
    → breach fed ≡ Some (s.latest, (stream_of s s.latest).count, rule)
broken s fed before rule at none breaks =
    let of = s.latest in
    let bytes = bytes_of of fed in
    let index : counted (length (messages_in bytes)) ≡ (stream_of s of).count =
    ap (λ (l : List Message). counted (length l)) (messages_taken s fed before at (all_taken s fed before at none) of) ∙ sym (at.each of).count in
    at.broken
    ∙ ap (option_map (end_at of bytes)) ((remainder _ _ _ (at.each of).cut).rule ∙ breaks)
    ∙ ap (λ (n : ℕ). ended_at of n rule) index

-- ---- the beginning

no_message : messages_in [] ≡ []
unfolding messages_in
no_message = refl

no_rule : None ≡ broken_end side.Client []
unfolding broken_in
no_rule = refl

pub begun : (s : Streams) → s.client.cutter ≡ [] → s.client.count ≡ 0 → s.bus.cutter ≡ [] → s.bus.count ≡ 0 → s.latest ≡ side.Client → StreamsAt s [] []
begun s client clients bus busses latest = record {
  each = each;
  waiting = sym (ap (λ (l : List Message). arrived s.latest l ++ []) (none s.latest));
  none_else = none (other_side s.latest);
  broken = subst (λ (x : Side). None ≡ broken_end x (bytes_of x [])) (sym latest) no_rule;
}
  where
    nothing : (t : Stream) → t.cutter ≡ [] → t.count ≡ 0 → StreamAt t [] []
    nothing t empty zero = record {
      cut = record { each = tt; parts = sym empty };
      count = zero;
    }

    each : (side : Side) → StreamAt (stream_of s side) (bytes_of side []) (messages_of side [])
    each side.Client = nothing s.client client clients
    each side.Bus = nothing s.bus bus busses

    none : (side : Side) → NoneWaits (stream_of s side)
    none side.Client = ap messages_in client ∙ no_message
    none side.Bus = ap messages_in bus ∙ no_message
