-- A piece more is fed, where every message before is taken.
use Rattle.std.proofs.Common.{◌≡◌, ℕ, Bool, true, false, List, [], ◌∷◌, ◌++◌, length, drop, Option, Some, None, refl, sym, ap, subst, ◌∙◌}
use Rattle.std.specs.Option.{option_or}
use Rattle.std.specs.Prelude.{is_some, if◌then◌else◌}
use Rattle.std.proofs.lemmas.List.{append-nil, drop_at}
use Rattle.fp_base.specs.declared.side.Side.{Side}
use Rattle.fp_base.specs.declared.side.Side.TheVariants as side
use Rattle.bus_stream.specs.Stream.{Message, CutterAt, messages_in, broken_in}
use Rattle.bus_policy.specs.Events.{Event}
use Rattle.bus_proxy.specs.declared.stream.Stream.{Stream}
use Rattle.bus_proxy.specs.declared.streams.Streams.{Streams}
use Rattle.bus_proxy.specs.Arrivals.{Pieces, End, other_side, same_side, bytes_of, event_of, arrived, counted, breach, broken_end, events, news}
use Rattle.bus_proxy.specs.Streaming.{StreamAt, StreamsAt, NoneWaits, stream_of, messages_of, Fed}
use Rattle.bus_proxy.proofs.Fronts.{remainder, more_fed}
use Rattle.bus_proxy.proofs.Arriving.{none_arrived}

-- ---- nothing waits

by_side : (s : Streams) (latest side : Side) → NoneWaits (stream_of s latest) → NoneWaits (stream_of s (other_side latest)) → NoneWaits (stream_of s side)
by_side s side.Client side.Client this that = this
by_side s side.Client side.Bus this that = that
by_side s side.Bus side.Client this that = that
by_side s side.Bus side.Bus this that = this

pub none_waits : (s : Streams) (fed : Pieces) (taken : List Event) → StreamsAt s fed taken → events fed ≡ taken → (side : Side) → NoneWaits (stream_of s side)
none_waits s fed taken at all side =
    by_side s s.latest side (none_arrived s.latest _ taken (sym at.waiting ∙ all)) at.none_else

-- the messages of a side are those taken
pub messages_taken : (s : Streams) (fed : Pieces) (taken : List Event) → StreamsAt s fed taken → events fed ≡ taken → (side : Side) → messages_in (bytes_of side fed) ≡ messages_of side taken
messages_taken s fed taken at all side =
    (remainder _ _ _ (at.each side).cut).messages
    ∙ ap (λ (l : List Message). messages_of side taken ++ l) (none_waits s fed taken at all side)
    ∙ append-nil (messages_of side taken)

-- ---- the streams

more : (old new : Stream) (fed piece : List ℕ) (given : List Message) → StreamAt old fed given → new.cutter ≡ old.cutter ++ piece → new.count ≡ old.count → StreamAt new (fed ++ piece) given
more old new fed piece given at cutter count = record {
  cut = subst (λ (c : List ℕ). CutterAt c (fed ++ piece) given) (sym cutter) (more_fed old.cutter piece fed given at.cut);
  count = count ∙ at.count;
}

no_more : (old new : Stream) (fed : List ℕ) (given : List Message) → StreamAt old fed given → new ≡ old → StreamAt new (fed ++ []) given
no_more old new fed given at same =
    subst (λ (l : List ℕ). StreamAt new l given) (sym (append-nil fed)) (subst (λ (s : Stream). StreamAt s fed given) (sym same) at)

each_fed : (old new : Streams) (fed : Pieces) (taken : List Event) (to : Side) (piece : List ℕ) → StreamsAt old fed taken → Fed old new to piece
    → (side : Side) → StreamAt (stream_of new side) (bytes_of side ((to, piece) ∷ fed)) (messages_of side taken)
each_fed old new fed taken side.Client piece at f side.Client = more _ _ _ _ _ (at.each side.Client) f.cutter f.count
each_fed old new fed taken side.Client piece at f side.Bus = no_more _ _ _ _ (at.each side.Bus) f.other
each_fed old new fed taken side.Bus piece at f side.Client = no_more _ _ _ _ (at.each side.Client) f.other
each_fed old new fed taken side.Bus piece at f side.Bus = more _ _ _ _ _ (at.each side.Bus) f.cutter f.count

-- ---- the events

-- the messages that a piece completes are those that wait now
pub all_news : (cutter before now : List ℕ) (given : List Message) → messages_in before ≡ given → CutterAt cutter now given → news before now ≡ messages_in cutter
all_news cutter before now given taken at =
    ap (λ (l : List Message). drop (length l) (messages_in now)) taken
    ∙ ap (drop (length given)) (remainder cutter now given at).messages
    ∙ drop_at given (messages_in cutter) (length given) refl

unbroken : (o : Option End) (a b : List Event) → o ≡ None → (if is_some o then a else b) ≡ b
unbroken o a b e = ap (λ (x : Option End). if is_some x then a else b) e

pub fed_at : (old new : Streams) (fed : Pieces) (taken : List Event) (to : Side) (piece : List ℕ) → StreamsAt old fed taken → events fed ≡ taken → breach fed ≡ None → Fed old new to piece
    → StreamsAt new ((to, piece) ∷ fed) taken
fed_at old new fed taken to piece at all sound f =
    let each = each_fed old new fed taken to piece at f in
    let longer = (to, piece) ∷ fed in
    let waiting : events longer ≡ arrived to (messages_in (stream_of new to).cutter) ++ taken =
    unbroken (breach fed) _ _ sound
    ∙ ap (λ (l : List Message). arrived to l ++ events fed) (all_news _ _ _ _ (messages_taken old fed taken at all to) (each to).cut)
    ∙ ap (λ (l : List Event). arrived to (messages_in (stream_of new to).cutter) ++ l) all in
    let broken : breach longer ≡ broken_end to (bytes_of to longer) = ap (λ (o : Option End). option_or o (broken_end to (bytes_of to longer))) sound in
    record {
      each = each;
      waiting = subst (λ (s : Side). events longer ≡ arrived s (messages_in (stream_of new s).cutter) ++ taken) (sym f.latest) waiting;
      none_else = subst (λ (s : Side). NoneWaits (stream_of new (other_side s))) (sym f.latest)
          (ap (λ (s : Stream). messages_in s.cutter) f.other ∙ none_waits old fed taken at all (other_side to));
      broken = subst (λ (s : Side). breach longer ≡ broken_end s (bytes_of s longer)) (sym f.latest) broken;
    }
