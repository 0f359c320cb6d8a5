-- How what was fed ends.
use Rattle.std.proofs.Common.{◌≡◌, ℕ, ◌+◌, ◌<◌, Bool, true, false, ltb, List, [], ◌∷◌, ◌++◌, length, Option, Some, None, refl, sym, ap, ◌∙◌, arith}
use Rattle.std.specs.Option.{option_or}
use Rattle.std.specs.Prelude.{if◌then◌else◌, nat_lt}
use Rattle.std.proofs.lemmas.List.{length-append}
use Rattle.std.proofs.lemmas.Bool.{ltb-true, lt-ltb, le-ltb}
use Rattle.fp_base.specs.declared.frame_rule.FrameRule.{FrameRule}
use Rattle.fp_base.specs.declared.frame_rule.FrameRule.TheVariants.{Cut}
use Rattle.fp_base.specs.declared.side.Side.{Side}
use Rattle.fp_base.specs.declared.side.Side.TheVariants as side
use Rattle.bus_stream.specs.Stream.{Message, joined, messages_in}
use Rattle.bus_policy.specs.Events.{Event}
use Rattle.bus_proxy.specs.declared.streams.Streams.{Streams}
use Rattle.bus_proxy.specs.Arrivals.{Pieces, End, bytes_of, counted, end_at, breach, events, has_rest, cut_end, end_of}
use Rattle.bus_proxy.specs.Streaming.{StreamsAt, FirstRest, stream_of, messages_of}
use Rattle.bus_proxy.proofs.Arriving.{ended_at}
use Rattle.bus_proxy.proofs.Feeding.{messages_taken}

-- the bytes after the messages are those that aren't taken
rest_len : (s : Streams) (fed : Pieces) (taken : List Event) → StreamsAt s fed taken → events fed ≡ taken → (side : Side)
    → length (bytes_of side fed) ≡ length (joined (messages_in (bytes_of side fed))) + length (stream_of s side).cutter
rest_len s fed taken at all side =
    ap (λ (l : List ℕ). length l) (at.each side).cut.parts
    ∙ length-append (joined (messages_of side taken)) (stream_of s side).cutter
    ∙ ap (λ (l : List Message). length (joined l) + length (stream_of s side).cutter) (sym (messages_taken s fed taken at all side))

cut_none : (s : Streams) (fed : Pieces) (taken : List Event) → StreamsAt s fed taken → events fed ≡ taken → (side : Side) → length (stream_of s side).cutter ≡ 0 → cut_end side (bytes_of side fed) ≡ None
cut_none s fed taken at all side empty =
    let bytes = bytes_of side fed in
    let none : has_rest bytes ≡ false = le-ltb _ _ (omega (arith, rest_len s fed taken at all side, empty)) in
    ap (λ (b : Bool). if b then Some (end_at side bytes Cut) else None) none

cut_some : (s : Streams) (fed : Pieces) (taken : List Event) → StreamsAt s fed taken → events fed ≡ taken → (side : Side) → 0 < length (stream_of s side).cutter → cut_end side (bytes_of side fed) ≡ Some (side, (stream_of s side).count, Cut)
cut_some s fed taken at all side some =
    let bytes = bytes_of side fed in
    let rest : has_rest bytes ≡ true = lt-ltb _ _ (omega (arith, rest_len s fed taken at all side, some)) in
    let index : counted (length (messages_in bytes)) ≡ (stream_of s side).count =
    ap (λ (l : List Message). counted (length l)) (messages_taken s fed taken at all side) ∙ sym (at.each side).count in
    ap (λ (b : Bool). if b then Some (end_at side bytes Cut) else None) rest ∙ ap (λ (n : ℕ). ended_at side n Cut) index

-- the end that the first bytes left make
abbrev pub cut_of : Option (Side × ℕ) → Option End
cut_of None = None
cut_of (Some rest) = Some (rest.0, rest.1, Cut)

pub ends : (s : Streams) (fed : Pieces) (taken : List Event) (rest : Option (Side × ℕ)) → StreamsAt s fed taken → events fed ≡ taken → breach fed ≡ None → FirstRest rest s → end_of fed ≡ cut_of rest
ends s fed taken None at all sound r =
    ap (λ (o : Option End). option_or o (option_or (cut_end side.Client (bytes_of side.Client fed)) (cut_end side.Bus (bytes_of side.Bus fed)))) sound
    ∙ ap (λ (o : Option End). option_or o (cut_end side.Bus (bytes_of side.Bus fed))) (cut_none s fed taken at all side.Client r.0)
    ∙ cut_none s fed taken at all side.Bus r.1
ends s fed taken (Some (side.Client, n)) at all sound r =
    ap (λ (o : Option End). option_or o (option_or (cut_end side.Client (bytes_of side.Client fed)) (cut_end side.Bus (bytes_of side.Bus fed)))) sound
    ∙ ap (λ (o : Option End). option_or o (cut_end side.Bus (bytes_of side.Bus fed))) (cut_some s fed taken at all side.Client r.0)
    ∙ ap (λ (k : ℕ). ended_at side.Client k Cut) (sym r.1)
ends s fed taken (Some (side.Bus, n)) at all sound r =
    ap (λ (o : Option End). option_or o (option_or (cut_end side.Client (bytes_of side.Client fed)) (cut_end side.Bus (bytes_of side.Bus fed)))) sound
    ∙ ap (λ (o : Option End). option_or o (cut_end side.Bus (bytes_of side.Bus fed))) (cut_none s fed taken at all side.Client r.0)
    ∙ cut_some s fed taken at all side.Bus r.1
    ∙ ap (λ (k : ℕ). ended_at side.Bus k Cut) (sym r.2)
