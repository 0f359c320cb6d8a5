-- The messages in a stream are those that were taken and those in the bytes that aren't.
use Rattle.std.proofs.Common.{◌≡◌, ℕ, zero, suc, ◌+◌, ◌≤◌, List, [], ◌∷◌, ◌++◌, length, take, drop, Option, Some, None, refl, sym, ap, subst, ◌∙◌, append_assoc, arith}
use Rattle.std.specs.List.{AllByRecursion}
use Rattle.std.proofs.lemmas.List.{length-append, length-drop, append-nil, take_at, drop_at}
use Rattle.bus_frame.specs.declared.header.Header.{Header}
use Rattle.fp_base.specs.declared.frame_rule.FrameRule.{FrameRule}
use Rattle.bus_frame.specs.Reading.{Read, need, bad, whole, frame_of}
use Rattle.bus_frame.specs.Answers.{IsWhole}
use Rattle.bus_frame.proofs.Frames.{has_body, reads_bad, stays_whole}
use Rattle.bus_frame.proofs.MessageLaws.{frame_whole}
use Rattle.bus_stream.specs.Stream.{Message, IsMessage, joined, CutterAt, first_taken, taken_in, messages_in, rule_remainder, broken_remainder, broken_in}
use Rattle.bus_stream.proofs.Streams.{all_push, joined-push}

-- ---- how often bytes are looked at doesn't matter, if often enough

pub record Same (n m : ℕ) (bytes : List ℕ) : Type 0 where
  pub messages : taken_in n bytes ≡ taken_in m bytes
  pub rule : broken_remainder n bytes ≡ broken_remainder m bytes

nothing_in : (m : ℕ) (bytes : List ℕ) → length bytes ≤ 0 → (taken_in m bytes ≡ []) × (broken_remainder m bytes ≡ None)
unfolding frame_of
nothing_in zero bytes le = (refl, refl)
nothing_in (suc m) [] le = (refl, refl)
nothing_in (suc m) (b ∷ bytes) le = absurd (omega arith)

pub same : (n m : ℕ) (bytes : List ℕ) → length bytes ≤ n → length bytes ≤ m → Same n m bytes
same zero m bytes le also =
    let none = nothing_in m bytes le in
    record { messages = sym none.0; rule = sym none.1 }
same (suc n) zero bytes le also =
    let none = nothing_in (suc n) bytes also in
    record { messages = none.0; rule = none.1 }
same (suc n) (suc m) bytes le also = by_read (frame_of bytes) refl (λ k less more. same n m (drop k bytes) less more)
  where
    by_read : (r : Read) → frame_of bytes ≡ r → ((k : ℕ) → length (drop k bytes) ≤ n → length (drop k bytes) ≤ m → Same n m (drop k bytes)) → Same (suc n) (suc m) bytes
    by_read (need k) e later = record {
      messages = ap (λ (r : Read). first_taken r bytes (taken_in n)) e ∙ sym (ap (λ (r : Read). first_taken r bytes (taken_in m)) e);
      rule = ap (λ (r : Read). rule_remainder r bytes (broken_remainder n)) e ∙ sym (ap (λ (r : Read). rule_remainder r bytes (broken_remainder m)) e);
    }
    by_read (bad rule) e later = record {
      messages = ap (λ (r : Read). first_taken r bytes (taken_in n)) e ∙ sym (ap (λ (r : Read). first_taken r bytes (taken_in m)) e);
      rule = ap (λ (r : Read). rule_remainder r bytes (broken_remainder n)) e ∙ sym (ap (λ (r : Read). rule_remainder r bytes (broken_remainder m)) e);
    }
    by_read (whole h k) e later =
        let body = has_body bytes h k e in
        let rest = length-drop k bytes in
        let others = later k (omega (arith, rest, body.start, body.end, le)) (omega (arith, rest, body.start, body.end, also)) in
        record {
          messages =
              ap (λ (r : Read). first_taken r bytes (taken_in n)) e
              ∙ ap (λ (l : List Message). record { header = h; bytes = take k bytes } ∷ l) others.messages
              ∙ sym (ap (λ (r : Read). first_taken r bytes (taken_in m)) e);
          rule =
              ap (λ (r : Read). rule_remainder r bytes (broken_remainder n)) e
              ∙ others.rule
              ∙ sym (ap (λ (r : Read). rule_remainder r bytes (broken_remainder m)) e);
        }

-- ---- what stands after messages

pub record Remainder (given : List Message) (all rest : List ℕ) : Type 0 where
  pub messages : messages_in all ≡ given ++ messages_in rest
  pub rule : broken_in all ≡ broken_in rest

one_front : (m : Message) (later : List ℕ) → IsMessage m → Remainder (m ∷ []) (m.bytes ++ later) later
unfolding messages_in broken_in
one_front m later is =
    let n = length m.bytes in
    let stream = m.bytes ++ later in
    let len = length stream in
    let longer = same len (suc len) stream (omega arith) (omega arith) in
    let fuel = same len (length later) later (omega (arith, length-append m.bytes later)) (omega arith) in
    let read : frame_of stream ≡ whole m.header n = stays_whole m.bytes later m.header n (frame_whole m.bytes m.header is) in
    let front : take n stream ≡ m.bytes = take_at m.bytes later n refl in
    let back : drop n stream ≡ later = drop_at m.bytes later n refl in
    record {
      messages =
          longer.messages
          ∙ ap (λ (r : Read). first_taken r stream (taken_in len)) read
          ∙ ap (λ (b : List ℕ). record { header = m.header; bytes = b } ∷ taken_in len (drop n stream)) front
          ∙ ap (λ (l : List ℕ). m ∷ taken_in len l) back
          ∙ ap (λ (l : List Message). m ∷ l) fuel.messages;
      rule =
          longer.rule
          ∙ ap (λ (r : Read). rule_remainder r stream (broken_remainder len)) read
          ∙ ap (broken_remainder len) back
          ∙ fuel.rule;
    }

all_front : (given : List Message) (rest : List ℕ) → AllByRecursion IsMessage given → Remainder given (joined given ++ rest) rest
all_front [] rest all = record { messages = refl; rule = refl }
all_front (m ∷ given) rest all =
    let grouped : joined (m ∷ given) ++ rest ≡ m.bytes ++ (joined given ++ rest) = append_assoc m.bytes (joined given) rest in
    let first = one_front m (joined given ++ rest) all.0 in
    let others = all_front given rest all.1 in
    record {
      messages = ap messages_in grouped ∙ first.messages ∙ ap (λ (l : List Message). m ∷ l) others.messages;
      rule = ap broken_in grouped ∙ first.rule ∙ others.rule;
    }

pub remainder : (cutter fed : List ℕ) (given : List Message) → CutterAt cutter fed given → Remainder given fed cutter
remainder cutter fed given at =
    let front = all_front given cutter at.each in
    record { messages = ap messages_in at.parts ∙ front.messages; rule = ap broken_in at.parts ∙ front.rule }

-- ---- what stands at the front

pub nothing_taken : (bytes : List ℕ) → CutterAt bytes bytes []
nothing_taken bytes = record { each = tt; parts = refl }

some_taken : (m : Message) (l : List Message) → [] ≡ m ∷ l → ⊥
some_taken m l e = cc

-- a whole message waits
waits : (bytes : List ℕ) (r : Read) → frame_of bytes ≡ r → IsWhole r → messages_in bytes ≡ [] → ⊥
unfolding messages_in
waits bytes (need n) e is none = elim is [ ]
waits bytes (bad rule) e is none = elim is [ ]
waits bytes (whole h n) e is none =
    let len = length bytes in
    let longer = same len (suc len) bytes (omega arith) (omega arith) in
    some_taken _ _ (sym none ∙ longer.messages ∙ ap (λ (r : Read). first_taken r bytes (taken_in len)) e)

pub whole_waits : (bytes : List ℕ) → IsWhole (frame_of bytes) → messages_in bytes ≡ [] → ⊥
whole_waits bytes is none = waits bytes (frame_of bytes) refl is none

-- ---- streams, one step and another

pub one_more : (old new fed : List ℕ) (given : List Message) (m : Message) → CutterAt old fed given → CutterAt new old (m ∷ []) → CutterAt new fed (given ++ m ∷ [])
one_more old new fed given m at one = record {
  each = all_push given m at.each one.each.0;
  parts =
      at.parts
      ∙ ap (λ (l : List ℕ). joined given ++ l) (one.parts ∙ ap (λ (l : List ℕ). l ++ new) (append-nil m.bytes))
      ∙ sym (append_assoc (joined given) m.bytes new)
      ∙ ap (λ (l : List ℕ). l ++ new) (sym (joined-push given m));
}

pub more_fed : (old piece fed : List ℕ) (given : List Message) → CutterAt old fed given → CutterAt (old ++ piece) (fed ++ piece) given
more_fed old piece fed given at = record {
  each = at.each;
  parts = ap (λ (l : List ℕ). l ++ piece) at.parts ∙ append_assoc (joined given) old piece;
}
