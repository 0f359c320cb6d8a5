-- However a stream is cut, its messages are those of the bytes.
use Rattle.std.proofs.Common.{◌≡◌, ℕ, zero, suc, ◌<◌, ◌≤◌, List, [], ◌∷◌, ◌++◌, length, take, drop, Some, None, Result, Ok, Err, refl, sym, ap, subst, ◌∙◌, append_assoc, arith}
use Rattle.std.specs.Prelude.{OnOk, OnErr}
use Rattle.std.specs.List.{AllByRecursion}
use Rattle.std.proofs.lemmas.List.{length-append, append-nil, take_at, drop_at, take-append-drop}
use Rattle.bus_frame.specs.declared.header.Header.{Header}
use Rattle.fp_base.specs.declared.frame_rule.FrameRule.{FrameRule}
use Rattle.bus_frame.specs.declared.error.FrameError.{FrameError}
use Rattle.bus_frame.specs.declared.error.FrameError.TheVariants.{Bad, NoMemory}
use Rattle.bus_frame.specs.Reading.{Read, need, bad, whole, frame_of}
use Rattle.bus_frame.specs.Frame.{Frame}
use Rattle.bus_frame.specs.Answers.{IsWhole, BeginsBroken}
use Rattle.bus_frame.proofs.Spelled.{IsBytes, IsBytes-left}
use Rattle.bus_frame.proofs.Frames.{has_body, reads_bad, stays_whole, stays_bad}
use Rattle.bus_frame.proofs.MessageLaws.{found, found_broken, frame_whole, breaks_bad}
use Rattle.bus_stream.specs.declared.cutter.Cut.{Cut}
use Rattle.bus_stream.specs.declared.cutter.Cut.TheVariants as cut
use Rattle.bus_stream.specs.Stream.{Message, IsMessage, joined, CutterAt, NothingYet, first_taken, taken_in, messages_in, rule_remainder, broken_remainder, broken_in}
use Rattle.bus_stream.specs.Cuts.{IsNeed, AnswersCut, with_given, AreAll, IsNotYet}

-- ---- feeding

-- bytes that are broken at the front stay so
broken_front : (old piece : List ℕ) (rule : FrameRule) → BeginsBroken old rule → BeginsBroken (old ++ piece) rule
broken_front old piece rule b = (b.0, b.1 ++ piece, ap (λ (l : List ℕ). l ++ piece) b.2 ∙ append_assoc b.0 b.1 piece, b.3)

pub still_broken : {E : Type 0} (r : Result (Unit {0}) E) (old new piece : List ℕ) (rule : FrameRule) → OnOk r (new ≡ old ++ piece) → OnErr r (new ≡ old) → BeginsBroken old rule → BeginsBroken new rule
still_broken (Ok u) old new piece rule ok err b = subst (λ (l : List ℕ). BeginsBroken l rule) (sym ok) (broken_front old piece rule b)
still_broken (Err x) old new piece rule ok err b = subst (λ (l : List ℕ). BeginsBroken l rule) (sym err) b

-- ---- nothing yet

need_apart : (n k : ℕ) (h : Header) → need n ≡ whole h k → ⊥
need_apart n k h e = cc

need_sound : (n : ℕ) (rule : FrameRule) → need n ≡ bad rule → ⊥
need_sound n rule e = cc

nothing_at : (bytes : List ℕ) (n : ℕ) → IsBytes bytes → frame_of bytes ≡ need n → NothingYet bytes
nothing_at bytes n fits e = record {
  no_message = λ m rest h parts is. need_apart n (length m) h (sym e ∙ ap frame_of parts ∙ stays_whole m rest h (length m) (frame_whole m h is));
  no_broken = λ m rest rule parts is. need_sound n rule (sym e ∙ ap frame_of parts ∙ stays_bad m rest rule (breaks_bad m rule (IsBytes-left m rest (subst IsBytes parts fits)) is));
}

nothing_if : (bytes : List ℕ) → IsBytes bytes → (r : Read) → frame_of bytes ≡ r → IsNeed r → NothingYet bytes
nothing_if bytes fits (need n) e is = nothing_at bytes n fits e
nothing_if bytes fits (bad rule) e is = elim is [ ]
nothing_if bytes fits (whole h n) e is = elim is [ ]

something : (bytes : List ℕ) (h : Header) (n : ℕ) → IsBytes bytes → frame_of bytes ≡ whole h n → NothingYet bytes → ⊥
something bytes h n fits e nothing =
    let m = found bytes h n fits e in
    nothing.no_message (take n bytes) (drop n bytes) h (sym (take-append-drop n bytes)) m.1

something_if : (bytes : List ℕ) → IsBytes bytes → (r : Read) → frame_of bytes ≡ r → IsWhole r → NothingYet bytes → ⊥
something_if bytes fits (need n) e is nothing = elim is [ ]
something_if bytes fits (bad rule) e is nothing = elim is [ ]
something_if bytes fits (whole h n) e is nothing = something bytes h n fits e nothing

something_broken : (bytes : List ℕ) (rule : FrameRule) → IsBytes bytes → frame_of bytes ≡ bad rule → NothingYet bytes → ⊥
something_broken bytes rule fits e nothing =
    let b = found_broken bytes rule fits e in
    nothing.no_broken b.0 b.1 rule b.2 b.3

pub not_yet : (r : Result Cut FrameError) (old new : List ℕ) → IsBytes old → AnswersCut r old new → (IsNotYet r → NothingYet old) × (NothingYet old → IsNotYet r)
not_yet (Ok (cut.Message h m)) old new fits is = (λ never. elim never [ ], λ nothing. absurd (something old h (length m) fits is.0 nothing))
not_yet (Ok cut.NotYet) old new fits is = (λ _. nothing_if old fits (frame_of old) refl is.0, λ _. tt)
not_yet (Err (Bad rule)) old new fits is = (λ never. elim never [ ], λ nothing. absurd (something_broken old rule fits is.0 nothing))
not_yet (Err NoMemory) old new fits is = (λ never. elim never [ ], λ nothing. absurd (something_if old fits (frame_of old) refl is.0 nothing))

-- ---- a broken rule

broken_read : (bytes : List ℕ) (rule : FrameRule) → IsBytes bytes → BeginsBroken bytes rule → frame_of bytes ≡ bad rule
broken_read bytes rule fits b =
    ap frame_of b.2 ∙ stays_bad b.0 b.1 rule (breaks_bad b.0 rule (IsBytes-left b.0 b.1 (subst IsBytes b.2 fits)) b.3)

not_whole : (r : Read) (rule : FrameRule) → r ≡ bad rule → IsWhole r → ⊥
not_whole (need n) rule e is = elim is [ ]
not_whole (bad other) rule e is = elim is [ ]
not_whole (whole h n) rule e is = cc

not_need : (r : Read) (rule : FrameRule) → r ≡ bad rule → IsNeed r → ⊥
not_need (need n) rule e is = cc
not_need (bad other) rule e is = elim is [ ]
not_need (whole h n) rule e is = elim is [ ]

named : (r : Result Cut FrameError) (old new : List ℕ) (rule : FrameRule) → AnswersCut r old new → frame_of old ≡ bad rule → r ≡ Err (Bad rule)
named (Ok (cut.Message h m)) old new rule is e = absurd (bad_apart (length m) h rule (sym e ∙ is.0))
  where
    bad_apart : (n : ℕ) (k : Header) (x : FrameRule) → bad x ≡ whole k n → ⊥
    bad_apart n k x d = cc
named (Ok cut.NotYet) old new rule is e = absurd (not_need (frame_of old) rule e is.0)
named (Err (Bad other)) old new rule is e = ap (λ (x : FrameRule). Err (Bad x)) (same_rule other rule (sym is.0 ∙ e))
  where
    same_rule : (x y : FrameRule) → bad x ≡ bad y → x ≡ y
    same_rule x y d = cc
named (Err NoMemory) old new rule is e = absurd (not_whole (frame_of old) rule e is.0)

naming : (r : Result Cut FrameError) (old new : List ℕ) (rule : FrameRule) → AnswersCut r old new → r ≡ Err (Bad rule) → frame_of old ≡ bad rule
naming r old new rule is e = (subst (λ (x : Result Cut FrameError). AnswersCut x old new) e is).0

pub names_broken : (r : Result Cut FrameError) (old new : List ℕ) → IsBytes old → AnswersCut r old new → (rule : FrameRule) → (r ≡ Err (Bad rule) → BeginsBroken old rule) × (BeginsBroken old rule → r ≡ Err (Bad rule))
names_broken r old new fits is rule = (
  λ e. found_broken old rule fits (naming r old new rule is e),
  λ b. named r old new rule is (broken_read old rule fits b),
)

pub err_stays : (r : Result Cut FrameError) (old new : List ℕ) → AnswersCut r old new → OnErr r (new ≡ old)
err_stays (Ok c) old new is = tt
err_stays (Err (Bad rule)) old new is = is.1
err_stays (Err NoMemory) old new is = is.1

-- ---- what was given

pub all_push : (given : List Message) (m : Message) → AllByRecursion IsMessage given → IsMessage m → AllByRecursion IsMessage (given ++ m ∷ [])
all_push [] m h is = (is, tt)
all_push (x ∷ given) m h is = (h.0, all_push given m h.1 is)

pub joined-push : (given : List Message) (m : Message) → joined (given ++ m ∷ []) ≡ joined given ++ m.bytes
joined-push [] m = append-nil m.bytes
joined-push (x ∷ given) m = ap (λ (l : List ℕ). x.bytes ++ l) (joined-push given m) ∙ sym (append_assoc x.bytes (joined given) m.bytes)

pub still_at : (r : Result Cut FrameError) (old new fed : List ℕ) (given : List Message) → IsBytes old → AnswersCut r old new → CutterAt old fed given → CutterAt new fed (with_given r given)
still_at (Ok (cut.Message h m)) old new fed given fits is at =
    let f = found old h (length m) fits is.0 in
    let front : take (length m) old ≡ m = ap (take (length m)) is.1 ∙ take_at m new (length m) refl in
    let message : Message = record { header = h; bytes = m } in
    record {
      each = all_push given message at.each (subst (λ (b : List ℕ). Frame b h) front f.1);
      parts = at.parts ∙ ap (λ (l : List ℕ). joined given ++ l) is.1 ∙ sym (append_assoc (joined given) m new) ∙ ap (λ (l : List ℕ). l ++ new) (sym (joined-push given message));
    }
still_at (Ok cut.NotYet) old new fed given fits is at = subst (λ (l : List ℕ). CutterAt l fed given) (sym is.1) at
still_at (Err (Bad rule)) old new fed given fits is at = subst (λ (l : List ℕ). CutterAt l fed given) (sym is.1) at
still_at (Err NoMemory) old new fed given fits is at = subst (λ (l : List ℕ). CutterAt l fed given) (sym is.1) at

-- ---- all of them

pub some_len : (m : Message) → IsMessage m → 0 < length m.bytes
some_len m is = let body = has_body m.bytes m.header (length m.bytes) (frame_whole m.bytes m.header is) in omega (arith, body.start, body.end)

-- whole messages at the front are the first ones of the stream
pub record Front (given : List Message) (rest : List ℕ) (n : ℕ) : Type 0 where
  pub left : ℕ
  pub messages : taken_in n (joined given ++ rest) ≡ given ++ taken_in left rest
  pub rule : broken_remainder n (joined given ++ rest) ≡ broken_remainder left rest
  pub enough : length rest ≤ left

taken_front : (given : List Message) (rest : List ℕ) (n : ℕ) → AllByRecursion IsMessage given → length (joined given ++ rest) ≤ n → Front given rest n
taken_front [] rest n all le = record { left = n; messages = refl; rule = refl; enough = le }
taken_front (m ∷ given) rest zero all le =
    let some = some_len m all.0 in
    absurd (omega (arith, le, some, length-append (m.bytes ++ joined given) rest, length-append m.bytes (joined given)))
taken_front (m ∷ given) rest (suc n) all le =
    let some = some_len m all.0 in
    let stream = joined (m ∷ given) ++ rest in
    let later = joined given ++ rest in
    let grouped : stream ≡ m.bytes ++ later = append_assoc m.bytes (joined given) rest in
    let read : frame_of stream ≡ whole m.header (length m.bytes) = ap frame_of grouped ∙ stays_whole m.bytes later m.header (length m.bytes) (frame_whole m.bytes m.header all.0) in
    let front : take (length m.bytes) stream ≡ m.bytes = ap (take (length m.bytes)) grouped ∙ take_at m.bytes later (length m.bytes) refl in
    let back : drop (length m.bytes) stream ≡ later = ap (drop (length m.bytes)) grouped ∙ drop_at m.bytes later (length m.bytes) refl in
    let others = taken_front given rest n all.1 (omega (arith, le, some, ap (λ (l : List ℕ). length l) grouped, length-append m.bytes later)) in
    record {
      left = others.left;
      messages =
          ap (λ (r : Read). first_taken r stream (taken_in n)) read
          ∙ ap (λ (b : List ℕ). record { header = m.header; bytes = b } ∷ taken_in n (drop (length m.bytes) stream)) front
          ∙ ap (λ (l : List ℕ). m ∷ taken_in n l) back
          ∙ ap (λ (l : List Message). m ∷ l) others.messages;
      rule =
          ap (λ (r : Read). rule_remainder r stream (broken_remainder n)) read
          ∙ ap (broken_remainder n) back
          ∙ others.rule;
      enough = others.enough;
    }

need_ends : (n : ℕ) (bytes : List ℕ) (r : Read) → frame_of bytes ≡ r → IsNeed r → (taken_in n bytes ≡ []) × (broken_remainder n bytes ≡ None)
need_ends zero bytes r e is = (refl, refl)
need_ends (suc n) bytes (need k) e is = (ap (λ (r : Read). first_taken r bytes (taken_in n)) e, ap (λ (r : Read). rule_remainder r bytes (broken_remainder n)) e)
need_ends (suc n) bytes (bad rule) e is = elim is [ ]
need_ends (suc n) bytes (whole h k) e is = elim is [ ]

bad_ends : (n : ℕ) (bytes : List ℕ) (rule : FrameRule) → 16 ≤ length bytes → length bytes ≤ n → frame_of bytes ≡ bad rule → (taken_in n bytes ≡ []) × (broken_remainder n bytes ≡ Some rule)
bad_ends zero bytes rule head le e = absurd (omega (arith, head, le))
bad_ends (suc n) bytes rule head le e = (ap (λ (r : Read). first_taken r bytes (taken_in n)) e, ap (λ (r : Read). rule_remainder r bytes (broken_remainder n)) e)

pub all_given : (r : Result Cut FrameError) (old new fed : List ℕ) (given : List Message) → AnswersCut r old new → CutterAt old fed given → AreAll r fed given
unfolding messages_in broken_in
all_given (Ok (cut.Message h m)) old new fed given is at = tt
all_given (Ok cut.NotYet) old new fed given is at =
    let front = taken_front given old (length fed) at.each (omega (arith, ap (λ (l : List ℕ). length l) at.parts)) in
    let ends = need_ends front.left old (frame_of old) refl is.0 in (
      ap (taken_in (length fed)) at.parts ∙ front.messages ∙ ap (λ (l : List Message). given ++ l) ends.0 ∙ append-nil given,
      ap (broken_remainder (length fed)) at.parts ∙ front.rule ∙ ends.1,
    )
all_given (Err (Bad rule)) old new fed given is at =
    let front = taken_front given old (length fed) at.each (omega (arith, ap (λ (l : List ℕ). length l) at.parts)) in
    let broken = reads_bad old rule is.0 in
    let ends = bad_ends front.left old rule broken.head front.enough is.0 in (
      ap (taken_in (length fed)) at.parts ∙ front.messages ∙ ap (λ (l : List Message). given ++ l) ends.0 ∙ append-nil given,
      ap (broken_remainder (length fed)) at.parts ∙ front.rule ∙ ends.1,
    )
all_given (Err NoMemory) old new fed given is at = tt
