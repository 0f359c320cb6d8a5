-- Two recordings that differ in a name that may not be seen, and calls whose serials rise: by
-- computing.
use Rattle.std.proofs.Common.{◌≡◌, ◌≢◌, inl, inr, ℕ, List, [], ◌∷◌, true, Some, refl, ap, arith}
use Rattle.std.specs.Prelude.{codes}
use Rattle.std.specs.List.{AllByRecursion}
use Rattle.std.specs.Str.{is_utf8, chars}
use Rattle.std.specs.Char.{encode_utf8}
use Rattle.bus_frame.specs.Places.{aligned_at, number_at, text_at, long_text_at}
use Rattle.bus_frame.specs.Values.{array_head_at}
use Rattle.bus_frame.specs.Bodies.{texts_at, elements_place, names_place, names_in}
use Rattle.bus_policy.specs.declared.verdict.Verdict.TheVariants as verdict
use Rattle.bus_policy.specs.Driver.{handler_of}
use Rattle.bus_policy.specs.Events.{Event, Judged, is_sent}
use Rattle.bus_policy.specs.Laws.{Rising}
use Rattle.bus_policy.specs.Levels.{pattern_matches}
use Rattle.bus_policy.specs.Verdicts.{verdict_in}
use Rattle.bus_proxy.specs.Laws.{verdict_on, DifferUnseen, AlikeButUnseen}
use Rattle.bus_proxy.specs.Outs.{seen_names, level_in}
use Rattle.bus_proxy.specs.Rows.{names}
use Rattle.fl_samples.specs.Lists.{bar_seen, asked, other_names, one_recording, other_recording, two_calls}

listed : names_in names.header names.bytes ≡ Some (codes "org.bar" ∷ codes ":1.1" ∷ [])
unfolding is_utf8 chars encode_utf8 names_in names_place elements_place texts_at array_head_at long_text_at text_at number_at aligned_at
listed = refl

relisted : names_in other_names.header other_names.bytes ≡ Some (codes "org.bar" ∷ codes ":1.25" ∷ [])
unfolding is_utf8 chars encode_utf8 names_in names_place elements_place texts_at array_head_at long_text_at text_at number_at aligned_at
relisted = refl

reduced : verdict_on bar_seen (asked ∷ []) names ≡ verdict.FilterNameList
unfolding verdict_in handler_of is_utf8 chars encode_utf8 names_in names_place elements_place texts_at array_head_at long_text_at text_at number_at aligned_at pattern_matches
reduced = refl

seen : seen_names (level_in bar_seen (asked ∷ [])) (codes "org.bar" ∷ codes ":1.25" ∷ []) ≡ seen_names (level_in bar_seen (asked ∷ [])) (codes "org.bar" ∷ codes ":1.1" ∷ [])
unfolding verdict_in handler_of pattern_matches
seen = refl

differ : DifferUnseen bar_seen (asked ∷ []) names other_names
differ = record {
  serial = 1;
  is = record { side = refl; is = refl; driver = refl; answers = refl };
  reduced = reduced;
  same = refl;
  start = refl;
  fields = refl;
  names = codes "org.bar" ∷ codes ":1.1" ∷ [];
  others = codes "org.bar" ∷ codes ":1.25" ∷ [];
  listed = listed;
  relisted = relisted;
  seen = seen;
}

pub alike : AlikeButUnseen bar_seen one_recording other_recording
alike = (inr differ, (inl refl, tt))

pub apart : one_recording ≢ other_recording
apart same = lengths (body one_recording) (body other_recording) refl refl (ap body same)
  where
    body : List Event → ℕ
    body [] = 0
    body (e ∷ before) = e.header.body_len

    lengths : (a b : ℕ) → a ≡ 25 → b ≡ 26 → a ≡ b → ⊥
    lengths a b first second same = omega (arith, first, second, same)

pub rises : Rising two_calls
unfolding verdict_in handler_of
rises = (λ t. refl, (λ t. refl, tt))

pub sent : AllByRecursion (λ (j : Judged). is_sent j ≡ true) two_calls
unfolding verdict_in handler_of
sent = (refl, (refl, tt))
