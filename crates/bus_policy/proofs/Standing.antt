-- Laws of names: levels stay, and what isn't known needn't be kept.
use Rattle.std.proofs.Common.{◌≡◌, ◌≤◌, ◌<◌, ℕ, Bool, true, false, List, [], ◌∷◌, ◌++◌, Option, Some, None, refl, sym, ap, subst, ◌∙◌, inl, inr, arith}
use Rattle.std.specs.Prelude.{◌||◌, ◌&&◌, ◌⊎◌, nat_lt, nat_le, if◌then◌else◌, is_some}
use Rattle.std.specs.List.{list_any, cons_option}
use Rattle.std.specs.Str.{bytes_eq}
use Rattle.std.proofs.lemmas.Bool.{cases_Bool, and_parts, leb-true, le-leb, ltb-true, ltb-false, false≢true}
use Rattle.bus_frame.specs.declared.header.Header.{Header}
use Rattle.bus_frame.specs.declared.message.MessageType.{MessageType}
use Rattle.bus_frame.specs.declared.message.MessageType.TheVariants as type
use Rattle.bus_frame.specs.Bodies.{three_texts}
use Rattle.bus_rules.specs.Rules.{says}
use Rattle.bus_policy.specs.declared.level.Level.{Level}
use Rattle.bus_policy.specs.declared.level.Level.TheVariants as level
use Rattle.bus_policy.specs.declared.policy.RuleKind.{RuleKind}
use Rattle.bus_policy.specs.declared.policy.PolicyRule.{PolicyRule}
use Rattle.bus_policy.specs.declared.verdict.Verdict.{Verdict}
use Rattle.bus_policy.specs.declared.verdict.Verdict.TheVariants as verdict
use Rattle.bus_policy.specs.Levels.{rank, greater, is_at_least, rules_level}
use Rattle.bus_policy.specs.Driver.{driver}
use Rattle.bus_policy.specs.Events.{Event, Judged, is_bus_side, is_unique_like, is_signal_type, is_signal, tells_owner, names_of, has_written, is_addressed_by, peer_waits}
use Rattle.bus_policy.specs.Verdicts.{Sight, pass_if, has_level, owner_signal, broadcast, bus_signal, of_bus, of_client, verdict_in}
use Rattle.bus_policy.specs.Watching.{Owners, Known, unknown, known_by, known_after, with_event, names_level, name_level, level_if, level_by_parts, level_after, leave_after, any_leave, name_told, sight_after}
use Rattle.bus_policy.specs.Laws.{LevelsStay, HiddenOwnersAreUntold, BadOwnersAreUntold, AsAtFirst, UnheardOfIsAsAtFirst, LaterEventsTellAll}
use Rattle.bus_policy.proofs.Leave.{all_flags}
use Rattle.bus_policy.proofs.Opening.{known_none}
use Rattle.bus_policy.proofs.Sights.{names_told, written_next, known_next}

-- ---- levels

abbrev pub Reaches : Level → Level → Type 0
Reaches a b = (wanted : Level) → is_at_least wanted a ≡ true → is_at_least wanted b ≡ true

greater_is : (a b : Level) → (greater a b ≡ a) × (rank b ≤ rank a) ⊎ (greater a b ≡ b) × (rank a ≤ rank b)
greater_is a b = elim (cases_Bool (nat_lt (rank a) (rank b))) [
  | inl e ↦ let less : rank a < rank b = ltb-true (rank a) (rank b) e in inr ((λ i. if e i then b else a), omega arith)
  | inr e ↦ inl ((λ i. if e i then b else a), ltb-false (rank a) (rank b) e)
]

at_least_of : (wanted a b : Level) → rank a ≤ rank b → is_at_least wanted a ≡ true → is_at_least wanted b ≡ true
at_least_of wanted a b le e = let w : rank wanted ≤ rank a = leb-true (rank wanted) (rank a) e in le-leb (rank wanted) (rank b) (omega arith)

greater_left : (a b : Level) → Reaches a (greater a b)
greater_left a b wanted e = elim (greater_is a b) [
  | inl x ↦ subst (λ (l : Level). is_at_least wanted l ≡ true) (sym x.0) e
  | inr x ↦ subst (λ (l : Level). is_at_least wanted l ≡ true) (sym x.0) (at_least_of wanted a b x.1 e)
]

greater_right : (a b : Level) → Reaches b (greater a b)
greater_right a b wanted e = elim (greater_is a b) [
  | inl x ↦ subst (λ (l : Level). is_at_least wanted l ≡ true) (sym x.0) (at_least_of wanted b a x.1 e)
  | inr x ↦ subst (λ (l : Level). is_at_least wanted l ≡ true) (sym x.0) e
]

greater_more : (a b c d : Level) → Reaches a c → Reaches b d → Reaches (greater a b) (greater c d)
greater_more a b c d f g wanted e = elim (greater_is a b) [
  | inl x ↦ greater_left c d wanted (f wanted (subst (λ (l : Level). is_at_least wanted l ≡ true) x.0 e))
  | inr x ↦ greater_right c d wanted (g wanted (subst (λ (l : Level). is_at_least wanted l ≡ true) x.0 e))
]

names_more : (rules : List PolicyRule) (told : Option (List ℕ)) (names : List (List ℕ)) → Reaches (names_level rules names) (names_level rules (cons_option told names))
names_more rules None names wanted e = e
names_more rules (Some name) names wanted e = greater_right (name_level rules name) (names_level rules names) wanted e

level_more : (a b : Bool) (l : Level) → Reaches (level_if b l) (level_if (a || b) l)
level_more true true l wanted e = e
level_more true false level.None wanted e = e
level_more true false level.See wanted e = at_least_of wanted level.None level.See (omega arith) e
level_more true false level.Talk wanted e = at_least_of wanted level.None level.Talk (omega arith) e
level_more true false level.Own wanted e = at_least_of wanted level.None level.Own (omega arith) e
level_more false b l wanted e = e

parts_more : (driver_name unique : Bool) (by_rules had more : Level) (a b : Bool) (own : Level) → Reaches had more
    → Reaches (if driver_name then level.Talk else (if unique then greater had (greater (level_if b level.See) own) else by_rules))
    (if driver_name then level.Talk else (if unique then greater more (greater (level_if (a || b) level.See) own) else by_rules))
parts_more true unique by_rules had more a b own f wanted e = e
parts_more false true by_rules had more a b own f wanted e =
    greater_more had (greater (level_if b level.See) own) more (greater (level_if (a || b) level.See) own) f
    (greater_more (level_if b level.See) own (level_if (a || b) level.See) own (level_more a b level.See) (λ w x. x)) wanted e
parts_more false false by_rules had more a b own f wanted e = e

pub levels_stay : LevelsStay
levels_stay rules client owners noted later wanted name e =
    let told = name_told name later in
    let names = names_of owners noted name in
    let written = is_unique_like name && is_addressed_by name later.event in
    let more = parts_more (bytes_eq name driver) (is_unique_like name) (rules_level rules name) (names_level rules names) (names_level rules (cons_option told names)) written (has_written noted name) (level_if (says client name) level.Talk) (names_more rules told names) wanted e in
    subst (λ (l : Level). is_at_least wanted l ≡ true)
    (sym (ap (λ (ns : List (List ℕ)). level_by_parts rules client name (names_level rules ns) (has_written (later ∷ noted) name)) (names_told owners noted later name)
    ∙ ap (level_by_parts rules client name (names_level rules (cons_option told names))) (written_next noted later name)))
    more

-- ---- owners

by_signal : (sight : Sight) (e : Event) (kind : MessageType) → is_signal_type kind ≡ true → of_bus sight e kind ≡ pass_if (bus_signal sight e)
by_signal sight e type.MethodCall is = absurd (false≢true is)
by_signal sight e type.MethodReturn is = absurd (false≢true is)
by_signal sight e type.Error is = absurd (false≢true is)
by_signal sight e type.Signal is = refl
by_signal sight e (type.Unknown n) is = absurd (false≢true is)

owner_verdict : (sight : Sight) (e : Event) → is_bus_side e.side ≡ true → tells_owner e.header ≡ true → verdict_in sight e ≡ pass_if (owner_signal sight (three_texts e.header e.bytes))
unfolding verdict_in
owner_verdict sight e side tells =
    let outer = and_parts ((is_signal e.header && says e.header.sender driver) && says e.header.interface driver) _ tells in
    let inner = and_parts (is_signal e.header && says e.header.sender driver) (says e.header.interface driver) outer.0 in
    let first = and_parts (is_signal e.header) (says e.header.sender driver) inner.0 in
    ap (λ (b : Bool). if b then of_bus sight e e.header.kind else of_client sight e e.header.kind) side
    ∙ by_signal sight e e.header.kind first.0
    ∙ ap (λ (b : Bool). pass_if (if b then owner_signal sight (three_texts e.header e.bytes) else (is_some e.header.destination || broadcast sight e.header e.header.sender))) tells

pub hidden_untold : HiddenOwnersAreUntold
hidden_untold rules client owners noted e name old new side tells texts hidden =
    let sight = sight_after rules client owners noted in
    owner_verdict sight e side tells ∙ ap (λ (o : Option (List ℕ × List ℕ × List ℕ)). pass_if (owner_signal sight o)) texts ∙ ap pass_if hidden

pub bad_untold : BadOwnersAreUntold
bad_untold rules client owners noted e side tells texts =
    let sight = sight_after rules client owners noted in
    owner_verdict sight e side tells ∙ ap (λ (o : Option (List ℕ × List ℕ × List ℕ)). pass_if (owner_signal sight o)) texts

-- ---- what isn't known

leave_by : (rules : List PolicyRule) (owners : Owners) (noted : List Judged) (name : List ℕ) (kind : RuleKind) (header : Header) → any_leave kind name header rules (known_after rules owners noted name).meant ≡ leave_after rules owners noted kind name header
leave_by rules owners noted name kind header = all_flags kind name header (names_of owners noted name) rules

pub unheard_of : UnheardOfIsAsAtFirst
unheard_of rules client owners noted name is =
    let first : known_after rules owners noted name ≡ known_after rules [] [] name = is ∙ known_none rules name in
    record {
      level = ap (λ (k : Known). level_by_parts rules client name k.had k.wrote) first;
      leave = λ kind header.
          sym (leave_by rules owners noted name kind header) ∙ ap (λ (k : Known). any_leave kind name header rules k.meant) first ∙ leave_by rules [] [] name kind header;
      waits = λ serial. ap (λ (k : Known). k.waits serial) is;
    }

pub later_tell : LaterEventsTellAll
later_tell rules owners [] noted name is = is ∙ known_none rules name
later_tell rules owners (j ∷ later) noted name is =
    sym (known_next rules owners (later ++ noted) j name) ∙ ap (with_event rules j name) (later_tell rules owners later noted name is) ∙ known_next rules [] later j name
