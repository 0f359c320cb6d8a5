-- Of a peer of which nothing is known, nothing is kept.
use Rattle.std.proofs.Common.{◌≡◌, ◌==◌, ◌<◌, ℕ, zero, suc, Bool, true, false, List, [], ◌∷◌, length, drop, get_or, Option, Some, None, Result, Ok, Err, refl, sym, ap, ◌∙◌, inl, inr, cond, arith}
use Rattle.std.specs.Prelude.{◌||◌, nat_eq, if◌then◌else◌, is_some, map, OnOk, OnErr}
use Rattle.std.specs.List.{list_any}
use Rattle.std.specs.Str.{bytes_eq}
use Rattle.std.proofs.lemmas.Bool.{or_cases, cases_Bool, eq-eqb, false≢true, or_parts}
use Rattle.std.proofs.lemmas.Slice.Eq.{bytes_eq-Decides}
use Rattle.bus_policy.specs.declared.level.Level.{Level}
use Rattle.bus_policy.specs.declared.level.Level.TheVariants as level
use Rattle.bus_policy.specs.declared.policy.PolicyRule.{PolicyRule}
use Rattle.bus_policy.specs.declared.peer.Peer.{Peer}
use Rattle.bus_policy.specs.declared.peer.RawNews.{RawNews}
use Rattle.bus_policy.specs.declared.peer.RawNews.TheVariants as raw
use Rattle.bus_policy.specs.Levels.{greater, level_by, rules_level, given_level, pattern_matches}
use Rattle.bus_policy.specs.Events.{is_unique_like}
use Rattle.bus_policy.specs.Watching.{Known, unknown, known_of, name_level, or_each, with_name, with_call, with_news, changed_if, speaks_of, tells, KeepsKnown}
use Rattle.bus_policy.proofs.Greatest.{greater_none}

-- ---- what tells something makes a peer known

abbrev pub IsUnknown : {S H : Type 0} → List PolicyRule → Peer S H → Type 0
IsUnknown rules peer = known_of rules (Some peer) ≡ unknown rules

flags_known : (test : PolicyRule → Bool) (rules : List PolicyRule) (flags : List Bool) → list_any test rules ≡ true → or_each test rules flags ≡ map (λ rule. false) rules → ⊥
flags_known test [] flags e is = false≢true e
flags_known test (r ∷ rules) [] e is = let n : zero ≡ suc (length (map (λ (rule : PolicyRule). false) rules)) = ap length is in omega arith
flags_known test (r ∷ rules) (f ∷ flags) e is =
    elim (or_cases (test r) (list_any test rules) e) [
      | inl x ↦ false≢true (sym (ap (λ (l : List Bool). get_or l 0 true) is) ∙ ap (λ (b : Bool). b || f) x)
      | inr x ↦ flags_known test rules flags x (ap (λ (l : List Bool). drop 1 l) is)
    ]

pub telling_known : (rules : List PolicyRule) (news : RawNews) (k : Known) → tells rules news ≡ true → with_news rules news k ≡ unknown rules → ⊥
telling_known rules (raw.Name name) k e is = flags_known (λ rule. pattern_matches rule.pattern name.now) rules k.meant e (ap (λ (x : Known). x.meant) is)
telling_known rules (raw.Message true call) k e is = false≢true (sym (ap (λ (x : Known). x.wrote) is))
telling_known rules (raw.Message false None) k e is = false≢true e
telling_known rules (raw.Message false (Some n)) k e is =
    false≢true (sym (ap (λ (x : Known). x.waits n) is) ∙ ap (λ (b : Bool). if b then true else k.waits n) (eq-eqb n n refl))

-- ---- what tells nothing changes nothing

flags_untold : (test : PolicyRule → Bool) (rules : List PolicyRule) (flags : List Bool) → list_any test rules ≡ false → or_each test rules flags ≡ flags
flags_untold test [] flags e = refl
flags_untold test (r ∷ rules) [] e = refl
flags_untold test (r ∷ rules) (f ∷ flags) e =
    let none = or_parts (test r) (list_any test rules) e in
    λ i. (none.0 i || f) ∷ flags_untold test rules flags none.1 i

level_untold : (rules : List PolicyRule) (name : List ℕ) → speaks_of rules name ≡ false → rules_level rules name ≡ level.None
level_untold [] name e = refl
level_untold (r ∷ rules) name e =
    let none = or_parts (pattern_matches r.pattern name) (speaks_of rules name) e in
    λ i. greater (if none.0 i then given_level r.grant else level.None) (level_untold rules name none.1 i)

name_untold : (u : Bool) (l : Level) → l ≡ level.None → (if u then level.None else l) ≡ level.None
name_untold true l e = refl
name_untold false l e = e

pub untold : (rules : List PolicyRule) (news : RawNews) (k : Known) → tells rules news ≡ false → with_news rules news k ≡ k
untold rules (raw.Name name) k e = λ i. record k {
  had = same i;
  meant = flags_untold (λ rule. pattern_matches rule.pattern name.now) rules k.meant e i;
}
  where
    none : name_level rules name.now ≡ level.None
    none = name_untold (is_unique_like name.now) (rules_level rules name.now) (level_untold rules name.now e)

    same : greater (name_level rules name.now) k.had ≡ k.had
    same = ap (λ (l : Level). greater l k.had) none ∙ greater_none k.had
untold rules (raw.Message true call) k e = absurd (false≢true (sym e))
untold rules (raw.Message false None) k e = refl
untold rules (raw.Message false (Some n)) k e = absurd (false≢true (sym e))

-- ---- tables

pub put_keeps : {S H : Type 0} (rules : List PolicyRule) (name : List ℕ) (before now : List ℕ → Option (Peer S H)) (peer : Peer S H) → (IsUnknown rules peer → ⊥)
    → ((q : List ℕ) → now q ≡ cond (bytes_eq name q) (Some peer) (before q)) → KeepsKnown rules before → KeepsKnown rules now
put_keeps rules name before now peer known put kept = λ q e.
    elim (cases_Bool (bytes_eq name q)) [
      | inl h ↦
          let is : now q ≡ Some peer = put q ∙ ap (λ (b : Bool). cond b (Some peer) (before q)) h in
          absurd (known (sym (ap (known_of rules) is) ∙ e))
      | inr h ↦
          let is : now q ≡ before q = put q ∙ ap (λ (b : Bool). cond b (Some peer) (before q)) h in
          is ∙ kept q (sym (ap (known_of rules) is) ∙ e)
    ]

pub same_keeps : {S H : Type 0} (rules : List PolicyRule) (before now : List ℕ → Option (Peer S H)) → ((q : List ℕ) → now q ≡ before q) → KeepsKnown rules before → KeepsKnown rules now
same_keeps rules before now same kept = λ q e. same q ∙ kept q (sym (ap (known_of rules) (same q)) ∙ e)

-- a peer that stands in a table that keeps those that are known
pub there_known : {S H : Type 0} (rules : List PolicyRule) (name : List ℕ) (before : List ℕ → Option (Peer S H)) (peer : Peer S H) → before name ≡ Some peer → KeepsKnown rules before → IsUnknown rules peer → ⊥
there_known rules name before peer there kept e = absurd_some (sym there ∙ kept name (ap (known_of rules) there ∙ e))
  where
    absurd_some : {A : Type 0} {x : A} → Some x ≡ None → ⊥
    absurd_some e = false≢true (sym (ap is_some e))

-- a peer that learned, or couldn't for want of memory
pub learned_known : {A E S H : Type 0} (r : Result A E) (rules : List PolicyRule) (news : RawNews) (old new : Peer S H) → tells rules news ≡ true
    → OnOk r (known_of rules (Some new) ≡ with_news rules news (known_of rules (Some old))) → OnErr r (known_of rules (Some new) ≡ known_of rules (Some old)) → (IsUnknown rules old → ⊥) → IsUnknown rules new → ⊥
learned_known (Ok x) rules news old new tell ok err known e = telling_known rules news (known_of rules (Some old)) tell (sym ok ∙ e)
learned_known (Err x) rules news old new tell ok err known e = known (sym err ∙ e)

pub unchanged : (rules : List PolicyRule) (news : RawNews) (b : Bool) (k : Known) → tells rules news ≡ false → k ≡ changed_if b (with_news rules news) k
unchanged rules news true k e = sym (untold rules news k e)
unchanged rules news false k e = refl

-- ---- what is forgotten

pub forgotten : {S H : Type 0} (rules : List PolicyRule) (name : List ℕ) (before now : List ℕ → Option (Peer S H)) → ((q : List ℕ) → now q ≡ cond (bytes_eq name q) None (before q))
    → known_of rules (before name) ≡ unknown rules → (q : List ℕ) → known_of rules (now q) ≡ known_of rules (before q)
forgotten rules name before now gone blank q =
    elim (cases_Bool (bytes_eq name q)) [
      | inl h ↦
          ap (known_of rules) (gone q ∙ ap (λ (b : Bool). cond b None (before q)) h)
          ∙ sym blank
          ∙ ap (λ (n : List ℕ). known_of rules (before n)) ((bytes_eq-Decides name q).0 h)
      | inr h ↦ ap (known_of rules) (gone q ∙ ap (λ (b : Bool). cond b None (before q)) h)
    ]

-- a table that keeps those that are known, but maybe for one
abbrev pub KeepsBut : {S H : Type 0} → List PolicyRule → List ℕ → (List ℕ → Option (Peer S H)) → Type 0
KeepsBut rules name peers = (q : List ℕ) → bytes_eq name q ≡ false → known_of rules (peers q) ≡ unknown rules → peers q ≡ None

pub forgotten_keeps : {S H : Type 0} (rules : List PolicyRule) (name : List ℕ) (before now : List ℕ → Option (Peer S H)) → ((q : List ℕ) → now q ≡ cond (bytes_eq name q) None (before q))
    → KeepsBut rules name before → KeepsKnown rules now
forgotten_keeps rules name before now gone others = λ q e.
    elim (cases_Bool (bytes_eq name q)) [
      | inl h ↦ gone q ∙ ap (λ (b : Bool). cond b None (before q)) h
      | inr h ↦
          let is : now q ≡ before q = gone q ∙ ap (λ (b : Bool). cond b None (before q)) h in
          is ∙ others q h (sym (ap (known_of rules) is) ∙ e)
    ]

pub known_keeps : {S H : Type 0} (rules : List PolicyRule) (name : List ℕ) (before : List ℕ → Option (Peer S H)) → (known_of rules (before name) ≡ unknown rules → ⊥) → KeepsBut rules name before → KeepsKnown rules before
known_keeps rules name before known others = λ q e.
    elim (cases_Bool (bytes_eq name q)) [
      | inl h ↦ absurd (known (ap (λ (n : List ℕ). known_of rules (before n)) ((bytes_eq-Decides name q).0 h) ∙ e))
      | inr h ↦ others q h e
    ]

pub end_keeps : {S H : Type 0} (rules : List PolicyRule) (name : List ℕ) (before now : List ℕ → Option (Peer S H)) → ((q : List ℕ) → bytes_eq name q ≡ false → now q ≡ before q) → KeepsKnown rules before → KeepsBut rules name now
end_keeps rules name before now same kept = λ q apart e. same q apart ∙ kept q (sym (ap (known_of rules) (same q apart)) ∙ e)

-- ---- what a peer has

pub some_wait : (serials : List ℕ) → (length serials ≡ 0 → ⊥) → ((n : ℕ) → list_any (nat_eq n) serials ≡ false) → ⊥
some_wait [] some none = some refl
some_wait (n ∷ serials) some none = false≢true (sym (none n) ∙ ap (λ (b : Bool). b || list_any (nat_eq n) serials) (eq-eqb n n refl))

pub none_wait : (serials : List ℕ) (n : ℕ) → length serials ≡ 0 → list_any (nat_eq n) serials ≡ false
none_wait [] n e = refl
none_wait (m ∷ serials) n e = absurd (omega arith)

pub all_false : (flags : List Bool) (rules : List PolicyRule) → length flags ≡ length rules → ((i : ℕ) → i < length flags → get_or flags i true ≡ false) → flags ≡ map (λ rule. false) rules
all_false [] [] e none = refl
all_false [] (r ∷ rules) e none = absurd (omega arith)
all_false (f ∷ flags) [] e none = absurd (omega arith)
all_false (f ∷ flags) (r ∷ rules) e none =
    let rest = all_false flags rules (omega arith) (λ i lt. none (suc i) (omega arith)) in
    λ i. none 0 (omega arith) i ∷ rest i

pub none_raised : (rules : List PolicyRule) (i : ℕ) → get_or (map (λ (rule : PolicyRule). false) rules) i false ≡ false
none_raised [] i = refl
none_raised (r ∷ rules) zero = refl
none_raised (r ∷ rules) (suc i) = none_raised rules i
