-- Words as rules.
use Rattle.std.proofs.Common.{◌≡◌, ℕ, true, false, List, [], ◌∷◌, ◌++◌, Option, Some, None, Result, Ok, Err, OnOk, OnErr, IfErr, IsErrOf, refl, sym, ap, ◌∙◌, inl, inr}
use Rattle.std.specs.Prelude.{codes, nat_eq, option_and_then, option_to_list}
use Rattle.std.specs.Option.{is_some}
use Rattle.std.specs.List.{starts_with}
use Rattle.std.specs.Str.{bytes_eq}
use Rattle.std.proofs.lemmas.Slice.Eq.{bytes_eq-Decides}
use Rattle.std.proofs.lemmas.Bool.{cases_Bool, false≢true}
use Rattle.std.proofs.lemmas.List.{append-nil}
use Rattle.fp_keyfile.specs.Lines.{split_at}
use Rattle.bus_rules.specs.declared.rule.Rule.{Rule}
use Rattle.bus_rules.specs.Rules.{IsRule, IsNoRule}
use Rattle.bus_policy.specs.declared.policy.Grant.TheVariants as grant
use Rattle.bus_policy.specs.declared.policy.PolicyError.{PolicyError}
use Rattle.bus_policy.specs.declared.policy.PolicyError.TheVariants as error
use Rattle.bus_policy.specs.declared.policy.PolicyRule.{PolicyRule}
use Rattle.bus_policy.specs.declared.policy.RuleKind.{RuleKind}
use Rattle.bus_policy.specs.Levels.{is_pattern}
use Rattle.fl_options.specs.Rules.{level_named, kind_named, message_rule, rule_read, rule_with, rule_of_parts, word_rule, is_rule}
use Rattle.fl_options.proofs.Splits.{first_is}
use Rattle.fl_options.proofs.Reading.{back, none_read}

-- the rule of a word by its cut
pub word_cut : (word : List ℕ) (o : Option (List ℕ × List ℕ)) → o ≡ split_at 61 word → option_and_then rule_of_parts o ≡ word_rule word
unfolding word_rule
word_cut word o is = ap (option_and_then rule_of_parts) is

-- ---- a rule for messages, as it is added

abbrev adds : RuleKind → List ℕ → List ℕ → List PolicyRule
adds kind pattern rule = option_to_list (message_rule kind (pattern, rule))

no_pattern : (kind : RuleKind) (pattern rule : List ℕ) → is_pattern pattern ≡ false → adds kind pattern rule ≡ []
no_pattern kind pattern rule bad = by (rule_read rule) refl
  where
    by : (o : Option Rule) → rule_read rule ≡ o → adds kind pattern rule ≡ []
    by None e = rw e refl
    by (Some r) e = rw (e, bad) refl

pub added : {E : Type 0} (kind : RuleKind) (pattern rule : List ℕ) (old new : List PolicyRule) (r : Result (Unit {0}) PolicyError) (u : Result (Unit {0}) E)
    → OnOk r ((read : Rule) × IsRule read rule × (new ≡ old ++ record { pattern = pattern; grant = grant.Rule kind read } ∷ []))
    → (is_pattern pattern ≡ false → IsErrOf r error.Bad) → (IsErrOf r error.Bad → is_pattern pattern ≡ true → IsNoRule rule) → OnErr r (new ≡ old)
    → OnOk u (IfErr r (λ e. e ≡ error.Bad)) → OnOk u (new ≡ old ++ adds kind pattern rule)
added kind pattern rule old new r (Err e) ok bad none err goes = tt
added kind pattern rule old new (Ok t) (Ok u) ok bad none err goes =
    elim (cases_Bool (is_pattern pattern)) [
      | inl good ↦
          let read = back ok.0 rule ok.1 in
          let is : adds kind pattern rule ≡ record { pattern = pattern; grant = grant.Rule kind ok.0 } ∷ [] = rw (read, good) refl in
          ok.2 ∙ ap (λ (l : List PolicyRule). old ++ l) (sym is)
      | inr wrong ↦ absurd (cc (bad wrong))
    ]
added kind pattern rule old new (Err error.Bad) (Ok u) ok bad none err goes =
    elim (cases_Bool (is_pattern pattern)) [
      | inl good ↦
          let read = none_read rule (none refl good) in
          let is : adds kind pattern rule ≡ [] = rw read refl in
          err ∙ sym (append-nil old) ∙ ap (λ (l : List PolicyRule). old ++ l) (sym is)
      | inr wrong ↦ err ∙ sym (append-nil old) ∙ ap (λ (l : List PolicyRule). old ++ l) (sym (no_pattern kind pattern rule wrong))
    ]
added kind pattern rule old new (Err error.NoMemory) (Ok u) ok bad none err goes = absurd (cc goes)

-- ---- rules are options

abbrev Begins : List ℕ → Type 0
Begins word = starts_with nat_eq word (codes "--") ≡ true

none_some : (r : PolicyRule) → None ≡ Some r → ⊥
none_some r e = cc

named : (name text known : List ℕ) → bytes_eq name known ≡ true → Begins (known ++ 61 ∷ text) → Begins (name ++ 61 ∷ text)
named name text known e h = ap (λ (l : List ℕ). starts_with nat_eq (l ++ 61 ∷ text) (codes "--")) ((bytes_eq-Decides name known).0 e) ∙ h

with_name : (name text : List ℕ) (r : PolicyRule) → rule_with (level_named name) (kind_named name) text ≡ Some r → Begins (name ++ 61 ∷ text)
with_name name text r h =
    elim (cases_Bool (bytes_eq name (codes "--see"))) [
      | inl e ↦ named name text (codes "--see") e refl
      | inr see ↦ elim (cases_Bool (bytes_eq name (codes "--talk"))) [
        | inl e ↦ named name text (codes "--talk") e refl
        | inr talk ↦ elim (cases_Bool (bytes_eq name (codes "--own"))) [
          | inl e ↦ named name text (codes "--own") e refl
          | inr own ↦ elim (cases_Bool (bytes_eq name (codes "--call"))) [
            | inl e ↦ named name text (codes "--call") e refl
            | inr call ↦ elim (cases_Bool (bytes_eq name (codes "--broadcast"))) [
              | inl e ↦ named name text (codes "--broadcast") e refl
              | inr other ↦ absurd (none_some r (rw (see, talk, own, call, other) at h))
            ]
          ]
        ]
      ]
    ]

pub options : (word : List ℕ) → is_rule word ≡ true → Begins word
unfolding word_rule
options word h = by (split_at 61 word) refl
  where
    some_rule : (p : List ℕ × List ℕ) → is_some (rule_of_parts p) ≡ true → Begins (p.0 ++ 61 ∷ p.1)
    some_rule p k = of (rule_of_parts p) refl
      where
        of : (o : Option PolicyRule) → rule_of_parts p ≡ o → Begins (p.0 ++ 61 ∷ p.1)
        of None e = absurd (false≢true (sym (ap is_some e) ∙ k))
        of (Some r) e = with_name p.0 p.1 r e

    by : (o : Option (List ℕ × List ℕ)) → split_at 61 word ≡ o → Begins word
    by None e = absurd (false≢true (sym (ap (λ o. is_some (option_and_then rule_of_parts o)) e) ∙ h))
    by (Some p) e = ap (λ (l : List ℕ). starts_with nat_eq l (codes "--")) (first_is 61 word p.0 p.1 e) ∙ some_rule p (sym (ap (λ o. is_some (option_and_then rule_of_parts o)) e) ∙ h)
