-- What a map of peers holds once one of them is put anew.
use Rattle.std.proofs.Common.{◌≡◌, ◌==◌, ℕ, Bool, true, false, List, Option, Some, None, Result, Ok, Err, refl, sym, ap, ◌∙◌, inl, inr, cond}
use Rattle.std.specs.Prelude.{if◌then◌else◌, OnErr}
use Rattle.std.specs.Str.{bytes_eq}
use Rattle.std.proofs.lemmas.Bool.{cases_Bool}
use Rattle.std.proofs.lemmas.Slice.Eq.{bytes_eq-Decides}
use Rattle.bus_policy.specs.declared.policy.PolicyRule.{PolicyRule}
use Rattle.bus_policy.specs.declared.peer.Peer.{Peer}
use Rattle.bus_policy.specs.Watching.{Known, unknown, known_of, without_call, changed_if}

pub on_err : {A E P : Type 0} (r : Result A E) → P → OnErr r P
on_err (Ok x) p = tt
on_err (Err e) p = p

pub err_then : {A E P Q : Type 0} (r : Result A E) → (P → Q) → OnErr r P → OnErr r Q
err_then (Ok x) f p = tt
err_then (Err e) f p = f p

pub same_known : {S H : Type 0} (rules : List PolicyRule) (a b : Option (Peer S H)) → a ≡ b → known_of rules a ≡ known_of rules b
same_known rules a b e = ap (known_of rules) e

-- a peer put anew, and the others
pub told : {S H : Type 0} (rules : List PolicyRule) (name q : List ℕ) (before : List ℕ → Option (Peer S H)) (peer : Peer S H) (f : Known → Known) → known_of rules (Some peer) ≡ f (known_of rules (before name))
    → known_of rules (cond (bytes_eq name q) (Some peer) (before q)) ≡ (if bytes_eq name q then f (known_of rules (before q)) else known_of rules (before q))
told rules name q before peer f e =
    elim (cases_Bool (bytes_eq name q)) [
      | inl h ↦
          ap (λ (b : Bool). known_of rules (cond b (Some peer) (before q))) h
          ∙ e ∙ ap (λ (n : List ℕ). f (known_of rules (before n))) ((bytes_eq-Decides name q).0 h)
          ∙ sym (ap (λ (b : Bool). if b then f (known_of rules (before q)) else known_of rules (before q)) h)
      | inr h ↦
          ap (λ (b : Bool). known_of rules (cond b (Some peer) (before q))) h
          ∙ sym (ap (λ (b : Bool). if b then f (known_of rules (before q)) else known_of rules (before q)) h)
    ]

-- the same peer again
pub kept : {S H : Type 0} (rules : List PolicyRule) (name q : List ℕ) (before : List ℕ → Option (Peer S H)) (peer : Peer S H) → known_of rules (Some peer) ≡ known_of rules (before name)
    → known_of rules (cond (bytes_eq name q) (Some peer) (before q)) ≡ known_of rules (before q)
kept rules name q before peer e =
    elim (cases_Bool (bytes_eq name q)) [
      | inl h ↦
          ap (λ (b : Bool). known_of rules (cond b (Some peer) (before q))) h
          ∙ e ∙ ap (λ (n : List ℕ). known_of rules (before n)) ((bytes_eq-Decides name q).0 h)
      | inr h ↦ ap (λ (b : Bool). known_of rules (cond b (Some peer) (before q))) h
    ]

-- a peer that isn't there has no call to settle
no_call : (b : Bool) → false ≡ (if b then false else false)
no_call true = refl
no_call false = refl

unknown_settled : (rules : List PolicyRule) (serial : ℕ) → unknown rules ≡ without_call serial (unknown rules)
unknown_settled rules serial = λ i. record (unknown rules) { waits = λ n. no_call (serial == n) i }

pub none_settled : {S H : Type 0} (rules : List PolicyRule) (name q : List ℕ) (before : List ℕ → Option (Peer S H)) (serial : ℕ) → before name ≡ None
    → known_of rules (before q) ≡ changed_if (bytes_eq name q) (without_call serial) (known_of rules (before q))
none_settled rules name q before serial none =
    elim (cases_Bool (bytes_eq name q)) [
      | inl h ↦
          let same : known_of rules (before q) ≡ unknown rules = same_known rules _ _ (ap before (sym ((bytes_eq-Decides name q).0 h)) ∙ none) in
          same
          ∙ unknown_settled rules serial
          ∙ sym (ap (λ (b : Bool). changed_if b (without_call serial) (known_of rules (before q))) h ∙ ap (without_call serial) same)
      | inr h ↦ sym (ap (λ (b : Bool). changed_if b (without_call serial) (known_of rules (before q))) h)
    ]
