-- The commands of a run.
use Rattle.std.proofs.Common.{◌≡◌, inl, inr, ◌<◌, ℕ, List, [], ◌∷◌, ◌++◌, sym, ◌∙◌, ap, append_assoc, codes}
use Rattle.fp_name.specs.Refs.{Ref}
use Rattle.ost_model.specs.Order.{In}
use Rattle.ost_model.proofs.Members.{in_append}
use Rattle.fl_words.specs.declared.command.Change.{Change}
use Rattle.fl_words.specs.declared.command.Change.TheVariants as changes
use Rattle.fl_gen.specs.Made.{each_of, app_ref}
use Rattle.fl_gen.specs.Exercise.{exercise_changes, install_of, uninstall_of}
use Rattle.fl_gen.proofs.Counting.{in_series}

abbrev named_of : Change → Ref
named_of (changes.Install remote name) = name
named_of _ = app_ref 0

abbrev remote_of : Change → List ℕ
remote_of (changes.Install remote name) = remote
remote_of _ = []

abbrev IsInstallOf : ℕ → List ℕ → Ref → Type 0
IsInstallOf apps remote name = (k : ℕ) × (k < apps) × (name ≡ app_ref k) × (remote ≡ codes "gen")

is_install : (apps : ℕ) (remote : List ℕ) (name : Ref) → In (each_of install_of apps) (changes.Install remote name) → IsInstallOf apps remote name
is_install apps remote name has =
    let made = in_series install_of apps (changes.Install remote name) has in
    (made.0, made.1, sym (ap named_of made.2), sym (ap remote_of made.2))

no_uninstall : (half : ℕ) (remote : List ℕ) (name : Ref) → uninstall_of half ≡ changes.Install remote name → ⊥
no_uninstall half remote name is = cc is

pub installs : (apps : ℕ) (remote : List ℕ) (name : Ref) → In (exercise_changes apps) (changes.Install remote name) → IsInstallOf apps remote name
installs apps remote name (inl is) = absurd (cc is)
installs apps remote name (inr has) = elim (in_append (each_of install_of apps) _ (changes.Install remote name) has) [
  | inl made ↦ is_install apps remote name made
  | inr (inl is) ↦ absurd (cc is)
  | inr (inr (inl is)) ↦ absurd (cc is)
  | inr (inr (inr more)) ↦ elim (in_append (each_of uninstall_of _) _ (changes.Install remote name) more) [
    | inl away ↦ let made = in_series uninstall_of _ (changes.Install remote name) away in absurd (no_uninstall made.0 remote name made.2)
    | inr (inl is) ↦ absurd (cc is)
    | inr (inr none) ↦ absurd none
  ]
]

-- the pushes of a run, one after another
pub run_is : (a b u v : Change) (is us s0 s1 s2 s3 s4 s5 s6 : List Change) → s0 ≡ [] → s1 ≡ s0 ++ a ∷ [] → s2 ≡ s1 ++ is → s3 ≡ s2 ++ b ∷ [] → s4 ≡ s3 ++ u ∷ [] → s5 ≡ s4 ++ us → s6 ≡ s5 ++ v ∷ []
    → s6 ≡ a ∷ (is ++ (b ∷ (u ∷ (us ++ v ∷ []))))
run_is a b u v is us s0 s1 s2 s3 s4 s5 s6 e0 e1 e2 e3 e4 e5 e6 =
    e6 ∙ (ap (λ l. l ++ v ∷ []) (e5 ∙ ap (λ l. l ++ us) (e4 ∙ ap (λ l. l ++ u ∷ []) (e3 ∙ ap (λ l. l ++ b ∷ []) (e2 ∙ ap (λ l. l ++ is) (e1 ∙ ap (λ l. l ++ a ∷ []) e0)))))
    ∙ ap (λ l. a ∷ l) (append_assoc ((is ++ b ∷ []) ++ u ∷ []) us (v ∷ []) ∙ (append_assoc (is ++ b ∷ []) (u ∷ []) (us ++ v ∷ []) ∙ append_assoc is (b ∷ []) (u ∷ (us ++ v ∷ [])))))
