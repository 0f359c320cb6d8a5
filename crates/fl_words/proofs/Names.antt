-- The names of overrides.
use Rattle.std.proofs.Common.{◌≡◌, ℕ, true, false, List, refl, ap, sym, ◌∙◌}
use Rattle.std.specs.Prelude.{codes}
use Rattle.std.specs.Str.{bytes_eq}
use Rattle.std.proofs.lemmas.Bool.{false_from_ne_true, false≢true}
use Rattle.std.proofs.lemmas.Slice.Eq.{bytes_eq-Decides}
use Rattle.fp_name.specs.Grammar.{is_id}
use Rattle.fp_name.specs.Grammar.{is_override}

-- no ID is `global`
global_is_none : is_id (codes "global") ≡ false
unfolding is_id
global_is_none = refl

pub other_than_global : (text : List ℕ) → is_id text ≡ true → bytes_eq text (codes "global") ≡ false
other_than_global text h = false_from_ne_true (bytes_eq text (codes "global")) (λ e. false≢true (sym global_is_none ∙ ap is_id (sym ((bytes_eq-Decides text (codes "global")).0 e)) ∙ h))

pub id_names : (i : List ℕ) → is_id i ≡ true → is_override i ≡ true
id_names i k = rw (other_than_global i k) k
