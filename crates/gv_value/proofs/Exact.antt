-- The laws of all types, values and bytes.
use Rattle.std.proofs.Common.{◌≡◌, ℕ, ◌<◌, ◌≤◌, Bool, true, ◌&&◌, leb, List, length, Option, Some, None, sym, ap, ◌∙◌, subst, arith, IsTrue}
use Rattle.std.proofs.lemmas.Bool.{and_parts, and_from, leb-true, le-leb}
use Rattle.std.proofs.lemmas.Option.{same_Some}
use Rattle.fp_base.proofs.Options.{guarded}
use Rattle.gv_value.specs.declared.limits.TheConstants.{MOST_BYTES, MOST_DEPTH}
use Rattle.gv_value.specs.Shape.{Shape, is_type}
use Rattle.gv_value.specs.Tree.{Tree}
use Rattle.gv_value.specs.TypeText.{type_text, type_of}
use Rattle.gv_value.specs.Spelled.{SpelledWithin, Spelled}
use Rattle.gv_value.specs.Spelling.{fits_within, fits, spelling}
use Rattle.gv_value.specs.Reading.{value_at, value_of}
use Rattle.gv_value.specs.Exact.{ReadsTypes, ReadsValues, SpellsValues, HasOneSpelling, HasOneValue}
use Rattle.gv_value.proofs.TypeLaws.{type_back, type_of-found}
use Rattle.gv_value.proofs.Laws.{value_at-found, value_at-spelled}
use Rattle.gv_value.proofs.Unique.{limit, spelled_is, fits_spelled}

pub reads_types : ReadsTypes
reads_types text t =
    (λ e. let is = type_of-found text t e in (is.is, is.type), λ h. ap type_of h.0 ∙ type_back t h.1)

value_found : (t : Shape) (v : Tree) (bytes : List ℕ) → value_of t bytes ≡ Some v → Spelled t v bytes
value_found t v bytes e =
    let g = guarded (is_type t && leb (length bytes) MOST_BYTES) (value_at MOST_DEPTH t bytes) v e in
    let p = and_parts (is_type t) (leb (length bytes) MOST_BYTES) g.0 in
    record { type = p.0; value = value_at-found MOST_DEPTH t bytes v g.1; short = leb-true (length bytes) MOST_BYTES p.1 }

value_read : (t : Shape) (v : Tree) (bytes : List ℕ) → Spelled t v bytes → value_of t bytes ≡ Some v
value_read t v bytes h =
    let test = and_from (is_type t) (leb (length bytes) MOST_BYTES) h.type (le-leb (length bytes) MOST_BYTES h.short) in
    rw test (value_at-spelled MOST_DEPTH t v bytes h.value)

pub reads_values : ReadsValues
reads_values t v bytes = (value_found t v bytes, value_read t v bytes)

pub spells_values : SpellsValues
spells_values t v bytes = (
  λ h. let is = spelled_is MOST_DEPTH t v bytes h.value in (and_from (is_type t) (fits_within MOST_DEPTH t v) h.type is.fit, is.spell, h.short),
  λ h. let p = and_parts (is_type t) (fits_within MOST_DEPTH t v) h.0 in
      let short : length (spelling v t) < limit = omega (arith, ap length h.1, h.2) in
      record { type = p.0; value = subst (SpelledWithin MOST_DEPTH t v) (sym h.1) (fits_spelled MOST_DEPTH t v p.1 short); short = h.2 },
)

pub one_spelling_each : HasOneSpelling
one_spelling_each t v a b p q = (spelled_is MOST_DEPTH t v a p.value).spell ∙ sym (spelled_is MOST_DEPTH t v b q.value).spell

pub one_value_each : HasOneValue
one_value_each t v w bytes p q = same_Some v w (sym (value_read t v bytes p) ∙ value_read t w bytes q)
