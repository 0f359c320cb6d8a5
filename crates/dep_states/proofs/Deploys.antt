-- What the bytes of a `deploy` say is good.
use Rattle.std.proofs.Common.{◌≡◌, ◌<◌, ◌^◌, ℕ, List, Bool, true, false, ◌&&◌, nat_lt, Option, Some, None, refl, ◌∙◌, ap, subst}
use Rattle.std.specs.Prelude.{if◌then◌else◌}
use Rattle.std.proofs.lemmas.Bool.{ltb-true}
use Rattle.fp_name.specs.Grammar.{is_remote_name}
use Rattle.fp_name.specs.Hex.{unhex, is_digest}
use Rattle.fp_name.proofs.HexTexts.{unhex-some}
use Rattle.fp_small.specs.declared.state.Previous.{Previous}
use Rattle.gv_value.specs.declared.basic.Basic.TheVariants as basics
use Rattle.gv_value.specs.Shape.{Shape, no_shapes, shape}
use Rattle.gv_value.specs.Tree.{Content, Tree, no_trees, tree}
use Rattle.gv_value.specs.Reading.{value_of}
use Rattle.gv_value.specs.Spelling.{fits_within, fits}
use Rattle.gv_value.proofs.Exact.{reads_values, spells_values}
use Rattle.gv_value.proofs.Lists.{then_some}
use Rattle.ost_model.specs.Fields.{text_in}
use Rattle.dep_states.specs.declared.deploy.DeployData.{DeployData}
use Rattle.dep_states.specs.Deploy.{deploy_shape, digest_in, time_in, if_remote_name, origin_in, previous_from, previous_in, goes_back_to, if_moves, deploy_from, deploy_in, deploy_of}
use Rattle.ost_model.specs.Types.{time_shape}
use Rattle.ost_model.specs.Types.{text_shape}
use Rattle.dep_states.specs.After.{IsGoodPrevious}

-- what bytes that read say
pub record IsRead (d : DeployData) : Type 0 where
  pub origin : is_remote_name d.origin ≡ true
  pub commit : is_digest d.commit ≡ true
  pub previous : IsGoodPrevious d.previous
  pub moves : goes_back_to d.commit d.previous ≡ false
  pub time : d.timestamp < 2 ^ 64

origin_good : (v : Tree) (o : List ℕ) → origin_in v ≡ Some o → is_remote_name o ≡ true
origin_good v o e = let t = then_some if_remote_name (text_in v) o e in go t.0 (is_remote_name t.0) refl t.2
  where
    go : (text : List ℕ) (b : Bool) → is_remote_name text ≡ b → if_remote_name text ≡ Some o → is_remote_name o ≡ true
    go text true t e = let h : if is_remote_name text then Some text else None ≡ Some o = e in let same : text ≡ o = cc (rw t at h) in subst (λ x. is_remote_name x ≡ true) same t
    go text false f e = let h : if is_remote_name text then Some text else None ≡ Some o = e in absurd (cc (rw f at h))

digest_good : (v : Tree) (d : List ℕ) → digest_in v ≡ Some d → is_digest d ≡ true
digest_good v d e = let t = then_some unhex (text_in v) d e in (unhex-some t.0 d t.2).1

time_small : (v : Tree) (n : ℕ) → fits_within 63 time_shape v ≡ true → time_in v ≡ Some n → n < 2 ^ 64
time_small (Tree.leaf basics.Uint64 (Content.number m)) n fit is =
    let same : m ≡ n = cc is in
    let test : nat_lt m 18446744073709551616 ≡ true = fit in
    subst (λ x. x < 2 ^ 64) same (ltb-true m 18446744073709551616 test)
time_small _ n fit is = absurd (cc is)

inner_small : (v : Tree) (n : ℕ) → fits_within 61 time_shape v ≡ true → time_in v ≡ Some n → n < 2 ^ 64
inner_small (Tree.leaf basics.Uint64 (Content.number m)) n fit is =
    let same : m ≡ n = cc is in
    let test : nat_lt m 18446744073709551616 ≡ true = fit in
    subst (λ x. x < 2 ^ 64) same (ltb-true m 18446744073709551616 test)
inner_small _ n fit is = absurd (cc is)

two : (a b : Bool) → a && (b && true) ≡ true → (a ≡ true) × (b ≡ true)
two true true is = (refl, refl)
two true false is = absurd (cc is)
two false b is = absurd (cc is)

from_good : (c t : Tree) (commit : Option (List ℕ)) (time : Option ℕ) (p : Option Previous) → digest_in c ≡ commit → time_in t ≡ time → fits_within 61 time_shape t ≡ true
    → previous_from commit time ≡ Some p → IsGoodPrevious p
from_good c t None time p ec et fit is = absurd (cc is)
from_good c t (Some d) None p ec et fit is = absurd (cc is)
from_good c t (Some d) (Some n) p ec et fit is =
    let same : Some (record { commit = d; timestamp = n }) ≡ p = cc is in
    subst IsGoodPrevious same (digest_good c d ec, inner_small t n fit et)

previous_shape : Shape
previous_shape = Shape.maybe (Shape.tuple (shape text_shape (shape time_shape no_shapes)))

previous_good : (v : Tree) (p : Option Previous) → fits_within 63 previous_shape v ≡ true → previous_in v ≡ Some p → IsGoodPrevious p
unfolding previous_shape
previous_good Tree.nothing p fit is = let same : None ≡ p = cc is in subst IsGoodPrevious same tt
previous_good (Tree.just (Tree.tuple (tree c (tree t no_trees)))) p fit is =
    from_good c t (digest_in c) (time_in t) p refl refl (two (fits_within 61 text_shape c) (fits_within 61 time_shape t) fit).1 is
previous_good _ p fit is = absurd (cc is)

-- ---- the whole

pub record Parts (o c t p : Tree) (d : DeployData) : Type 0 where
  pub origin : origin_in o ≡ Some d.origin
  pub commit : digest_in c ≡ Some d.commit
  pub time : time_in t ≡ Some d.timestamp
  pub previous : previous_in p ≡ Some d.previous
  pub moves : goes_back_to d.commit d.previous ≡ false

abbrev data_of : List ℕ → List ℕ → ℕ → Option Previous → DeployData
data_of o c t p = record { origin = o; commit = c; timestamp = t; previous = p }

parts_of : (o c t p : Tree) (d : DeployData) (origin commit : Option (List ℕ)) (time : Option ℕ) (previous : Option (Option Previous))
    → origin_in o ≡ origin → digest_in c ≡ commit → time_in t ≡ time → previous_in p ≡ previous → deploy_from origin commit time previous ≡ Some d → Parts o c t p d
parts_of o c t p d None commit time previous eo ec et ep is = absurd (cc is)
parts_of o c t p d (Some a) None time previous eo ec et ep is = absurd (cc is)
parts_of o c t p d (Some a) (Some b) None previous eo ec et ep is = absurd (cc is)
parts_of o c t p d (Some a) (Some b) (Some n) None eo ec et ep is = absurd (cc is)
parts_of o c t p d (Some a) (Some b) (Some n) (Some q) eo ec et ep is = go (goes_back_to b q) refl is
  where
    go : (g : Bool) → goes_back_to b q ≡ g → if_moves (data_of a b n q) ≡ Some d → Parts o c t p d
    go true f h = let e : if goes_back_to b q then None else Some (data_of a b n q) ≡ Some d = h in absurd (cc (rw f at e))
    go false f h =
        let e : if goes_back_to b q then None else Some (data_of a b n q) ≡ Some d = h in
        let same : data_of a b n q ≡ d = cc (rw f at e) in
        record {
          origin = eo ∙ ap (λ (x : DeployData). Some x.origin) same;
          commit = ec ∙ ap (λ (x : DeployData). Some x.commit) same;
          time = et ∙ ap (λ (x : DeployData). Some x.timestamp) same;
          previous = ep ∙ ap (λ (x : DeployData). Some x.previous) same;
          moves = subst (λ (x : DeployData). goes_back_to x.commit x.previous ≡ false) same f;
        }

four : (a b c d : Bool) → a && (b && (c && (d && true))) ≡ true → (c ≡ true) × (d ≡ true)
four true true true true is = (refl, refl)
four true true true false is = absurd (cc is)
four true true false d is = absurd (cc is)
four true false c d is = absurd (cc is)
four false b c d is = absurd (cc is)

tree_reads : (v : Tree) (d : DeployData) → fits deploy_shape v ≡ true → deploy_in v ≡ Some d → IsRead d
unfolding previous_shape
tree_reads (Tree.tuple (tree o (tree c (tree t (tree p no_trees))))) d fit is =
    let parts = parts_of o c t p d (origin_in o) (digest_in c) (time_in t) (previous_in p) refl refl refl refl is in
    let each = four (fits_within 63 text_shape o) (fits_within 63 text_shape c) (fits_within 63 time_shape t) (fits_within 63 previous_shape p) fit in
    record { origin = origin_good o d.origin parts.origin; commit = digest_good c d.commit parts.commit; previous = previous_good p d.previous each.1 parts.previous; moves = parts.moves; time = time_small t d.timestamp each.0 parts.time }
tree_reads _ d fit is = absurd (cc is)

pub deploy_reads : (bytes : List ℕ) (d : DeployData) → deploy_of bytes ≡ Some d → IsRead d
unfolding deploy_of
deploy_reads bytes d e =
    let v = then_some deploy_in (value_of deploy_shape bytes) d e in
    tree_reads v.0 d ((spells_values deploy_shape v.0 bytes).0 ((reads_values deploy_shape v.0 bytes).0 v.1)).0 v.2
