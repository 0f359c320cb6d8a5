-- A frame that speaks of its entry goes on from call to call, and the law takes it.
use Rattle.std.proofs.Common.{◌≡◌, inl, inr, ℕ, List, true, Option, Some, refl, sym, ◌∙◌, ap, subst, arith}
use Rattle.fp_base.specs.declared.object.ObjKind.{ObjKind}
use Rattle.fp_host.specs.Paths.{Elements, absent}
use Rattle.fp_host.specs.View.{View, MayBe}
use Rattle.fp_host.specs.Outcome.{Disk, Spot}
use Rattle.fp_host.specs.Moments.{Moments, Goes}
use Rattle.fp_host.proofs.Goes.{knowing}
use Rattle.fp_host.proofs.Follow.{follows_refl, follows_on, follows_to}
use Rattle.fp_name.specs.Hex.{is_digest}
use Rattle.fp_small.specs.Places.{repo}
use Rattle.fp_small.specs.declared.state.State.{State}
use Rattle.ost_model.specs.Objects.{object_path, Named}
use Rattle.dep_states.specs.Frames.{Either, IsNewObject, Pulls}
use Rattle.dep_states.specs.Sound.{Fixed, Permits, Opens, Spares, InTmp}
use Rattle.dep_states.proofs.Absent.{absent_unfixed}
use Rattle.dep_states.proofs.Deployed.{top}
use Rattle.dep_states.proofs.Law.{frame_law}
use Rattle.dep_states.proofs.Sparing.{spares_both}
use Rattle.dep_states.proofs.Switching.{permits_gone, word_no_repo}
use Rattle.dep_states.proofs.Usual.{tmp_spares}

module _ {Work : Elements → Spot → Type 0} where
  pub pulls_refl : {u : View} → Pulls Work u u
  pulls_refl = record { follows = follows_refl; names = λ d kind. inl refl }

  -- what is absent now was absent at the entry
  was_absent : {u v : View} → Pulls Work u v → (d : List ℕ) (kind : ObjKind) → v.names (object_path repo d kind) ≡ absent → u.names (object_path repo d kind) ≡ absent
  was_absent p d kind none = elim (p.names d kind) [ inl same ↦ sym same ∙ none | inr before ↦ before ]

  pub pulls_on : {u v w : View} → Pulls Work u v → Pulls Work v w → Pulls Work u w
  pulls_on {u = u} {v = v} first second = record {
    follows = follows_on first.follows (follows_to earlier second.follows);
    names = λ d kind. elim (second.names d kind) [
      | inr none ↦ inr (was_absent first d kind none)
      | inl same ↦ elim (first.names d kind) [ inl before ↦ inl (same ∙ before) | inr none ↦ inr none ]
    ];
  }
    where
      earlier : (q : Elements) (spot : Spot) → Either Work (IsNewObject v) q spot → Either Work (IsNewObject u) q spot
      earlier q spot (inl h) = inl h
      earlier q spot (inr h) = inr (record {
        digest = h.digest;
        kind = h.kind;
        is = h.is;
        digits = h.digits;
        named = h.named;
        absent_before = ap u.names h.is ∙ was_absent first h.digest h.kind (sym (ap v.names h.is) ∙ h.absent_before);
      })

permits_object : {i : Disk} (p : Elements) (d : List ℕ) (kind : ObjKind) (spot : Spot) → p ≡ object_path repo d kind → is_digest d ≡ true → Named d kind spot → Permits i p spot
permits_object {i = i} p d kind spot e good named = subst (λ q. Permits i q spot) (sym e) (record {
  allowed = record { fits = inr (record { digest = d; kind = kind; digits = good; name = refl; named = named }); short = inr (omega arith) };
  deploy = λ name commit k at. absurd (word_no_repo name.kind (sym (ap top at)));
})

pub new_spares : {s : State} {u : View} → Opens s u → Spares u (IsNewObject u)
new_spares {u = u} opens = record {
  avoids = λ disk left p spot f h. absent_unfixed h.digest h.kind opens (subst (λ q. MayBe u q absent) h.is (inl (sym h.absent_before))) disk left (subst (Fixed disk) h.is f);
  permits = λ disk left p spot h. elim h.named [ inl named ↦ permits_object p h.digest h.kind spot h.is h.digits named | inr none ↦ permits_gone p spot none ];
}

pub pull_law : {s : State} {u w : View} → Opens s u → Pulls InTmp u w → Opens s w
pull_law opens p = frame_law (spares_both tmp_spares (new_spares opens)) p.follows opens

-- the law over a whole pull that works below tmp
pub opens_pulled : {s : State} {a b : Option Moments} → Goes a b (Pulls InTmp) (Pulls InTmp) → ((m : Moments) → a ≡ Some m → Opens s m.now) → Goes a b (λ u w. Opens s w) (λ u w. Opens s w)
opens_pulled goes known = knowing known goes (λ u w o p. pull_law o p) (λ u w o p. pull_law o p)
