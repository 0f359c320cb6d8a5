-- What is offered is apart from what is there and from what is to come.
use Rattle.std.proofs.Common.{◌≡◌, ◌<◌, ℕ, zero, suc, List, [], ◌∷◌, length, get_or, Bool, true, false, Option, Some, None, refl, sym, ◌∙◌, ap, arith}
use Rattle.std.specs.Prelude.{is_some, IfSome, ◌||◌}
use Rattle.std.specs.List.{list_any}
use Rattle.std.specs.Str.{bytes_eq}
use Rattle.std.proofs.lemmas.Bool.{false_from_ne_true, or_parts}
use Rattle.fp_base.proofs.Texts.{bytes_eq-same}
use Rattle.fp_name.specs.Refs.{Ref, is_ref, ref_text}
use Rattle.fp_small.proofs.Ordered.{bytes_eq-differ}
use Rattle.fp_small.specs.Config.{name_of}
use Rattle.fp_small.specs.Order.{has_name}
use Rattle.fp_small.specs.declared.state.State.{State}
use Rattle.fp_small.specs.declared.state.RefRow.{RefRow}
use Rattle.fp_small.specs.declared.state.RemoteRow.{RemoteRow}
use Rattle.fl_extension.specs.declared.point.Point.{Point}
use Rattle.fl_extension.specs.Found.{has_ref, row_of}
use Rattle.fl_plan.specs.Extensions.{is_coming, is_filled}
use Rattle.fl_plan.specs.Plans.{is_at, begun}
use Rattle.fl_plan.specs.Allowed.{IsTaken, IsOneOf, IsOfferOf, MayCome, ComesTo, IsPlan}
use Rattle.fl_plan.specs.declared.offer.Offer.{Offer}
use Rattle.fl_plan.specs.declared.offer.Chosen.{Chosen}
use Rattle.fl_plan.proofs.Turns.{deployed_row, has_by_row}

-- ---- a row among others

pub any_at : {A : Type 0} (test : A → Bool) (xs : List A) (i : ℕ) (x : A) → i < length xs → x ≡ get_or xs i x → test x ≡ true → list_any test xs ≡ true
any_at test [] i x within is holds = absurd (omega (arith, within))
any_at test (y ∷ ys) zero x within is holds = ap (λ b. b || list_any test ys) (ap test (sym is) ∙ holds)
any_at test (y ∷ ys) (suc i) x within is holds = go (test y) (any_at test ys i x (omega (arith, within)) is holds)
  where
    go : (b : Bool) → list_any test ys ≡ true → (b || list_any test ys) ≡ true
    go true h = refl
    go false h = h

pub offer_among : (rows : List RemoteRow) (i : ℕ) (row : RemoteRow) (name : Ref) (o : Offer) → i < length rows → row ≡ get_or rows i row → IsTaken row name o → IsOfferOf rows name o
offer_among rows i row name o within is taken = record {
  name_is = taken.name_is;
  good = taken.good;
  remote = any_at (λ y. bytes_eq o.remote.name (name_of y)) rows i row within is (ap (λ (r : RemoteRow). bytes_eq r.name row.name) taken.remote_is ∙ bytes_eq-same row.name);
  commit = taken.commit;
}

pub one_among : (names : List Ref) (i : ℕ) (name : Ref) (remote : RemoteRow) (o : Offer) → i < length names → name ≡ get_or names i name → IsTaken remote name o → IsOneOf remote names o
one_among names i name remote o within is taken = record {
  taken = record { name_is = refl; good = ap (λ (n : Ref). is_ref n) taken.name_is ∙ taken.good; remote_is = taken.remote_is; commit = taken.commit };
  among = λ test holds. any_at test names i name within is (ap test (sym taken.name_is) ∙ holds);
}

-- ---- what isn't deployed may come

absent_at : (s : State) (name : Ref) (commit : List ℕ) → has_ref s name ≡ false → is_at commit (row_of s name) ≡ false
absent_at s name commit none = go (row_of s name) (ap is_some (deployed_row s name) ∙ sym (has_by_row s name) ∙ none)
  where
    go : (row : Option RefRow) → is_some row ≡ false → is_at commit row ≡ false
    go None is = refl
    go (Some row) is = absurd (cc is)

pub absent_may : (s : State) (name : Ref) (o : Offer) → has_ref s name ≡ false → IsOfferOf s.remotes name o → MayCome s o
absent_may s name o none is = record {
  name = ap (λ (n : Ref). is_ref n) is.name_is ∙ is.good;
  remote = is.remote;
  commit = is.commit;
  moves = absent_at s o.name o.commit (ap (has_ref s) is.name_is ∙ none);
}

pub candidate_comes : (s : State) (plan : List Offer) (point : Point) (remote : RemoteRow) (o : Offer) → is_filled s plan point ≡ false
    → has_name name_of s.remotes remote.name ≡ true → IsOneOf remote point.candidates o → ComesTo s plan o
candidate_comes s plan point remote o empty known is =
    let test = λ (c : Ref). has_ref s c || is_coming plan c in
    let h = or_parts (has_ref s o.name) (is_coming plan o.name) (false_from_ne_true (test o.name) (λ t. absurd (cc (is.among test t, empty)))) in
    record {
      may = record {
        name = is.taken.good;
        remote = ap (λ (r : RemoteRow). has_name name_of s.remotes r.name) is.taken.remote_is ∙ known;
        commit = is.taken.commit;
        moves = absent_at s o.name o.commit h.0;
      };
      apart = h.1;
    }

-- ---- a plan that is begun

pub begun_plan : (s : State) (runtime : Option Chosen) (target : Chosen) → MayCome s target.offer
    → IfSome runtime (λ c. MayCome s c.offer × (bytes_eq (ref_text c.offer.name) (ref_text target.offer.name) ≡ false)) → IsPlan s (begun runtime target)
begun_plan s None target may others = record { each = (may, tt); apart = (refl, tt) }
begun_plan s (Some c) target may others = record {
  each = (others.0, (may, tt));
  apart = (ap (λ b. b || false) (bytes_eq-differ (ref_text c.offer.name) (ref_text target.offer.name) others.1), (refl, tt));
}
