-- A target of an update: what it leaves, and when there is nothing to do for it.
use Rattle.std.proofs.Common.{◌≡◌, ◌⊎◌, inl, inr, ℕ, List, [], map, Bool, true, false, Option, Some, None, Result, Ok, Err, refl, sym, ◌∙◌, ap, subst}
use Rattle.std.specs.Prelude.{if◌then◌else◌}
use Rattle.fp_base.proofs.Texts.{bytes_eq-true, bytes_eq-same}
use Rattle.fp_host.specs.Reads.{is_ascending}
use Rattle.fp_host.specs.Remote.{Holdings}
use Rattle.fp_name.specs.Refs.{Ref}
use Rattle.fp_small.specs.Config.{name_of}
use Rattle.fp_small.specs.declared.op.Op.{Op}
use Rattle.fp_small.specs.declared.refusal.Refusal.{Refusal}
use Rattle.fp_small.specs.declared.refusal.Refusal.TheVariants as refusals
use Rattle.fp_small.specs.declared.state.State.{State}
use Rattle.fp_small.specs.declared.state.RefRow.{RefRow}
use Rattle.fp_small.specs.declared.state.RemoteRow.{RemoteRow}
use Rattle.ost_refs.specs.Offers.{offered}
use Rattle.dep_states.specs.After.{Done, row_at, after_all}
use Rattle.dep_states.specs.Shown.{at_name}
use Rattle.fl_extension.specs.Found.{row_of}
use Rattle.fl_plan.specs.Plans.{is_at, plan_of}
use Rattle.fl_plan.specs.Taking.{Settles}
use Rattle.fl_plan.proofs.Rows.{up_to_date}
use Rattle.fl_plan.proofs.Skips.{own_refusal, only_own_ref}
use Rattle.fl_plan.proofs.Taking.{plan_settles}
use Rattle.fl_plan.proofs.Turns.{deployed_row}
use Rattle.fl_change.specs.World.{World}
use Rattle.fl_change.specs.Answer.{Answer, nothing, refusal_answer, ops_of}
use Rattle.fl_change.specs.Refs.{ops_over, skipped, is_no_offer, unless_skipped, updated_from, target_over}
use Rattle.fl_change.proofs.Commands.{target_none, target_gone, target_there}
use Rattle.fl_change.specs.Current.{IsUnoffered, IsCurrentFrom, IsCurrentRow, is_commit_of, is_offered_by, is_as_offered}
use Rattle.fl_change.proofs.Rows.{at_has_name}
use Rattle.fl_change.proofs.Steps.{Current, Goes, goes_nowhere, bring_all}

-- the row of this ref, if there is one, says this very ref
abbrev pub Named : State → Ref → Type 0
Named s name = (row : RefRow) → row_at s name ≡ Some row → row.name ≡ name

-- an answer that does nothing
pub record IsStill (a : Answer) : Type 0 where
  pub ops : ops_of a ≡ []
  pub refusal : a.refusal ≡ None

-- the refusal of what isn't offered
no_offer : (refusal : Refusal) → is_no_offer refusal ≡ true → (asked : List ℕ) × (missed : Ref) × (refusal ≡ refusals.NoSuchRef asked missed)
no_offer (refusals.NoSuchRef asked missed) is = (asked, missed, refl)
no_offer _ is = absurd (cc is)

module _ (held : Holdings) (x : World) where
  -- ---- what is left of a target

  -- the state goes on, and the ref has nothing to update
  pub record Left (name : Ref) (a : Answer) : Type 0 where
    pub goes : Goes held x.state (after_all x.state (ops_of a))
    pub own : Current held (after_all x.state (ops_of a)) name

  still : (name : Ref) (a : Answer) → ops_of a ≡ [] → Current held x.state name → Left name a
  still name a none current = record {
    goes = subst (λ (ops : List Done). Goes held x.state (after_all x.state ops)) (sym none) (goes_nowhere held x.state);
    own = subst (λ (ops : List Done). Current held (after_all x.state ops) name) (sym none) current;
  }

  module _ (name : Ref) (row : RefRow) (is : row_at x.state name ≡ Some row) where
    -- what is so of the row is so of the ref
    by_row : IsCurrentRow held x.state.remotes row → Current held x.state name
    by_row current other found = let same : row ≡ other = cc (is, found) in subst (IsCurrentRow held x.state.remotes) same current

    gone_current : at_name name_of x.state.remotes row.origin ≡ None → Current held x.state name
    gone_current gone = by_row (subst (IsCurrentFrom held row) (sym gone) tt)

    module _ (remote : RemoteRow) (there : at_name name_of x.state.remotes row.origin ≡ Some remote) (said : row.name ≡ name) where
      unoffered_current : (asked : List ℕ) (missed : Ref) → offered held remote name ≡ Err (refusals.NoSuchRef asked missed) → Current held x.state name
      unoffered_current asked missed none =
          by_row (subst (IsCurrentFrom held row) (sym there) (inl (asked, missed, ap (offered held remote) said ∙ none)))

      deployed_current : (commit : List ℕ) → offered held remote name ≡ Ok commit → is_at commit (row_of x.state name) ≡ true → Current held x.state name
      deployed_current commit offers at =
          let same : row.commit ≡ commit = bytes_eq-true row.commit commit (sym (ap (is_at commit) (deployed_row x.state name ∙ is)) ∙ at) in
          by_row (subst (IsCurrentFrom held row) (sym there) (inr (ap (offered held remote) said ∙ offers ∙ ap (λ (c : List ℕ). Ok c) (sym same))))

  module _ (ascend : is_ascending (map name_of x.state.remotes) ≡ true) (name : Ref) where
    module _ (row : RefRow) (is : row_at x.state name ≡ Some row) (remote : RemoteRow) (there : at_name name_of x.state.remotes row.origin ≡ Some remote)
        (fits : Named x.state name ⊎ Current held x.state name) where
      -- what is so where the row says this very ref
      current_if : (row.name ≡ name → Current held x.state name) → Current held x.state name
      current_if so = elim fits [
        | inl named ↦ so (named row is)
        | inr current ↦ current
      ]

      remote_named : at_name name_of x.state.remotes remote.name ≡ Some remote
      remote_named = ap (at_name name_of x.state.remotes) (at_has_name name_of x.state.remotes row.origin remote there) ∙ there

      settled : (ops : List Op) → Settles held x.state remote name ops → (ops_over ops held x).refusal ≡ None → Left name (ops_over ops held x)
      settled ops settles none = elim settles.ends [
        | inl none_left ↦ still name (ops_over ops held x) (ap (λ (qs : List Op). ops_of (ops_over qs held x)) none_left.1)
            (current_if (λ said. deployed_current name row is remote there said settles.commit settles.offers none_left.0))
        | inr some ↦
            let all = bring_all held ops x some.0 none in
            record { goes = all.goes; own = all.own name some.1 }
      ]

      planned_left : (said : Result (List Op) Refusal) → plan_of held x.have x.state remote name ≡ said → (unless_skipped name said held x).refusal ≡ None → Left name (unless_skipped name said held x)
      planned_left (Ok ops) plan none = settled ops (plan_settles held x.have x.state remote name ops ascend remote_named plan) none
      planned_left (Err refusal) plan none = by (is_no_offer refusal) refl none
        where
          by : (b : Bool) → is_no_offer refusal ≡ b → (if b then skipped name else refusal_answer refusal).refusal ≡ None → Left name (if b then skipped name else refusal_answer refusal)
          by true unoffered still_none =
              let which = no_offer refusal unoffered in
              still name (skipped name) refl
              (current_if (λ said. unoffered_current name row is remote there said which.0 which.1
              (only_own_ref held x.have x.state remote name which.0 which.1 (plan ∙ ap (λ (r : Refusal). Err r) which.2))))
          by false offers still_none = absurd (cc still_none)

    pub target_left : Named x.state name ⊎ Current held x.state name → (target_over name held x).refusal ≡ None → Left name (target_over name held x)
    target_left fits none = by_found (row_at x.state name) refl
      where
        by_remote : (row : RefRow) → row_at x.state name ≡ Some row → (found : Option RemoteRow) → at_name name_of x.state.remotes row.origin ≡ found → Left name (target_over name held x)
        by_remote row is None gone = subst (Left name) (sym (target_gone held x name row is gone)) (still name (skipped name) refl (gone_current name row is gone))
        by_remote row is (Some remote) there =
            let same = target_there held x name row remote is there in
            subst (Left name) (sym same) (planned_left row is remote there fits (plan_of held x.have x.state remote name) refl (ap (λ (a : Answer). a.refusal) (sym same) ∙ none))

        by_found : (found : Option RefRow) → row_at x.state name ≡ found → Left name (target_over name held x)
        by_found None is = subst (Left name) (sym (target_none held x name is)) (still name nothing refl (λ row some. absurd (cc (is, some))))
        by_found (Some row) is = by_remote row is (at_name name_of x.state.remotes row.origin) refl

  -- ---- a target that has nothing to update

  pub target_still : (name : Ref) → Named x.state name → Current held x.state name → IsStill (target_over name held x)
  target_still name named current = by_found (row_at x.state name) refl
    where
      offered_still : (row : RefRow) → row_at x.state name ≡ Some row → (remote : RemoteRow) → at_name name_of x.state.remotes row.origin ≡ Some remote
          → IsUnoffered held remote row.name ⊎ (offered held remote row.name ≡ Ok row.commit) → IsStill (updated_from remote name held x)
      offered_still row is remote there (inl none) =
          let refused = own_refusal held x.have x.state remote name (refusals.NoSuchRef none.0 none.1) (ap (offered held remote) (sym (named row is)) ∙ none.2) in
          subst IsStill (sym (ap (λ (said : Result (List Op) Refusal). unless_skipped name said held x) refused)) (record { ops = refl; refusal = refl })
      offered_still row is remote there (inr at) =
          let deployed_is : is_at row.commit (row_of x.state name) ≡ true = ap (is_at row.commit) (deployed_row x.state name ∙ is) ∙ bytes_eq-same row.commit in
          let none = up_to_date held x.have x.state remote name row.commit (ap (offered held remote) (sym (named row is)) ∙ at) deployed_is in
          subst IsStill (sym (ap (λ (said : Result (List Op) Refusal). unless_skipped name said held x) none)) (record { ops = refl; refusal = refl })

      by_remote : (row : RefRow) → row_at x.state name ≡ Some row → (found : Option RemoteRow) → at_name name_of x.state.remotes row.origin ≡ found → IsCurrentFrom held row found → IsStill (target_over name held x)
      by_remote row is None gone from = subst IsStill (sym (target_gone held x name row is gone)) (record { ops = refl; refusal = refl })
      by_remote row is (Some remote) there from = subst IsStill (sym (target_there held x name row remote is there)) (offered_still row is remote there from)

      by_found : (found : Option RefRow) → row_at x.state name ≡ found → IsStill (target_over name held x)
      by_found None is = subst IsStill (sym (target_none held x name is)) (record { ops = refl; refusal = refl })
      by_found (Some row) is = by_remote row is (at_name name_of x.state.remotes row.origin) refl (current row is)

  -- ---- a target that stands at what its remote offers

  pub target_nothing : (name : Ref) (row : RefRow) → row_at x.state name ≡ Some row → row.name ≡ name → is_as_offered held x.state.remotes row ≡ true → target_over name held x ≡ nothing
  target_nothing name row is named current = by_remote (at_name name_of x.state.remotes row.origin) refl current
    where
      by_offer : (remote : RemoteRow) (said : Result (List ℕ) Refusal) → offered held remote row.name ≡ said → is_commit_of row said ≡ true → updated_from remote name held x ≡ nothing
      by_offer remote (Err refusal) offers at = absurd (cc at)
      by_offer remote (Ok commit) offers at =
          let deployed_is : is_at commit (row_of x.state name) ≡ true = ap (is_at commit) (deployed_row x.state name ∙ is) ∙ at in
          let none = up_to_date held x.have x.state remote name commit (ap (offered held remote) (sym named) ∙ offers) deployed_is in
          ap (λ (said : Result (List Op) Refusal). unless_skipped name said held x) none

      by_remote : (found : Option RemoteRow) → at_name name_of x.state.remotes row.origin ≡ found → is_offered_by held row found ≡ true → target_over name held x ≡ nothing
      by_remote None gone at = absurd (cc at)
      by_remote (Some remote) there at = target_there held x name row remote is there ∙ by_offer remote (offered held remote row.name) refl at
