-- Operations that bring what is offered, done in turn.
use Rattle.std.proofs.Common.{◌≡◌, ◌⊎◌, inl, inr, ℕ, List, [], ◌∷◌, Bool, true, false, Option, Some, None, Ok, refl, sym, ◌∙◌, ap, subst}
use Rattle.std.specs.Prelude.{if◌then◌else◌}
use Rattle.std.specs.List.{AllByRecursion}
use Rattle.std.specs.Str.{bytes_eq}
use Rattle.std.proofs.lemmas.Bool.{cases_Bool}
use Rattle.fp_base.proofs.Texts.{bytes_eq-same}
use Rattle.fp_host.specs.Remote.{Holdings}
use Rattle.fp_name.specs.Refs.{Ref, ref_text}
use Rattle.fp_small.specs.Config.{name_of}
use Rattle.fp_small.specs.Order.{inserted, replaced}
use Rattle.fp_small.specs.declared.op.Op.{Op}
use Rattle.fp_small.specs.declared.op.Op.TheVariants.{Install, Update, Uninstall, AddPin, DropPin, AddRemote, ModifyRemote, DropRemote, SetOverride, DropOverride, Migrate, Rollback}
use Rattle.fp_small.specs.declared.refusal.Refusal.{Refusal}
use Rattle.fp_small.specs.declared.state.State.{State}
use Rattle.fp_small.specs.declared.state.RefRow.{RefRow}
use Rattle.fp_small.specs.declared.state.RemoteRow.{RemoteRow}
use Rattle.ost_refs.specs.Offers.{offered}
use Rattle.dep_states.specs.After.{Done, row_at, with_refs, moved, updated, state_after, after_op, after_all}
use Rattle.dep_states.specs.Shown.{at_name, ref_key}
use Rattle.dep_states.proofs.Changes.{at_replaced}
use Rattle.op_change.specs.Applied.{op_refusal, done_with}
use Rattle.fl_lines.specs.Lines.{op_text}
use Rattle.fl_plan.specs.Taking.{IsOfferedBy, IsOffered, IsOf, IsAmong}
use Rattle.fl_change.specs.World.{World, supplied, world_after}
use Rattle.fl_change.specs.Answer.{Answer, ops_of}
use Rattle.fl_change.specs.Refs.{ops_over}
use Rattle.fl_change.specs.Current.{IsCurrentFrom, IsCurrentRow}
use Rattle.fl_change.proofs.Rows.{at_put}

cases_refusal : (refused : Option Refusal) → (refused ≡ None) ⊎ ((r : Refusal) × (refused ≡ Some r))
cases_refusal None = inl refl
cases_refusal (Some r) = inr (r, refl)

-- the row of this ref, if there is one, has nothing to update
abbrev pub Current : Holdings → State → Ref → Type 0
Current held s name = (row : RefRow) → row_at s name ≡ Some row → IsCurrentRow held s.remotes row

-- remotes and layout stay, and each row stays or has nothing to update
pub record Goes (held : Holdings) (s t : State) : Type 0 where
  pub remotes : t.remotes ≡ s.remotes
  pub layout : t.layout ≡ s.layout
  pub rows : (name : Ref) → Current held t name ⊎ (row_at t name ≡ row_at s name)

module _ (held : Holdings) where
  pub goes_nowhere : (s : State) → Goes held s s
  goes_nowhere s = record { remotes = refl; layout = refl; rows = λ name. inr refl }

  current_by : (s t : State) (name : Ref) → t.remotes ≡ s.remotes → row_at t name ≡ row_at s name → Current held s name → Current held t name
  current_by s t name remotes same current row is = subst (λ (rows : List RemoteRow). IsCurrentRow held rows row) (sym remotes) (current row (sym same ∙ is))

  -- what has nothing to update stays so
  pub stays_current : (s t : State) (name : Ref) → Goes held s t → Current held s name → Current held t name
  stays_current s t name goes current = elim (goes.rows name) [
    | inl new ↦ new
    | inr same ↦ current_by s t name goes.remotes same current
  ]

  pub goes_on : (s t u : State) → Goes held s t → Goes held t u → Goes held s u
  goes_on s t u one two = record {
    remotes = two.remotes ∙ one.remotes;
    layout = two.layout ∙ one.layout;
    rows = λ name. elim (two.rows name) [
      | inl new ↦ inl new
      | inr same ↦ elim (one.rows name) [
        | inl before ↦ inl (current_by t u name two.remotes same before)
        | inr still ↦ inr (same ∙ still)
      ]
    ];
  }

  -- ---- one operation

  module _ (s : State) (time : ℕ) (own : Ref) (origin commit : List ℕ) (offer : IsOfferedBy held s.remotes own origin commit) where
    row_current : (row : RefRow) → row.name ≡ own → row.origin ≡ origin → row.commit ≡ commit → IsCurrentRow held s.remotes row
    row_current row named from at =
        subst (IsCurrentFrom held row) (sym (ap (at_name name_of s.remotes) from ∙ offer.there))
        (inr (ap (offered held offer.remote) named ∙ offer.offers ∙ ap (λ (c : List ℕ). Ok c) (sym at)))

    -- the state goes on, and the ref has nothing to update
    pub record Brought (t : State) : Type 0 where
      pub goes : Goes held s t
      pub own_current : Current held t own

    module _ (rows : List RefRow) (row : RefRow) (named : row.name ≡ own) (from : row.origin ≡ origin) (at : row.commit ≡ commit)
        (put : (t : List ℕ) → at_name ref_key rows t ≡ (if bytes_eq (ref_text row.name) t then Some row else at_name ref_key s.refs t)) where
      row_at_name : (name : Ref) (b : Bool) → bytes_eq (ref_text row.name) (ref_text name) ≡ b → row_at (with_refs s rows) name ≡ (if b then Some row else row_at s name)
      row_at_name name b same = put (ref_text name) ∙ ap (λ (c : Bool). if c then Some row else row_at s name) same

      new_current : (name : Ref) → bytes_eq (ref_text row.name) (ref_text name) ≡ true → Current held (with_refs s rows) name
      new_current name here found is =
          let same : row ≡ found = cc (row_at_name name true here, is) in
          subst (λ (r : RefRow). IsCurrentRow held s.remotes r) same (row_current row named from at)

      put_brings : Brought (with_refs s rows)
      put_brings = record {
        goes = record {
          remotes = refl;
          layout = refl;
          rows = λ name. elim (cases_Bool (bytes_eq (ref_text row.name) (ref_text name))) [
            | inl here ↦ inl (new_current name here)
            | inr other ↦ inr (row_at_name name false other)
          ];
        };
        own_current = new_current own (ap (λ (n : Ref). bytes_eq (ref_text n) (ref_text own)) named ∙ bytes_eq-same (ref_text own));
      }

    pub install_brings : Brought (after_op s time (Install own origin commit))
    install_brings =
        let row : RefRow = record { name = own; origin = origin; commit = commit; timestamp = time; previous = None } in
        put_brings (inserted ref_key s.refs row) row refl refl refl (at_put ref_key s.refs row)

    updated_brings : (found : Option RefRow) → row_at s own ≡ found → Brought (updated s own origin commit time found)
    updated_brings None none = record { goes = goes_nowhere s; own_current = λ row is. absurd (cc (none, is)) }
    updated_brings (Some old) some =
        let row = moved own origin commit time old in
        put_brings (replaced ref_key s.refs row) row refl refl refl (at_replaced ref_key s.refs row)

    pub update_brings : Brought (after_op s time (Update own origin commit))
    update_brings = updated_brings (row_at s own) refl

  -- ---- operations in turn

  module _ (op : Op) (more : List Op) (x : World) where
    abbrev pub done : Done
    done = done_with (supplied held x op) op

    abbrev pub later : Answer
    later = ops_over more held (world_after held x done)

    done_first : op_refusal (supplied held x op) op ≡ None → ops_over (op ∷ more) held x ≡ record { pieces = record { text = op_text done.op; op = Some done } ∷ later.pieces; refusal = later.refusal }
    done_first is = rw is refl

    pub done_ops : op_refusal (supplied held x op) op ≡ None → ops_of (ops_over (op ∷ more) held x) ≡ done ∷ ops_of later
    done_ops is = ap ops_of (done_first is)

    pub done_refusal : op_refusal (supplied held x op) op ≡ None → (ops_over (op ∷ more) held x).refusal ≡ later.refusal
    done_refusal is = ap (λ (a : Answer). a.refusal) (done_first is)

    pub not_done : (r : Refusal) → op_refusal (supplied held x op) op ≡ Some r → (ops_over (op ∷ more) held x).refusal ≡ Some r
    not_done r is = rw is refl

  -- the state goes on, and each ref that is among the operations has nothing to update
  pub record BroughtAll (ops : List Op) (s t : State) : Type 0 where
    pub goes : Goes held s t
    pub own : (name : Ref) → IsAmong name ops → Current held t name

  -- the same of one operation
  record BroughtOne (op : Op) (s t : State) : Type 0 where
    goes : Goes held s t
    own : (name : Ref) → IsOf name op → Current held t name

  one_brought : (op : Op) (x : World) → IsOffered held x.state.remotes op → BroughtOne op x.state (state_after x.state (done_with (supplied held x op) op))
  one_brought (Install own origin commit) x offer =
      let d = done_with (supplied held x (Install own origin commit)) (Install own origin commit) in
      let brought = install_brings x.state d.timestamp own origin commit offer in
      record { goes = brought.goes; own = λ name is. subst (Current held (state_after x.state d)) is brought.own_current }
  one_brought (Update own origin commit) x offer =
      let d = done_with (supplied held x (Update own origin commit)) (Update own origin commit) in
      let brought = update_brings x.state d.timestamp own origin commit offer in
      record { goes = brought.goes; own = λ name is. subst (Current held (state_after x.state d)) is brought.own_current }
  one_brought (Uninstall name) x none = absurd none
  one_brought (AddPin pin) x none = absurd none
  one_brought (DropPin pin) x none = absurd none
  one_brought (AddRemote row) x none = absurd none
  one_brought (ModifyRemote row) x none = absurd none
  one_brought (DropRemote name) x none = absurd none
  one_brought (SetOverride row) x none = absurd none
  one_brought (DropOverride name) x none = absurd none
  one_brought Migrate x none = absurd none
  one_brought (Rollback name commit) x none = absurd none

  -- one operation, and then others
  both_brought : (op : Op) (ops : List Op) (s t u : State) → BroughtOne op s t → BroughtAll ops t u → BroughtAll (op ∷ ops) s u
  both_brought op ops s t u first rest = record {
    goes = goes_on s t u first.goes rest.goes;
    own = λ name some. elim some [
      | inl is ↦ stays_current t u name rest.goes (first.own name is)
      | inr more ↦ rest.own name more
    ];
  }

  pub bring_all : (ops : List Op) (x : World) → AllByRecursion (IsOffered held x.state.remotes) ops → (ops_over ops held x).refusal ≡ None
      → BroughtAll ops x.state (after_all x.state (ops_of (ops_over ops held x)))
  bring_all [] x each none = record { goes = goes_nowhere x.state; own = λ name some. absurd some }
  bring_all (op ∷ ops) x each none = elim (cases_refusal (op_refusal (supplied held x op) op)) [
    | inl is ↦
        let d = done op ops x in
        let y = world_after held x d in
        let first = one_brought op x each.0 in
        let rest = bring_all ops y (subst (λ (rows : List RemoteRow). AllByRecursion (IsOffered held rows) ops) (sym first.goes.remotes) each.1) (sym (done_refusal op ops x is) ∙ none) in
        subst (λ (done : List Done). BroughtAll (op ∷ ops) x.state (after_all x.state done)) (sym (done_ops op ops x is))
        (both_brought op ops x.state y.state (after_all y.state (ops_of (ops_over ops held y))) first rest)
    | inr some ↦ absurd (cc (not_done op ops x some.0 some.1, none))
  ]
