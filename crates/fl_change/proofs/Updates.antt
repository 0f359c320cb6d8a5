-- Updates of all that is installed.
use Rattle.std.proofs.Common.{◌≡◌, ◌⊎◌, inl, inr, ℕ, List, [], ◌∷◌, ◌++◌, map, Bool, true, false, Option, Some, None, refl, sym, ◌∙◌, ap, subst}
use Rattle.std.specs.Prelude.{cond, filter}
use Rattle.std.specs.List.{AllByRecursion}
use Rattle.std.specs.Str.{bytes_eq}
use Rattle.std.proofs.lemmas.Bool.{cases_Bool}
use Rattle.std.proofs.lemmas.List.{append-nil}
use Rattle.fp_host.specs.Reads.{is_ascending}
use Rattle.fp_host.specs.Remote.{Holdings}
use Rattle.fp_name.specs.Pins.{same_kind}
use Rattle.fp_name.specs.Refs.{Ref, ref_text}
use Rattle.fp_name.specs.declared.kind.RefKind.{RefKind}
use Rattle.fp_name.specs.declared.kind.RefKind.TheVariants.{App, Runtime}
use Rattle.fp_small.specs.Config.{name_of}
use Rattle.fp_small.specs.declared.refusal.Refusal.{Refusal}
use Rattle.fp_small.specs.declared.state.Layout.{Layout}
use Rattle.fp_small.specs.declared.state.Layout.TheVariants.{One, Two}
use Rattle.fp_small.specs.declared.state.State.{State}
use Rattle.fp_small.specs.declared.state.RefRow.{RefRow}
use Rattle.fp_small.specs.declared.state.RemoteRow.{RemoteRow}
use Rattle.fp_small.specs.declared.op.Op.TheVariants.{Migrate}
use Rattle.dep_states.specs.After.{Done, plain, row_at, after_all, HasOrder, IsGood}
use Rattle.dep_states.specs.Shown.{at_name, ref_key}
use Rattle.dep_states.proofs.Good.{each_found}
use Rattle.fl_plan.specs.Targets.{is_kind, names_of, names_in, targets_of}
use Rattle.fl_words.specs.declared.command.Change.{Change}
use Rattle.fl_words.specs.declared.command.Change.TheVariants.{UpdateAll}
use Rattle.fl_change.specs.World.{World, world_after, worlds_after}
use Rattle.fl_change.specs.Answer.{Answer, Piece, IsIdle, IsUnpulled, nothing, continued, followed, then_over, each_over, ops_in, ops_of}
use Rattle.fl_change.specs.Refs.{target_over, update_all_over}
use Rattle.fl_change.specs.Turns.{in_turn, by_layout, changing}
use Rattle.fl_change.proofs.Turning.{ops-append, after-append}
use Rattle.fl_change.proofs.Worlds.{worlds_state}
use Rattle.fl_change.specs.Current.{IsCurrent, IsCurrentRow, updates_all, is_as_offered, are_as_offered}
use Rattle.fl_change.proofs.Rows.{at_has_name, all_append, all_front, all_back, all_filter, all_on, all_map, all_true, all_apply}
use Rattle.fl_change.proofs.Steps.{Current, Goes, goes_nowhere, goes_on, stays_current}
use Rattle.fl_change.proofs.IdleTargets.{Named, IsStill, target_left, target_still, target_nothing}

-- the update of all, and nothing else
pub all_asked : (changes : List Change) → updates_all changes ≡ true → changes ≡ UpdateAll ∷ []
all_asked (UpdateAll ∷ []) is = refl
all_asked _ is = absurd (cc is)

-- ---- targets

named_same : (s t : State) (name : Ref) → row_at t name ≡ row_at s name → Named s name → Named t name
named_same s t name same named row is = named row (sym same ∙ is)

-- each target is the ref of its row
pub targets_named : (s : State) → HasOrder s → AllByRecursion (Named s) (targets_of s None)
targets_named s ascend = all_append (Named s) (filter (is_kind Runtime) (names_of s.refs)) (filter (is_kind App) (names_of s.refs)) (of_kind Runtime) (of_kind App)
  where
    rows : AllByRecursion (λ (row : RefRow). Named s row.name) s.refs
    rows = each_found ref_key (λ (row : RefRow). Named s row.name) s.refs ascend (λ row here other is. let same : row ≡ other = cc (here, is) in ap (λ (r : RefRow). r.name) (sym same))

    of_kind : (kind : RefKind) → AllByRecursion (Named s) (filter (is_kind kind) (names_of s.refs))
    of_kind kind = all_filter (Named s) (is_kind kind) (names_of s.refs) (all_map (Named s) (λ (row : RefRow). row.name) s.refs rows)

-- what is so of each target is so of the ref of each row
module _ (P : Ref → Type 0) where
  rest_by : (b : Bool) (x : Ref) (xs : List Ref) → AllByRecursion P (cond b (x ∷ xs) xs) → AllByRecursion P xs
  rest_by true x xs all = all.1
  rest_by false x xs all = all

  of_row : (rows : List RefRow) (t : List ℕ) (row : RefRow) → at_name ref_key rows t ≡ Some row → AllByRecursion P (names_in Runtime rows) → AllByRecursion P (names_in App rows) → P row.name
  of_row [] t row is runtimes apps = absurd (cc is)
  of_row (y ∷ ys) t row is runtimes apps = elim (cases_Bool (bytes_eq (ref_key y) t)) [
    | inl here ↦ let same : y ≡ row = cc (rw here at is) in subst (λ (r : RefRow). P r.name) same (first y.name.kind refl runtimes apps)
    | inr other ↦ of_row ys t row (rw other at is) (rest Runtime runtimes) (rest App apps)
  ]
    where
      first : (kind : RefKind) → y.name.kind ≡ kind → AllByRecursion P (names_in Runtime (y ∷ ys)) → AllByRecursion P (names_in App (y ∷ ys)) → P y.name
      first Runtime is runtimes apps = (subst (λ (k : RefKind). AllByRecursion P (cond (same_kind Runtime k) (y.name ∷ names_in Runtime ys) (names_in Runtime ys))) is runtimes).0
      first App is runtimes apps = (subst (λ (k : RefKind). AllByRecursion P (cond (same_kind App k) (y.name ∷ names_in App ys) (names_in App ys))) is apps).0

      rest : (kind : RefKind) → AllByRecursion P (names_in kind (y ∷ ys)) → AllByRecursion P (names_in kind ys)
      rest kind all = rest_by (same_kind kind y.name.kind) y.name (names_in kind ys) all

module _ (held : Holdings) where
  -- ---- targets in turn

  -- the state goes on, and each of the targets has nothing to update
  pub record AllLeft (x : World) (names : List Ref) (a : Answer) : Type 0 where
    pub goes : Goes held x.state (after_all x.state (ops_of a))
    pub own : AllByRecursion (Current held (after_all x.state (ops_of a))) names

  abbrev Fits : State → Ref → Type 0
  Fits s name = Named s name ⊎ Current held s name

  fits_on : (s t : State) → Goes held s t → (name : Ref) → Fits s name → Fits t name
  fits_on s t goes name fits = elim (goes.rows name) [
    | inl new ↦ inr new
    | inr same ↦ elim fits [
      | inl named ↦ inl (named_same s t name same named)
      | inr current ↦ inr (stays_current held s t name goes current)
    ]
  ]

  pub all_left : (names : List Ref) (x : World) → is_ascending (map name_of x.state.remotes) ≡ true → AllByRecursion (Fits x.state) names
      → (each_over target_over names held x).refusal ≡ None → AllLeft x names (each_over target_over names held x)
  all_left [] x ascend fits none = record { goes = goes_nowhere held x.state; own = tt }
  all_left (name ∷ names) x ascend fits none = by a.refusal refl none (λ up fit left. all_left names y up fit left)
    where
      a : Answer
      a = target_over name held x

      y : World
      y = worlds_after held x (ops_of a)

      next : Answer
      next = each_over target_over names held y

      by : (refused : Option Refusal) → a.refusal ≡ refused → (continued a.pieces refused next).refusal ≡ None
          → (is_ascending (map name_of y.state.remotes) ≡ true → AllByRecursion (Fits y.state) names → next.refusal ≡ None → AllLeft y names next) → AllLeft x (name ∷ names) (each_over target_over (name ∷ names) held x)
      by (Some r) is none again = absurd (cc none)
      by None is none again =
          let left = target_left held x ascend name fits.0 is in
          let state : y.state ≡ after_all x.state (ops_of a) = worlds_state held x (ops_of a) in
          let goes : Goes held x.state y.state = subst (Goes held x.state) (sym state) left.goes in
          let rest = again (ap (λ (rows : List RemoteRow). is_ascending (map name_of rows)) goes.remotes ∙ ascend) (all_on (Fits x.state) (Fits y.state) (fits_on x.state y.state goes) names fits.1) none in
          let ops : ops_of (each_over target_over (name ∷ names) held x) ≡ ops_of a ++ ops_of next = ap (λ (r : Option Refusal). ops_of (continued a.pieces r next)) is ∙ ops-append a.pieces next.pieces in
          let last : after_all x.state (ops_of (each_over target_over (name ∷ names) held x)) ≡ after_all y.state (ops_of next)
          = ap (after_all x.state) ops ∙ after-append (ops_of a) (ops_of next) x.state ∙ ap (λ (s : State). after_all s (ops_of next)) (sym state) in
          record {
            goes = subst (Goes held x.state) (sym last) (goes_on held x.state y.state (after_all y.state (ops_of next)) goes rest.goes);
            own = subst (λ (s : State). AllByRecursion (Current held s) (name ∷ names)) (sym last)
                (stays_current held y.state (after_all y.state (ops_of next)) name rest.goes (subst (λ (s : State). Current held s name) (sym state) left.own), rest.own);
          }

  -- ---- an update of all

  update_current : (x : World) → is_ascending (map name_of x.state.remotes) ≡ true → HasOrder x.state → (each_over target_over (targets_of x.state None) held x).refusal ≡ None
      → Goes held x.state (after_all x.state (ops_of (each_over target_over (targets_of x.state None) held x)))
      × IsCurrent held (after_all x.state (ops_of (each_over target_over (targets_of x.state None) held x)))
  update_current x ascend order none =
      let names = targets_of x.state None in
      let all = all_left names x ascend (all_on (Named x.state) (Fits x.state) (λ name named. inl named) names (targets_named x.state order)) none in (
        all.goes,
        record {
          each = λ name row is. elim (all.goes.rows name) [
            | inl new ↦ new row is
            | inr same ↦ old (after_all x.state (ops_of (each_over target_over names held x))) all.own name row is (sym same ∙ is)
          ];
        },
      )
    where
      old : (t : State) → AllByRecursion (Current held t) (targets_of x.state None) → (name : Ref) (row : RefRow) → row_at t name ≡ Some row → row_at x.state name ≡ Some row → IsCurrentRow held t.remotes row
      old t own name row is was =
          let current : Current held t row.name
          = of_row (Current held t) x.state.refs (ref_text name) row was (all_front (Current held t) (names_in Runtime x.state.refs) (names_in App x.state.refs) own) (all_back (Current held t) (names_in Runtime x.state.refs) (names_in App x.state.refs) own) in
          current row (ap (at_name ref_key t.refs) (at_has_name ref_key x.state.refs (ref_text name) row was) ∙ is)

  -- where each target has nothing to update, nothing is done
  all_still : (names : List Ref) (y : World) → AllByRecursion (λ name. Named y.state name × Current held y.state name) names → IsStill (each_over target_over names held y)
  all_still [] y each = record { ops = refl; refusal = refl }
  all_still (name ∷ names) y each =
      let first = target_still held y name each.0.0 each.0.1 in
      let rest = all_still names y each.1 in
      let a = target_over name held y in
      let world : worlds_after held y (ops_of a) ≡ y = ap (worlds_after held y) first.ops in
      let whole : each_over target_over (name ∷ names) held y ≡ record { pieces = a.pieces ++ (each_over target_over names held y).pieces; refusal = (each_over target_over names held y).refusal }
      = ap (λ (z : World). continued a.pieces a.refusal (each_over target_over names held z)) world ∙ ap (λ (r : Option Refusal). continued a.pieces r (each_over target_over names held y)) first.refusal in
      record {
        ops = ap ops_of whole ∙ ops-append a.pieces (each_over target_over names held y).pieces ∙ ap (λ (ops : List Done). ops ++ ops_of (each_over target_over names held y)) first.ops ∙ rest.ops;
        refusal = ap (λ (b : Answer). b.refusal) whole ∙ rest.refusal;
      }

  -- ---- the command

  abbrev one : List Change
  one = UpdateAll ∷ []

  -- an answer with nothing after it
  alone : (pieces : List Piece) (refused : Option Refusal) → (ops_of (continued pieces refused nothing) ≡ ops_in pieces) × ((continued pieces refused nothing).refusal ≡ refused)
  alone pieces None = (ops-append pieces [] ∙ append-nil (ops_in pieces), refl)
  alone pieces (Some r) = (refl, refl)

  -- what the one change comes to
  turn_ops : (x : World) → ops_of (in_turn one held x) ≡ ops_of (update_all_over held x)
  turn_ops x = (alone (update_all_over held x).pieces (update_all_over held x).refusal).0

  turn_refusal : (x : World) → (in_turn one held x).refusal ≡ (update_all_over held x).refusal
  turn_refusal x = (alone (update_all_over held x).pieces (update_all_over held x).refusal).1

  -- what an update that isn't refused leaves
  record LeavesAll (t : State) : Type 0 where
    current : IsCurrent held t
    layout : t.layout ≡ Two

  turn_leaves : (x : World) → is_ascending (map name_of x.state.remotes) ≡ true → HasOrder x.state → x.state.layout ≡ Two → (in_turn one held x).refusal ≡ None → LeavesAll (after_all x.state (ops_of (in_turn one held x)))
  turn_leaves x ascend order two none =
      let h = update_current x ascend order (sym (turn_refusal x) ∙ none) in
      subst (λ (ops : List Done). LeavesAll (after_all x.state ops)) (sym (turn_ops x)) (record { current = h.1; layout = h.0.layout ∙ two })

  update_leaves : (x : World) → IsGood x.state → (changing one held x).refusal ≡ None → LeavesAll (after_all x.state (ops_of (changing one held x)))
  update_leaves x good none = by x.state.layout refl none
    where
      by : (layout : Layout) → x.state.layout ≡ layout → (then_over held x (by_layout layout) (in_turn one held)).refusal ≡ None
          → LeavesAll (after_all x.state (ops_of (then_over held x (by_layout layout) (in_turn one held))))
      by One is none = turn_leaves (world_after held x (plain Migrate)) good.settings.remotes_ascend good.refs_ascend refl none
      by Two is none = turn_leaves x good.settings.remotes_ascend good.refs_ascend is none

  pub update_leaves_current : (x : World) → IsGood x.state → (changing one held x).refusal ≡ None → IsCurrent held (after_all x.state (ops_of (changing one held x)))
  update_leaves_current x good none = (update_leaves x good none).current

  pub update_leaves_layout : (x : World) → IsGood x.state → (changing one held x).refusal ≡ None → (after_all x.state (ops_of (changing one held x))).layout ≡ Two
  update_leaves_layout x good none = (update_leaves x good none).layout

  idle_of : (a : Answer) → IsStill a → IsIdle a × (a.refusal ≡ None)
  idle_of a still = ((still.ops, subst IsUnpulled (sym still.refusal) tt), still.refusal)

  update_still : (y : World) → y.state.layout ≡ Two → HasOrder y.state → IsCurrent held y.state → IsStill (changing one held y)
  update_still y two order current = by y.state.layout two
    where
      whole : IsStill (in_turn one held y)
      whole =
          let names = targets_of y.state None in
          let still = all_still names y (all_on (Named y.state) (λ name. Named y.state name × Current held y.state name) (λ name named. (named, λ row is. current.each name row is)) names (targets_named y.state order)) in
          record { ops = turn_ops y ∙ still.ops; refusal = turn_refusal y ∙ still.refusal }

      by : (layout : Layout) → layout ≡ Two → IsStill (then_over held y (by_layout layout) (in_turn one held))
      by One is = absurd (cc is)
      by Two is = record { ops = whole.ops; refusal = whole.refusal }

  pub update_is_idle : (y : World) → y.state.layout ≡ Two → HasOrder y.state → IsCurrent held y.state → IsIdle (changing one held y) × ((changing one held y).refusal ≡ None)
  update_is_idle y two order current = idle_of (changing one held y) (update_still y two order current)

  pub second_is_idle : (x y : World) → IsGood x.state → (changing one held x).refusal ≡ None → y.state ≡ after_all x.state (ops_of (changing one held x)) → HasOrder y.state
      → IsIdle (changing one held y) × ((changing one held y).refusal ≡ None)
  second_is_idle x y good none is order =
      let left = update_leaves x good none in
      update_is_idle y (ap (λ (s : State). s.layout) is ∙ left.layout) order (subst (IsCurrent held) (sym is) left.current)

  -- ---- all stand at what their remotes offer

  -- a target of which nothing comes
  abbrev ComesToNothing : World → Ref → Type 0
  ComesToNothing y name = target_over name held y ≡ nothing

  each_nothing : (names : List Ref) (y : World) → AllByRecursion (ComesToNothing y) names → each_over target_over names held y ≡ nothing
  each_nothing [] y each = refl
  each_nothing (name ∷ names) y each =
      ap (λ (a : Answer). followed a (each_over target_over names held (worlds_after held y (ops_of a)))) each.0 ∙ each_nothing names y each.1

  rows_nothing : (y : World) → HasOrder y.state → are_as_offered held y.state ≡ true → AllByRecursion (λ (row : RefRow). ComesToNothing y row.name) y.state.refs
  rows_nothing y ascend current =
      let rows = y.state.refs in
      all_apply (λ (row : RefRow). is_as_offered held y.state.remotes row ≡ true) (λ (row : RefRow). ComesToNothing y row.name) rows
      (each_found ref_key (λ (row : RefRow). is_as_offered held y.state.remotes row ≡ true → ComesToNothing y row.name) rows ascend (λ row here at. target_nothing held y row.name row here refl at))
      (all_true (is_as_offered held y.state.remotes) rows current)

  targets_nothing : (y : World) → HasOrder y.state → are_as_offered held y.state ≡ true → AllByRecursion (ComesToNothing y) (targets_of y.state None)
  targets_nothing y ascend current = all_append (ComesToNothing y) (filter (is_kind Runtime) (names_of y.state.refs)) (filter (is_kind App) (names_of y.state.refs)) (of_kind Runtime) (of_kind App)
    where
      of_kind : (kind : RefKind) → AllByRecursion (ComesToNothing y) (filter (is_kind kind) (names_of y.state.refs))
      of_kind kind = all_filter (ComesToNothing y) (is_kind kind) (names_of y.state.refs) (all_map (ComesToNothing y) (λ (row : RefRow). row.name) y.state.refs (rows_nothing y ascend current))

  update_nothing : (y : World) → y.state.layout ≡ Two → HasOrder y.state → are_as_offered held y.state ≡ true → changing one held y ≡ nothing
  update_nothing y two ascend current =
      ap (λ (layout : Layout). then_over held y (by_layout layout) (in_turn one held)) two
      ∙ ap (λ (a : Answer). followed a (in_turn [] held (worlds_after held y (ops_of a)))) (each_nothing (targets_of y.state None) y (targets_nothing y ascend current))

  pub all_is_nothing : (changes : List Change) (y : World) → updates_all changes ≡ true → y.state.layout ≡ Two → HasOrder y.state → are_as_offered held y.state ≡ true → changing changes held y ≡ nothing
  all_is_nothing changes y all two ascend current = ap (λ (l : List Change). changing l held y) (all_asked changes all) ∙ update_nothing y two ascend current
