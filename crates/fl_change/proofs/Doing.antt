-- One operation on an opened installation, and its line.
use mathlib.Core.Bool.{or-false}
use Rattle.std.proofs.Common.{◌≡◌, inl, inr, ℕ, List, [], ◌∷◌, ◌++◌, Bool, true, false, Option, Some, None, Ok, Err, refl, sym, ◌∙◌, ap, subst}
use Rattle.std.proofs.lemmas.Bool.{false≢true}
use Rattle.std.proofs.lemmas.List.{append-nil}
use Rattle.fp_host.specs.Paths.{Slot, absent, dir, file, link, under}
use Rattle.fp_host.specs.Remote.{Holdings}
use Rattle.fp_host.specs.View.{View, Inode, IsTree}
use Rattle.fp_host.specs.Outcome.{Disk, Leaves, holds as standing, holding, spot_of, shows}
use Rattle.fp_host.proofs.Shown.{now_left}
use Rattle.fp_small.specs.Config.{config_text}
use Rattle.fp_small.specs.Files.{KeepsFiles}
use Rattle.fp_small.specs.Move.{HasNew, IsNew}
use Rattle.fp_small.specs.Places.{repo}
use Rattle.fp_small.proofs.Keeping.{files_stay, files_on}
use Rattle.dep_states.proofs.SharedAs.{shared_refl, shared_on}
use Rattle.fp_small.specs.declared.state.State.{State}
use Rattle.fp_small.specs.declared.op.Op.{Op}
use Rattle.fp_small.specs.declared.refusal.Refusal.{Refusal}
use Rattle.ost_model.specs.Objects.{Have}
use Rattle.ost_store.specs.Created.{Creates}
use Rattle.ost_store.proofs.Creating.{creates_refl, creates_to, creates_on}
use Rattle.dep_states.specs.Lasting.{IsLasting, SharesAs}
use Rattle.dep_states.specs.Names.{config}
use Rattle.dep_states.specs.Shown.{settings_of}
use Rattle.dep_states.specs.Settled.{Settled}
use Rattle.dep_states.specs.Sound.{Opens}
use Rattle.dep_states.specs.After.{Done, May, plain, state_after, IsOnConfig}
use Rattle.dep_states.specs.Effects.{Effect, effect_of, writes_config, BringsCommit, brings, writes}
use Rattle.dep_states.specs.Switch.{OpensEither}
use Rattle.dep_tidy.specs.Tidy.{Tidies}
use Rattle.op_change.specs.Bringing.{AreTold, WasLeft}
use Rattle.op_change.specs.Applied.{Brings, have_for, op_refusal, refusal_by, done_with, AppliesWith, Applies, WasApplied}
use Rattle.fl_lines.specs.Lines.{op_text}
use Rattle.fl_change.specs.World.{World, world_at, world_after, worlds_after, supplied}
use Rattle.fl_change.specs.Answer.{Answer, Piece, lines_of, pieces_text, ops_in, ops_of, done_answer, refusal_answer, unless, sets_config, set_config, IsIdle}
use Rattle.fl_change.specs.Refs.{op_over}
use Rattle.fl_change.specs.Changes.{HasText}
use Rattle.fl_change.specs.Created.{LacksFor}
use Rattle.fl_change.specs.Performs.{Printed, IsSome, Performs, Holds, IsDone, IsHalted, Performed, Acted, Rests, done_of, IsNearlySettled, WasDone, WasDoneBy, WasTidiedAfter}
use Rattle.fl_change.specs.declared.end.RunEnd.TheVariants.{Refused}
use Rattle.fl_change.specs.Says.{Says, WasSaid}
use Rattle.fl_change.proofs.Brought.{plainly, done_is, supplied_is, world_is, same_world}
use Rattle.fl_change.proofs.Changing.{config_kept, config_tidied, tidied_not, still_not, keeps_files, none_made, text_on}
use Rattle.fl_change.proofs.Created.{none_created, no_ops_created, lacks_is, brought_is, one_created}
use Rattle.fl_change.proofs.Pulled.{op_pulls}
use Rattle.fl_change.proofs.Resting.{small_rest}
use Rattle.fl_change.proofs.Adding.{added_rest}
use Rattle.fl_change.proofs.Same.{same_opens, same_rest}
use Rattle.fl_change.proofs.Worlds.{holds_on, holds_tidied, same_objects}

-- ---- nothing is done

-- nothing is printed yet
pub none_yet : (a : Answer) {u w : View} → w.printed ≡ u.printed → Printed a [] u w
none_yet a {u = u} same = record { left = lines_of a; pieces = refl; printed = same ∙ sym (append-nil u.printed) }

-- none of the operations is done
pub not_done : (a : Answer) (s : State) {v : View} (disk : Disk) → Opens s v → Leaves v disk → IsSome a [] s disk
not_done a s disk opens left = record { done = []; undone = ops_of a; prefix = refl; more = []; holds = refl; shown = opens.shown disk left; sound = opens.sound disk left }

pub not_yet : (a : Answer) (s : State) {v : View} → Opens s v → Performs a s v v
not_yet a s opens = record {
  said = [];
  so_far = none_yet a refl;
  files = files_stay;
  only_tidied = λ idle. tidied_not;
  still = λ idle settled. still_not;
  some = λ disk left. not_done a s disk opens left;
}

pub halted : (a : Answer) (s : State) {v : View} → Opens s v → IsHalted a s v v
halted a s opens = record { said = []; so_far = none_yet a refl; opens = opens }

-- nothing is done, and so it is done
pub none_left : (held : Holdings) (a : Answer) (x : World) (v : View) → a.pieces ≡ [] → Holds x v
    → ((IsIdle a → Settled (shows v)) → Settled (shows v)) → IsDone held a x v v
none_left held a x v none holds settled = record {
  only_tidied = λ no. tidied_not;
  still = λ no was. still_not;
  printed = sym (append-nil v.printed) ∙ ap (λ (l : List Piece). v.printed ++ pieces_text l) (sym none);
  holds = subst (λ (l : List Piece). Holds (worlds_after held x (ops_in l)) v) (sym none) holds;
  tidied = settled;
  text = λ some. absurd (let both : false ≡ true = ap (λ (l : List Piece). set_config (ops_in l)) (sym none) ∙ some in cc both);
  config = λ not. refl;
  shares = λ no. shared_refl;
  creates = λ no. no_ops_created held x (ops_of a) (ap ops_in none) creates_refl;
}

pub none_done : (held : Holdings) (a : Answer) (x : World) (v : View) → a.pieces ≡ [] → Holds x v
    → Settled (shows v) → IsDone held a x v v
none_done held a x v none holds settled = none_left held a x v none holds (λ before. settled)

-- ---- the answer of an operation

-- its one piece
abbrev pub piece_of : Done → Piece
piece_of done = record { text = op_text done.op; op = Some done }

-- by what it is refused for
abbrev by_refusal : Option Refusal → Done → Answer
by_refusal o done = unless o (done_answer done)

-- over an installation at rest it is this, by what store and remote have
over_is : (held : Holdings) (op : Op) (s : State) {v : View} → Rests s v → op_over op held (world_at s v) ≡ by_refusal (op_refusal (have_for s op held v) op) (done_with (have_for s op held v) op)
over_is held op s {v = v} rests =
    let is = supplied_is held op s rests in
    ap (λ (o : Option Refusal). by_refusal o (done_of op held (world_at s v))) is.refused ∙ ap (by_refusal (op_refusal (have_for s op held v) op)) is.done

made_some : (done : Done) → ops_of (done_answer done) ≡ [] → ⊥
made_some done none = let some : done ∷ [] ≡ [] = none in cc some

-- what is refused for the commit that it brings leaves `config`
keeps_by : (h : Have) (e : Effect) (r : Refusal) → refusal_by h e ≡ Some r → writes_config e ≡ false
keeps_by h (brings name origin commit) r is = refl
keeps_by h (writes write) r is = absurd (cc is)

refused_keeps : (h : Have) (op : Op) (r : Refusal) → op_refusal h op ≡ Some r → sets_config op ≡ false
refused_keeps h op r is = keeps_by h (effect_of op) r is

-- ---- while it is applied

one_of : (done : Done) (s : State) {w : View} (disk : Disk) → OpensEither s (state_after s done) w → Leaves w disk → IsSome (done_answer done) [] s disk
one_of done s disk one left = elim (one.shown disk left) [
  | inl shown ↦ record { done = []; undone = done ∷ []; prefix = refl; more = []; holds = refl; shown = shown; sound = one.sound disk left }
  | inr shown ↦ record { done = done ∷ []; undone = []; prefix = refl; more = done ∷ []; holds = refl; shown = shown; sound = one.sound disk left }
]

module _ (holds : Option Holdings) (held : Holdings) (told : holds ≡ Some held) (op : Op) (s : State) {v : View} (rests : Rests s v) where
  abbrev here : Have
  here = have_for s op held v

  applying_by : {w : View} → Applies s op holds v w → (o : Option Refusal) → op_refusal here op ≡ o → Performs (by_refusal o (done_with here op)) s v w
  applying_by applies None is =
      let changes = applies.changes (λ b. rests.opens) in
      record {
        said = [];
        so_far = none_yet (done_answer (done_with here op)) changes.printed;
        files = changes.files;
        only_tidied = λ idle. absurd (made_some (done_with here op) idle.0);
        still = λ idle settled. absurd (made_some (done_with here op) idle.0);
        some = λ disk left. one_of (done_with here op) s disk (applies.either held (λ b. told) rests.opens) left;
      }
  applying_by applies (Some r) is =
      let changes = applies.changes (λ b. rests.opens) in
      record {
        said = [];
        so_far = none_yet (refusal_answer r) changes.printed;
        files = changes.files;
        only_tidied = λ idle. absurd (op_pulls here op r is idle.1);
        still = λ idle settled. absurd (op_pulls here op r is idle.1);
        some = λ disk left. not_done (refusal_answer r) s disk (applies.refused held (λ b. told) r is rests.opens) left;
      }

  pub applying : {w : View} → Applies s op holds v w → Performs (op_over op held (world_at s v)) s v w
  applying {w = w} applies = subst (λ (a : Answer). Performs a s v w) (sym (over_is held op s rests)) (applying_by applies (op_refusal here op) refl)

  -- ---- where it isn't done

  -- it is refused, and the installation is as it was
  refused_done : {w : View} (r : Refusal) → op_refusal here op ≡ Some r → Applies s op holds v w → WasLeft s holds v w → IsDone held (refusal_answer r) (world_at s v) v w
  refused_done {w = w} r is applies was =
      let changes = applies.changes (λ b. rests.opens) in
      let known : AreTold holds = (held, told) in
      record {
        printed = changes.printed ∙ sym (append-nil v.printed);
        only_tidied = λ idle. absurd (op_pulls here op r is idle.1);
        still = λ idle settled. absurd (op_pulls here op r is idle.1);
        holds = record { opens = was.opens known rests.opens; have = same_world s w rests (was.objects known rests.opens) };
        tidied = λ before. was.settled known rests.opens rests.settled;
        text = λ some. absurd (cc some);
        config = λ not. config_kept s op (refused_keeps here op r is) changes;
        shares = λ unpulled. absurd (op_pulls here op r is unpulled);
        creates = λ unpulled. absurd (op_pulls here op r is unpulled);
      }

  pub apply_refused : {w : View} (r : Refusal) → op_refusal here op ≡ Some r → Applies s op holds v w → WasLeft s holds v w → WasDoneBy held op s (Err (Refused r)) v w
  apply_refused {w = w} r is applies was = subst (λ (a : Answer). Performed held a (world_at s v) (Err (Refused r)) v w) (sym (over_is held op s rests ∙ ap (λ (o : Option Refusal). by_refusal o (done_with here op)) is))
      (refl, refused_done r is applies was)

  -- or it was given up
  pub apply_halted : {w : View} → Applies s op holds v w → Opens s w → IsHalted (op_over op held (world_at s v)) s v w
  apply_halted applies opens = record { said = []; so_far = none_yet (op_over op held (world_at s v)) (applies.changes (λ b. rests.opens)).printed; opens = opens }

-- ---- what was written

-- a file stands at the name
row_is : (files : ℕ → Option Inode) (id mode : ℕ) (bytes : List ℕ) (k : ℕ) (row : Option Inode) → files k ≡ row → holding k row ≡ standing id mode bytes → (k ≡ id) × (files k ≡ Some (record { mode = mode; bytes = bytes }))
row_is files id mode bytes k None is stands = absurd (cc stands)
row_is files id mode bytes k (Some f) is stands =
    let same : k ≡ id = cc stands in
    let mode_is : f.mode ≡ mode = cc stands in
    let bytes_is : f.bytes ≡ bytes = cc stands in
    (same, is ∙ ap (λ (m : ℕ). Some (record { mode = m; bytes = f.bytes })) mode_is ∙ ap (λ (b : List ℕ). Some (record { mode = mode; bytes = b })) bytes_is)

text_at : (v : View) (s : State) (slot : Slot) → v.names config ≡ slot → IsNew (config_text (settings_of s)) (spot_of v.files slot) → HasText s v
text_at v s absent is new = absurd (cc new.1)
text_at v s dir is new = absurd (cc new.1)
text_at v s (link text) is new = absurd (cc new.1)
text_at v s (file k) is new =
    let row = row_is v.files new.0 420 (config_text (settings_of s)) k (v.files k) refl new.1 in
    record { id = k; name = is; row = row.1 }

-- where the root isn't a folder nothing stands
text_in : (v : View) (s : State) (root : Slot) → IsNew (config_text (settings_of s)) (spot_of v.files (under root (v.names config))) → HasText s v
text_in v s dir new = text_at v s (v.names config) refl new
text_in v s absent new = absurd (cc new.1)
text_in v s (file id) new = absurd (cc new.1)
text_in v s (link text) new = absurd (cc new.1)

-- the new file of an operation
written : {s : State} {v : View} → HasNew config (config_text (settings_of s)) v → HasText s v
written {s = s} {v = v} new = text_in v s (v.names []) (new.each (shows v) (now_left v))

-- ---- it is done

-- what is known of it before its line is said
pub record Applied (held : Holdings) (op : Op) (s t : State) (v w : View) : Type 0 where
  pub allowed : op_refusal (supplied held (world_at s v) op) op ≡ None
  pub state : t ≡ state_after s (done_of op held (world_at s v))
  pub printed : w.printed ≡ v.printed
  pub files : KeepsFiles v w
  pub holds : Holds (world_after held (world_at s v) (done_of op held (world_at s v))) w
  pub text : sets_config op ≡ true → HasText t w
  pub config : sets_config op ≡ false → w.names config ≡ v.names config
  pub rest : IsNearlySettled op (shows w)
  pub shares : SharesAs IsLasting v w
  pub creates : Creates repo (LacksFor held (world_at s v) op) v w

-- one that sets `config` is one on it, and brings nothing
record OnConfig (op : Op) : Type 0 where
  is : IsOnConfig op
  off : Brings op → ⊥

brings_not : (e : Effect) → writes_config e ≡ true → BringsCommit e → ⊥
brings_not (brings name origin commit) sets b = absurd (false≢true sets)
brings_not (writes write) sets b = b

on_config : (op : Op) → sets_config op ≡ true → OnConfig op
on_config op sets = record { is = sets; off = brings_not (effect_of op) sets }

pub applied : (holds : Option Holdings) (held : Holdings) → holds ≡ Some held → (op : Op) (s t : State) {v w : View} → May s op → IsTree v → IsTree w → Rests s v → Applies s op holds v w → WasApplied s op holds v w → AppliesWith (have_for s op held v) s op (Ok t) → Applied held op s t v w
applied holds held told op s t {v = v} {w = w} may tree next rests applies was answers =
    let changes = applies.changes (λ b. rests.opens) in
    let is = supplied_is held op s rests in
    let state : t ≡ state_after s (done_of op held (world_at s v)) = answers.1 ∙ ap (state_after s) (sym is.done) in
    record {
      allowed = is.refused ∙ answers.0;
      state = state;
      printed = changes.printed;
      files = changes.files;
      holds = record {
        opens = subst (λ (d : Done). Opens (state_after s d) w) (sym is.done) (was.opens held (λ b. told) rests.opens);
        have = world_is held op s w rests (was.objects held (λ b. told) (λ b. rests.opens));
      };
      text = λ sets.
          let on = on_config op sets in
          let plain_is : t ≡ state_after s (plain op) = answers.1 ∙ ap (state_after s) (plainly (have_for s op held v) op on.off).done in
          subst (λ (x : State). HasText x w) (sym plain_is) (written (was.settings on.is).text);
      config = λ not. config_kept s op not changes;
      rest = record {
        kept = small_rest s op may tree next rests changes;
        added = added_rest s op (have_for s op held v) may tree next rests changes (was.opens held (λ b. told) rests.opens) (was.objects held (λ b. told) (λ b. rests.opens));
      };
      shares = was.shares held (λ b. told) (λ b. rests.opens);
      creates = creates_to (lacks_is held op s rests) (brought_is held op s rests) (was.creates held (λ b. told) (λ b. rests.opens));
    }

-- ---- its answer

module _ (held : Holdings) (op : Op) (s t : State) (v : View) where
  abbrev x : World
  x = world_at s v

  abbrev d : Done
  d = done_of op held x

  -- nothing speaks against it
  allowed_is : op_refusal (supplied held x op) op ≡ None → done_answer d ≡ op_over op held x
  allowed_is none = ap (λ (o : Option Refusal). by_refusal o d) (sym none)

  op_is : d.op ≡ op
  op_is = done_is (supplied held x op) op

  -- its line was printed
  line_said : {w : View} → w.printed ≡ v.printed ++ op_text op → Printed (done_answer d) (piece_of d ∷ []) v w
  line_said said = record {
    left = [];
    pieces = refl;
    printed = said ∙ ap (λ (o : Op). v.printed ++ op_text o) (sym op_is) ∙ ap (λ (l : List ℕ). v.printed ++ l) (sym (append-nil (op_text d.op)));
  }

  -- and the state after it stands
  all_done : (said : List Done) (more : List Done) → (d ∷ [] ≡ said ++ more) → {w : View} (disk : Disk) → Opens (state_after s d) w → Leaves w disk → IsSome (done_answer d) said s disk
  all_done said more is disk opens left = record { done = d ∷ []; undone = []; prefix = refl; more = more; holds = is; shown = opens.shown disk left; sound = opens.sound disk left }

  -- while its line is said
  pub saying : {w z : View} → Applied held op s t v w → Says (op_text op) w z → Performs (op_over op held x) s v z
  saying {w = w} {z = z} a says = subst (λ (q : Answer). Performs q s v z) (allowed_is a.allowed) (elim says.printed [
    | inl none ↦ record {
      said = [];
      so_far = none_yet (done_answer d) (none ∙ a.printed);
      files = files_on a.files (keeps_files says.untouched);
      only_tidied = λ idle. absurd (made_some d idle.0);
      still = λ idle settled. absurd (made_some d idle.0);
      some = λ disk left. all_done [] (d ∷ []) refl disk (same_opens says.follows a.holds.opens) left;
    }
    | inr more ↦ record {
      said = piece_of d ∷ [];
      so_far = line_said (more ∙ ap (λ (p : List ℕ). p ++ op_text op) a.printed);
      files = files_on a.files (keeps_files says.untouched);
      only_tidied = λ idle. absurd (made_some d idle.0);
      still = λ idle settled. absurd (made_some d idle.0);
      some = λ disk left. all_done (d ∷ []) [] refl disk (same_opens says.follows a.holds.opens) left;
    }
  ])

  -- its line is said
  pub said : {w z : View} → Applied held op s t v w → WasSaid (op_text op) w z → WasDone held op s t v z
  said {w = w} {z = z} a was = record {
    allowed = a.allowed;
    state = a.state;
    printed = was.printed ∙ ap (λ (p : List ℕ). p ++ op_text op) a.printed;
    files = files_on a.files (keeps_files was.untouched);
    holds = holds_on (same_opens was.follows a.holds.opens) (same_objects w z was.shown) a.holds;
    text = λ sets. text_on (was.untouched.names config) (keeps_files was.untouched) (a.text sets);
    config = λ not. was.untouched.names config ∙ a.config not;
    rest = same_rest was.shown a.rest;
    shares = shared_on a.shares (none_made was.untouched) (keeps_files was.untouched);
    creates = creates_on a.creates (none_created was.untouched) a.files (keeps_files was.untouched);
  }

  -- ---- tidying after it

  abbrev after_it : State
  after_it = state_after s d

  tidies_it : {w z : View} → WasDone held op s t v w → Tidies t w z → Tidies after_it w z
  tidies_it {w = w} {z = z} done tidies = subst (λ (q : State). Tidies q w z) done.state tidies

  opens_it : {w z : View} → WasDone held op s t v w → Tidies t w z → Opens after_it z
  opens_it done tidies = (tidies_it done tidies).opens done.holds.opens

  printed_it : {w z : View} → WasDone held op s t v w → Tidies t w z → Printed (done_answer d) (piece_of d ∷ []) v z
  printed_it done tidies = line_said (tidies.printed ∙ done.printed)

  pub tidying : {w z : View} → WasDone held op s t v w → Tidies t w z → Performs (op_over op held x) s v z
  tidying {w = w} {z = z} done tidies = subst (λ (q : Answer). Performs q s v z) (allowed_is done.allowed) (record {
    said = piece_of d ∷ [];
    so_far = printed_it done tidies;
    files = files_on done.files tidies.files;
    only_tidied = λ idle. absurd (made_some d idle.0);
    still = λ idle settled. absurd (made_some d idle.0);
    some = λ disk left. all_done (d ∷ []) [] refl disk (opens_it done tidies) left;
  })

  sets : (b : Bool) → set_config (d ∷ []) ≡ b → sets_config op ≡ b
  sets b is = ap sets_config (sym op_is) ∙ sym (or-false (sets_config d.op)) ∙ is

  pub tidied : (t' : State) {w z : View} → t' ≡ t → WasDone held op s t v w → Tidies t w z → WasTidiedAfter op t w z → Performed held (op_over op held x) x (Ok t') v z
  tidied t' {w = w} {z = z} same done tidies was = subst (λ (q : Answer). Performed held q x (Ok t') v z) (allowed_is done.allowed) (
    refl,
    same ∙ done.state,
    record {
      printed = (printed_it done tidies).printed;
      only_tidied = λ idle. absurd (made_some d idle.0);
      still = λ idle settled. absurd (made_some d idle.0);
      holds = holds_tidied (tidies_it done tidies) done.holds;
      tidied = λ before. was.settled (subst (λ (q : State). Opens q w) (sym done.state) done.holds.opens) done.rest;
      text = λ some. text_on (config_tidied tidies) tidies.files (subst (λ (q : State). HasText q w) done.state (done.text (sets true some)));
      config = λ not. config_tidied tidies ∙ done.config (sets false not);
      shares = λ no. shared_on done.shares was.shares tidies.files;
      creates = λ no. one_created held x op d op_is (files_on done.files tidies.files)
          (creates_on done.creates was.creates done.files tidies.files);
    },
  )

  -- an operation was done
  pub was_acted : (t' : State) (before : Bool) {w : View} → WasDone held op s t v w → Acted (op_over op held x) (Ok t') before true
  was_acted t' before done = subst (λ (q : Answer). Acted q (Ok t') before true) (allowed_is done.allowed) refl

  -- the ends of a tidying that isn't done
  pub untidied : {w z : View} → WasDone held op s t v w → Tidies t w z → IsHalted (op_over op held x) s v z
  untidied {w = w} {z = z} done tidies = subst (λ (q : Answer). IsHalted q s v z) (allowed_is done.allowed) (record {
    said = piece_of d ∷ [];
    so_far = printed_it done tidies;
    opens = opens_it done tidies;
  })
