-- A sound installation is fit for each command.
use Rattle.std.proofs.Common.{◌≡◌, ◌⊎◌, ◌≤◌, inl, inr, ℕ, List, length, true, ◌&&◌, Option, Some, None, refl, sym, ◌∙◌, ap, subst}
use Rattle.std.proofs.lemmas.Bool.{and_parts}
use Rattle.fp_host.specs.Paths.{Elements, Slot, absent, dir, file, link}
use Rattle.fp_host.specs.View.{View, Inode, IsTree}
use Rattle.fp_host.specs.Moments.{Moments}
use Rattle.fp_host.specs.Outcome.{gone, spot_of, holding, shows}
use Rattle.fp_host.proofs.Settled.{at_tree}
use Rattle.fp_host.proofs.Shown.{now_left}
use Rattle.fp_name.specs.Grammar.{is_remote_name}
use Rattle.fp_name.specs.Refs.{Ref, is_ref}
use Rattle.fp_small.specs.Places.{repo}
use Rattle.fp_small.specs.declared.limits.TheConstants.{MOST_ELEMENTS}
use Rattle.ost_store.specs.Names.{CanList}
use Rattle.dep_states.specs.Sound.{IsSound}
use Rattle.dep_states.proofs.Single.{some_is}
use Rattle.fl_words.specs.Forms.{command_of}
use Rattle.fl_words.specs.Words.{is_command, work_of}
use Rattle.fl_words.specs.declared.command.Command.{Command}
use Rattle.fl_words.specs.declared.command.Command.TheVariants.{Export as Exporting}
use Rattle.fl_words.proofs.ReadBack.{read_back}
use Rattle.fl_make.specs.Making.{CanMake}
use Rattle.fl_top.specs.Told.{IsFreeAs, IsFreeFor}
use Rattle.fl_top.specs.Whole.{IsFit, StartsFit}

-- nothing is in the way of a remote that is made
abbrev pub TakesRemotes : Type 0
TakesRemotes = (v : View) (remote : List ℕ) (r : Ref) → IsTree v → IsSound v → is_ref r ≡ true → CanMake remote r v

module _ (takes : TakesRemotes) (v : View) (tree : IsTree v) (sound : IsSound v) where
  -- what stands at no name is gone
  absent_by : (q : Elements) (e : Slot) → v.names q ≡ e → spot_of v.files e ≡ gone → e ≡ absent
  absent_by q absent is none = refl
  absent_by q dir is none = absurd (cc none)
  absent_by q (link text) is none = absurd (cc none)
  absent_by q (file id) is none = absurd (no_file (v.files id) refl none)
    where
      no_file : (row : Option Inode) → v.files id ≡ row → holding id row ≡ gone → ⊥
      no_file None has same = tree.known q id (inl (sym is)) has
      no_file (Some f) has same = cc same

  short : (q : Elements) → (v.names q ≡ absent) ⊎ (length q ≤ MOST_ELEMENTS)
  short q = elim ((sound.sound (shows v) (now_left v)).kinds q).short [
    | inl none ↦ inl (absent_by q (v.names q) refl (sym (ap (spot_of v.files) (at_tree v tree q)) ∙ none))
    | inr few ↦ inr few
  ]

  can_list : CanList repo v
  can_list = record { short = λ q above. short q }

  free_as : (c : Command) → is_command c ≡ true → IsFreeAs (work_of c) v
  free_as (Exporting remote name) good =
      let parts = and_parts (is_remote_name remote) (is_ref name && true) good in
      takes v remote name tree sound (and_parts (is_ref name) true parts.1).0
  free_as _ good = tt

  free_for : (command : Option Command) → ((c : Command) → command ≡ Some c → is_command c ≡ true) → IsFreeFor command v
  free_for None good = tt
  free_for (Some c) good = free_as c (good c refl)

  pub fit_words : (words : List (List ℕ)) → IsFit (command_of words) v
  fit_words words = record {
    sound = sound;
    listable = λ checks. inl can_list;
    free = free_for (command_of words) (λ c is. (read_back words c is).1);
  }

pub fit_start : TakesRemotes → (words : List (List ℕ)) (m : Moments) → IsTree m.now → IsSound m.now → StartsFit (command_of words) (Some m)
fit_start takes words m tree sound = λ n is. subst (λ (x : Moments). IsFit (command_of words) x.now) (some_is is) (fit_words takes m.now tree sound words)
