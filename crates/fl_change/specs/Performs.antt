-- The effect of a command on an opened installation.
use Rattle.std.specs.Prelude.{◌≡◌, Bool, true, false, Option, ◌++◌, List, Some, None, Result, Ok, Err, IsErrOf}
use Rattle.fp_host.specs.Causes.{IsCaused}
use Rattle.fp_host.specs.Frame.{AtEnd}
use Rattle.fp_host.specs.Moments.{Goes, Always}
use Rattle.fp_host.specs.Remote.{Holdings}
use Rattle.fp_host.specs.View.{View}
use Rattle.fp_host.specs.Outcome.{Disk, Leaves, shows}
use Rattle.fp_name.specs.Refs.{Ref}
use Rattle.fp_small.specs.declared.state.State.{State}
use Rattle.fp_small.specs.Files.{KeepsFiles}
use Rattle.fp_small.specs.Places.{repo}
use Rattle.fp_small.specs.declared.op.Op.{Op}
use Rattle.fp_small.specs.declared.op.Op.TheVariants.{Install}
use Rattle.ost_model.specs.Objects.{store}
use Rattle.ost_store.specs.Created.{Creates, NoObject}
use Rattle.ost_walk.specs.Ends.{IsRemotes, Outside}
use Rattle.dep_states.specs.Lasting.{IsLasting, SharesAs}
use Rattle.dep_states.specs.Names.{config}
use Rattle.dep_states.specs.Shown.{Shows}
use Rattle.dep_states.specs.Sound.{Sound, Opens}
use Rattle.dep_states.specs.After.{Done, state_after, after_all}
use Rattle.dep_states.specs.Settled.{Settled}
use Rattle.dep_tidy.specs.Tidy.{SettledButWork, SettledButRef}
use Rattle.op_change.specs.Bringing.{AreTold}
use Rattle.op_change.specs.Applied.{Brings, op_refusal, done_with}
use Rattle.fl_lines.specs.Lines.{op_text}
use Rattle.fl_change.specs.World.{World, world_at, used_of, supplied, world_after, worlds_after}
use Rattle.fl_change.specs.Answer.{Answer, Piece, pieces_text, ops_in, ops_of, lines_of, sets_config, set_config, has_acted, keeps_commits, IsUnpulled, IsIdle}
use Rattle.fl_change.specs.Refs.{op_over}
use Rattle.fl_change.specs.Changes.{Changes, OnlyTidied, IsStill, HasText}
use Rattle.fl_change.specs.Created.{LacksFor, CreatesInTurn}
use Rattle.fl_change.specs.declared.end.RunEnd.{RunEnd}
use Rattle.fl_change.specs.declared.end.RunEnd.TheVariants.{Refused, Fault, RemoteFault, NoMemory}

-- The pieces `said`, which are the first ones of the answer, were printed. The line of the answer's
-- refusal counts as its last piece.
pub record Printed (a : Answer) (said : List Piece) (u w : View) : Type 0 where
  pub left : List Piece
  pub pieces : lines_of a ≡ said ++ left
  pub printed : w.printed ≡ u.printed ++ pieces_text said

-- The image shows the state after a prefix of the answer's operations, with at least the
-- acknowledged ones, and is sound
pub record IsSome (a : Answer) (acknowledged : List Done) (s : State) (disk : Disk) : Type 0 where
  pub done : List Done
  pub undone : List Done
  pub prefix : ops_of a ≡ done ++ undone
  pub more : List Done
  pub holds : done ≡ acknowledged ++ more
  pub shown : Shows disk (after_all s done)
  pub sound : Sound disk

-- A command with this answer, at each moment. Its first pieces were printed, each file keeps its
-- mode and its bytes, and every crash leaves the state after a prefix of its operations, with at
-- least those that these pieces acknowledge. If it is idle (`IsIdle`), names change only by
-- tidying; if nothing was left to tidy either, no name changes, and each new file is empty.
pub record Performs (a : Answer) (s : State) (v w : View) : Type 0 where
  pub said : List Piece
  pub so_far : Printed a said v w
  pub files : KeepsFiles v w
  pub only_tidied : IsIdle a → OnlyTidied s v w
  pub still : IsIdle a → Settled (shows v) → IsStill v w
  pub some : (disk : Disk) → Leaves w disk → IsSome a (ops_in said) s disk

-- Every crash leaves a sound image of the world's state, and the objects that the state's commits
-- use are exactly those of the world
pub record Holds (x : World) (v : View) : Type 0 where
  pub opens : Opens x.state v
  pub have : x.have ≡ used_of x.state (store repo (shows v))

-- The whole answer was given, but for the line of its refusal. Every crash leaves the state after
-- all operations. Nothing is left to tidy; for an idle answer, only if nothing was before. If an
-- operation wrote `config`, it has exactly its text, else it keeps its entry. Unless a refusal
-- abandoned a pull, each new file that has bytes was put at a path where it lasts, and each
-- operation in turn made exactly the objects that it lacked.
pub record IsDone (held : Holdings) (a : Answer) (x : World) (v w : View) : Type 0 where
  pub printed : w.printed ≡ v.printed ++ pieces_text a.pieces
  pub only_tidied : IsIdle a → OnlyTidied x.state v w
  pub still : IsIdle a → Settled (shows v) → IsStill v w
  pub holds : Holds (worlds_after held x (ops_of a)) w
  pub tidied : (IsIdle a → Settled (shows v)) → Settled (shows w)
  pub text : set_config (ops_of a) ≡ true → HasText (after_all x.state (ops_of a)) w
  pub config : set_config (ops_of a) ≡ false → w.names config ≡ v.names config
  pub shares : IsUnpulled a.refusal → SharesAs IsLasting v w
  pub creates : IsUnpulled a.refusal → CreatesInTurn held x (ops_of a) v w

-- The command ended early: the first pieces of its answer were printed, and every crash leaves the
-- state after the operations that these acknowledge
pub record IsHalted (a : Answer) (s : State) (v w : View) : Type 0 where
  pub said : List Piece
  pub so_far : Printed a said v w
  pub opens : Opens (after_all s (ops_in said)) w

-- The end of a command with this answer. After success and after a refusal the whole answer was
-- given. After a fault of a remote, and if memory ran out, every crash leaves the state after the
-- acknowledged operations. A fault of the host promises nothing.
abbrev pub Performed : Holdings → Answer → World → Result State RunEnd → View → View → Type 0
Performed held a x (Ok t) v w =
    (a.refusal ≡ None) × (t ≡ after_all x.state (ops_of a)) × IsDone held a x v w
Performed held a x (Err (Refused refusal)) v w = (a.refusal ≡ Some refusal) × IsDone held a x v w
Performed held a x (Err Fault) v w = Unit {0}
Performed held a x (Err RemoteFault) v w = IsHalted a x.state v w
Performed held a x (Err NoMemory) v w = IsHalted a x.state v w

-- After success and after a refusal, nothing is left to tidy
abbrev pub SettlesBy : Result State RunEnd → View → Type 0
SettlesBy (Ok t) w = Settled (shows w)
SettlesBy (Err (Refused refusal)) w = Settled (shows w)
SettlesBy (Err Fault) w = Unit {0}
SettlesBy (Err RemoteFault) w = Unit {0}
SettlesBy (Err NoMemory) w = Unit {0}

-- If the remotes report their content and every crash left the state `s`, nothing is left to tidy
-- after success and after a refusal
abbrev pub SettlesOver : Option Holdings → State → Result State RunEnd → View → View → Type 0
SettlesOver holds s r v w = AreTold holds → Opens s v → SettlesBy r w

-- After success and after a refusal, `after` is true exactly if `before` is or the answer has an
-- operation
abbrev pub Acted : Answer → Result State RunEnd → Bool → Bool → Type 0
Acted a (Ok t) before after = after ≡ has_acted before (ops_of a)
Acted a (Err (Refused refusal)) before after = after ≡ has_acted before (ops_of a)
Acted a (Err Fault) before after = Unit {0}
Acted a (Err RemoteFault) before after = Unit {0}
Acted a (Err NoMemory) before after = Unit {0}

-- If the remotes report their content and the view `v` before is `Ready`, the command performs, up
-- to the view `w`, the answer of `f` for the world of `v`
pub record PerformsOver (Ready : View → Type 0) (holds : Option Holdings)
    (f : Holdings → World → Answer) (s : State) (v w : View) : Type 0 where
  pub performs : (held : Holdings) → holds ≡ Some held → Ready v
      → Performs (f held (world_at s v)) s v w

-- If the remotes report their content and the view `v` before is `Ready`, the command ended as
-- `Performed` states for the answer of `f` over the world of `v`, and `Acted` holds
pub record PerformedOver (Ready : View → Type 0) (holds : Option Holdings)
    (f : Holdings → World → Answer) (s : State) (before after : Bool)
    (r : Result State RunEnd) (v w : View) : Type 0 where
  pub performed : (held : Holdings) → holds ≡ Some held → Ready v
      → Performed held (f held (world_at s v)) (world_at s v) r v w
  pub acted : (held : Holdings) → holds ≡ Some held → Ready v
      → Acted (f held (world_at s v)) r before after

-- ---- what is outside

-- One of these operations brings a commit
abbrev pub AsksBy : (Op → Type 0) → Type 0
AsksBy May = (op : Op) × May op × Brings op

-- If one of these operations brings a commit, the remotes report their content
abbrev pub AreToldFor : (Op → Type 0) → Option Holdings → Type 0
AreToldFor May holds = AsksBy May → AreTold holds

-- If every crash left the state `s`: after success, every crash leaves the state of the result, and
-- after a refusal some state
abbrev pub OpensBy : State → Result State RunEnd → View → View → Type 0
OpensBy s (Ok t) v w = Opens s v → Opens t w
OpensBy s (Err (Refused refusal)) v w = Opens s v → (t : State) × Opens t w
OpensBy s (Err Fault) v w = Unit {0}
OpensBy s (Err RemoteFault) v w = Unit {0}
OpensBy s (Err NoMemory) v w = Unit {0}

-- Names and files change only as `Changes` allows for these operations. If one of them brings a
-- commit, this is promised only if every crash left the state `s`.
abbrev pub ChangesFrom : (Op → Type 0) → State → View → View → Type 0
ChangesFrom May s v w = (AsksBy May → Opens s v) → Changes May v w

-- A call that does only these operations, from `u` before it to `w` after it, on a host that
-- reports its content. Each moment relates by `R`, and the end by `Q`, to the view before the call.
-- If every crash left the state `s` at the start, the host's fault comes only if its count of
-- faults rose. The content of the remotes stays the same, and they are asked only if an operation
-- brings a commit; then what is known of the installation is known only if they report their
-- content.
pub record Works (May : Op → Type 0) (s : State) (R Q : View → View → Type 0)
    (result : Result State RunEnd) (u w : Outside) : Type 0 where
  pub goes : Goes u.told w.told R Q
  pub opens : AreToldFor May u.holdings → AtEnd (OpensBy s result) u.told w.told
  pub changes : AreToldFor May u.holdings → Always (ChangesFrom May s) u.told w.told
  pub same : w.holdings ≡ u.holdings
  pub host : IsCaused (AreToldFor May u.holdings × IsErrOf result Fault) u.told
      (Opens s) u.host_faults w.host_faults
  pub remote : IsRemotes (IsErrOf result RemoteFault) u.remote_faults w.remote_faults
  pub unasked : (AsksBy May → ⊥) → (w.remote_faults ≡ u.remote_faults)
      × (IsErrOf result RemoteFault → ⊥)

-- A call with the answer of `f`, with the values of `acted` before and after it
abbrev pub Acts : (View → Type 0) → (Op → Type 0) → (Holdings → World → Answer) → State
    → Bool → Bool → Result State RunEnd → Outside → Outside → Type 0
Acts Ready May f s before after result u w = Works May s (PerformsOver Ready u.holdings f s)
    (PerformedOver Ready u.holdings f s before after result) result u w

-- Every crash leaves a sound image of the state `s`, and nothing is left to tidy
pub record Rests (s : State) (v : View) : Type 0 where
  pub opens : Opens s v
  pub settled : Settled (shows v)

-- ---- one operation

-- Holds of the operation `op` alone
abbrev pub Just : Op → Op → Type 0
Just op o = o ≡ op

-- The operation, with the timestamp of the commit that it brings
abbrev pub done_of : Op → Holdings → World → Done
done_of op held x = done_with (supplied held x op) op

-- If the operation is an install, `Is` holds of its ref
abbrev pub OfAdded : Op → (Ref → Type 0) → Type 0
OfAdded (Install name remote commit) Is = Is name
OfAdded _ Is = Unit {0}

-- All that may be left to tidy after an operation: if it changes no commit, temporary files in
-- `repo/tmp`; if it is an install, also the file of its ref
pub record IsNearlySettled (op : Op) (disk : Disk) : Type 0 where
  pub kept : keeps_commits op ≡ true → SettledButWork disk
  pub added : OfAdded op (λ name. SettledButRef name disk)

-- An operation was done and its line was printed, but it wasn't tidied after it. Every crash leaves
-- the new state. Each new file that has bytes was put at a path where it lasts, and exactly the
-- objects were made that the operation lacked.
pub record WasDone (held : Holdings) (op : Op) (s t : State) (v w : View) : Type 0 where
  pub allowed : op_refusal (supplied held (world_at s v) op) op ≡ None
  pub state : t ≡ state_after s (done_of op held (world_at s v))
  pub printed : w.printed ≡ v.printed ++ op_text op
  pub files : KeepsFiles v w
  pub holds : Holds (world_after held (world_at s v) (done_of op held (world_at s v))) w
  pub text : sets_config op ≡ true → HasText t w
  pub config : sets_config op ≡ false → w.names config ≡ v.names config
  pub rest : IsNearlySettled op (shows w)
  pub shares : SharesAs IsLasting v w
  pub creates : Creates repo (LacksFor held (world_at s v) op) v w

-- The installation was tidied after the operation: if no more was left to tidy than
-- `IsNearlySettled` allows, nothing is. Each new file that has bytes was put at a path where it
-- lasts, and no object was made.
pub record WasTidiedAfter (op : Op) (s : State) (u w : View) : Type 0 where
  pub settled : Opens s u → IsNearlySettled op (shows u) → Settled (shows w)
  pub shares : SharesAs IsLasting u w
  pub creates : Creates repo NoObject u w

-- The end of one operation without the tidying after it
abbrev pub WasDoneBy : Holdings → Op → State → Result State RunEnd → View → View → Type 0
WasDoneBy held op s (Ok t) v w = WasDone held op s t v w
WasDoneBy held op s (Err e) v w =
    Performed held (op_over op held (world_at s v)) (world_at s v) (Err e) v w

-- If the remotes report their content, and every crash left the state `s` with nothing to tidy, the
-- operation ended as `WasDoneBy` states
pub record DoneOver (holds : Option Holdings) (op : Op) (s : State) (r : Result State RunEnd)
    (v w : View) : Type 0 where
  pub done : (held : Holdings) → holds ≡ Some held → Rests s v → WasDoneBy held op s r v w
