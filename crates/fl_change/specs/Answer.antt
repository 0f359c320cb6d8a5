-- The answers of commands: what they print, and the operations that this acknowledges.
use Rattle.std.specs.Prelude.{ℕ, List, [], ◌∷◌, ◌++◌, Option, Some, None, flat_map, filter_map}
use Rattle.fp_host.specs.Remote.{Holdings}
use Rattle.fp_small.specs.declared.op.Op.{Op}
use Rattle.fp_small.specs.declared.refusal.Refusal.{Refusal}
use Rattle.dep_states.specs.After.{Done, plain}
use Rattle.dep_states.specs.Effects.{effect_of, writes_config, keeps_refs}
use Rattle.fl_change.specs.World.{World, worlds_after}
use Rattle.fl_lines.specs.Lines.{op_text, refusal_text}
use Rattle.std.specs.List.{list_any}
use Rattle.std.specs.Prelude.{◌≡◌, Bool, true}
use Rattle.fp_base.specs.declared.what.What.TheVariants as whats
use Rattle.fp_small.specs.declared.refusal.Refusal.TheVariants as refusals

-- A text that is printed in one call, and the operation that it acknowledges, if there is one
pub record Piece : Type 0 where
  pub text : List ℕ
  pub op : Option Done

-- The answer of a command: the pieces that it prints, and the refusal that ends it, if there is one
pub record Answer : Type 0 where
  pub pieces : List Piece
  pub refusal : Option Refusal

-- ---- what an answer prints and does

-- The line of the refusal as a piece; none if there is no refusal
abbrev pub last_of : Option Refusal → List Piece
last_of None = []
last_of (Some refusal) = record { text = refusal_text refusal; op = None } ∷ []

-- All pieces that are printed: those of the answer, and last the line of its refusal
abbrev pub lines_of : Answer → List Piece
lines_of a = a.pieces ++ last_of a.refusal

-- The bytes of pieces
abbrev pub pieces_text : List Piece → List ℕ
pieces_text pieces = flat_map (λ piece. piece.text) pieces

-- The operations that pieces acknowledge
abbrev pub ops_in : List Piece → List Done
ops_in pieces = filter_map (λ piece. piece.op) pieces

-- The operations of an answer
abbrev pub ops_of : Answer → List Done
ops_of a = ops_in a.pieces

-- Tests whether an operation writes `config`: it is one on pins, remotes or the layout
abbrev pub sets_config : Op → Bool
sets_config op = writes_config (effect_of op)

-- Tests whether an operation changes no commit in layout 2: it is one on pins, remotes or an
-- override
abbrev pub keeps_commits : Op → Bool
keeps_commits op = keeps_refs (effect_of op)

-- Tests whether one of these operations writes `config`
abbrev pub set_config : List Done → Bool
set_config ops = list_any (λ done. sets_config done.op) ops

-- Tests whether an operation was done: `before` is true, or there are operations
abbrev pub has_acted : Bool → List Done → Bool
has_acted before [] = before
has_acted before (done ∷ more) = true

-- There is no refusal, or it isn't one of an object or of a head, so that no pull was abandoned
abbrev pub IsUnpulled : Option Refusal → Type 0
IsUnpulled None = Unit {0}
IsUnpulled (Some (refusals.MissingObject digest kind)) = ⊥
IsUnpulled (Some (refusals.CorruptObject digest kind got)) = ⊥
IsUnpulled (Some (refusals.MalformedObject digest kind rule)) = ⊥
IsUnpulled (Some (refusals.ModeRefused digest kind mode)) = ⊥
IsUnpulled (Some (refusals.ReservedName commit)) = ⊥
IsUnpulled (Some (refusals.BadMetadata name number rule)) = ⊥
IsUnpulled (Some (refusals.RefBinding name)) = ⊥
IsUnpulled (Some (refusals.Limit whats.Object number)) = ⊥
IsUnpulled (Some (refusals.Limit whats.MetadataObject number)) = ⊥
IsUnpulled (Some (refusals.Limit whats.Objects number)) = ⊥
IsUnpulled (Some (refusals.Limit whats.Depth number)) = ⊥
IsUnpulled (Some (refusals.Limit whats.MetadataFile number)) = ⊥
IsUnpulled (Some _) = Unit {0}

-- The answer has no operation, and its refusal, if there is one, abandoned no pull
abbrev pub IsIdle : Answer → Type 0
IsIdle a = (ops_of a ≡ []) × IsUnpulled a.refusal

-- ---- answers

-- The empty answer: nothing is printed or done
abbrev pub nothing : Answer
nothing = record { pieces = []; refusal = None }

-- The answer that is only this refusal
abbrev pub refusal_answer : Refusal → Answer
refusal_answer refusal = record { pieces = []; refusal = Some refusal }

-- The answer of an operation that is done: its line, which acknowledges it
abbrev pub done_answer : Done → Answer
done_answer done =
    record { pieces = record { text = op_text done.op; op = Some done } ∷ []; refusal = None }

-- The answer of an operation that is done and brings no commit
abbrev pub op_answer : Op → Answer
op_answer op = done_answer (plain op)

-- The answer that only prints this text
abbrev pub text_answer : List ℕ → Answer
text_answer text = record { pieces = record { text = text; op = None } ∷ []; refusal = None }

-- The answer of these pieces, and of the next answer unless a refusal ends them
abbrev pub continued : List Piece → Option Refusal → Answer → Answer
continued pieces None next = record { pieces = pieces ++ next.pieces; refusal = next.refusal }
continued pieces (Some refusal) next = record { pieces = pieces; refusal = Some refusal }

-- The two answers in turn, unless a refusal ends the first one
abbrev pub followed : Answer → Answer → Answer
followed a next = continued a.pieces a.refusal next

-- The answer, and then the next one in the world that its operations leave
abbrev pub then_over : Holdings → World → Answer → (World → Answer) → Answer
then_over held x a next = followed a (next (worlds_after held x (ops_of a)))

-- The answers of the items of a list, one after another up to the first refusal
abbrev pub each_over : {A : Type 0} → (A → Holdings → World → Answer) → List A → Holdings
    → World → Answer
each_over item [] held x = nothing
each_over item (a ∷ more) held x = then_over held x (item a held x) (each_over item more held)

-- The answer, unless there is a refusal
abbrev pub unless : Option Refusal → Answer → Answer
unless None a = a
unless (Some refusal) a = refusal_answer refusal
