-- Refs, with the text `KIND/ID/ARCH/BRANCH`.
use Rattle.std.specs.Prelude.{ℕ, List, [], ◌∷◌, Bool, ◌&&◌, Option, Some, None, option_and_then, unwrap_or, if◌then◌else◌}
use Rattle.std.specs.List.{slice_split, join_with_byte}
use Rattle.fp_name.specs.declared.kind.RefKind.{RefKind}
use Rattle.fp_name.specs.declared.kind.RefKind.TheVariants.{App}
use Rattle.fp_name.specs.Bytes.{is_slash}
use Rattle.fp_name.specs.Grammar.{is_id, is_arch, is_branch}
use Rattle.fp_name.specs.Kinds.{kind_word, kind_of}

-- The parts of a ref
pub record Ref : Type 0 where
  pub kind : RefKind
  pub id : List ℕ
  pub arch : List ℕ
  pub branch : List ℕ

-- The ref with these parts
abbrev pub ref_with : RefKind → List ℕ → List ℕ → List ℕ → Ref
ref_with kind id arch branch = record { kind = kind; id = id; arch = arch; branch = branch }

-- Tests whether each part is in its grammar
abbrev pub is_ref : Ref → Bool
is_ref r = is_id r.id && (is_arch r.arch && is_branch r.branch)

-- The text of a ref: its parts joined by slashes
abbrev pub ref_text : Ref → List ℕ
ref_text r = join_with_byte 47 (kind_word r.kind ∷ r.id ∷ r.arch ∷ r.branch ∷ [])

-- The ref of a kind and the parts ID, ARCH and BRANCH, whatever they are; nothing if there aren't
-- exactly three
abbrev pub remainder_kind : List (List ℕ) → RefKind → Option Ref
remainder_kind (id ∷ arch ∷ branch ∷ []) kind = Some (ref_with kind id arch branch)
remainder_kind _ kind = None

-- The ref of the four parts of a text, of which the first is a kind's word; nothing for any other
-- parts
abbrev pub of_parts : List (List ℕ) → Option Ref
of_parts [] = None
of_parts (word ∷ parts) = option_and_then (remainder_kind parts) (kind_of word)

-- The parts of a text that is split at its slashes, whatever the last three are; nothing if there
-- aren't four, or the first isn't a kind's word
abbrev pub parts_of : List ℕ → Option Ref
parts_of text = of_parts (slice_split is_slash text)

-- The ref itself if its parts are in their grammars, else nothing
abbrev pub if_ref : Ref → Option Ref
if_ref r = if is_ref r then Some r else None

-- The ref of a text; nothing if the text isn't a ref
unfoldable pub ref_of : List ℕ → Option Ref
ref_of text = option_and_then if_ref (parts_of text)

-- The ref of a text that is known to be one
abbrev pub ref_at : List ℕ → Ref
ref_at text = unwrap_or (ref_of text) (ref_with App [] [] [])
