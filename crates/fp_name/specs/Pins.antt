-- The patterns of pins: a ref in which each of the last three parts may be `*`.
use Rattle.std.specs.Prelude.{ℕ, List, Bool, true, false, ◌&&◌, ◌||◌, Option, Some, None, codes}
use Rattle.std.specs.Str.{bytes_eq}
use Rattle.fp_name.specs.declared.kind.RefKind.{RefKind}
use Rattle.fp_name.specs.declared.kind.RefKind.TheVariants.{App, Runtime}
use Rattle.fp_name.specs.Grammar.{is_id, is_arch, is_branch}
use Rattle.fp_name.specs.Refs.{Ref, parts_of}

-- Tests whether a part of a pattern is `*`
abbrev pub is_star : List ℕ → Bool
is_star part = bytes_eq part (codes "*")

-- Tests whether parts are those of a pattern: each of the last three is `*` or in its grammar
abbrev pub are_pin_parts : Option Ref → Bool
are_pin_parts None = false
are_pin_parts (Some p) = (is_star p.id || is_id p.id)
    && ((is_star p.arch || is_arch p.arch) && (is_star p.branch || is_branch p.branch))

-- Tests whether a text is a pattern of refs
unfoldable pub is_pin : List ℕ → Bool
is_pin text = are_pin_parts (parts_of text)

-- Tests whether two kinds are equal
abbrev pub same_kind : RefKind → RefKind → Bool
same_kind App App = true
same_kind App Runtime = false
same_kind Runtime App = false
same_kind Runtime Runtime = true

-- Tests whether a ref is that of an application
abbrev pub is_app : Ref → Bool
is_app name = same_kind App name.kind

-- Tests whether a part of a pattern matches a part of a ref: it is equal, or the pattern's is `*`
abbrev pub part_matches : List ℕ → List ℕ → Bool
part_matches pattern part = is_star pattern || bytes_eq pattern part

-- Tests whether the parts of a pattern match a ref: the kinds are equal, and each other part
-- matches
abbrev pub parts_match : Option Ref → Ref → Bool
parts_match None r = false
parts_match (Some p) r = same_kind p.kind r.kind
    && (part_matches p.id r.id && (part_matches p.arch r.arch && part_matches p.branch r.branch))

-- Tests whether the pattern with this text matches a ref
unfoldable pub pin_matches : List ℕ → Ref → Bool
pin_matches text r = parts_match (parts_of text) r
