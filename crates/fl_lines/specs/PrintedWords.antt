-- The words for enum values in printed lines.
use Rattle.std.specs.Prelude.{ℕ, List, codes}
use Rattle.fp_base.specs.declared.rule.Rule.{Rule}
use Rattle.fp_base.specs.declared.rule.Rule.TheVariants as rules
use Rattle.fp_base.specs.declared.what.What.{What}
use Rattle.fp_base.specs.declared.what.What.TheVariants as things
use Rattle.fp_base.specs.declared.side.Side.{Side}
use Rattle.fp_base.specs.declared.side.Side.TheVariants.{Client, Bus}
use Rattle.fp_base.specs.declared.key_rule.KeyRule.{KeyRule}
use Rattle.fp_base.specs.declared.key_rule.KeyRule.TheVariants as keys
use Rattle.fp_base.specs.declared.meta_rule.MetaRule.{MetaRule}
use Rattle.fp_base.specs.declared.meta_rule.MetaRule.TheVariants as metas
use Rattle.fp_base.specs.declared.meta_rule.MetadataRule.{MetadataRule}
use Rattle.fp_base.specs.declared.meta_rule.MetadataRule.TheVariants.{Key, Meta}
use Rattle.fp_base.specs.declared.frame_rule.FrameRule.{FrameRule}
use Rattle.fp_base.specs.declared.frame_rule.FrameRule.TheVariants as frames

-- The word for the rule that an object breaks
abbrev pub rule_word : Rule → List ℕ
rule_word rules.Value = codes "value"
rule_word rules.Parent = codes "parent"
rule_word rules.Tree = codes "tree"
rule_word rules.Meta = codes "meta"
rule_word rules.Digest = codes "digest"
rule_word rules.Name = codes "name"
rule_word rules.Order = codes "order"
rule_word rules.Both = codes "both"
rule_word rules.Owner = codes "owner"
rule_word rules.Xattrs = codes "xattrs"
rule_word rules.Kind = codes "kind"

-- The word for what a limit applies to
abbrev pub what_word : What → List ℕ
what_word things.Pins = codes "pins"
what_word things.Remotes = codes "remotes"
what_word things.Refs = codes "refs"
what_word things.Input = codes "input"
what_word things.Object = codes "object"
what_word things.MetadataObject = codes "metadata-object"
what_word things.Objects = codes "objects"
what_word things.Depth = codes "depth"
what_word things.MetadataFile = codes "metadata-file"
what_word things.Override = codes "override"

-- The word for the side that sent a message
abbrev pub side_word : Side → List ℕ
side_word Client = codes "client"
side_word Bus = codes "bus"

-- The word for the rule that a line of a key file breaks
abbrev pub key_rule_word : KeyRule → List ℕ
key_rule_word keys.Text = codes "text"
key_rule_word keys.Group = codes "group"
key_rule_word keys.Line = codes "line"
key_rule_word keys.Key = codes "key"
key_rule_word keys.NoGroup = codes "nogroup"

-- The word for the rule that a whole metadata file breaks
abbrev pub meta_rule_word : MetaRule → List ℕ
meta_rule_word metas.Absent = codes "absent"
meta_rule_word metas.Group = codes "group"
meta_rule_word metas.Runtime = codes "runtime"

-- The word for the rule that a metadata file breaks, in one line or as a whole
abbrev pub metadata_rule_word : MetadataRule → List ℕ
metadata_rule_word (Key rule) = key_rule_word rule
metadata_rule_word (Meta rule) = meta_rule_word rule

-- The word for the rule that a D-Bus message breaks
abbrev pub frame_rule_word : FrameRule → List ℕ
frame_rule_word frames.Order = codes "order"
frame_rule_word frames.ZeroType = codes "type"
frame_rule_word frames.Version = codes "version"
frame_rule_word frames.Serial = codes "serial"
frame_rule_word frames.Length = codes "length"
frame_rule_word frames.Fields = codes "fields"
frame_rule_word frames.Code = codes "code"
frame_rule_word frames.Double = codes "double"
frame_rule_word frames.Kind = codes "kind"
frame_rule_word frames.Value = codes "value"
frame_rule_word frames.Padding = codes "padding"
frame_rule_word frames.Required = codes "required"
frame_rule_word frames.Body = codes "body"
frame_rule_word frames.Cut = codes "cut"
