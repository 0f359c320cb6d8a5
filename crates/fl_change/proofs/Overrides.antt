-- Overrides, changed by options.
use Rattle.std.proofs.Common.{◌≡◌, ℕ, true, List, [], ◌∷◌, ◌++◌, ap, sym, ◌∙◌, subst}
use Rattle.fp_base.proofs.Lists.{all_append}
use Rattle.fp_keyfile.specs.declared.group.Group.{Group}
use Rattle.fp_keyfile.specs.KeyFile.{is_good}
use Rattle.fl_meta.specs.declared.permission.Permission.{Permission}
use Rattle.fl_meta.specs.declared.permission.Mention.{Mention}
use Rattle.fl_meta.specs.declared.mentions.Source.TheVariants as sources
use Rattle.fl_meta.specs.Mentions.{file_mentions}
use Rattle.fl_context.specs.Grants.{later, last_mention, value_in, IsAscending}
use Rattle.fl_context.specs.Latest.{merged}
use Rattle.fl_context.proofs.Merging.{value_in-merged, last_mention-append, last-one, same_list}
use Rattle.fl_context.proofs.Ascending.{merged_ascends}
use Rattle.fl_options.specs.Options.{option_layer, layer_of}
use Rattle.fl_options.proofs.Layers.{of_file}
use Rattle.fl_override.specs.Written.{CanWrite, file_with}
use Rattle.fl_override.specs.Overrides.{AllCanWrite}
use Rattle.fl_override.proofs.Reading.{file_written}
use Rattle.fl_override.proofs.Sets.{last_written}
use Rattle.fl_override.proofs.Back.{last_back}
use Rattle.fl_change.specs.Overrides.{mentioned, changed_file}

-- ---- options can be written

pub options_write : (words : List (List ℕ)) → AllCanWrite (layer_of words)
options_write [] = tt
options_write (word ∷ words) =
    let of = of_file word in
    all_append CanWrite (option_layer word) (layer_of words) (subst AllCanWrite (sym of.mentioned) (file_written of.file of.good)) (options_write words)

-- ---- the file of the changed set

pub changed_is : (file : List Group) (options : List (List ℕ)) (before after : List Mention) → IsAscending before → IsAscending after → ((p : Permission) → value_in before p ≡ last_mention (file_mentions sources.Override file) p)
    → ((p : Permission) → value_in after p ≡ last_mention (before ++ layer_of options) p) → file_with after ≡ changed_file file options
unfolding changed_file
changed_is file options before after up above old new = ap file_with (same_list after (merged (mentioned file options)) above (merged_ascends (mentioned file options)) (λ p.
    new p ∙ last_mention-append before (layer_of options) p
    ∙ ap (later (last_mention (layer_of options) p)) (last-one before p up ∙ old p)
    ∙ sym (last_mention-append (file_mentions sources.Override file) (layer_of options) p)
    ∙ sym (value_in-merged (mentioned file options) p)))

-- of each permission it has the last mention
pub last_changed : (file : List Group) (options : List (List ℕ)) (p : Permission) → is_good file ≡ true → last_mention (file_mentions sources.Override (changed_file file options)) p ≡ last_mention (mentioned file options) p
unfolding changed_file
last_changed file options p good =
    let all = mentioned file options in
    let write = all_append CanWrite (file_mentions sources.Override file) (layer_of options) (file_written file good) (options_write options) in
    last_back (merged all) p (last_written (merged all) all (merged_ascends all) (value_in-merged all) write)
    ∙ last-one (merged all) p (merged_ascends all) ∙ value_in-merged all p
