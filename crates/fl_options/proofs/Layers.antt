-- What options mention.
use Rattle.std.proofs.Common.{◌≡◌, ℕ, true, List, [], Option, Some, None, Result, Ok, Err, IfOk, refl}
use Rattle.std.specs.Option.{option_map_or}
use Rattle.fp_keyfile.specs.declared.group.Group.{Group}
use Rattle.fp_keyfile.specs.declared.fault.KeyFault.{KeyFault}
use Rattle.fp_keyfile.specs.KeyFile.{file_of, is_good}
use Rattle.fp_keyfile.proofs.Read.{good_file_of}
use Rattle.fl_meta.specs.Mentions.{file_mentions}
use Rattle.fl_options.specs.Options.{IsOfFile, mentions_read, text_mentions, option_lines, option_layer}

of_no_file : IsOfFile []
unfolding file_mentions is_good
of_no_file = record { file = []; good = refl; mentioned = refl }

of_text : (text : List ℕ) → IsOfFile (text_mentions text)
of_text text = by (file_of text) (good_file_of text)
  where
    by : (read : Result (List Group) KeyFault) → IfOk read (λ file. is_good file ≡ true) → IsOfFile (mentions_read read)
    by (Ok file) good = record { file = file; good = good; mentioned = refl }
    by (Err fault) good = of_no_file

pub of_file : (word : List ℕ) → IsOfFile (option_layer word)
unfolding option_layer
of_file word = by (option_lines word)
  where
    by : (lines : Option (List ℕ)) → IsOfFile (option_map_or text_mentions lines [])
    by None = of_no_file
    by (Some text) = of_text text
