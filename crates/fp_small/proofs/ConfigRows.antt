-- What some texts of `config` say, by computing.
use Rattle.std.proofs.Common.{◌≡◌, [], ◌∷◌, codes, Some, None, refl}
use lib.Utf8.{encode}
use Rattle.std.specs.Str.{is_utf8, chars}
use Rattle.fp_name.specs.Grammar.{is_id, is_arch, is_branch, is_remote_name, is_url}
use Rattle.fp_name.specs.Pins.{is_pin}
use Rattle.fp_keyfile.specs.Lines.{line_says}
use Rattle.fp_keyfile.specs.KeyFile.{file_of, with_group, with_pair, keys_at, text_of}
use Rattle.fp_small.specs.Config.{remote_of, is_config, config_of, config_text}

nothing_more : config_of (codes "[installation]\nlayout=2\n") ≡ Some (record { remotes = []; pins = [] })
unfolding config_of is_config remote_of keys_at file_of with_group with_pair line_says is_utf8 chars encode
nothing_more = refl

wrong_order : config_of (codes "[remote \"b\"]\nurl=file:///y\n[pins]\nruntime/org.x.Platform/*/*=true\napp/*/*/*=true\n[installation]\nlayout=2\n[remote \"a\"]\nurl=file:///x\n")
    ≡ Some (record { remotes = record { name = codes "a"; url = codes "file:///x" } ∷ record { name = codes "b"; url = codes "file:///y" } ∷ []; pins = codes "app/*/*/*" ∷ codes "runtime/org.x.Platform/*/*" ∷ [] })
unfolding config_of is_config remote_of keys_at file_of with_group with_pair line_says is_utf8 chars encode is_remote_name is_url is_pin is_id is_arch is_branch
wrong_order = refl

no_text : config_of [] ≡ None
unfolding config_of is_config remote_of keys_at file_of with_group with_pair line_says is_utf8 chars encode
no_text = refl

no_installation : config_of (codes "[pins]\n") ≡ None
unfolding config_of is_config remote_of keys_at file_of with_group with_pair line_says is_utf8 chars encode
no_installation = refl

layout_one : config_of (codes "[installation]\nlayout=1\n") ≡ None
unfolding config_of is_config remote_of keys_at file_of with_group with_pair line_says is_utf8 chars encode
layout_one = refl

second_key : config_of (codes "[installation]\nlayout=2\nmore=1\n") ≡ None
unfolding config_of is_config remote_of keys_at file_of with_group with_pair line_says is_utf8 chars encode
second_key = refl

unknown_group : config_of (codes "[installation]\nlayout=2\n[other]\n") ≡ None
unfolding config_of is_config remote_of keys_at file_of with_group with_pair line_says is_utf8 chars encode
unknown_group = refl

no_url : config_of (codes "[installation]\nlayout=2\n[remote \"a\"]\n") ≡ None
unfolding config_of is_config remote_of keys_at file_of with_group with_pair line_says is_utf8 chars encode
no_url = refl

url_and_more : config_of (codes "[installation]\nlayout=2\n[remote \"a\"]\nurl=file:///x\nmore=1\n") ≡ None
unfolding config_of is_config remote_of keys_at file_of with_group with_pair line_says is_utf8 chars encode
url_and_more = refl

bad_name : config_of (codes "[installation]\nlayout=2\n[remote \"-\"]\nurl=file:///x\n") ≡ None
unfolding config_of is_config remote_of keys_at file_of with_group with_pair line_says is_utf8 chars encode is_remote_name is_url
bad_name = refl

pin_of_yes : config_of (codes "[installation]\nlayout=2\n[pins]\napp/*/*/*=yes\n") ≡ None
unfolding config_of is_config remote_of keys_at file_of with_group with_pair line_says is_utf8 chars encode is_pin
pin_of_yes = refl

bad_pattern : config_of (codes "[installation]\nlayout=2\n[pins]\napp/*/*=true\n") ≡ None
unfolding config_of is_config remote_of keys_at file_of with_group with_pair line_says is_utf8 chars encode is_pin
bad_pattern = refl

written : config_text (record { remotes = record { name = codes "a"; url = codes "file:///x" } ∷ []; pins = codes "app/*/*/*" ∷ codes "runtime/org.x.Platform/*/*" ∷ [] })
    ≡ codes "[installation]\nlayout=2\n[remote \"a\"]\nurl=file:///x\n[pins]\napp/*/*/*=true\nruntime/org.x.Platform/*/*=true\n"
unfolding config_text text_of
written = refl
