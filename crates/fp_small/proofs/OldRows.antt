-- What some texts of the two files of layout 1 say, by computing.
use Rattle.std.proofs.Common.{◌≡◌, [], ◌∷◌, codes, Some, None, refl}
use lib.Utf8.{encode}
use Rattle.std.specs.Str.{is_utf8, chars}
use Rattle.fp_name.specs.Grammar.{is_id, is_arch, is_branch, is_remote_name, is_url}
use Rattle.fp_name.specs.Pins.{is_pin}
use Rattle.fp_keyfile.specs.Lines.{line_says}
use Rattle.fp_keyfile.specs.KeyFile.{file_of, with_group, with_pair}
use Rattle.fp_small.specs.Config.{remote_of}
use Rattle.fp_small.specs.Old.{remotes_of, pins_of}

no_remotes : remotes_of [] ≡ Some []
unfolding remotes_of remote_of file_of with_group with_pair line_says is_utf8 chars encode
no_remotes = refl

two_remotes : remotes_of (codes "[remote \"b\"]\nurl=file:///y\n[remote \"a\"]\nurl=file:///x\n") ≡ Some (record { name = codes "a"; url = codes "file:///x" } ∷ record { name = codes "b"; url = codes "file:///y" } ∷ [])
unfolding remotes_of remote_of file_of with_group with_pair line_says is_utf8 chars encode is_remote_name is_url
two_remotes = refl

other_group : remotes_of (codes "[remote \"a\"]\nurl=file:///x\n[installation]\nlayout=2\n") ≡ None
unfolding remotes_of remote_of file_of with_group with_pair line_says is_utf8 chars encode is_remote_name is_url
other_group = refl

no_url : remotes_of (codes "[remote \"a\"]\n") ≡ None
unfolding remotes_of remote_of file_of with_group with_pair line_says is_utf8 chars encode is_remote_name is_url
no_url = refl

no_pins : pins_of [] ≡ Some []
unfolding pins_of
no_pins = refl

two_pins : pins_of (codes "app/*/*/*\nruntime/org.x.Platform/*/*\n") ≡ Some (codes "app/*/*/*" ∷ codes "runtime/org.x.Platform/*/*" ∷ [])
unfolding pins_of is_pin is_id is_arch is_branch
two_pins = refl

unended : pins_of (codes "app/*/*/*\nruntime/org.x.Platform/*/*") ≡ None
unfolding pins_of
unended = refl

wrong_order : pins_of (codes "runtime/org.x.Platform/*/*\napp/*/*/*\n") ≡ None
unfolding pins_of is_pin is_id is_arch is_branch
wrong_order = refl

pin_twice : pins_of (codes "app/*/*/*\napp/*/*/*\n") ≡ None
unfolding pins_of is_pin is_id is_arch is_branch
pin_twice = refl

empty_line : pins_of (codes "app/*/*/*\n\n") ≡ None
unfolding pins_of is_pin is_id is_arch is_branch
empty_line = refl
