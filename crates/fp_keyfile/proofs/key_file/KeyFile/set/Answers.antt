use Rattle.std.proofs.lemmas.Str.{is_utf8-from_IsUtf8}
use Rattle.fp_keyfile.proofs.Good.{good_pair_from, good-with_pair, good_either}
use Rattle.fp_keyfile.proofs.key_file.KeyFile.set.Goals as goal

pub invariant_of-self : goal.invariant_of-self
invariant_of-self c =
    let name = c.args.group.now in
    let key = c.args.key.now in
    let value = c.args.value.now in
    let pair = good_pair_from (record { key = key; value = value }) (record { key = c.requires.key; value = c.requires.value; key_text = is_utf8-from_IsUtf8 key c.utf8.key; value_text = is_utf8-from_IsUtf8 value c.utf8.value }) in
    let set = good-with_pair c.self.inside.groups name key value c.self.invariant c.requires.group (is_utf8-from_IsUtf8 name c.utf8.group) pair in
    good_either c.set_pair.new.groups c.self.inside.groups _ c.set_pair.result c.set_pair.ensures.ok c.set_pair.ensures.err set c.self.invariant
