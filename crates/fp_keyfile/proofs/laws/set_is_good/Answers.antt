use Rattle.fp_keyfile.proofs.Good.{good_pair_from, good-with_pair}
use Rattle.fp_keyfile.proofs.laws.set_is_good.Goals as goal

pub returns : goal.returns
returns c = λ file name key value good n nt k kt v vt. good-with_pair file name key value good n nt (good_pair_from (record { key = key; value = value }) (record { key = k; value = v; key_text = kt; value_text = vt }))
