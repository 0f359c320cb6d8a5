use Rattle.std.proofs.Common.{◌≡◌, ℕ, List, Option, Some, None, MatchOption, sym, lit<}
use Rattle.std.specs.Prelude.{option_map}
use denote.Ref.{Bor}
use Rattle.fp_keyfile.specs.Lines.{split_at}
use Rattle.fp_keyfile.proofs.Cuts.{split_once_is}
use Rattle.fl_export.proofs.keys.cut_at_bracket.Goals as goal

cut_is : (text : List ℕ) (r : Option (Bor (List ℕ) × Bor (List ℕ))) → MatchOption r (split_at 91 text ≡ None) (λ x. split_at 91 text ≡ Some (x.0.now, x.1.now)) → option_map (λ x. (x.0.now, x.1.now)) r ≡ split_at 91 text
cut_is text None h = sym h
cut_is text (Some x) h = sym h

pub returns : goal.returns
returns c = cut_is c.args.text.now c.split_once.result (split_once_is 91 c.args.text.now c.split_once.result c.split_once.ensures.cases (lit< tt))
