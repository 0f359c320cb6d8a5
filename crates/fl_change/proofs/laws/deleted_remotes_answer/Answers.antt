use Rattle.std.proofs.Common.{refl, sym}
use Rattle.std.specs.Str.{bytes_eq}
use Rattle.std.proofs.lemmas.Bool.{false_from_ne_true}
use Rattle.fp_base.proofs.Texts.{bytes_eq-true, bytes_eq-same}
use Rattle.fl_change.proofs.laws.deleted_remotes_answer.Goals as goal

pub returns-clause-absent : goal.returns-clause-absent
returns-clause-absent c held x name not = rw not refl

pub returns-clause-in_use : goal.returns-clause-in_use
returns-clause-in_use c held x name user has used = rw (has, used) refl

pub returns-clause-deletes : goal.returns-clause-deletes
returns-clause-deletes c held x name has none = rw (has, none) refl

pub returns-clause-none : goal.returns-clause-none
returns-clause-none c name = refl

pub returns-clause-first : goal.returns-clause-first
returns-clause-first c name row more same = rw (sym same, bytes_eq-same row.origin) refl

pub returns-clause-next : goal.returns-clause-next
returns-clause-next c name row more differ = rw (false_from_ne_true (bytes_eq row.origin name) (λ t. differ (bytes_eq-true row.origin name t))) refl
