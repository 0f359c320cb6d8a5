use Rattle.std.proofs.Common.{◌≡◌, ◌∷◌, ◌++◌, [], inl, inr, sym, subst}
use Rattle.fp_name.specs.Hex.{hex}
use Rattle.fp_name.specs.Refs.{Ref}
use Rattle.dep_states.specs.Names.{ref_file}
use Rattle.dep_states.specs.Settled.{HasBytes}
use Rattle.dep_states.specs.Shown.{there, ref_seen}
use Rattle.dep_tidy.proofs.laws.a_ref_with_its_file_is_settled.Goals as goal

pub returns-clause-with_file : goal.returns-clause-with_file
returns-clause-with_file c disk name s file = record {
  used = s.used;
  dirs = s.dirs;
  ref_files = λ other row is. elim (s.ref_files other row is) [
    | inl it ↦ subst (λ (n : Ref). HasBytes (hex row.commit ++ 10 ∷ []) (disk (ref_file row.origin n))) (sym it) (file row (subst (λ (n : Ref). ref_seen disk n ≡ there row) it is))
    | inr had ↦ had
  ];
  no_other = s.no_other;
  no_old = s.no_old;
}

pub returns-clause-whatever_the_ref : goal.returns-clause-whatever_the_ref
returns-clause-whatever_the_ref c disk name s = record {
  used = s.used;
  dirs = s.dirs;
  ref_files = λ other row is. inr (s.ref_files other row is);
  no_other = s.no_other;
  no_old = s.no_old;
}
