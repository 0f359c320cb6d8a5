use Rattle.std.proofs.Common.{◌≡◌, Ok, List, subst}
use Rattle.fp_keyfile.specs.declared.group.Group.{Group}
use Rattle.fp_keyfile.specs.KeyFile.{file_of, text_of}
use Rattle.fp_keyfile.proofs.Read.{file_of-text_of}
use Rattle.fp_keyfile.proofs.key_file.KeyFile.write.Goals as goal

pub returns-in_err-text-clause-reads_back : goal.returns-in_err-text-clause-reads_back
returns-in_err-text-clause-reads_back c = subst (λ (file : List Group). file_of (text_of file) ≡ Ok file) c.self.view_is (file_of-text_of c.self.inside.groups c.self.invariant)

pub returns-clause-reads_back : goal.returns-clause-reads_back
returns-clause-reads_back c = subst (λ (file : List Group). file_of (text_of file) ≡ Ok file) c.self.view_is (file_of-text_of c.self.inside.groups c.self.invariant)
