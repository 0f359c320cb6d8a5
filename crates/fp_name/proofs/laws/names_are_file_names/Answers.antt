use Rattle.fp_name.proofs.Files.{file_id, file_arch, file_branch, file_remote, file_digest}
use Rattle.fp_name.proofs.laws.names_are_file_names.Goals as goal

pub returns-clause-ids : goal.returns-clause-ids
returns-clause-ids c = file_id

pub returns-clause-archs : goal.returns-clause-archs
returns-clause-archs c = file_arch

pub returns-clause-branches : goal.returns-clause-branches
returns-clause-branches c = file_branch

pub returns-clause-remotes : goal.returns-clause-remotes
returns-clause-remotes c = file_remote

pub returns-clause-digests : goal.returns-clause-digests
returns-clause-digests c = file_digest
