use Rattle.ost_content.proofs.Told.{tells_files, tells_links, tells_kinds}
use Rattle.ost_content.proofs.laws.headers_tell_objects.Goals as goal

pub returns-clause-files : goal.returns-clause-files
returns-clause-files c = tells_files

pub returns-clause-links : goal.returns-clause-links
returns-clause-links c = tells_links

pub returns-clause-kinds : goal.returns-clause-kinds
returns-clause-kinds c = tells_kinds
