use Rattle.ost_content.proofs.Values.{files_have_headers, links_have_headers}
use Rattle.ost_content.proofs.laws.headers_are_values.Goals as goal

pub returns-clause-files : goal.returns-clause-files
returns-clause-files c = files_have_headers

pub returns-clause-links : goal.returns-clause-links
returns-clause-links c = links_have_headers
