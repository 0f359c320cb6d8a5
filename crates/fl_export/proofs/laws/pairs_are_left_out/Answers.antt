use Rattle.fl_export.proofs.Samples.{rewrites_language, rewrites_foreign, leaves_folder_out, leaves_service_out, leaves_expanded_out, leaves_odd_out, keeps_locale}
use Rattle.fl_export.proofs.laws.pairs_are_left_out.Goals as goal

pub returns-clause-language : goal.returns-clause-language
returns-clause-language c = rewrites_language

pub returns-clause-foreign : goal.returns-clause-foreign
returns-clause-foreign c = rewrites_foreign

pub returns-clause-folder : goal.returns-clause-folder
returns-clause-folder c = leaves_folder_out

pub returns-clause-service : goal.returns-clause-service
returns-clause-service c = leaves_service_out

pub returns-clause-expanded : goal.returns-clause-expanded
returns-clause-expanded c = leaves_expanded_out

pub returns-clause-odd : goal.returns-clause-odd
returns-clause-odd c = leaves_odd_out

pub returns-clause-kept : goal.returns-clause-kept
returns-clause-kept c = keeps_locale
