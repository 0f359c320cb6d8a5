use Rattle.fl_export.proofs.Samples.{rewrites_path, rewrites_field, rewrites_quote, rewrites_dollar, rewrites_backslash, rewrites_empty, rewrites_no_key_file}
use Rattle.fl_export.proofs.laws.commands_are_rewritten.Goals as goal

pub returns-clause-path : goal.returns-clause-path
returns-clause-path c = rewrites_path

pub returns-clause-field : goal.returns-clause-field
returns-clause-field c = rewrites_field

pub returns-clause-quote : goal.returns-clause-quote
returns-clause-quote c = rewrites_quote

pub returns-clause-dollar : goal.returns-clause-dollar
returns-clause-dollar c = rewrites_dollar

pub returns-clause-backslash : goal.returns-clause-backslash
returns-clause-backslash c = rewrites_backslash

pub returns-clause-empty : goal.returns-clause-empty
returns-clause-empty c = rewrites_empty

pub returns-clause-no_key_file : goal.returns-clause-no_key_file
returns-clause-no_key_file c = rewrites_no_key_file
