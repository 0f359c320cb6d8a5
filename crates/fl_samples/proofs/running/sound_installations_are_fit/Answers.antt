use Rattle.fp_host.specs.Moments.{Moments}
use Rattle.std.proofs.Common.{Some, None}
use Rattle.fl_samples.proofs.Fit.{fit_words, fit_start}
use Rattle.fl_samples.proofs.running.sound_installations_are_fit.Goals as goal

pub returns-clause-fit : goal.returns-clause-fit
returns-clause-fit c = λ words v tree sound. fit_words c.sound_installations_take_remotes.ensures v tree sound words

pub returns-clause-starts : goal.returns-clause-starts
returns-clause-starts c = λ words m tree sound. fit_start c.sound_installations_take_remotes.ensures words m tree sound

pub returns-clause-untold : goal.returns-clause-untold
returns-clause-untold c = λ words m is. absurd (cc is)
