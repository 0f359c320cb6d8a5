use Rattle.bus_proxy.specs.Arrivals.{end_of}
use Rattle.fl_filter.proofs.Remaining.{refused_end}
use Rattle.fl_filter.proofs.printing.finish.Goals as goal

pub returns-in_err-end : goal.returns-in_err-end
returns-in_err-end c = λ s fed taken given at all.
    refused_end c.in_err-end.field-0.0 (end_of fed) c.from_residual.result c.from_residual.ensures.1 (c.in_err-end.ensures.at s fed taken given at all)
