-- The ends of the lower layers, as ends of making a remote.
use Rattle.fp_host.specs.declared.host.HostEnd.{HostEnd}
use Rattle.fp_host.specs.declared.host.HostEnd.TheVariants as host
use Rattle.ost_description.specs.declared.description.DescriptionError.{DescriptionError}
use Rattle.ost_description.specs.declared.description.DescriptionError.TheVariants as error
use Rattle.fl_make.specs.declared.end.MakeEnd.{MakeEnd}
use Rattle.fl_make.specs.declared.end.MakeEnd.TheVariants.{BadRecord, Fault, NoMemory}

-- The end of a host's call, as the end of making a remote
abbrev pub end_of_host : HostEnd → MakeEnd
end_of_host host.Fault = Fault
end_of_host host.NoMemory = NoMemory

-- The end of reading a description and building its commit, as the end of making a remote
abbrev pub end_of_description : DescriptionError → MakeEnd
end_of_description (error.Record line) = BadRecord line
end_of_description error.Collision = NoMemory
end_of_description error.TooLarge = NoMemory
end_of_description error.NoMemory = NoMemory
