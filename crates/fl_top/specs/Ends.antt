-- The errors of a command, from those of the layers below.
use Rattle.std.specs.Prelude.{◌≡◌, ◌+◌, ℕ, List, Result, Ok, Err}
use Rattle.fp_small.specs.declared.refusal.Refusal.TheVariants.{BadRecord, Limit, MalformedObject}
use Rattle.fp_base.specs.declared.object.ObjKind.{ObjKind}
use Rattle.ost_object.specs.declared.error.ObjectError.{ObjectError}
use Rattle.ost_object.specs.declared.error.ObjectError.TheVariants as object
use Rattle.fp_base.specs.declared.what.What.TheVariants.{Input}
use Rattle.fl_words.specs.declared.batch.BatchError.{BatchError}
use Rattle.fl_words.specs.declared.batch.BatchError.TheVariants as batch
use Rattle.fl_change.specs.Answer.{Answer, text_answer, refusal_answer}
use Rattle.fl_make.specs.declared.end.MakeEnd.{MakeEnd}
use Rattle.fl_make.specs.declared.end.MakeEnd.TheVariants as make
use Rattle.fl_top.specs.Input.{input_most}
use Rattle.fl_top.specs.declared.input.InputEnd.{InputEnd}
use Rattle.fl_top.specs.declared.input.InputEnd.TheVariants as input
use Rattle.fl_change.specs.declared.end.RunEnd.{RunEnd}
use Rattle.fl_change.specs.declared.end.RunEnd.TheVariants.{Refused, Fault, RemoteFault, NoMemory}
use Rattle.fl_top.specs.declared.command_end.CommandEnd.{CommandEnd}
use Rattle.fl_top.specs.declared.command_end.CommandEnd.TheVariants as command

-- The error for bytes with this digest that can't be read as an object of this kind
abbrev pub end_of_object : List ℕ → ObjKind → ObjectError → RunEnd
end_of_object digest kind (object.Malformed rule) = Refused (MalformedObject digest kind rule)
end_of_object digest kind object.NoMemory = NoMemory

-- ---- as ends of a command

-- The `CommandEnd` that a `RunEnd` is converted to
abbrev pub end_of_run : RunEnd → CommandEnd
end_of_run (Refused refusal) = command.Refused refusal
end_of_run Fault = command.Fault
end_of_run RemoteFault = command.RemoteFault
end_of_run NoMemory = command.NoMemory

-- The `CommandEnd` that an `InputEnd` is converted to. An input that is too long is refused with
-- the first number of bytes above the limit.
abbrev pub end_of_input : InputEnd → CommandEnd
end_of_input input.TooLong = command.Refused (Limit Input (input_most + 1))
end_of_input input.Fault = command.InputFault
end_of_input input.NoMemory = command.NoMemory

-- The `CommandEnd` that a `BatchError` is converted to
abbrev pub end_of_batch : BatchError → CommandEnd
end_of_batch (batch.BadRecord line) = command.Refused (BadRecord line)
end_of_batch batch.NoMemory = command.NoMemory

-- The `CommandEnd` that a `MakeEnd` is converted to
abbrev pub end_of_make : MakeEnd → CommandEnd
end_of_make (make.BadRecord line) = command.Refused (BadRecord line)
end_of_make make.Fault = command.Fault
end_of_make make.NoMemory = command.NoMemory

-- The result is exactly this answer: its text, or its refusal. Only memory may run out instead.
abbrev pub Prints : Answer → Result (List ℕ) RunEnd → Type 0
Prints a (Ok text) = a ≡ text_answer text
Prints a (Err (Refused r)) = a ≡ refusal_answer r
Prints a (Err Fault) = ⊥
Prints a (Err RemoteFault) = ⊥
Prints a (Err NoMemory) = Unit {0}

-- The result is exactly this answer: its text, or its refusal. The host may fail, or memory may run
-- out, instead.
abbrev pub PrintsOf : Answer → Result (List ℕ) RunEnd → Type 0
PrintsOf a (Ok text) = a ≡ text_answer text
PrintsOf a (Err (Refused r)) = a ≡ refusal_answer r
PrintsOf a (Err Fault) = Unit {0}
PrintsOf a (Err RemoteFault) = ⊥
PrintsOf a (Err NoMemory) = Unit {0}
