-- Answers to calls.
use Rattle.std.specs.Prelude.{Some, None, Option}
use Rattle.faults.specs.declared.fault.Fault.{Fault}
use Rattle.calls.specs.declared.answer.Answer.{Answer}
use Rattle.calls.specs.declared.answer.Answer.TheVariants.{Accepted, Refused}

-- accepted, or the fault
abbrev pub verdict : Option Fault → Answer
verdict None = Accepted
verdict (Some f) = Refused f
