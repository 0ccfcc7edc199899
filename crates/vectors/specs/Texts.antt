-- What is printed in the place of an answer.
use Rattle.std.specs.Prelude.{ℕ, List, Option, Some, None, codes}
use Rattle.faults.specs.Texts.{fault_text}
use Rattle.vectors.specs.declared.answer.Failure.{Failure}
use Rattle.vectors.specs.declared.answer.Failure.TheVariants.{Unknown, Refused, KernelsDiffer, Memory}

-- where memory is wanting the program ends, and nothing is said of the text
abbrev pub failure_text : Failure → Option (List ℕ)
failure_text Unknown = Some (codes "unknown")
failure_text (Refused f) = Some (fault_text f)
failure_text KernelsDiffer = Some (codes "kernels differ")
failure_text (Memory e) = None
