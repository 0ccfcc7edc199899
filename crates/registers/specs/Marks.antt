-- The state of a register file: R, a mark for each register, and the words.
use Rattle.std.specs.Prelude.{ℕ, Bool, List, take}
use Rattle.registers.specs.declared.file.File.{File}

pub record State : Type 0 where
  pub count : ℕ
  pub marks : List Bool
  pub words : List ℕ

-- the marks of the R registers of a file
unfoldable pub filled : File → List Bool
filled file = take file.count file.marks

-- a file with the memory that is lent to it
abbrev pub state_of : File → List ℕ → State
state_of file words = record { count = file.count; marks = filled file; words = words }
