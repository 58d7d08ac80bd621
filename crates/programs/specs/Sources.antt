-- What is left of an input.
use Rattle.std.specs.Prelude.{ℕ, List, Option, ⊤}
use Rattle.programs.specs.declared.failure.ProgramError.{ProgramError}
use Rattle.programs.specs.declared.failure.ProgramError.TheVariants.{Unopened, Unread, Unwritten, Memory}
use Rattle.programs.specs.declared.input.Source.{Source}
use Rattle.programs.specs.declared.input.Source.TheVariants as source
use Rattle.programs.specs.declared.input.Input.{Input}
use Rattle.programs.specs.declared.input.Input.TheVariants.{Standard, File}

-- what is left of standard input, or of the file
abbrev pub input_remaining : {S F : Type 0} → (S → Option (List ℕ)) → (F → Option (List ℕ))
    → Input S F → Option (List ℕ)
input_remaining standard file (Standard s) = standard s
input_remaining standard file (File f) = file f

-- standard input is opened for itself, and a file for its name
abbrev pub IsInputOf : {S F : Type 0} → Source → Input S F → Type 0
IsInputOf source.Standard (Standard s) = ⊤
IsInputOf source.Standard (File f) = ⊥
IsInputOf (source.File name) (Standard s) = ⊥
IsInputOf (source.File name) (File f) = ⊤

-- a file alone can fail to be opened
abbrev pub IsUnopenedOf : Source → ProgramError → Type 0
IsUnopenedOf source.Standard e = ⊥
IsUnopenedOf (source.File name) (Unopened e) = ⊤
IsUnopenedOf (source.File name) (Unread e) = ⊥
IsUnopenedOf (source.File name) (Unwritten e) = ⊥
IsUnopenedOf (source.File name) (Memory e) = ⊥
