-- Why a program gave no answer.
use Rattle.std.specs.Prelude.{ℕ, ⊤}
use Rattle.programs.specs.declared.failure.ProgramError.{ProgramError}
use Rattle.programs.specs.declared.failure.ProgramError.TheVariants.{Unopened, Unread, Unwritten, Memory}

-- said where the input could not be read
abbrev pub OnUnread : ProgramError → Type 0 → Type 0
OnUnread (Unopened _) P = ⊤
OnUnread (Unread _) P = P
OnUnread (Unwritten _) P = ⊤
OnUnread (Memory _) P = ⊤

-- one thing where the answer could not be written, and another where there was none yet
abbrev pub ByFailure : ProgramError → Type 0 → Type 0 → Type 0
ByFailure (Unopened _) P Q = Q
ByFailure (Unread _) P Q = Q
ByFailure (Unwritten _) P Q = P
ByFailure (Memory _) P Q = Q

-- said of the line that is told where the input could not be read
abbrev pub ForLine : ProgramError → (ℕ → Type 0) → Type 0
ForLine (Unopened _) P = ⊤
ForLine (Unread u) P = P u.line
ForLine (Unwritten _) P = ⊤
ForLine (Memory _) P = ⊤
