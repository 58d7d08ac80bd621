-- The first faulty line of a submission is told, with its number.
use Rattle.std.specs.Prelude.{ℕ, zero, suc, List, codes}
use Rattle.text.specs.declared.refusal.Refusal.{Refusal}
use Rattle.text.specs.Faults.{FirstFaultOf, SameFault}
use Rattle.submission_text.specs.declared.file.SubmissionFile.{SubmissionFile}
use Rattle.submission_text.specs.Claims.{Told}

-- the text is read as some file
abbrev pub IsAccepted : List ℕ → Type 0
IsAccepted s = (x : SubmissionFile) × Told s x

-- the key that is due after n lines
abbrev pub due_key : ℕ → List ℕ
due_key zero = codes "facility"
due_key (suc zero) = codes "interval"
due_key (suc (suc zero)) = codes "rampup"
due_key (suc (suc (suc zero))) = codes "rampdown"
due_key (suc (suc (suc (suc zero)))) = codes "pairs"
due_key (suc (suc (suc (suc (suc n))))) = codes "pair"

-- the text is refused for its first faulty line
abbrev pub FirstFault : List ℕ → Refusal → Type 0
FirstFault s r = FirstFaultOf IsAccepted due_key s r

-- of one text no two refusals differ in line or number
abbrev pub OneFault : Type 0
OneFault = (s : List ℕ) (q r : Refusal) → FirstFault s q → FirstFault s r → SameFault q r
