-- The first faulty line of a page is told, with its number.
use Rattle.std.specs.Prelude.{◌≡◌, ℕ, zero, suc, if◌then◌else◌, List, Ok, Err, codes, Result, nat_lt}
use Rattle.text.specs.declared.line.LineFault.{LineFault}
use Rattle.text.specs.declared.refusal.Refusal.{Refusal}
use Rattle.text.specs.Numbers.{natural_of}
use Rattle.text.specs.Lines.{keyed, valued}
use Rattle.text.specs.Faults.{line_after, FirstFaultOf, SameFault}
use Rattle.statement.specs.Pages.{StatementPage}
use Rattle.statement.specs.Read.{read_of}
use Rattle.statement.specs.Write.{page_text}
use Rattle.statement.specs.Claims.{PageFits}

-- the text is that of some page that keeps its spans
abbrev pub IsPage : List ℕ → Type 0
IsPage s = (p : StatementPage) × PageFits p × (s ≡ page_text p)

abbrev pub count_or_none : Result ℕ LineFault → ℕ
count_or_none (Ok k) = k
count_or_none (Err e) = 0

-- how many amounts the third line of a text says that follow; none where it says nothing
abbrev pub count_told : List ℕ → ℕ
count_told s = count_or_none (valued (natural_of 0 64) (keyed (codes "lines") (line_after 2 s)))

-- the key that is due after n lines, where k amounts follow the third
abbrev pub due_key : ℕ → ℕ → List ℕ
due_key k zero = codes "account"
due_key k (suc zero) = codes "page"
due_key k (suc (suc zero)) = codes "lines"
due_key k (suc (suc (suc n))) = if nat_lt n k then codes "amount" else codes "balance"

-- the text is refused for its first faulty line
abbrev pub FirstFault : List ℕ → Refusal → Type 0
FirstFault s r = FirstFaultOf IsPage (due_key (count_told s)) s r

-- every text that is refused is refused for its first faulty line
abbrev pub TellsFirst : Type 0
TellsFirst = (s : List ℕ) (r : Refusal) → read_of s ≡ Err r → FirstFault s r

-- of one text no two refusals differ in line or number
abbrev pub OneFault : Type 0
OneFault = (s : List ℕ) (q r : Refusal) → FirstFault s q → FirstFault s r → SameFault q r
