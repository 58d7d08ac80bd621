-- What a day file asks for beside its calls, line by line.
use Rattle.std.specs.Prelude.{ℕ, Bool, true, false, if◌then◌else◌, replicate, ℤ, is_some, Some, None, Ok, Err, Result, nat_lt, slice_set}
use Rattle.ledger.specs.View.{most}
use Rattle.day_text.specs.declared.fault.Fault.{Fault}
use Rattle.day_text.specs.declared.fault.Fault.TheVariants.{SheetsTooLate, LedgerTooLate, LimitTooLate, NoAccount, NoJournalLedger}
use Rattle.text.specs.Lines.{and_then}
use Rattle.day_text.specs.declared.keyword.Keyword.{Keyword}
use Rattle.day_text.specs.declared.keyword.Keyword.TheVariants as keyword
use Rattle.day_text.specs.declared.line.DayLine.{DayLine}
use Rattle.day_text.specs.declared.line.DayLine.TheVariants.{Blank, Sheets, Limit, Journal, Register, Open, Lodge, Start, Reading, Position, Demand, Close, Settle, Adjust, PrintJournal, Statement}
use Rattle.day_file.specs.declared.terms.Stage.{Stage}
use Rattle.day_file.specs.declared.terms.Stage.TheVariants as stage
use Rattle.day_file.specs.declared.terms.Terms.{Terms}

abbrev pub has_no_line : Stage → Bool
has_no_line stage.NoLine = true
has_no_line stage.NoCall = false
has_no_line stage.Calls = false

abbrev pub has_calls : Stage → Bool
has_calls stage.NoLine = false
has_calls stage.NoCall = false
has_calls stage.Calls = true

abbrev pub at_stage : Terms → Stage → Terms
at_stage t s = record { stage = s; sheets = t.sheets; limits = t.limits; journal = t.journal; print = t.print }

-- 48 sheets, the account table, and no limit that binds
abbrev pub blank_terms : Terms
blank_terms = record { stage = stage.NoLine; sheets = 48; limits = replicate 64 most; journal = None; print = false }

-- `sheets` stands before all other lines
abbrev pub with_sheets : Terms → ℕ → Result Terms Fault
with_sheets t n =
    if has_no_line t.stage then Ok (record { stage = stage.NoCall; sheets = n; limits = t.limits; journal = t.journal; print = t.print })
    else Err SheetsTooLate

-- `limit` stands before the first call, and is for an account of 0 to 11
abbrev pub with_limit : Terms → ℕ → ℤ → Result Terms Fault
with_limit t a c =
    if has_calls t.stage then Err LimitTooLate
    else if nat_lt a 12 then Ok (record { stage = stage.NoCall; sheets = t.sheets; limits = slice_set t.limits a c; journal = t.journal; print = t.print })
    else Err (NoAccount a)

-- `ledger` stands before the first call
abbrev pub with_journal : Terms → ℕ → Result Terms Fault
with_journal t n =
    if has_calls t.stage then Err LedgerTooLate
    else Ok (record { stage = stage.NoCall; sheets = t.sheets; limits = t.limits; journal = Some n; print = t.print })

-- without a journal there is nothing to print, nor a page of a statement
abbrev pub behind_journal : Terms → Keyword → Result Terms Fault
behind_journal t k = if is_some t.journal then Ok t else Err (NoJournalLedger k)

abbrev pub with_print : Terms → Terms
with_print t = record { stage = t.stage; sheets = t.sheets; limits = t.limits; journal = t.journal; print = true }

abbrev pub printing : Terms → Result Terms Fault
printing t = and_then (behind_journal t keyword.Print) (λ u. Ok (with_print u))

-- the terms after a line, or what is wrong with its place
abbrev pub with_line : Terms → DayLine → Result Terms Fault
with_line t Blank = Ok t
with_line t (Sheets n) = with_sheets t n
with_line t (Limit a c) = with_limit t a c
with_line t (Journal n) = with_journal t n
with_line t PrintJournal = printing t
with_line t (Statement a n) = behind_journal t keyword.Statement
with_line t (Register a x c k) = Ok (at_stage t stage.Calls)
with_line t (Open l h) = Ok (at_stage t stage.Calls)
with_line t (Lodge f i u w) = Ok (at_stage t stage.Calls)
with_line t (Start f i k) = Ok (at_stage t stage.Calls)
with_line t (Reading f i k) = Ok (at_stage t stage.Calls)
with_line t (Position a i c l) = Ok (at_stage t stage.Calls)
with_line t (Demand i k) = Ok (at_stage t stage.Calls)
with_line t (Close i) = Ok (at_stage t stage.Calls)
with_line t (Settle i) = Ok (at_stage t stage.Calls)
with_line t (Adjust f i k) = Ok (at_stage t stage.Calls)
