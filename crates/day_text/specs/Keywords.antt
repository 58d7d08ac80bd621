-- The first words of lines, and the form of each line.
use Rattle.std.specs.Prelude.{ℕ, if◌then◌else◌, List, Some, None, codes, Option}
use Rattle.std.specs.Str.{bytes_eq}
use Rattle.day_text.specs.declared.keyword.Keyword.{Keyword}
use Rattle.day_text.specs.declared.keyword.Keyword.TheVariants.{Sheets, Limit, Ledger, Register, Open, Lodge, Start, Reading, Position, Demand, Close, Settle, Adjust, Print, Statement}

-- the keyword that a word is
abbrev pub keyword_of : List ℕ → Option Keyword
keyword_of w =
    if bytes_eq w (codes "sheets") then Some Sheets
    else if bytes_eq w (codes "limit") then Some Limit
    else if bytes_eq w (codes "ledger") then Some Ledger
    else if bytes_eq w (codes "register") then Some Register
    else if bytes_eq w (codes "open") then Some Open
    else if bytes_eq w (codes "lodge") then Some Lodge
    else if bytes_eq w (codes "start") then Some Start
    else if bytes_eq w (codes "reading") then Some Reading
    else if bytes_eq w (codes "position") then Some Position
    else if bytes_eq w (codes "demand") then Some Demand
    else if bytes_eq w (codes "close") then Some Close
    else if bytes_eq w (codes "settle") then Some Settle
    else if bytes_eq w (codes "adjust") then Some Adjust
    else if bytes_eq w (codes "print") then Some Print
    else if bytes_eq w (codes "statement") then Some Statement
    else None

-- the line of a keyword, with a name for each word that changes
abbrev pub form_of : Keyword → List ℕ
form_of Sheets = codes "sheets N"
form_of Limit = codes "limit ACCOUNT CENTS"
form_of Ledger = codes "ledger journal LINES"
form_of Register = codes "register ACCOUNT LOSSFACTOR CAPACITY TOLERANCE"
form_of Open = codes "open LOW HIGH"
form_of Lodge = codes "lodge FACILITY INTERVAL RAMPUP RAMPDOWN PRICE:KW ..."
form_of Start = codes "start FACILITY INTERVAL KW"
form_of Reading = codes "reading FACILITY INTERVAL KWMIN"
form_of Position = codes "position ACCOUNT INTERVAL CONTRACT LOAD"
form_of Demand = codes "demand INTERVAL KW"
form_of Close = codes "close INTERVAL"
form_of Settle = codes "settle INTERVAL"
form_of Adjust = codes "adjust FACILITY INTERVAL KWMIN"
form_of Print = codes "print journal"
form_of Statement = codes "statement ACCOUNT PAGE"
