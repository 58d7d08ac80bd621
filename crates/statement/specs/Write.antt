-- The text of a page, and why there is none.
use Rattle.std.specs.Prelude.{ℕ, ◌&&◌, if◌then◌else◌, List, [], ◌∷◌, ◌++◌, length, ℤ, Ok, Err, codes, Result, nat_lt, nat_le}
use Rattle.std.specs.Result.{result_map_both}
use Rattle.text.specs.Drafts.{placed_text, placed_length}
use Rattle.text.specs.Lines.{and_then, line_text, signed_line_text}
use Rattle.journal.specs.declared.line.Line.{Line}
use Rattle.statement.specs.declared.refusal.WriteRefusal.{WriteRefusal}
use Rattle.statement.specs.declared.refusal.WriteRefusal.TheVariants.{NoAccount, NoPage, TooShort}
use Rattle.statement.specs.Pages.{StatementPage, statement_of}

-- a line for each amount
abbrev pub amounts_text : List ℤ → List ℕ
amounts_text [] = []
amounts_text (z ∷ zs) = signed_line_text (codes "amount") z ++ amounts_text zs

-- account, page and the number of amounts
abbrev pub head_text : StatementPage → List ℕ
head_text p =
    line_text (codes "account") p.account
    ++ (line_text (codes "page") p.page
    ++ line_text (codes "lines") (length p.amounts))

-- the whole page
abbrev pub page_text : StatementPage → List ℕ
page_text p =
    head_text p ++ (amounts_text p.amounts ++ signed_line_text (codes "balance") p.balance)

-- an account of 0 to 11, and a page of 1 to 64
abbrev pub page_check : ℕ → ℕ → Result (Unit {0}) WriteRefusal
page_check a n =
    if nat_lt 11 a then Err (NoAccount a)
    else if nat_le 1 n && nat_le n 64 then Ok tt
    else Err NoPage

-- the text of page n of account a, or why there is none
abbrev pub draft_of : List Line → ℕ → ℕ → Result (List ℕ) WriteRefusal
draft_of ls a n = and_then (page_check a n) (λ _. Ok (page_text (statement_of ls a n)))

-- the text's length, or the first refusal; that the memory is too short comes last
abbrev pub written_length : List Line → ℕ → ℕ → List ℕ → Result ℕ WriteRefusal
written_length ls a n out =
    and_then (draft_of ls a n) (λ text. result_map_both (λ k. k) TooShort (placed_length text out))

abbrev pub memory_with_text : Result (List ℕ) WriteRefusal → List ℕ → List ℕ
memory_with_text (Ok text) out = placed_text text out
memory_with_text (Err e) out = out

-- the memory after: the text in front and what lay past it; refused, as it was
abbrev pub written_text : List Line → ℕ → ℕ → List ℕ → List ℕ
written_text ls a n out = memory_with_text (draft_of ls a n) out
