-- A text that is made piece by piece, and a text placed in memory.
use Rattle.std.specs.Prelude.{ℕ, if◌then◌else◌, List, ◌++◌, length, take, drop, Ok, Err, Result, nat_le}
use Rattle.text.specs.declared.refusal.TextTooShort.{TextTooShort}

-- a text in a draft: its first 4,096 bytes
abbrev pub kept : List ℕ → List ℕ
kept text = take 4096 text

-- memory that a text was placed in: the text and what lay past it, if it has the length, else as
-- it was
abbrev pub placed_text : List ℕ → List ℕ → List ℕ
placed_text text out =
    if nat_le (length text) (length out) then text ++ drop (length text) out else out

-- the length of the text, or that it is needed
abbrev pub placed_length : List ℕ → List ℕ → Result ℕ TextTooShort
placed_length text out =
    if nat_le (length text) (length out) then Ok (length text)
    else Err record { needed = length text }
