use Rattle.std.proofs.Common.{◌≡◌, ℕ, List, length, sym, ap, codes, rules, arith}
use Rattle.std.proofs.lemmas.Slice.Eq.{HasBytesAt, text_from_reads}
use Rattle.day_text.specs.Keywords.{keyword_of}
use Rattle.day_text.proofs.keyword.keyword_of.Goals as goal

-- a word with the bytes of a keyword is that keyword
read : (word keyword : List ℕ) → length word ≡ length keyword → HasBytesAt word 0 keyword → keyword_of keyword ≡ keyword_of word
read word keyword len bytes = sym (ap keyword_of (text_from_reads word keyword len bytes))

pub returns-in-sheets : goal.returns-in-sheets
returns-in-sheets c = read c.args.word.now (codes "sheets") (omega arith) (search rules)

pub returns-in-ledger : goal.returns-in-ledger
returns-in-ledger c = read c.args.word.now (codes "ledger") (omega arith) (search rules)

pub returns-in-register : goal.returns-in-register
returns-in-register c = read c.args.word.now (codes "register") (omega arith) (search rules)

pub returns-in-reading : goal.returns-in-reading
returns-in-reading c = read c.args.word.now (codes "reading") (omega arith) (search rules)

pub returns-in-position : goal.returns-in-position
returns-in-position c = read c.args.word.now (codes "position") (omega arith) (search rules)

pub returns-in-demand : goal.returns-in-demand
returns-in-demand c = read c.args.word.now (codes "demand") (omega arith) (search rules)

pub returns-in-settle : goal.returns-in-settle
returns-in-settle c = read c.args.word.now (codes "settle") (omega arith) (search rules)

pub returns-in-adjust : goal.returns-in-adjust
returns-in-adjust c = read c.args.word.now (codes "adjust") (omega arith) (search rules)

pub returns-in-statement : goal.returns-in-statement
returns-in-statement c = read c.args.word.now (codes "statement") (omega arith) (search rules)
