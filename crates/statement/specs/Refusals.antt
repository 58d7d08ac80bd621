-- Why a page is not written or not read, by number and place.
use Rattle.std.specs.Prelude.{ℕ}
use Rattle.text.specs.Refusals.{refusal_number, cause}
use Rattle.text.specs.Refusals.Cause.{short_memory}
use Rattle.statement.specs.declared.refusal.WriteRefusal.{WriteRefusal}
use Rattle.statement.specs.declared.refusal.WriteRefusal.TheVariants.{NoAccount, NoPage, TooShort}
use Rattle.statement.specs.declared.refusal.ReadRefusal.{ReadRefusal}
use Rattle.statement.specs.declared.refusal.ReadRefusal.TheVariants.{FewPlaces, Faulty}

-- 4: no such account. 7: no such page. 23: memory too short for the text.
abbrev pub write_number : WriteRefusal → ℕ
write_number (NoAccount a) = 4
write_number NoPage = 7
write_number (TooShort s) = refusal_number short_memory

-- of 4 the account; of 7 the page's position, which is the first; of 23 the length needed
abbrev pub write_place : WriteRefusal → ℕ
write_place (NoAccount a) = a
write_place NoPage = 1
write_place (TooShort s) = s.needed

-- 6: memory for too few amounts. 20 to 22: a line is at fault.
abbrev pub read_number : ReadRefusal → ℕ
read_number (FewPlaces n) = 6
read_number (Faulty r) = refusal_number (cause r.fault)

-- of 6 how many places there are; of 20 to 22 the line
abbrev pub read_place : ReadRefusal → ℕ
read_place (FewPlaces n) = n
read_place (Faulty r) = r.line
