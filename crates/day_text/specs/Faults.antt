-- What is wrong with a line, in words.
use Rattle.std.specs.Prelude.{ℕ, List, ◌++◌, codes, decimal}
use Rattle.std.specs.Fmt.{signed_decimal}
use Rattle.day_text.specs.declared.fault.Span.{Span}
use Rattle.day_text.specs.declared.fault.WordFault.{WordFault}
use Rattle.day_text.specs.declared.fault.WordFault.TheVariants as word
use Rattle.day_text.specs.declared.fault.Fault.{Fault}
use Rattle.day_text.specs.declared.fault.Fault.TheVariants as fault
use Rattle.day_text.specs.Keywords.{form_of}

unfoldable pub span_text : Span → List ℕ
span_text s =
    codes "from " ++ (signed_decimal s.low ++ (codes " to " ++ (signed_decimal s.high ++ codes " (digits alone, no comma or point, no 0 in front)")))

abbrev pub word_fault_text : WordFault → List ℕ
word_fault_text word.Missing = codes "a word is missing"
word_fault_text (word.TooMany k) = codes "word " ++ (decimal k ++ codes " is one too many")
word_fault_text (word.NoNumber k s) = codes "word " ++ (decimal k ++ (codes " is no number " ++ span_text s))
word_fault_text (word.NoPair k) = codes "word " ++ (decimal k ++ codes " is no pair of a price and kW")
word_fault_text word.NoJournal = codes "word 2 is not journal"

abbrev pub fault_text : Fault → List ℕ
fault_text fault.ByteOrderMark = codes "a byte order mark stands in front: save the file without it"
fault_text (fault.Tab k) = codes "byte " ++ (decimal k ++ codes " is a tab, not a space")
fault_text (fault.CarriageReturn k) = codes "byte " ++ (decimal k ++ codes " is a carriage return: save the file with line feeds alone")
fault_text (fault.NoText k) = codes "byte " ++ (decimal k ++ codes " is no plain character (ASCII): type it anew")
fault_text fault.SpaceInFront = codes "a space stands in front"
fault_text (fault.SpacesTogether k) = codes "more than one space after word " ++ decimal k
fault_text fault.SpaceAtEnd = codes "a space stands at the end"
fault_text fault.UnknownWord = codes "unknown word in front: --help shows all, in small letters"
fault_text (fault.Words keyword f) = word_fault_text f ++ (codes ": " ++ form_of keyword)
fault_text fault.SheetsTooLate = codes "sheets comes too late: it must be the first line"
fault_text fault.LedgerTooLate = codes "ledger comes too late: a call stands before it"
fault_text fault.LimitTooLate = codes "limit comes too late: a call stands before it"
fault_text (fault.NoAccount a) =
    codes "no ledger here has account " ++ (decimal a ++ codes ": they have 0 to 11")
fault_text (fault.NoJournalLedger keyword) = form_of keyword ++ codes " needs ledger journal before it"
