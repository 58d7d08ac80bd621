-- How long the text of a page is at most.
use Rattle.std.proofs.Common.{◌≡◌, ℕ, ◌+◌, ◌*◌, ◌≤◌, List, [], ◌∷◌, ◌++◌, length, ℤ, pos, negsuc, Ok, codes, decimal, sym, subst, arith}
use lib.Signed.{mag}
use Rattle.std.specs.Fmt.{signed_decimal}
use Rattle.std.specs.List.{All}
use Rattle.std.proofs.lemmas.Fmt.{length-decimal-le, length_signed_le}
use Rattle.std.proofs.lemmas.Int.{ints}
use Rattle.std.proofs.lemmas.List.{length-append}
use Rattle.std.proofs.lemmas.List.Elements.{All-head, All-tail}
use Rattle.text.specs.Lines.{line_text, signed_line_text}
use Rattle.journal.specs.declared.line.Line.{Line}
use Rattle.journal.specs.Lines.{InMove, MovesFit, Spans}
use Rattle.statement.specs.Pages.{StatementPage, statement_of}
use Rattle.statement.specs.Write.{amounts_text, head_text, page_text, page_check}
use Rattle.statement.specs.Claims.{PageFits}
use Rattle.statement.proofs.PagesHold.{page_check_ok, statement_fits}

-- a number of at most two digits
figure_line : (key : List ℕ) (n : ℕ) → n ≤ 64 → length (line_text key n) ≤ length key + 4
unfolding line_text
figure_line key n le =
    let a = length-append key (61 ∷ (decimal n ++ 10 ∷ [])) in
    let b = length-append (decimal n) (10 ∷ []) in
    let d = length-decimal-le 2 n (omega arith) (omega arith) (omega arith) in
    omega arith

-- cents of at most sixteen digits
small_move : (z : ℤ) → InMove z → mag z ≤ 2000000000000000
small_move (pos n) m = omega (arith, ints, m.0, m.1)
small_move (negsuc n) m = omega (arith, ints, m.0, m.1)

cents_line : (key : List ℕ) (z : ℤ) → InMove z → length (signed_line_text key z) ≤ length key + 19
unfolding signed_line_text
cents_line key z m =
    let small = small_move z m in
    let a = length-append key (61 ∷ (signed_decimal z ++ 10 ∷ [])) in
    let b = length-append (signed_decimal z) (10 ∷ []) in
    let d = length_signed_le 16 z (omega arith) (omega arith) in
    omega arith

amounts_lines : (zs : List ℤ) → All InMove zs → length (amounts_text zs) ≤ 25 * length zs
amounts_lines [] all = omega arith
amounts_lines (z ∷ zs) all =
    let line = signed_line_text (codes "amount") z in
    omega (arith, length-append line (amounts_text zs), cents_line (codes "amount") z (All-head InMove z zs all), amounts_lines zs (All-tail InMove z zs all))

page_short : (p : StatementPage) → PageFits p → length (page_text p) ≤ 1654
page_short p f =
    let account = line_text (codes "account") p.account in
    let page = line_text (codes "page") p.page in
    let lines = line_text (codes "lines") (length p.amounts) in
    let shown = amounts_text p.amounts in
    let balance = signed_line_text (codes "balance") p.balance in
    let least = f.account in
    let few = f.few in
    let in_move : InMove p.balance = (omega (arith, ints, f.balance.0), omega (arith, ints, f.balance.1)) in
    omega (
      arith,
      few,
      length-append (head_text p) (shown ++ balance),
      length-append account (page ++ lines),
      length-append page lines,
      length-append shown balance,
      figure_line (codes "account") p.account (omega arith),
      figure_line (codes "page") p.page f.page_most,
      figure_line (codes "lines") (length p.amounts) f.few,
      amounts_lines p.amounts f.amounts,
      cents_line (codes "balance") p.balance in_move,
    )

-- a page that passed the checks
pub draft_short : (ls : List Line) (a n : ℕ) (text : List ℕ) → MovesFit ls → Spans ls → page_check a n ≡ Ok tt → text ≡ page_text (statement_of ls a n) → length text ≤ 1654
draft_short ls a n text moves spans e same =
    let within = page_check_ok a n e in
    subst (λ t. length t ≤ 1654) (sym same) (page_short (statement_of ls a n) (statement_fits ls a n moves spans within.0 within.1 within.2))
