-- The claims of pages.
use Rattle.std.proofs.Common.{◌≡◌, ℕ, zero, suc, ◌+◌, ◌-◌, ◌*◌, ◌≤◌, ◌==◌, ◌&&◌, ltb, leb, eqb, cond, true, false, List, ◌∷◌, [], map, ℤ, ◌++◌, length, take, drop, Ok, Err, Result, sym, refl, ap, ◌∙◌, ⊎_elim, arith}
use Rattle.std.specs.List.{filter}
use Rattle.std.proofs.Math.Seq.{take-add}
use Rattle.std.proofs.lemmas.List.{take_all, take_at, length-take}
use Rattle.std.proofs.lemmas.List.Elements.{All-take, All-drop, All-map, All-filter}
use Rattle.std.proofs.lemmas.Bool.{cond-true, cond-false, cases_Bool}
use Rattle.std.proofs.lemmas.Bool.Decides.{nat_tests}
use Rattle.text.specs.declared.refusal.TextTooShort.{TextTooShort}
use Rattle.text.specs.Drafts.{placed_text, placed_length}
use Rattle.text.proofs.Lined.{apart_ok, same_ok, and_then_ok}
use Rattle.journal.specs.declared.line.Line.{Line}
use Rattle.journal.specs.Shown.{posted_of}
use Rattle.journal.specs.Lines.{Spans, InMove, MovesFit}
use Rattle.statement.specs.Pages.{postings_of, postings_on, statement_of, postings_up_to}
use Rattle.statement.specs.Read.{read_of}
use Rattle.statement.specs.declared.refusal.WriteRefusal.{WriteRefusal}
use Rattle.statement.specs.declared.refusal.WriteRefusal.TheVariants.{NoAccount, NoPage}
use Rattle.statement.specs.Write.{page_text, page_check, draft_of}
use Rattle.statement.specs.Claims.{PageFits, ReadsPages, OneText, PagesShowAll}
use Rattle.statement.proofs.Trips.{page_read}
use Rattle.statement.proofs.Only.{page_only}

pub reads_pages : ReadsPages
reads_pages s p = (page_only s p, λ fits text. ap read_of text ∙ page_read p fits)

pub one_text : OneText
one_text s t p e f = (page_only s p e).1 ∙ sym (page_only t p f).1

-- ---- what is written of a journal
pub statement_fits : (ls : List Line) (a n : ℕ) → MovesFit ls → Spans ls → a ≤ 11 → 1 ≤ n → n ≤ 64 → PageFits (statement_of ls a n)
statement_fits ls a n moves spans account least last =
    let own = filter (λ l. l.account == a) ls in
    let posted = postings_of a ls in
    let behind = drop (64 * (n - 1)) posted in
    let long = length-take 64 behind in
    record {
      account = account;
      page_least = least;
      page_most = last;
      few = omega arith;
      amounts = All-take InMove 64 behind (All-drop InMove (64 * (n - 1)) posted
          (All-map InMove (λ l. l.cents) own (All-filter (λ l. l.account == a) (λ l. InMove l.cents) ls moves)));
      balance = spans a (omega arith);
    }

pub page_check_ok : (a n : ℕ) → page_check a n ≡ Ok tt → (a ≤ 11) × (1 ≤ n) × (n ≤ 64)
page_check_ok a n e =
    ⊎_elim
    (λ t. absurd (apart_ok _ tt (sym (cond-true (ltb 11 a) (Err (NoAccount a)) page t) ∙ e)))
    (λ f. ⊎_elim
    (λ t.
    let account : a ≤ 11 = grind (arith, nat_tests) in
    let least : 1 ≤ n = grind (arith, nat_tests) in
    let last : n ≤ 64 = grind (arith, nat_tests) in
    (account, least, last))
    (λ g. absurd (apart_ok _ tt (sym (cond-false (leb 1 n && leb n 64) (Ok tt) (Err NoPage) g) ∙ sym (cond-false (ltb 11 a) (Err (NoAccount a)) page f) ∙ e)))
    (cases_Bool (leb 1 n && leb n 64)))
    (cases_Bool (ltb 11 a))
  where
    page : Result (Unit {0}) WriteRefusal
    page = cond (leb 1 n && leb n 64) (Ok tt) (Err NoPage)

placed_front : (text out : List ℕ) (k : ℕ) → placed_length text out ≡ Ok k → take k (placed_text text out) ≡ text
placed_front text out k e =
    ⊎_elim
    (λ t. let same : length text ≡ k = same_ok {E = TextTooShort} (length text) k (sym (cond-true (leb (length text) (length out)) (Ok (length text)) _ t) ∙ e) in
    ap (take k) (cond-true (leb (length text) (length out)) (text ++ drop (length text) out) out t) ∙ take_at text (drop (length text) out) k same)
    (λ f. absurd (apart_ok _ k (sym (cond-false (leb (length text) (length out)) (Ok (length text)) _ f) ∙ e)))
    (cases_Bool (leb (length text) (length out)))

-- what was written is read as the page that it is of
pub read_back : (ls : List Line) (a n : ℕ) (text out : List ℕ) (k : ℕ) → MovesFit ls → Spans ls → draft_of ls a n ≡ Ok text → placed_length text out ≡ Ok k
    → read_of (take k (placed_text text out)) ≡ Ok (statement_of ls a n)
read_back ls a n text out k moves spans e f =
    let page = statement_of ls a n in
    let checked = and_then_ok (page_check a n) (λ _. Ok (page_text page)) text e in
    let within = page_check_ok a n checked.1 in
    let same : page_text page ≡ text = same_ok {E = WriteRefusal} (page_text page) text checked.2 in
    ap read_of (placed_front text out k f ∙ sym same) ∙ page_read page (statement_fits ls a n moves spans within.0 within.1 within.2)

-- ---- all pages together
shown_first : (n : ℕ) (zs : List ℤ) → postings_up_to n zs ≡ take (64 * n) zs
unfolding postings_up_to
shown_first zero zs = refl
shown_first (suc n) zs =
    let from : 64 * (suc n - 1) ≡ 64 * n = omega arith in
    let to : 64 * n + 64 ≡ 64 * suc n = omega arith in
    ap (λ l. l ++ postings_on (suc n) zs) (shown_first n zs)
    ∙ ap (λ k. take (64 * n) zs ++ take 64 (drop k zs)) from
    ∙ sym (take-add (64 * n) 64 zs)
    ∙ ap (λ k. take k zs) to

few_postings : (a : ℕ) (ls : List Line) → length (postings_of a ls) ≤ length ls
few_postings a [] = omega arith
few_postings a (l ∷ ls) =
    let rest = few_postings a ls in
    elim (eqb l.account a) as (λ t. length (map (λ l. l.cents) (cond t (l ∷ filter (λ l. l.account == a) ls) (filter (λ l. l.account == a) ls))) ≤ length (l ∷ ls)) [
      | true ↦ omega arith
      | false ↦ omega arith
    ]

pub pages_show_all : PagesShowAll
pages_show_all j a =
    let ls = posted_of j in
    let zs = postings_of a ls in
    let within = j.within in
    let few : length zs ≤ 4096 = omega (arith, few_postings a ls, length-take j.used j.lines.now) in
    shown_first 64 zs ∙ take_all 4096 zs few
