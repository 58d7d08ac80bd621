-- Pieces of a page's text, put one after another, and how long they are.
use Rattle.std.proofs.Common.{◌≡◌, ℕ, ◌+◌, ◌*◌, ◌^◌, ◌<◌, ◌≤◌, List, [], ◌∷◌, ◌++◌, length, get_or, take, ℤ, pos, negsuc, codes, sym, ap, ◌∙◌, arith, w64, SFits}
use lib.Signed.{mag}
use Rattle.std.proofs.lemmas.List.{append_assoc, append-nil, length-append, take_more, take_all}
use Rattle.text.specs.Drafts.{kept}
use Rattle.text.specs.Lines.{line_text, signed_line_text}
use Rattle.text.proofs.Drafting.{kept_twice, kept_more, kept_all}
use Rattle.text.proofs.Lined.{length_line_text, length_signed_line_text}
use Rattle.statement.specs.Pages.{StatementPage}
use Rattle.statement.specs.Write.{amounts_text, head_text, page_text}

-- ---- account, page and the number of amounts
pub headed : (old a b d : List ℕ) (p : StatementPage)
    → a ≡ kept (old ++ line_text (codes "account") p.account) → b ≡ kept (a ++ line_text (codes "page") p.page)
    → d ≡ kept (b ++ line_text (codes "lines") (length p.amounts)) → d ≡ kept (old ++ head_text p)
headed old a b d p q r s =
    let account = line_text (codes "account") p.account in
    let page = line_text (codes "page") p.page in
    let lines = line_text (codes "lines") (length p.amounts) in
    kept_more old a d account (page ++ lines) q (kept_more a b d page lines r s)

pub length_head : (p : StatementPage) → p.account < 2 ^ 32 → p.page < 2 ^ 32 → length p.amounts < 2 ^ 32 → length (head_text p) ≤ 60
length_head p a n k =
    let account = line_text (codes "account") p.account in
    let page = line_text (codes "page") p.page in
    let lines = line_text (codes "lines") (length p.amounts) in
    omega (
      arith,
      length-append account (page ++ lines),
      length-append page lines,
      length_line_text (codes "account") p.account a,
      length_line_text (codes "page") p.page n,
      length_line_text (codes "lines") (length p.amounts) k,
    )

-- ---- the amounts
pub small : (z : ℤ) → SFits w64 z → mag z < 2 ^ 63
small (pos n) f = f.sfits
small (negsuc n) f = f.sfits

amounts_text_push : (zs : List ℤ) (z : ℤ) → amounts_text (zs ++ (z ∷ [])) ≡ amounts_text zs ++ signed_line_text (codes "amount") z
amounts_text_push [] z = append-nil (signed_line_text (codes "amount") z)
amounts_text_push (y ∷ zs) z =
    let line = signed_line_text (codes "amount") y in
    ap (λ l. line ++ l) (amounts_text_push zs z) ∙ sym (append_assoc line (amounts_text zs) (signed_line_text (codes "amount") z))

-- the first i amounts are drafted
pub record Laid (old new : List ℕ) (zs : List ℤ) (i : ℕ) : Type 0 where
  pub text : new ≡ kept (old ++ amounts_text (take i zs))
  pub short : length (amounts_text (take i zs)) ≤ 28 * i

pub laid_none : (d text : List ℕ) (zs : List ℤ) → d ≡ kept text → Laid d d zs 0
laid_none d text zs e =
    record {
      text = e ∙ ap kept (sym (append-nil text)) ∙ sym (kept_twice text []) ∙ ap (λ x. kept (x ++ [])) (sym e);
      short = omega arith;
    }

pub laid_more : (old mid new : List ℕ) (zs : List ℤ) (i : ℕ) (y z : ℤ) → Laid old mid zs i → i < length zs → get_or zs i y ≡ z → SFits w64 z
    → new ≡ kept (mid ++ signed_line_text (codes "amount") z) → Laid old new zs (i + 1)
laid_more old mid new zs i y z l lt e fits n =
    let text = amounts_text (take i zs) in
    let line = signed_line_text (codes "amount") z in
    let t : amounts_text (take (i + 1) zs) ≡ text ++ line =
    ap amounts_text (take_more zs i y lt) ∙ amounts_text_push (take i zs) (get_or zs i y) ∙ ap (λ x. text ++ signed_line_text (codes "amount") x) e in
    let k = l.short in
    record {
      text = kept_more old mid new text line l.text n ∙ ap (λ x. kept (old ++ x)) (sym t);
      short = omega (arith, ap length t, length-append text line, length_signed_line_text (codes "amount") z (small z fits));
    }

pub laid_all : (old new : List ℕ) (zs : List ℤ) (i : ℕ) → Laid old new zs i → length zs ≤ i → i ≤ length zs
    → (new ≡ kept (old ++ amounts_text zs)) × (length (amounts_text zs) ≤ 28 * length zs)
laid_all old new zs i l ge le =
    let t = take_all i zs ge in
    let k = l.short in
    (l.text ∙ ap (λ x. kept (old ++ amounts_text x)) t, omega (arith, ap (λ x. length (amounts_text x)) t))

-- ---- the whole page
pub paged : (new a b d : List ℕ) (p : StatementPage) → new ≡ [] → length p.amounts ≤ 64 → SFits w64 p.balance
    → a ≡ kept (new ++ head_text p) → length (head_text p) ≤ 60
    → b ≡ kept (a ++ amounts_text p.amounts) → length (amounts_text p.amounts) ≤ 28 * length p.amounts
    → d ≡ kept (b ++ signed_line_text (codes "balance") p.balance) → d ≡ page_text p
paged new a b d p z few fits q short r amounts s =
    let head = head_text p in
    let shown = amounts_text p.amounts in
    let balance = signed_line_text (codes "balance") p.balance in
    kept_more new a d head (shown ++ balance) q (kept_more a b d shown balance r s)
    ∙ ap (λ x. kept (x ++ page_text p)) z
    ∙ kept_all (page_text p) (omega (
      arith,
      length-append head (shown ++ balance),
      length-append shown balance,
      length_signed_line_text (codes "balance") p.balance (small p.balance fits),
    ))
