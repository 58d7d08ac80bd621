-- The claims of reading and writing.
use Rattle.std.proofs.Common.{◌≡◌, ℕ, Bool, true, ◌&&◌, List, [], ◌∷◌, length, drop, replicate, pos, negsuc, Ok, sym, refl, ap, ◌∙◌, arith}
use lib.Signed.{le_z}
use Rattle.std.proofs.lemmas.List.{take_at}
use Rattle.std.proofs.lemmas.Int.{ints}
use Rattle.text.specs.declared.refusal.Refusal.{Refusal}
use Rattle.text.proofs.Lined.{same_ok}
use Rattle.offers.specs.declared.pair.Pair.{Pair}
use Rattle.offers.specs.Tests.{all}
use Rattle.offers.specs.Curves.{total, curve, listed, stored, no_pair}
use Rattle.offers.proofs.Tests.{and_first, and_second, and_both}
use Rattle.offers.proofs.Sums.{summed_curve}
use Rattle.offers.proofs.InForm.{length_curve, all_offering, all_curve}
use Rattle.offers.proofs.Claims.{curve_in_form, own_curve}
use Rattle.submission_text.specs.Read.{file_of, read_of}
use Rattle.submission_text.specs.Write.{head, pairs, file_text, written_form}
use Rattle.submission_text.specs.Claims.{PricesFit, PairsFit, ReadsLines, ReadsBack, OneText, Again, Settled, Alike}
use Rattle.submission_text.proofs.Trips.{text_read}
use Rattle.submission_text.proofs.Only.{read_told}

-- ---- a curve fits where its pairs do
total_curve : (ps : List Pair) → total (curve ps) ≡ total ps
total_curve ps = summed_curve (λ p. p.kw) (λ p q s. refl) (λ p z. z) ps

abbrev in_price_span : Pair → Bool
in_price_span p = le_z (negsuc 99999) p.price && le_z p.price (pos 100000)

prices_all : (ps : List Pair) → PricesFit ps → all in_price_span ps ≡ true
prices_all [] f = refl
prices_all (p ∷ ps) f =
    let a = f.0 in let b = f.1 in
    let t : in_price_span p ≡ true = grind (arith, ints) in and_both (in_price_span p) (all in_price_span ps) t (prices_all ps f.2)

all_prices : (ps : List Pair) → all in_price_span ps ≡ true → PricesFit ps
all_prices [] h = tt
all_prices (p ∷ ps) h =
    let t = and_first (in_price_span p) (all in_price_span ps) h in
    let a = and_first (le_z (negsuc 99999) p.price) (le_z p.price (pos 100000)) t in
    let b = and_second (le_z (negsuc 99999) p.price) (le_z p.price (pos 100000)) t in
    (omega (arith, ints), omega (arith, ints), all_prices ps (and_second (in_price_span p) (all in_price_span ps) h))

curve_fits : (ps : List Pair) → PairsFit ps → PairsFit (curve ps)
curve_fits ps f =
    let few = f.few in let kw = f.kw in
    record {
      few = omega (arith, length_curve ps);
      prices = all_prices (curve ps) (all_curve in_price_span (λ p q h k. h) ps (all_offering in_price_span ps (prices_all ps f.prices)));
      kw = omega (arith, total_curve ps);
    }

listed_stored : (ps : List Pair) → listed (stored ps) ≡ ps
listed_stored ps = take_at ps (drop (length ps) (replicate 8 no_pair)) (length ps) refl

-- ---- the claims
pub reads_lines : (s : List ℕ) → ReadsLines s (read_of s)
reads_lines s x = (
  read_told s x,
  λ t. ap read_of t.text ∙ text_read (head x) t.sent t.head_fits t.pairs_fit ∙ ap Ok (sym t.file),
)

pub reads_back : ReadsBack
reads_back x hf pf form =
    let ps = pairs x in
    let y = file_of (head x) (stored (curve ps)) in
    (y, text_read (head x) ps hf pf, record { figures = refl; curves = sym (listed_stored (curve ps) ∙ own_curve ps form) })

pub one_text : OneText
one_text s x t form =
    let same : pairs x ≡ t.sent = ap pairs t.file ∙ listed_stored (curve t.sent) ∙ own_curve t.sent form in
    t.text ∙ ap (file_text (head x)) (sym same)

pub again : Again
again s x e =
    let t = read_told s x e in
    let ps = curve t.sent in
    let same : pairs x ≡ ps = ap pairs t.file ∙ listed_stored ps in
    ap (λ qs. read_of (file_text (head x) qs)) same
    ∙ text_read (head x) ps t.head_fits (curve_fits t.sent t.pairs_fit)
    ∙ ap (λ qs. Ok (file_of (head x) (stored qs))) (own_curve ps (curve_in_form t.sent))
    ∙ ap Ok (sym t.file)

pub settled : Settled
settled s x y e f = ap written_form (same_ok {E = Refusal} y x (sym f ∙ again s x e))

pub alike : Alike
alike s t x y e f = (
  (λ w. let same : x ≡ y = same_ok {E = Refusal} x y (sym (again s x e) ∙ ap read_of w ∙ again t y f) in
      record { figures = ap head same; curves = ap pairs same }),
  (λ a. ap (λ h. file_text h (pairs x)) a.figures ∙ ap (file_text (head y)) a.curves),
)
