-- Pieces of the written form, put one after another, and how long they are.
use Rattle.std.proofs.Common.{◌≡◌, ℕ, ◌+◌, ◌*◌, ◌^◌, ◌<◌, ◌≤◌, List, [], ◌∷◌, ◌++◌, length, get_or, take, ℤ, pos, negsuc, codes, decimal, sym, ap, ◌∙◌, arith, w32, w64, SFits, to_z, of_z}
use lib.Signed.{mag}
use Rattle.std.proofs.lemmas.Fmt.{length-decimal-le, length_signed_le}
use Rattle.std.proofs.lemmas.List.{append_assoc, append-nil, length-append, take_more, take_all}
use Rattle.std.proofs.lemmas.Int.{to_z-of_z}
use Rattle.std.specs.Fmt.{signed_decimal}
use Rattle.text.specs.Drafts.{kept}
use Rattle.text.specs.Lines.{line_text}
use Rattle.text.specs.Refusals.{refusal_number, cause}
use Rattle.text.specs.declared.refusal.Refusal.{Refusal}
use Rattle.text.proofs.Drafting.{kept_twice, kept_more, kept_all}
use Rattle.text.proofs.Lined.{length_line_text}
use Rattle.offers.specs.declared.pair.Pair.{Pair}
use Rattle.submission_text.specs.declared.file.Head.{Head}
use Rattle.submission_text.specs.Write.{pair_text, pairs_text, head_text, file_text, refusal_text}

-- ---- the leading figures
pub headed : (old a b d e : List ℕ) (h : Head)
    → a ≡ kept (old ++ line_text (codes "facility") h.facility) → b ≡ kept (a ++ line_text (codes "interval") h.interval)
    → d ≡ kept (b ++ line_text (codes "rampup") h.ramp_up) → e ≡ kept (d ++ line_text (codes "rampdown") h.ramp_down)
    → e ≡ kept (old ++ head_text h)
headed old a b d e h p q r s =
    let f = line_text (codes "facility") h.facility in let i = line_text (codes "interval") h.interval in
    let u = line_text (codes "rampup") h.ramp_up in let w = line_text (codes "rampdown") h.ramp_down in
    kept_more old a e f (i ++ (u ++ w)) p (kept_more a b e i (u ++ w) q (kept_more b d e u w r s))

pub length_head : (h : Head) → h.facility < 2 ^ 32 → h.interval < 2 ^ 32 → h.ramp_up < 2 ^ 32 → h.ramp_down < 2 ^ 32 → length (head_text h) ≤ 80
length_head h a b d e =
    let f = line_text (codes "facility") h.facility in let i = line_text (codes "interval") h.interval in
    let u = line_text (codes "rampup") h.ramp_up in let w = line_text (codes "rampdown") h.ramp_down in
    omega (
      arith,
      length-append f (i ++ (u ++ w)),
      length-append i (u ++ w),
      length-append u w,
      length_line_text (codes "facility") h.facility a,
      length_line_text (codes "interval") h.interval b,
      length_line_text (codes "rampup") h.ramp_up d,
      length_line_text (codes "rampdown") h.ramp_down e,
    )

-- ---- a pair
small_price : (z : ℤ) → SFits w32 z → mag z < 2 ^ 31
small_price (pos n) f = f.sfits
small_price (negsuc n) f = f.sfits

wider : (z : ℤ) → SFits w32 z → SFits w64 z
wider (pos n) f = let h : n < 2 ^ 31 = f.sfits in record { sfits = omega arith }
wider (negsuc n) f = let h : n < 2 ^ 31 = f.sfits in record { sfits = omega arith }

pub paired : (old a b d e f : List ℕ) (p : Pair) (z : ℤ) → SFits w32 p.price → z ≡ to_z w32 (of_z w32 p.price)
    → a ≡ kept (old ++ codes "pair=") → b ≡ kept (a ++ signed_decimal (to_z w64 (of_z w64 z))) → d ≡ kept (b ++ codes ":")
    → e ≡ kept (d ++ decimal p.kw) → f ≡ kept (e ++ codes "\n") → f ≡ kept (old ++ pair_text p)
unfolding pair_text
paired old a b d e f p z fit c q r s t u =
    let same : to_z w64 (of_z w64 z) ≡ p.price =
    ap (λ x. to_z w64 (of_z w64 x)) (c ∙ to_z-of_z w32 p.price fit) ∙ to_z-of_z w64 p.price (wider p.price fit) in
    let price = signed_decimal p.price in let kw = decimal p.kw in
    kept_more old a f (codes "pair=") (price ++ (codes ":" ++ (kw ++ codes "\n"))) q
    (kept_more a b f price (codes ":" ++ (kw ++ codes "\n")) (r ∙ ap (λ x. kept (a ++ signed_decimal x)) same)
    (kept_more b d f (codes ":") (kw ++ codes "\n") s (kept_more d e f kw (codes "\n") t u)))

pub length_pair : (p : Pair) → SFits w32 p.price → p.kw < 2 ^ 32 → length (pair_text p) ≤ 28
unfolding pair_text
length_pair p fit lt =
    let m = small_price p.price fit in
    let price = signed_decimal p.price in let kw = decimal p.kw in
    omega (
      arith,
      length-append price (codes ":" ++ (kw ++ codes "\n")),
      length-append kw (codes "\n"),
      length_signed_le 10 p.price (omega arith) (omega arith),
      length-decimal-le 10 p.kw (omega arith) (omega arith) (omega arith),
    )

-- ---- the pairs
pairs_text_push : (ps : List Pair) (p : Pair) → pairs_text (ps ++ (p ∷ [])) ≡ pairs_text ps ++ pair_text p
pairs_text_push [] p = append-nil (pair_text p)
pairs_text_push (q ∷ ps) p = ap (λ l. pair_text q ++ l) (pairs_text_push ps p) ∙ sym (append_assoc (pair_text q) (pairs_text ps) (pair_text p))

abbrev pub Laid : List ℕ → List ℕ → List Pair → ℕ → Type 0
Laid old new ps i = (new ≡ kept (old ++ pairs_text (take i ps))) × (length (pairs_text (take i ps)) ≤ 28 * i)

pub laid_none : (d text : List ℕ) (ps : List Pair) → d ≡ kept text → Laid d d ps 0
laid_none d text ps e =
    (e ∙ ap kept (sym (append-nil text)) ∙ sym (kept_twice text []) ∙ ap (λ x. kept (x ++ [])) (sym e), omega arith)

pub laid_more : (old mid new : List ℕ) (ps : List Pair) (i : ℕ) (p q : Pair) → Laid old mid ps i → i < length ps → get_or ps i q ≡ p
    → new ≡ kept (mid ++ pair_text p) → length (pair_text p) ≤ 28 → Laid old new ps (i + 1)
laid_more old mid new ps i p q l lt e n s =
    let text = pairs_text (take i ps) in
    let t : pairs_text (take (i + 1) ps) ≡ text ++ pair_text p =
    ap pairs_text (take_more ps i q lt) ∙ pairs_text_push (take i ps) (get_or ps i q) ∙ ap (λ x. text ++ pair_text x) e in
    let k = l.1 in (
      kept_more old mid new text (pair_text p) l.0 n ∙ ap (λ x. kept (old ++ x)) (sym t),
      omega (arith, ap length t, length-append text (pair_text p)),
    )

pub laid_all : (old new : List ℕ) (ps : List Pair) (i : ℕ) → Laid old new ps i → length ps ≤ i → i ≤ length ps
    → (new ≡ kept (old ++ pairs_text ps)) × (length (pairs_text ps) ≤ 28 * length ps)
laid_all old new ps i l ge le =
    let t = take_all i ps ge in
    let k = l.1 in
    (l.0 ∙ ap (λ x. kept (old ++ pairs_text x)) t, omega (arith, ap (λ x. length (pairs_text x)) t))

-- ---- whole texts
pub filed : (new a b d : List ℕ) (h : Head) (ps qs : List Pair) → new ≡ [] → qs ≡ ps → length qs ≤ 8
    → a ≡ kept (new ++ head_text h) → length (head_text h) ≤ 80
    → b ≡ kept (a ++ line_text (codes "pairs") (length qs))
    → d ≡ kept (b ++ pairs_text qs) → length (pairs_text qs) ≤ 28 * length qs
    → d ≡ file_text h ps
filed new a b d h ps qs z e few p hs q r rs =
    let line = line_text (codes "pairs") (length qs) in
    let whole : d ≡ kept (new ++ (head_text h ++ (line ++ pairs_text qs))) =
    kept_more new a d (head_text h) (line ++ pairs_text qs) p (kept_more a b d line (pairs_text qs) q r) in
    whole ∙ ap (λ x. kept (x ++ file_text h qs)) z
    ∙ kept_all (file_text h qs) (omega (arith, length-append (head_text h) (line ++ pairs_text qs), length-append line (pairs_text qs), length_line_text (codes "pairs") (length qs) (omega arith)))
    ∙ ap (file_text h) e

pub refused_text : (new a b : List ℕ) (r : Refusal) (n m : ℕ) → new ≡ [] → n < 2 ^ 32 → m < 2 ^ 32 → n ≡ refusal_number (cause r.fault) → m ≡ r.line
    → a ≡ kept (new ++ line_text (codes "refused") n) → b ≡ kept (a ++ line_text (codes "line") m) → b ≡ refusal_text r
refused_text new a b r n m z ln lm en em p q =
    let f = line_text (codes "refused") n in let l = line_text (codes "line") m in
    kept_more new a b f l p q ∙ ap (λ x. kept (x ++ (f ++ l))) z
    ∙ kept_all (f ++ l) (omega (arith, length-append f l, length_line_text (codes "refused") n ln, length_line_text (codes "line") m lm))
    ∙ ap (λ x. line_text (codes "refused") x ++ l) en
    ∙ ap (λ x. line_text (codes "refused") (refusal_number (cause r.fault)) ++ line_text (codes "line") x) em
