-- A text that is read is the lines of figures and pairs in their spans.
use Rattle.std.proofs.Common.{◌≡◌, ℕ, zero, suc, ◌+◌, ◌-◌, ◌^◌, ◌<◌, ◌≤◌, List, [], ◌∷◌, ◌++◌, length, ℤ, pos, negsuc, ◌≤ℤ◌, Some, None, Ok, Err, codes, decimal, Option, Result, sym, refl, ap, ◌∙◌, subst, arith}
use Rattle.std.proofs.lemmas.List.{append_assoc, append-nil}
use Rattle.std.specs.Fmt.{signed_decimal}
use Rattle.text.specs.declared.number.NumberFault.{NumberFault}
use Rattle.text.specs.declared.refusal.Refusal.{Refusal}
use Rattle.text.specs.Numbers.{natural_of, signed_of}
use Rattle.text.specs.Lines.{before, after, natural_line_of, placed, line_text}
use Rattle.text.proofs.Canonical.{natural_written, signed_written}
use Rattle.text.proofs.Lined.{apart_ok, same_ok, joined_cut, line_only, natural_line_only, and_then_ok, closed_ok, placed_ok}
use Rattle.offers.specs.declared.pair.Pair.{Pair}
use Rattle.offers.specs.declared.curve.Curve.{Curve}
use Rattle.offers.specs.Curves.{total, curve, stored}
use Rattle.submission_text.specs.declared.file.Head.{Head}
use Rattle.submission_text.specs.declared.file.SubmissionFile.{SubmissionFile}
use Rattle.submission_text.specs.Read.{priced, rated, pair_of, pair_line_of, pairs_from, pairs_of, curved, head_of, file_of, read_of}
use Rattle.submission_text.specs.Write.{head, pair_text, pairs_text, head_text, file_text}
use Rattle.submission_text.specs.Claims.{HeadFits, PricesFit, PairsFit, Told}
use Rattle.submission_text.proofs.Trips.{pair_line_text, head_line_text, low_price, high_price}

curved_ok : (r : Result (List Pair × List ℕ) Refusal) (c : Curve) (t : List ℕ) → curved r ≡ Ok (c, t)
    → (ps : List Pair) × (r ≡ Ok (ps, t)) × (stored (curve ps) ≡ c)
curved_ok (Ok x) c t q =
    let p = same_ok {E = Refusal} (stored (curve x.0), x.1) (c, t) q in (x.0, ap (λ y. Ok (x.0, y.1)) p, ap (λ y. y.0) p)
curved_ok (Err e) c t q = absurd (apart_ok e (c, t) q)

priced_ok : (x : ℤ) (r : Result ℕ NumberFault) (p : Pair) → priced x r ≡ Ok p → (x ≡ p.price) × (r ≡ Ok p.kw)
priced_ok x (Ok k) p q = let e = same_ok {E = NumberFault} record { price = x; kw = k } p q in (ap (λ y. y.price) e, ap (λ y. Ok y.kw) e)
priced_ok x (Err e) p q = absurd (apart_ok e p q)

rated_ok : (room : ℕ) (x : ℤ) (o : Option (List ℕ)) (p : Pair) → rated room x o ≡ Ok p
    → (w : List ℕ) × (o ≡ Some w) × (x ≡ p.price) × (natural_of 0 room w ≡ Ok p.kw)
rated_ok room x None p q = absurd (apart_ok _ p q)
rated_ok room x (Some w) p q = let h = priced_ok x (natural_of 0 room w) p q in (w, refl, h.0, h.1)

record PairIs (room : ℕ) (p : Pair) (s rest : List ℕ) : Type 0 where
  text : s ≡ pair_text p ++ rest
  price_least : negsuc 99999 ≤ℤ p.price
  price_most : p.price ≤ℤ pos 100000
  kw_most : p.kw ≤ room

pair_only : (room : ℕ) → room < 2 ^ 64 → (s : List ℕ) (p : Pair) (rest : List ℕ) → pair_line_of room s ≡ Ok (p, rest) → PairIs room p s rest
pair_only room lt s p rest e =
    let a = line_only (pair_of room) (codes "pair") s p rest e in
    let v = a.0 in
    let d = and_then_ok (signed_of (negsuc 99999) (pos 100000) (before 58 v)) (λ x. rated room x (after 58 v)) p a.2 in
    let g = rated_ok room d.0 (after 58 v) p d.2 in
    let price = (signed_written (negsuc 99999) (pos 100000) (before 58 v) low_price high_price p.price).0 (d.1 ∙ ap Ok g.2) in
    let kw = (natural_written 0 room g.0 lt p.kw).0 g.3 in
    let value : v ≡ signed_decimal p.price ++ 58 ∷ decimal p.kw =
    joined_cut 58 v g.0 g.1 ∙ ap (λ l. l ++ 58 ∷ g.0) price.0 ∙ ap (λ l. signed_decimal p.price ++ 58 ∷ l) kw.0 in
    record {
      text = a.1 ∙ ap (λ v. codes "pair" ++ 61 ∷ (v ++ 10 ∷ rest)) value ∙ sym (pair_line_text p rest);
      price_least = price.1;
      price_most = price.2;
      kw_most = kw.2;
    }

record PairsAre (n room : ℕ) (acc qs : List Pair) (s rest : List ℕ) : Type 0 where
  sent : List Pair
  all : qs ≡ acc ++ sent
  many : length sent ≡ n
  prices : PricesFit sent
  kw : total sent ≤ room
  text : s ≡ pairs_text sent ++ rest

pairs_only : (n line room : ℕ) (acc : List Pair) (s : List ℕ) (qs : List Pair) (rest : List ℕ) → room < 2 ^ 64
    → pairs_from n line room acc s ≡ Ok (qs, rest) → PairsAre n room acc qs s rest
pairs_only zero line room acc s qs rest lt e =
    let p = same_ok {E = Refusal} (acc, s) (qs, rest) e in
    record { sent = []; all = ap (λ x. x.0) (sym p) ∙ sym (append-nil acc); many = refl; prices = tt; kw = omega arith; text = ap (λ x. x.1) p }
pairs_only (suc n) line room acc s qs rest lt e =
    let a = and_then_ok (placed line (pair_line_of room s)) (λ x. pairs_from n (line + 1) (room - x.0.kw) (acc ++ (x.0 ∷ [])) x.1) (qs, rest) e in
    let p = a.0.0 in let t = a.0.1 in
    let b = pair_only room lt s p t (placed_ok line (pair_line_of room s) a.0 a.1) in
    let d = pairs_only n (line + 1) (room - p.kw) (acc ++ (p ∷ [])) t qs rest (omega arith) a.2 in
    let ps = d.sent in let k = d.kw in let m = b.kw_most in let l = d.many in
    record {
      sent = p ∷ ps;
      all = d.all ∙ append_assoc acc (p ∷ []) ps;
      many = ap suc l;
      prices = (b.price_least, b.price_most, d.prices);
      kw = omega arith;
      text = b.text ∙ ap (λ l. pair_text p ++ l) d.text ∙ sym (append_assoc (pair_text p) (pairs_text ps) rest);
    }

head_only : (s : List ℕ) (h : Head) (rest : List ℕ) → head_of s ≡ Ok (h, rest) → (s ≡ head_text h ++ rest) × HeadFits h
head_only s h rest e =
    let a = and_then_ok (placed 1 (natural_line_of (codes "facility") 1 12 s)) _ (h, rest) e in
    let f = a.0.0 in let s₁ = a.0.1 in
    let b = and_then_ok (placed 2 (natural_line_of (codes "interval") 1 48 s₁)) _ (h, rest) a.2 in
    let i = b.0.0 in let s₂ = b.0.1 in
    let c = and_then_ok (placed 3 (natural_line_of (codes "rampup") 1 1000000 s₂)) _ (h, rest) b.2 in
    let u = c.0.0 in let s₃ = c.0.1 in
    let d = and_then_ok (placed 4 (natural_line_of (codes "rampdown") 1 1000000 s₃)) _ (h, rest) c.2 in
    let w = d.0.0 in let s₄ = d.0.1 in
    let fl = natural_line_only (codes "facility") 1 12 s f s₁ (omega arith) (placed_ok 1 (natural_line_of (codes "facility") 1 12 s) a.0 a.1) in
    let il = natural_line_only (codes "interval") 1 48 s₁ i s₂ (omega arith) (placed_ok 2 (natural_line_of (codes "interval") 1 48 s₁) b.0 b.1) in
    let ul = natural_line_only (codes "rampup") 1 1000000 s₂ u s₃ (omega arith) (placed_ok 3 (natural_line_of (codes "rampup") 1 1000000 s₂) c.0 c.1) in
    let wl = natural_line_only (codes "rampdown") 1 1000000 s₃ w s₄ (omega arith) (placed_ok 4 (natural_line_of (codes "rampdown") 1 1000000 s₃) d.0 d.1) in
    let g : Head = record { facility = f; interval = i; ramp_up = u; ramp_down = w } in
    let same : (g, s₄) ≡ (h, rest) = same_ok {E = Refusal} (g, s₄) (h, rest) d.2 in
    let text : s ≡ head_text g ++ s₄ =
    fl.0 ∙ ap (λ t. line_text (codes "facility") f ++ t) (il.0 ∙ ap (λ t. line_text (codes "interval") i ++ t) (ul.0 ∙ ap (λ t. line_text (codes "rampup") u ++ t) wl.0))
    ∙ sym (head_line_text g s₄) in
    let fits : HeadFits g = record {
      facility_least = fl.1;
      facility_most = fl.2;
      interval_least = il.1;
      interval_most = il.2;
      up_least = ul.1;
      up_most = ul.2;
      down_least = wl.1;
      down_most = wl.2;
    } in
    subst (λ x. (s ≡ head_text x.0 ++ x.1) × HeadFits x.0) same (text, fits)

-- the lines, put together
gathered : (s s₁ s₂ s₃ : List ℕ) (h : Head) (n : ℕ) (ps : List Pair) → s ≡ head_text h ++ s₁ → s₁ ≡ line_text (codes "pairs") n ++ s₂
    → s₂ ≡ pairs_text ps ++ s₃ → s₃ ≡ [] → length ps ≡ n → s ≡ file_text h ps
gathered s s₁ s₂ s₃ h n ps a b c d e =
    let line = line_text (codes "pairs") n in
    let z : s₂ ≡ pairs_text ps = c ∙ ap (λ t. pairs_text ps ++ t) d ∙ append-nil (pairs_text ps) in
    a ∙ ap (λ t. head_text h ++ t) (b ∙ ap (λ t. line ++ t) z ∙ ap (λ k. line_text (codes "pairs") k ++ pairs_text ps) (sym e))

told_as : (s : List ℕ) (x : SubmissionFile) (h : Head) (ps : List Pair) → HeadFits h → PairsFit ps → s ≡ file_text h ps
    → x ≡ file_of h (stored (curve ps)) → Told s x
told_as s x h ps hf pf text file =
    let same : head x ≡ h = ap head file in
    record {
      sent = ps;
      head_fits = subst HeadFits (sym same) hf;
      pairs_fit = pf;
      text = text ∙ ap (λ g. file_text g ps) (sym same);
      file = file ∙ ap (λ g. file_of g (stored (curve ps))) (sym same);
    }

filed_as : (h : Head) (c : Curve) (x : SubmissionFile) (qs ps : List Pair) → file_of h c ≡ x → stored (curve qs) ≡ c → qs ≡ ps
    → x ≡ file_of h (stored (curve ps))
filed_as h c x qs ps a b d = sym a ∙ ap (file_of h) (sym b) ∙ ap (λ rs. file_of h (stored (curve rs))) d

pub read_told : (s : List ℕ) (x : SubmissionFile) → read_of s ≡ Ok x → Told s x
read_told s x e =
    let a = and_then_ok (head_of s) _ x e in
    let h = a.0.0 in let s₁ = a.0.1 in
    let b = and_then_ok (placed 5 (natural_line_of (codes "pairs") 0 8 s₁)) _ x a.2 in
    let n = b.0.0 in let s₂ = b.0.1 in
    let d = and_then_ok (curved (pairs_of n s₂)) _ x b.2 in
    let c = d.0.0 in let s₃ = d.0.1 in
    let g = curved_ok (pairs_of n s₂) c s₃ d.1 in
    let z = closed_ok (6 + n) s₃ (file_of h c) x d.2 in
    let hl = head_only s h s₁ a.1 in
    let nl = natural_line_only (codes "pairs") 0 8 s₁ n s₂ (omega arith) (placed_ok 5 (natural_line_of (codes "pairs") 0 8 s₁) b.0 b.1) in
    let pl = pairs_only n 6 1000000 [] s₂ g.0 s₃ (omega arith) g.1 in
    let most = nl.2 in let many = pl.many in
    told_as s x h pl.sent hl.1 (record { few = omega arith; prices = pl.prices; kw = pl.kw })
    (gathered s s₁ s₂ s₃ h n pl.sent hl.0 nl.0 pl.text z.0 many)
    (filed_as h c x g.0 pl.sent z.1 g.2 pl.all)
