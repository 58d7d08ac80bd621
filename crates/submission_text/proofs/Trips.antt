-- Lines of figures and pairs in their spans are read as these.
use Rattle.std.proofs.Common.{◌≡◌, ℕ, ◌+◌, ◌-◌, ◌^◌, ◌<◌, ◌≤◌, Bool, true, false, eqb, List, [], ◌∷◌, ◌++◌, length, pos, negsuc, ◌≤ℤ◌, Ok, Err, codes, decimal, sym, refl, ap, ◌∙◌, arith, w64, SFits, eqb-true}
use Rattle.std.proofs.lemmas.List.{append_assoc, append-nil, nil_from_length}
use Rattle.std.specs.Fmt.{signed_decimal}
use Rattle.text.specs.declared.line.LineFault.TheVariants.{Extra}
use Rattle.text.specs.Numbers.{signed_of}
use Rattle.text.specs.Lines.{after, natural_line_of, placed, and_then, closed, line_text}
use Rattle.text.proofs.Canonical.{natural_back, signed_back, in_bits}
use Rattle.text.proofs.Lined.{before_at, after_at, free_append, no_feed, no_colon, decimal_free, signed_free, Plain, line_back, natural_line_back}
use Rattle.offers.specs.declared.pair.Pair.{Pair}
use Rattle.offers.specs.declared.curve.Curve.{Curve}
use Rattle.offers.specs.Curves.{total, curve, stored}
use Rattle.submission_text.specs.declared.file.Head.{Head}
use Rattle.submission_text.specs.Read.{priced, rated, pair_of, pair_line_of, pairs_from, pairs_of, curved, head_of, file_of, read_of}
use Rattle.submission_text.specs.Write.{pair_text, pairs_text, head_text, file_text}
use Rattle.submission_text.specs.Claims.{HeadFits, PricesFit, PairsFit}

-- ---- a file whose parts were read
module _ (text s₁ s₂ s₃ : List ℕ) (h : Head) (n : ℕ) (c : Curve)
    (e₁ : head_of text ≡ Ok (h, s₁))
    (e₂ : natural_line_of (codes "pairs") 0 8 s₁ ≡ Ok (n, s₂))
    (e₃ : curved (pairs_of n s₂) ≡ Ok (c, s₃)) where
  parts : read_of text ≡ closed (6 + n) s₃ (file_of h c)
  parts =
      ap (λ a. and_then a (λ h.
      and_then (placed 5 (natural_line_of (codes "pairs") 0 8 h.1)) (λ n.
      and_then (curved (pairs_of n.0 n.1)) (λ q.
      closed (6 + n.0) q.1 (file_of h.0 q.0))))) e₁
      ∙ ap (λ a. and_then (placed 5 a) (λ n.
      and_then (curved (pairs_of n.0 n.1)) (λ q.
      closed (6 + n.0) q.1 (file_of h q.0)))) e₂
      ∙ ap (λ a. and_then a (λ q. closed (6 + n) q.1 (file_of h q.0))) e₃

  pub reads_end : (b : Bool) → b ≡ eqb (length s₃) 0 → b ≡ true → read_of text ≡ Ok (file_of h c)
  reads_end b e t = parts ∙ ap (λ s. closed (6 + n) s (file_of h c)) (nil_from_length s₃ (eqb-true (length s₃) 0 (sym e ∙ t)))

  pub reads_extra : (b : Bool) → b ≡ eqb (length s₃) 0 → b ≡ false → read_of text ≡ Err record { line = 6 + n; fault = Extra }
  reads_extra b e t = parts ∙ more s₃ (sym e ∙ t)
    where
      more : (s : List ℕ) → eqb (length s) 0 ≡ false → closed (6 + n) s (file_of h c) ≡ Err record { line = 6 + n; fault = Extra }
      more [] q = let k : ◌≡◌ {A = Bool} true false = q in let z : ◌≡◌ {A = ℕ} 0 1 = cc in absurd (omega arith)
      more (x ∷ xs) q = refl

-- ---- a pair
pub pair_line_text : (p : Pair) (t : List ℕ) → pair_text p ++ t ≡ codes "pair" ++ 61 ∷ ((signed_decimal p.price ++ 58 ∷ decimal p.kw) ++ 10 ∷ t)
unfolding pair_text
pair_line_text p t =
    ap (λ l. codes "pair=" ++ l)
    (append_assoc (signed_decimal p.price) (58 ∷ (decimal p.kw ++ 10 ∷ [])) t
    ∙ ap (λ l. signed_decimal p.price ++ 58 ∷ l) (append_assoc (decimal p.kw) (10 ∷ []) t)
    ∙ sym (append_assoc (signed_decimal p.price) (58 ∷ decimal p.kw) (10 ∷ t)))

pub plain_pair : Plain (codes "pair")
plain_pair = record { feed = λ t. refl; past = λ t. refl; name = λ t. refl }

pub low_price : SFits w64 (negsuc 99999)
low_price = record { sfits = omega arith }

pub high_price : SFits w64 (pos 100000)
high_price = record { sfits = omega arith }

pair_back : (p : Pair) (room : ℕ) (t : List ℕ) → room < 2 ^ 64 → negsuc 99999 ≤ℤ p.price → p.price ≤ℤ pos 100000 → p.kw ≤ room
    → pair_line_of room (pair_text p ++ t) ≡ Ok (p, t)
pair_back p room t lt a b d =
    let price = p.price in let kw = p.kw in
    let value = signed_decimal price ++ 58 ∷ decimal kw in
    let m = in_bits (negsuc 99999) (pos 100000) price low_price high_price a b in
    let free = signed_free 58 no_colon refl price m in
    let read : pair_of room value ≡ Ok p =
    ap (λ l. and_then (signed_of (negsuc 99999) (pos 100000) l) (λ x. rated room x (after 58 value))) (before_at 58 (signed_decimal price) (decimal kw) free refl)
    ∙ ap (λ n. and_then n (λ x. rated room x (after 58 value))) (signed_back (negsuc 99999) (pos 100000) price m a b)
    ∙ ap (rated room price) (after_at 58 (signed_decimal price) (decimal kw) free refl)
    ∙ ap (priced price) (natural_back 0 room kw lt (omega arith) d) in
    ap (pair_line_of room) (pair_line_text p t)
    ∙ line_back (pair_of room) (codes "pair") plain_pair value p t
    (free_append 10 (signed_decimal price) (58 ∷ decimal kw) (signed_free 10 no_feed refl price m) (refl, decimal_free 10 no_feed kw (omega arith))) read

pairs_back : (ps acc : List Pair) (line room : ℕ) → room < 2 ^ 64 → PricesFit ps → total ps ≤ room
    → pairs_from (length ps) line room acc (pairs_text ps) ≡ Ok (acc ++ ps, [])
pairs_back [] acc line room lt f k = ap (λ l. Ok (l, [])) (sym (append-nil acc))
pairs_back (p ∷ ps) acc line room lt f k =
    ap (λ x. and_then (placed line x) (λ x. pairs_from (length ps) (line + 1) (room - x.0.kw) (acc ++ (x.0 ∷ [])) x.1))
    (pair_back p room (pairs_text ps) lt f.0 f.1 (omega arith))
    ∙ pairs_back ps (acc ++ (p ∷ [])) (line + 1) (room - p.kw) (omega arith) f.2 (omega arith)
    ∙ ap (λ l. Ok (l, [])) (append_assoc acc (p ∷ []) ps)

-- ---- the leading figures
pub head_line_text : (h : Head) (t : List ℕ) → head_text h ++ t
    ≡ line_text (codes "facility") h.facility ++ (line_text (codes "interval") h.interval ++ (line_text (codes "rampup") h.ramp_up ++ (line_text (codes "rampdown") h.ramp_down ++ t)))
head_line_text h t =
    let f = line_text (codes "facility") h.facility in let i = line_text (codes "interval") h.interval in
    let u = line_text (codes "rampup") h.ramp_up in let d = line_text (codes "rampdown") h.ramp_down in
    append_assoc f (i ++ (u ++ d)) t ∙ ap (λ l. f ++ l) (append_assoc i (u ++ d) t ∙ ap (λ l. i ++ l) (append_assoc u d t))

pub plain_facility : Plain (codes "facility")
plain_facility = record { feed = λ t. refl; past = λ t. refl; name = λ t. refl }

pub plain_interval : Plain (codes "interval")
plain_interval = record { feed = λ t. refl; past = λ t. refl; name = λ t. refl }

pub plain_up : Plain (codes "rampup")
plain_up = record { feed = λ t. refl; past = λ t. refl; name = λ t. refl }

pub plain_down : Plain (codes "rampdown")
plain_down = record { feed = λ t. refl; past = λ t. refl; name = λ t. refl }

pub plain_pairs : Plain (codes "pairs")
plain_pairs = record { feed = λ t. refl; past = λ t. refl; name = λ t. refl }

head_back : (h : Head) (t : List ℕ) → HeadFits h → head_of (head_text h ++ t) ≡ Ok (h, t)
head_back h t fit =
    let f = h.facility in let i = h.interval in let u = h.ramp_up in let d = h.ramp_down in
    let s₃ = line_text (codes "rampdown") d ++ t in
    let s₂ = line_text (codes "rampup") u ++ s₃ in
    let s₁ = line_text (codes "interval") i ++ s₂ in
    ap head_of (head_line_text h t)
    ∙ ap (λ a. and_then (placed 1 a) (λ f.
    and_then (placed 2 (natural_line_of (codes "interval") 1 48 f.1)) (λ i.
    and_then (placed 3 (natural_line_of (codes "rampup") 1 1000000 i.1)) (λ u.
    and_then (placed 4 (natural_line_of (codes "rampdown") 1 1000000 u.1)) (λ d.
    Ok (record { facility = f.0; interval = i.0; ramp_up = u.0; ramp_down = d.0 }, d.1))))))
    (natural_line_back (codes "facility") plain_facility 1 12 f s₁ (omega arith) fit.facility_least fit.facility_most)
    ∙ ap (λ a. and_then (placed 2 a) (λ i.
    and_then (placed 3 (natural_line_of (codes "rampup") 1 1000000 i.1)) (λ u.
    and_then (placed 4 (natural_line_of (codes "rampdown") 1 1000000 u.1)) (λ d.
    Ok (record { facility = f; interval = i.0; ramp_up = u.0; ramp_down = d.0 }, d.1)))))
    (natural_line_back (codes "interval") plain_interval 1 48 i s₂ (omega arith) fit.interval_least fit.interval_most)
    ∙ ap (λ a. and_then (placed 3 a) (λ u.
    and_then (placed 4 (natural_line_of (codes "rampdown") 1 1000000 u.1)) (λ d.
    Ok (record { facility = f; interval = i; ramp_up = u.0; ramp_down = d.0 }, d.1))))
    (natural_line_back (codes "rampup") plain_up 1 1000000 u s₃ (omega arith) fit.up_least fit.up_most)
    ∙ ap (λ a. and_then (placed 4 a) (λ d.
    Ok (record { facility = f; interval = i; ramp_up = u; ramp_down = d.0 }, d.1)))
    (natural_line_back (codes "rampdown") plain_down 1 1000000 d t (omega arith) fit.down_least fit.down_most)

-- ---- the whole file
pub text_read : (h : Head) (ps : List Pair) → HeadFits h → PairsFit ps → read_of (file_text h ps) ≡ Ok (file_of h (stored (curve ps)))
text_read h ps hf pf =
    let few = pf.few in
    reads_end (file_text h ps) (line_text (codes "pairs") (length ps) ++ pairs_text ps) (pairs_text ps) [] h (length ps) (stored (curve ps))
    (head_back h (line_text (codes "pairs") (length ps) ++ pairs_text ps) hf)
    (natural_line_back (codes "pairs") plain_pairs 0 8 (length ps) (pairs_text ps) (omega arith) (omega arith) few)
    (ap curved (pairs_back ps [] 6 1000000 (omega arith) pf.prices pf.kw))
    true refl refl
