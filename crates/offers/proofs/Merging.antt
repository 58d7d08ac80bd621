-- Merging equal prices, pair by pair.
use Rattle.std.proofs.Common.{◌≡◌, ℕ, suc, ◌+◌, ◌<◌, ◌≤◌, true, false, cond, ◌&&◌, List, [], ◌∷◌, ◌++◌, length, get_or, take, drop, set, ℤ, sym, ap, ◌∙◌, append_assoc, add_assoc, arith, length-set}
use lib.Signed.{le_z}
use Rattle.std.proofs.lemmas.List.{take_more, take-set, drop-set-lt, get_or-set_same, drop-drop}
use Rattle.std.proofs.lemmas.Int.{ints}
use Rattle.offers.specs.declared.pair.Pair.{Pair}
use Rattle.offers.specs.Curves.{same_price, joined, glue, merged, total, no_pair}

pub prices_equal : (a b : ℤ) → (le_z a b && le_z b a) ≡ true → a ≡ b
prices_equal a b h = grind (arith, ints)

pub glue_same : (q p : Pair) (zs : List Pair) → same_price q p ≡ true → glue q (glue p zs) ≡ glue (joined q p) zs
glue_same q p [] h = ap (λ c. cond c (joined q p ∷ []) (q ∷ (p ∷ []))) h
glue_same q p (m ∷ ms) h =
    let e : q.price ≡ p.price = prices_equal q.price p.price h in
    let s : same_price (joined q p) m ≡ same_price p m = ap (λ x. le_z x m.price && le_z m.price x) e in
    (elim (same_price p m) as (λ b. glue q (cond b (joined p m ∷ ms) (p ∷ (m ∷ ms))) ≡ cond b (joined (joined q p) m ∷ ms) (joined q p ∷ (m ∷ ms))) [
      | true ↦ ap (λ c. cond c (joined q (joined p m) ∷ ms) (q ∷ (joined p m ∷ ms))) h ∙ ap (λ k. record { price = q.price; kw = k } ∷ ms) (sym (add_assoc q.kw p.kw m.kw))
      | false ↦ ap (λ c. cond c (joined q p ∷ (m ∷ ms)) (q ∷ (p ∷ (m ∷ ms)))) h
    ])
    ∙ ap (λ b. cond b (joined (joined q p) m ∷ ms) (joined q p ∷ (m ∷ ms))) (sym s)

pub glue_other : (q p : Pair) (zs : List Pair) → same_price q p ≡ false → glue q (glue p zs) ≡ q ∷ glue p zs
glue_other q p [] h = ap (λ c. cond c (joined q p ∷ []) (q ∷ (p ∷ []))) h
glue_other q p (m ∷ ms) h =
    elim (same_price p m) as (λ b. glue q (cond b (joined p m ∷ ms) (p ∷ (m ∷ ms))) ≡ q ∷ cond b (joined p m ∷ ms) (p ∷ (m ∷ ms))) [
      | true ↦ ap (λ c. cond c (joined q (joined p m) ∷ ms) (q ∷ (joined p m ∷ ms))) h
      | false ↦ ap (λ c. cond c (joined q p ∷ (m ∷ ms)) (q ∷ (p ∷ (m ∷ ms)))) h
    ]

-- the pairs that rest are still to be merged: all but the last of what the others gave stand in the front of cur, which was ss, and the last at n
pub record Merging (ps ss rest : List Pair) (n : ℕ) (cur : List Pair) : Type 0 where
  pub within : n + length rest < length ps
  pub long : length cur ≡ length ss
  pub front : take n cur ++ merged (get_or cur n no_pair ∷ rest) ≡ merged ps
  pub back : drop (n + 1) cur ≡ drop (n + 1) ss
  pub room : (get_or cur n no_pair).kw + total rest ≤ total ps

module _ (ps ss rest : List Pair) (n : ℕ) (cur : List Pair) (p : Pair) (fits : length ps ≤ length ss) (m : Merging ps ss (p ∷ rest) n cur) where
  -- p has the price of the last pair
  pub merging_joined : same_price (get_or cur n no_pair) p ≡ true → Merging ps ss rest n (set cur n (joined (get_or cur n no_pair) p))
  merging_joined s =
      let q = get_or cur n no_pair in
      let w : n + suc (length rest) < length ps = m.within in
      let l : length cur ≡ length ss = m.long in
      let f : take n cur ++ glue q (glue p (merged rest)) ≡ merged ps = m.front in
      let r : q.kw + (p.kw + total rest) ≤ total ps = m.room in
      let g : get_or (set cur n (joined q p)) n no_pair ≡ joined q p = get_or-set_same cur n (joined q p) no_pair (omega arith) in
      record {
        within = omega arith;
        long = length-set cur n (joined q p) ∙ l;
        front = ap (λ zs. zs ++ merged (get_or (set cur n (joined q p)) n no_pair ∷ rest)) (take-set cur n (joined q p))
            ∙ ap (λ x. take n cur ++ merged (x ∷ rest)) g
            ∙ ap (λ zs. take n cur ++ zs) (sym (glue_same q p (merged rest) s)) ∙ f;
        back = drop-set-lt (n + 1) cur n (joined q p) (omega arith) ∙ m.back;
        room = rw g (omega arith);
      }

  -- it has another
  pub merging_put : same_price (get_or cur n no_pair) p ≡ false → Merging ps ss rest (n + 1) (set cur (n + 1) p)
  merging_put s =
      let q = get_or cur n no_pair in
      let w : n + suc (length rest) < length ps = m.within in
      let l : length cur ≡ length ss = m.long in
      let f : take n cur ++ glue q (glue p (merged rest)) ≡ merged ps = m.front in
      let r : q.kw + (p.kw + total rest) ≤ total ps = m.room in
      let g : get_or (set cur (n + 1) p) (n + 1) no_pair ≡ p = get_or-set_same cur (n + 1) p no_pair (omega arith) in
      record {
        within = omega arith;
        long = length-set cur (n + 1) p ∙ l;
        front = ap (λ zs. zs ++ merged (get_or (set cur (n + 1) p) (n + 1) no_pair ∷ rest)) (take-set cur (n + 1) p ∙ take_more cur n no_pair (omega arith))
            ∙ ap (λ x. (take n cur ++ (q ∷ [])) ++ merged (x ∷ rest)) g
            ∙ append_assoc (take n cur) (q ∷ []) (merged (p ∷ rest))
            ∙ ap (λ zs. take n cur ++ zs) (sym (glue_other q p (merged rest) s)) ∙ f;
        back = drop-set-lt (n + 1 + 1) cur (n + 1) p (omega arith) ∙ sym (drop-drop 1 (n + 1) cur) ∙ ap (drop 1) m.back ∙ drop-drop 1 (n + 1) ss;
        room = rw g (omega arith);
      }
