-- The loop that reads the pairs.
use Rattle.std.proofs.Common.{◌≡◌, ℕ, suc, ◌+◌, ◌-◌, ◌<◌, ◌≤◌, true, ◌&&◌, leb, List, [], ◌∷◌, ◌++◌, length, take, set, Some, None, Ok, Err, sym, refl, ap, ◌∙◌, arith}
use Rattle.std.proofs.lemmas.List.{length-set, take_all, take_more_set}
use Rattle.std.proofs.lemmas.Bool.{cond-true}
use Rattle.std.proofs.lemmas.Bool.Decides.{nat_tests}
use Rattle.text.specs.declared.refusal.Refusal.{Refusal}
use Rattle.text.specs.Lines.{placed, and_then}
use Rattle.offers.specs.declared.pair.Pair.{Pair}
use Rattle.offers.specs.Curves.{total, curve, stored, curve_of}
use Rattle.submission_text.specs.Read.{pair_line_of, pairs_from, pairs_of, curved}

-- the first i of n pairs are read, and what is left of the text gives the others
pub record Listed (text : List ℕ) (n end i room : ℕ) (pairs : List Pair) (rest : List ℕ) : Type 0 where
  pub long : length pairs ≡ n
  pub last : end ≡ n
  pub kw : total (take i pairs) + room ≡ 1000000
  pub goes : pairs_from (n - i) (6 + i) room (take i pairs) rest ≡ pairs_of n text

pub total_push : (ps : List Pair) (p : Pair) → total (ps ++ (p ∷ [])) ≡ total ps + p.kw
total_push [] p = omega arith
total_push (q ∷ qs) p = omega (arith, total_push qs p)

pub listed_none : (text : List ℕ) (n : ℕ) (pairs : List Pair) → length pairs ≡ n → Listed text n (length pairs) 0 1000000 pairs text
listed_none text n pairs l =
    let z : n - 0 ≡ n = omega arith in
    record { long = l; last = l; kw = refl; goes = ap (λ k. pairs_from k 6 1000000 [] text) z }

module _ (text : List ℕ) (n end i room : ℕ) (pairs : List Pair) (rest : List ℕ) (r : Listed text n end i room pairs rest) where
  -- one more line is read
  opens : i < end → pairs_from (suc (n - (i + 1))) (6 + i) room (take i pairs) rest ≡ pairs_of n text
  opens lt =
      let m = r.last in
      let e : suc (n - (i + 1)) ≡ n - i = omega arith in ap (λ k. pairs_from k (6 + i) room (take i pairs) rest) e ∙ r.goes

  pub listed_more : i < end → (p : Pair) (next : List ℕ) → pair_line_of room rest ≡ Ok (p, next) → p.kw ≤ room
      → Listed text n end (i + 1) (room - p.kw) (set pairs i p) next
  listed_more lt p next e w =
      let l = r.long in let m = r.last in let k = r.kw in
      let room' = room - p.kw in
      let t : take (i + 1) (set pairs i p) ≡ take i pairs ++ (p ∷ []) = take_more_set pairs i p (omega arith) in
      let q : 6 + (i + 1) ≡ 6 + i + 1 = omega arith in
      record {
        long = length-set pairs i p ∙ l;
        last = m;
        kw = ap (λ ps. total ps + room') t ∙ omega (arith, total_push (take i pairs) p);
        goes = ap (λ k. pairs_from (n - (i + 1)) k room' (take (i + 1) (set pairs i p)) next) q
            ∙ ap (λ ps. pairs_from (n - (i + 1)) (6 + i + 1) room' ps next) t
            ∙ sym (ap (λ x. and_then (placed (6 + i) x) (λ x. pairs_from (n - (i + 1)) (6 + i + 1) (room - x.0.kw) (take i pairs ++ (x.0 ∷ [])) x.1)) e)
            ∙ opens lt;
      }

  pub listed_fails : i < end → (e : Refusal) → placed (6 + i) (pair_line_of room rest) ≡ Err e → curved (pairs_of n text) ≡ Err e
  listed_fails lt e p =
      ap curved (sym (opens lt)) ∙ ap (λ x. curved (and_then x (λ x. pairs_from (n - (i + 1)) (6 + i + 1) (room - x.0.kw) (take i pairs ++ (x.0 ∷ [])) x.1))) p

  -- all of them are read
  module _ (all : end ≤ i) where
    whole : take i pairs ≡ pairs
    whole = let l = r.long in let m = r.last in take_all i pairs (omega arith)

    pub listed_curve : n ≤ 8 → curve_of pairs ≡ Some (stored (curve pairs))
    listed_curve few =
        let l = r.long in let k = r.kw in
        let kw : total pairs ≤ 1000000 = omega (arith, ap total whole) in
        let fits : (leb (length pairs) 8 && leb (total pairs) 4294967295) ≡ true = grind (arith, nat_tests) in
        cond-true _ (Some (stored (curve pairs))) None fits

    pub listed_all : curved (pairs_of n text) ≡ Ok (stored (curve pairs), rest)
    listed_all =
        let m = r.last in
        let z : n - i ≡ 0 = omega arith in
        ap curved (sym r.goes) ∙ ap (λ k. curved (pairs_from k (6 + i) room (take i pairs) rest)) z
        ∙ ap (λ ps. Ok (stored (curve ps), rest)) whole
