-- The loop that reads the amounts, and a line that is refused.
use Rattle.std.proofs.Common.{◌≡◌, ℕ, suc, ◌+◌, ◌-◌, ◌<◌, ◌≤◌, List, [], ◌∷◌, ◌++◌, length, ℤ, Ok, Err, Result, sym, ap, ◌∙◌, arith}
use Rattle.std.proofs.lemmas.List.{length_push}
use Rattle.std.specs.Result.{result_map_both}
use Rattle.text.specs.declared.line.LineFault.{LineFault}
use Rattle.text.specs.declared.refusal.Refusal.{Refusal}
use Rattle.text.specs.Lines.{placed, and_then}
use Rattle.text.proofs.Lined.{apart_ok}
use Rattle.statement.specs.Read.{amount_line_of, amounts_from, amounts_of}

-- the first i of n amounts are read, and what is left of the text gives the others
pub record Listed (text : List ℕ) (n i : ℕ) (zs : List ℤ) (rest : List ℕ) : Type 0 where
  pub long : length zs ≡ i
  pub goes : amounts_from (n - i) (4 + i) zs rest ≡ amounts_of n text

pub listed_none : (text : List ℕ) (n : ℕ) (zs : List ℤ) → zs ≡ [] → Listed text n 0 zs text
listed_none text n zs e =
    let z : n - 0 ≡ n = omega arith in
    record { long = ap length e; goes = ap (λ k. amounts_from k 4 zs text) z ∙ ap (λ xs. amounts_from n 4 xs text) e }

module _ (text : List ℕ) (n i : ℕ) (zs : List ℤ) (rest : List ℕ) (r : Listed text n i zs rest) where
  -- one more line is read
  opens : i < n → amounts_from (suc (n - (i + 1))) (4 + i) zs rest ≡ amounts_of n text
  opens lt = let e : suc (n - (i + 1)) ≡ n - i = omega arith in ap (λ k. amounts_from k (4 + i) zs rest) e ∙ r.goes

  pub listed_more : i < n → (z : ℤ) (next : List ℕ) → placed (4 + i) (amount_line_of rest) ≡ Ok (z, next) → Listed text n (i + 1) (zs ++ (z ∷ [])) next
  listed_more lt z next e =
      let q : 4 + (i + 1) ≡ 4 + i + 1 = omega arith in
      let l = r.long in
      record {
        long = length_push zs z ∙ ap (λ k. k + 1) l;
        goes = ap (λ k. amounts_from (n - (i + 1)) k (zs ++ (z ∷ [])) next) q
            ∙ sym (ap (λ x. and_then x (λ x. amounts_from (n - (i + 1)) (4 + i + 1) (zs ++ (x.0 ∷ [])) x.1)) e)
            ∙ opens lt;
      }

  pub listed_fails : i < n → (e : Refusal) → placed (4 + i) (amount_line_of rest) ≡ Err e → amounts_of n text ≡ Err e
  listed_fails lt e p =
      sym (opens lt) ∙ ap (λ x. and_then x (λ x. amounts_from (n - (i + 1)) (4 + i + 1) (zs ++ (x.0 ∷ [])) x.1)) p

  -- all of them are read
  pub listed_all : n ≤ i → Ok (zs, rest) ≡ amounts_of n text
  listed_all all = let z : n - i ≡ 0 = omega arith in ap (λ k. amounts_from k (4 + i) zs rest) (sym z) ∙ r.goes

-- a line that is refused is refused in what its bytes are read as
pub told_err : {X Y : Type 0} (f : X → Y) (line : ℕ) (r : Result X LineFault) (q : Result Y LineFault) (e : Refusal)
    → result_map_both f (λ d. d) r ≡ q → placed line r ≡ Err e → placed line q ≡ Err e
told_err f line (Ok x) q e s t = absurd (apart_ok e x (sym t))
told_err f line (Err d) q e s t =
    let same : record { line = line; fault = d } ≡ e = cc in ap (placed line) (sym s) ∙ ap Err same
