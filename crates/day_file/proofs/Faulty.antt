-- A line read, and what is told of it.
use Rattle.std.proofs.Common.{◌≡◌, ℕ, ◌+◌, List, [], ◌∷◌, ◌++◌, unwrap_or, Some, sym, ap, ◌∙◌, subst, append_assoc, arith}
use Rattle.day_file.specs.declared.terms.Terms.{Terms}
use Rattle.day_file.specs.Lines.{Numbered, next_of, next_line}
use Rattle.day_file.specs.Faults.{read, or_before, told_of, terms_after, faults_from}

-- the terms t and what is told so far go on over the lines that are left to all terms and faults
abbrev pub Reading : Terms → List ℕ → Terms → List ℕ → Numbered → Type 0
Reading all faults t told ls = (terms_after t ls.left ≡ all) × (told ++ faults_from t (ls.passed + 1) ls.left ≡ faults)

pub reads_on : (all : Terms) (faults : List ℕ) (t u : Terms) (told more : List ℕ) (ls new : Numbered) (n : ℕ) (s : List ℕ) → Some ((n, s), new) ≡ next_line ls
    → Reading all faults t told ls → u ≡ or_before t (read t s) → more ≡ told ++ told_of n (read t s) → Reading all faults u more new
reads_on all faults t u told more ls new n s step g = go ls.passed ls.left step g
  where
    go : (p : ℕ) (left : List (List ℕ)) → Some ((n, s), new) ≡ next_of p left → Reading all faults t told (record { passed = p; left = left })
        → u ≡ or_before t (read t s) → more ≡ told ++ told_of n (read t s) → Reading all faults u more new
    go p [] h g = let z : ◌≡◌ {A = ℕ} 0 1 = cc in absurd (omega arith)
    go p (l ∷ rest) h g =
        subst (λ (q : (ℕ × List ℕ) × Numbered). u ≡ or_before t (read t q.0.1) → more ≡ told ++ told_of q.0.0 (read t q.0.1) → Reading all faults u more q.1)
        (sym (ap (λ o. unwrap_or o ((n, s), new)) h))
        (λ e m. (
          ap (λ v. terms_after v rest) e ∙ g.0,
          ap (λ w. w ++ faults_from u (p + 1 + 1) rest) m ∙ ap (λ v. (told ++ told_of (p + 1) (read t l)) ++ faults_from v (p + 1 + 1) rest) e
              ∙ append_assoc told (told_of (p + 1) (read t l)) (faults_from (or_before t (read t l)) (p + 1 + 1) rest) ∙ g.1,
        ))
