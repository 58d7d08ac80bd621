-- What is told of statements, line by line.
use Rattle.std.proofs.Common.{◌≡◌, ℕ, ◌+◌, List, [], ◌∷◌, ◌++◌, unwrap_or, Some, None, append-nil, append_assoc, sym, ap, ◌∙◌, subst, arith}
use Rattle.journal.specs.declared.line.Line.{Line}
use Rattle.day_text.specs.Lines.{line_of}
use Rattle.day_file.specs.Lines.{Numbered, next_of, next_line}
use Rattle.day_file.specs.Statements.{statement_on, statements_from}

-- what is told so far goes on over the lines that are left to all that is told
abbrev pub Telling : List Line → List ℕ → List ℕ → Numbered → Type 0
Telling ls all told left = told ++ statements_from (left.passed + 1) left.left ls ≡ all

pub tells_next : (ls : List Line) (all told more : List ℕ) (left new : Numbered) (n : ℕ) (s : List ℕ) → Some ((n, s), new) ≡ next_line left
    → Telling ls all told left → more ≡ told ++ statement_on n (line_of s) ls → Telling ls all more new
tells_next ls all told more left new n s step g = go left.passed left.left step g
  where
    go : (p : ℕ) (ss : List (List ℕ)) → Some ((n, s), new) ≡ next_of p ss → Telling ls all told (record { passed = p; left = ss })
        → more ≡ told ++ statement_on n (line_of s) ls → Telling ls all more new
    go p [] h g = let z : ◌≡◌ {A = ℕ} 0 1 = cc in absurd (omega arith)
    go p (t ∷ rest) h g =
        subst (λ (q : (ℕ × List ℕ) × Numbered). more ≡ told ++ statement_on q.0.0 (line_of q.0.1) ls → Telling ls all more q.1)
        (sym (ap (λ o. unwrap_or o ((n, s), new)) h))
        (λ m.
        ap (λ w. w ++ statements_from (p + 1 + 1) rest ls) m
        ∙ append_assoc told (statement_on (p + 1) (line_of t) ls) (statements_from (p + 1 + 1) rest ls) ∙ g)

pub tells_all : (ls : List Line) (all told : List ℕ) (left : Numbered) → None ≡ next_line left → Telling ls all told left → told ≡ all
tells_all ls all told left step g = go left.passed left.left step g
  where
    go : (p : ℕ) (ss : List (List ℕ)) → None ≡ next_of p ss → Telling ls all told (record { passed = p; left = ss }) → told ≡ all
    go p [] h g = sym (append-nil told) ∙ g
    go p (t ∷ rest) h g = let z : ◌≡◌ {A = ℕ} 0 1 = cc in absurd (omega arith)
