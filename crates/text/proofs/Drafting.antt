-- Pieces put one after another in a draft.
use Rattle.std.proofs.Common.{◌≡◌, ℕ, zero, suc, ◌+◌, ◌≤◌, min, List, [], ◌∷◌, ◌++◌, length, take, codes, sym, refl, ap, ◌∙◌, ⊎_elim, arith}
use Rattle.std.proofs.lemmas.List.{append_assoc, take_all}
use Rattle.std.proofs.lemmas.Bool.{cases_lt}
use Rattle.text.specs.Drafts.{kept}

-- as much of a piece as there is room for, after the text so far
past : (xs ys : List ℕ) (m : ℕ) → take (length xs + m) (xs ++ ys) ≡ xs ++ take m ys
past [] ys m = let z : 0 + m ≡ m = omega arith in ap (λ k. take k ys) z
past (x ∷ xs) ys m =
    let z : suc (length xs) + m ≡ suc (length xs + m) = omega arith in ap (λ k. take k (x ∷ (xs ++ ys))) z ∙ ap (λ t. x ∷ t) (past xs ys m)

take_least : (ys : List ℕ) (m n : ℕ) → n ≡ min (length ys) m → take m ys ≡ take n ys
take_least ys m n e =
    ⊎_elim
    (λ h. let z : n ≡ m = omega arith in ap (λ k. take k ys) (sym z))
    (λ h. take_all m ys h ∙ sym (take_all n ys (omega arith)))
    (cases_lt m (length ys))

pub filled : (text piece : List ℕ) (n room : ℕ) → room + length text ≡ 4096 → n ≡ min (length piece) room → text ++ take n piece ≡ kept (text ++ piece)
filled text piece n room r e =
    let k : length text + room ≡ 4096 = omega arith in
    ap (λ t. text ++ t) (sym (take_least piece room n e)) ∙ sym (past text piece room) ∙ ap (λ m. take m (text ++ piece)) k

-- a draft of a draft
pub kept_twice : (a b : List ℕ) → kept (kept a ++ b) ≡ kept (a ++ b)
kept_twice a b = go 4096 a b
  where
    go : (m : ℕ) (a b : List ℕ) → take m (take m a ++ b) ≡ take m (a ++ b)
    go zero a b = refl
    go (suc m) [] b = refl
    go (suc m) (x ∷ a) b = ap (λ t. x ∷ t) (go m a b)

-- one piece after another
pub kept_more : (old mid new a b : List ℕ) → mid ≡ kept (old ++ a) → new ≡ kept (mid ++ b) → new ≡ kept (old ++ (a ++ b))
kept_more old mid new a b m e =
    e ∙ ap (λ x. kept (x ++ b)) m ∙ kept_twice (old ++ a) b ∙ ap kept (append_assoc old a b)

-- a key with its `=`, a value and a line feed
pub kept_line : (old a b new key value : List ℕ) → a ≡ kept (old ++ (key ++ codes "=")) → b ≡ kept (a ++ value) → new ≡ kept (b ++ codes "\n")
    → new ≡ kept (old ++ (key ++ (codes "=" ++ (value ++ codes "\n"))))
kept_line old a b new key value e f g =
    kept_more old a new (key ++ codes "=") (value ++ codes "\n") e (kept_more a b new value (codes "\n") f g)
    ∙ ap (λ t. kept (old ++ t)) (append_assoc key (codes "=") (value ++ codes "\n"))

pub kept_all : (text : List ℕ) → length text ≤ 4096 → kept text ≡ text
kept_all text h = take_all 4096 text h
