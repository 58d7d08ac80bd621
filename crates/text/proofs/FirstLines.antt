-- The first lines of a text: where two texts agree in them, they agree line by line.
use Rattle.std.proofs.Common.{◌≡◌, ℕ, zero, suc, eqb, List, [], ◌∷◌, ◌++◌, Some, None, Option, sym, refl, ap, ◌∙◌, ⊎_elim, arith}
use Rattle.std.proofs.lemmas.List.{append_assoc, append-nil}
use Rattle.std.proofs.lemmas.Bool.{cond-true, cond-false, cases_Bool}
use Rattle.std.specs.Option.{option_map, option_map_or}
use Rattle.text.specs.Lines.{before, after}
use Rattle.text.proofs.Lined.{apart_some, same_some, before_past, after_past, before_at, after_at, before_free, joined_cut, uncut}
use Rattle.text.specs.Faults.{first_lines}

-- ---- a line of s and its feed before other bytes
pub joined_front : (s t : List ℕ) → before 10 (before 10 s ++ 10 ∷ t) ≡ before 10 s
joined_front s t = before_at 10 (before 10 s) t (before_free 10 s) refl

pub joined_back : (s t : List ℕ) → after 10 (before 10 s ++ 10 ∷ t) ≡ Some t
joined_back s t = after_at 10 (before 10 s) t (before_free 10 s) refl

-- ---- more bytes behind a text
pub longer_front : (s rest w : List ℕ) → after 10 s ≡ Some rest → before 10 (s ++ w) ≡ before 10 s
longer_front s rest w e =
    ap (λ l. before 10 (l ++ w)) (joined_cut 10 s rest e)
    ∙ ap (before 10) (append_assoc (before 10 s) (10 ∷ rest) w)
    ∙ joined_front s (rest ++ w)

pub longer_back : (s rest w : List ℕ) → after 10 s ≡ Some rest → after 10 (s ++ w) ≡ Some (rest ++ w)
longer_back s rest w e =
    ap (λ l. after 10 (l ++ w)) (joined_cut 10 s rest e)
    ∙ ap (after 10) (append_assoc (before 10 s) (10 ∷ rest) w)
    ∙ joined_back s (rest ++ w)

-- a line feed behind a text closes its last line
pub closed_front : (s : List ℕ) → before 10 (s ++ 10 ∷ []) ≡ before 10 s
closed_front s = go (after 10 s) refl
  where
    go : (o : Option (List ℕ)) → after 10 s ≡ o → before 10 (s ++ 10 ∷ []) ≡ before 10 s
    go None e = ap (λ l. before 10 (l ++ 10 ∷ [])) (uncut 10 s e) ∙ joined_front s []
    go (Some rest) e = longer_front s rest (10 ∷ []) e

pub closed_back : (s : List ℕ) → after 10 s ≡ None → after 10 (s ++ 10 ∷ []) ≡ Some []
closed_back s e = ap (λ l. after 10 (l ++ 10 ∷ [])) (uncut 10 s e) ∙ joined_back s []

-- ---- the first line of the first lines
-- a feed and the first n lines behind it, where there is a feed
abbrev pub fed : ℕ → Option (List ℕ) → List ℕ
fed n o = option_map_or (λ rest. 10 ∷ first_lines n rest) o []

pub first_front : (n : ℕ) (s : List ℕ) → before 10 (first_lines (suc n) s) ≡ before 10 s
first_front n s = go (after 10 s)
  where
    go : (o : Option (List ℕ)) → before 10 (before 10 s ++ fed n o) ≡ before 10 s
    go None = before_past 10 (before 10 s) [] (before_free 10 s) ∙ append-nil (before 10 s)
    go (Some rest) = joined_front s (first_lines n rest)

pub first_back : (n : ℕ) (s : List ℕ)
    → after 10 (first_lines (suc n) s) ≡ option_map (first_lines n) (after 10 s)
first_back n s = go (after 10 s)
  where
    go : (o : Option (List ℕ)) → after 10 (before 10 s ++ fed n o) ≡ option_map (first_lines n) o
    go None = after_past 10 (before 10 s) [] (before_free 10 s)
    go (Some rest) = joined_back s (first_lines n rest)

pub first_of : (n : ℕ) (s l : List ℕ) (o : Option (List ℕ)) → before 10 s ≡ l → after 10 s ≡ o
    → first_lines (suc n) s ≡ l ++ fed n o
first_of n s l o a b = ap (λ k. k ++ fed n (after 10 s)) a ∙ ap (λ p. l ++ fed n p) b

-- ---- two texts with the same first lines
module _ (n : ℕ) (s t : List ℕ) (same : first_lines (suc n) t ≡ first_lines (suc n) s) where
  pub same_front : before 10 t ≡ before 10 s
  same_front = sym (first_front n t) ∙ ap (before 10) same ∙ first_front n s

  same_back : (o p : Option (List ℕ)) → after 10 t ≡ o → after 10 s ≡ p
      → option_map (first_lines n) o ≡ option_map (first_lines n) p
  same_back o p a b =
      ap (option_map (first_lines n)) (sym a) ∙ sym (first_back n t) ∙ ap (after 10) same
      ∙ first_back n s ∙ ap (option_map (first_lines n)) b

  pub same_rest : (rest : List ℕ) → after 10 s ≡ Some rest
      → (other : List ℕ) × (after 10 t ≡ Some other) × (first_lines n other ≡ first_lines n rest)
  same_rest rest e = go (after 10 t) refl
    where
      go : (o : Option (List ℕ)) → after 10 t ≡ o
          → (other : List ℕ) × (after 10 t ≡ Some other) × (first_lines n other ≡ first_lines n rest)
      go None q = absurd (apart_some (first_lines n rest) (same_back None (Some rest) q e))
      go (Some other) q =
          (other, q, same_some (first_lines n other) (first_lines n rest) (same_back (Some other) (Some rest) q e))

  pub same_end : after 10 s ≡ None → after 10 t ≡ None
  same_end e = go (after 10 t) refl
    where
      go : (o : Option (List ℕ)) → after 10 t ≡ o → after 10 t ≡ None
      go None q = q
      go (Some other) q = absurd (apart_some (first_lines n other) (sym (same_back (Some other) None q e)))

-- one line less is the same too
pub same_fewer : (n : ℕ) (s t : List ℕ) → first_lines (suc n) t ≡ first_lines (suc n) s
    → first_lines n t ≡ first_lines n s
same_fewer zero s t e = refl
same_fewer (suc n) s t e = go (λ rest other. same_fewer n rest other) (after 10 s) refl
  where
    go : ((rest other : List ℕ) → first_lines (suc n) other ≡ first_lines (suc n) rest
        → first_lines n other ≡ first_lines n rest)
        → (o : Option (List ℕ)) → after 10 s ≡ o → first_lines (suc n) t ≡ first_lines (suc n) s
    go h None q =
        first_of n t (before 10 s) None (same_front (suc n) s t e) (same_end (suc n) s t e q)
        ∙ sym (first_of n s (before 10 s) None refl q)
    go h (Some rest) q =
        let o = same_rest (suc n) s t e rest q in
        first_of n t (before 10 s) (Some o.0) (same_front (suc n) s t e) o.1
        ∙ ap (λ l. before 10 s ++ 10 ∷ l) (h rest o.0 o.2)
        ∙ sym (first_of n s (before 10 s) (Some rest) refl q)

-- a text with bytes has a first line
pub first_bytes : (c : ℕ) (cs : List ℕ) → [] ≡ first_lines 1 (c ∷ cs) → ⊥
first_bytes c cs e =
    ⊎_elim
    (λ t. apart_some cs (sym (same_end 0 [] (c ∷ cs) (sym e) refl) ∙ cond-true (eqb c 10) (Some cs) (after 10 cs) t))
    (λ f. full (sym (cond-false (eqb c 10) [] (c ∷ before 10 cs) f) ∙ same_front 0 [] (c ∷ cs) (sym e)))
    (cases_Bool (eqb c 10))
  where
    full : c ∷ before 10 cs ≡ [] → ⊥
    full q = let k : ◌≡◌ {A = ℕ} 0 1 = cc in omega arith
