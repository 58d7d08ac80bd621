-- A file cut at its first line feed, and its lines.
use Rattle.std.proofs.Common.{◌≡◌, ℕ, ◌+◌, ◌≤◌, suc, true, false, cond, eqb, List, [], ◌∷◌, length, Some, Option, sym, refl, ap, ◌∙◌, arith}
use Rattle.std.specs.List.{onto_first}
use Rattle.text.specs.Lines.{before, after}
use Rattle.day_file.specs.Lines.{lines, lines_left}

lines_cut : (s : List ℕ) → lines s ≡ before 10 s ∷ lines_left (after 10 s)
lines_cut [] = refl
lines_cut (c ∷ cs) =
    elim (eqb c 10) as (λ b. cond b ([] ∷ lines cs) (onto_first c (lines cs)) ≡ cond b [] (c ∷ before 10 cs) ∷ lines_left (cond b (Some cs) (after 10 cs))) [
      | true ↦ refl
      | false ↦ ap (onto_first c) (lines_cut cs)
    ]

-- a file that was cut, by the parts
pub lines_parted : (s l : List ℕ) (t : Option (List ℕ)) → l ≡ before 10 s → t ≡ after 10 s → lines s ≡ l ∷ lines_left t
lines_parted s l t p q = lines_cut s ∙ ap (λ x. x ∷ lines_left (after 10 s)) (sym p) ∙ ap (λ x. l ∷ lines_left x) (sym q)

length-onto_first : (c : ℕ) (ls : List (List ℕ)) → length (onto_first c ls) ≤ suc (length ls)
length-onto_first c [] = omega arith
length-onto_first c (l ∷ ls) = omega arith

-- a file has at most one line more than bytes
pub lines_few : (s : List ℕ) → length (lines s) ≤ length s + 1
lines_few [] = omega arith
lines_few (c ∷ cs) =
    let h = lines_few cs in
    elim (eqb c 10) as (λ b. length (cond b ([] ∷ lines cs) (onto_first c (lines cs))) ≤ suc (length cs) + 1) [
      | true ↦ omega arith
      | false ↦ omega (arith, length-onto_first c (lines cs))
    ]
