-- A line cut at its first space, and its words.
use Rattle.std.proofs.Common.{◌≡◌, ℕ, ◌+◌, ◌≤◌, suc, true, false, cond, eqb, List, [], ◌∷◌, length, drop, is_some, Some, None, Option, sym, refl, ap, ◌∙◌, arith}
use Rattle.std.specs.List.{onto_first}
use Rattle.text.specs.Lines.{before, after}
use Rattle.std.specs.Option.{option_map}
use Rattle.day_text.specs.Signs.{is_last}
use Rattle.day_text.specs.Words.{word_list, words_left, after_of}

pub words_cut : (s : List ℕ) → word_list s ≡ before 32 s ∷ words_left (after 32 s)
words_cut [] = refl
words_cut (c ∷ cs) =
    elim (eqb c 32) as (λ b. cond b ([] ∷ word_list cs) (onto_first c (word_list cs)) ≡ cond b [] (c ∷ before 32 cs) ∷ words_left (cond b (Some cs) (after 32 cs))) [
      | true ↦ refl
      | false ↦ ap (onto_first c) (words_cut cs)
    ]

-- a line that was cut, by the parts
pub words_parted : (s w : List ℕ) (t : Option (List ℕ)) → w ≡ before 32 s → t ≡ after 32 s → word_list s ≡ w ∷ words_left t
words_parted s w t p q = words_cut s ∙ ap (λ x. x ∷ words_left (after 32 s)) (sym p) ∙ ap (λ x. w ∷ words_left x) (sym q)

length-onto_first : (c : ℕ) (ws : List (List ℕ)) → length (onto_first c ws) ≤ suc (length ws)
length-onto_first c [] = omega arith
length-onto_first c (w ∷ ws) = omega arith

-- a line has at most one word more than bytes
pub words_few : (s : List ℕ) → length (word_list s) ≤ length s + 1
words_few [] = omega arith
words_few (c ∷ cs) =
    let h = words_few cs in
    elim (eqb c 32) as (λ b. length (cond b ([] ∷ word_list cs) (onto_first c (word_list cs))) ≤ suc (length cs) + 1) [
      | true ↦ omega arith
      | false ↦ omega (arith, length-onto_first c (word_list cs))
    ]

-- where something is left, so is a word
pub not_last : {B : Type 0} (f : B → List ℕ) (o : Option B) → is_some o ≡ true → is_last (words_left (option_map f o)) ≡ false
not_last f None e = let z : ◌≡◌ {A = ℕ} 0 1 = cc in absurd (omega arith)
not_last f (Some s) e = ap is_last (words_cut (f s))

-- a word that is passed is dropped
pub left-after : (p : ℕ) (ws : List (List ℕ)) → (after_of p ws).left ≡ drop 1 ws
left-after p [] = refl
left-after p (w ∷ ws) = refl
