-- Laws of the reading of digits.
use Rattle.std.proofs.Common.{◌≡◌, ℕ, ◌+◌, ◌-◌, ◌*◌, ◌^◌, ◌<◌, min, true, false, cond, List, [], ◌∷◌, length, get_or, drop, Some, None, Option, sym, refl, ap, ◌∙◌, arith}
use Rattle.std.proofs.lemmas.List.{at_drop_more}
use Rattle.std.specs.Option.{option_map}
use Rattle.text.specs.Numbers.{is_digit, onward}

abbrev pub capped : Option ℕ → Option ℕ
capped o = option_map (min (2 ^ 64)) o

-- two starts that the cap does not tell apart go on alike
pub onward_capped : (m n : ℕ) (cs : List ℕ) → min (2 ^ 64) m ≡ min (2 ^ 64) n → capped (onward m cs) ≡ capped (onward n cs)
onward_capped m n [] e = ap Some e
onward_capped m n (c ∷ cs) e =
    let h = onward_capped (m * 10 + (c - 48)) (n * 10 + (c - 48)) cs (omega arith)
    in elim (is_digit c) as (λ t. capped (cond t (onward (m * 10 + (c - 48)) cs) None) ≡ capped (cond t (onward (n * 10 + (c - 48)) cs) None)) [ true ↦ h | false ↦ refl ]

-- a digit at i takes the reading one byte on
pub onward_more : (n m i : ℕ) (s : List ℕ) (o : Option ℕ) → i < length s → is_digit (get_or s i 0) ≡ true
    → min (2 ^ 64) m ≡ min (2 ^ 64) (n * 10 + (get_or s i 0 - 48))
    → capped (onward n (drop i s)) ≡ o → capped (onward m (drop (i + 1) s)) ≡ o
onward_more n m i s o lt dig e h =
    let x = get_or s i 0 in let rest = drop (i + 1) s
    in onward_capped m (n * 10 + (x - 48)) rest e
    ∙ ap (λ t. capped (cond t (onward (n * 10 + (x - 48)) rest) None)) (sym dig)
    ∙ sym (at_drop_more (λ l. capped (onward n l)) s i 0 lt) ∙ h
