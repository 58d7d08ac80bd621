-- A call of `div_euclid`, whose arguments and result went through their bits.
use Rattle.std.proofs.Common.{◌≡◌, ℤ, ap, ◌∙◌, SFits, to_z, of_z}
use mir.Syntax.{Width}
use Rattle.std.specs.Int.{int_div_euclid}
use Rattle.std.proofs.lemmas.Int.{to_z-of_z}

pub divided : (w : Width) (r x y x' y' : ℤ) → SFits w r → r ≡ int_div_euclid x y → x ≡ x' → y ≡ y' → to_z w (of_z w r) ≡ int_div_euclid x' y'
divided w r x y x' y' f h p q = to_z-of_z w r f ∙ h ∙ ap (λ z. int_div_euclid z y) p ∙ ap (int_div_euclid x') q
