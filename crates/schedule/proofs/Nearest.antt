-- The blocks of a curve in form stand nearest first.
use Rattle.std.proofs.Common.{◌≡◌, ℕ, ◌+◌, ◌<◌, ◌≤◌, Bool, true, false, cond, List, [], ◌∷◌, ◌++◌, reverse, ℤ, ◌≤ℤ◌, ◌<ℤ◌, filter, sym, subst, arith}
use mathlib.Core.List.{reverse-cons}
use Rattle.schedule.specs.declared.block.Block.{Block}
use lib.Signed.{lt_z}
use Rattle.std.specs.List.{AllByRecursion as All}
use Rattle.std.proofs.ByRecursion.{all_kept_by, kept_by_passes, All-push}
use Rattle.std.proofs.lemmas.Int.{ints}
use Rattle.offers.specs.declared.pair.Pair.{Pair}
use Rattle.schedule.specs.Rounding.{adjusted}
use Rattle.schedule.specs.Blocks.{blocks_from, blocks_above, blocks_below}
use Rattle.offers.specs.Curves.{in_form, rises, below_next, some_kw}
use Rattle.offers.specs.Tests.{all}
use Rattle.offers.proofs.Tests.{and_first, and_second}
use Rattle.schedule.specs.Stations.{Operation, energy_of, out_of_merit, energy_out, blocks_for, part}
use Rattle.schedule.specs.Claims.{Least, LeastAbove, LeastBelow, LeastCompensation}
use Rattle.schedule.specs.declared.direction.OutOfMerit.{OutOfMerit}
use Rattle.schedule.specs.declared.direction.OutOfMerit.TheVariants.{Upward, Downward, Neither}
use Rattle.schedule.proofs.Rising.{price_rises}
use Rattle.schedule.proofs.Greedy.{far, Outward, takes_divide, takes_most, costs_least}

-- a relation of each element to all behind it
abbrev pub Chain : {X : Type 0} → (X → X → Type 0) → List X → Type 0
Chain R [] = Unit {0}
Chain R (x ∷ xs) = All (R x) xs × Chain R xs

chain_kept : {X : Type 0} (R : X → X → Type 0) (p : X → Bool) (xs : List X) → Chain R xs → Chain R (filter p xs)
chain_kept R p [] h = tt
chain_kept R p (x ∷ xs) h =
    elim (p x) as (λ t. Chain R (cond t (x ∷ filter p xs) (filter p xs)))
    [ true ↦ (all_kept_by p (R x) xs h.0, chain_kept R p xs h.1) | false ↦ chain_kept R p xs h.1 ]

chain_push : {X : Type 0} (R : X → X → Type 0) (xs : List X) (y : X) → Chain R xs → All (λ x. R x y) xs → Chain R (xs ++ y ∷ [])
chain_push R [] y h k = (tt, tt)
chain_push R (x ∷ xs) y h k = (All-push (R x) xs y h.0 k.0, chain_push R xs y h.1 k.1)

pub all_reverse : {X : Type 0} (P : X → Type 0) (xs : List X) → All P xs → All P (reverse xs)
all_reverse P [] h = tt
all_reverse P (x ∷ xs) h = subst (All P) (sym (reverse-cons x xs)) (All-push P (reverse xs) x (all_reverse P xs h.1) h.0)

chain_reverse : {X : Type 0} (R : X → X → Type 0) (xs : List X) → Chain R xs → Chain (λ x y. R y x) (reverse xs)
chain_reverse R [] h = tt
chain_reverse R (x ∷ xs) h =
    subst (Chain (λ x y. R y x)) (sym (reverse-cons x xs))
    (chain_push (λ x y. R y x) (reverse xs) x (chain_reverse R xs h.1) (all_reverse (R x) xs h.0))

-- where each element passes Q, one relation gives another
chain_weaker : {X : Type 0} (Q : X → Type 0) (R S : X → X → Type 0) → ((x y : X) → Q x → Q y → R x y → S x y) → (xs : List X) → All Q xs → Chain R xs → Chain S xs
chain_weaker {X} Q R S f [] q h = tt
chain_weaker {X} Q R S f (x ∷ xs) q h = (each xs q.1 h.0, chain_weaker Q R S f xs q.1 h.1)
  where
    each : (ys : List X) → All Q ys → All (R x) ys → All (S x) ys
    each [] a b = tt
    each (y ∷ ys) a b = (f x y q.0 a.0 b.0, each ys a.1 b.1)

abbrev Dearer : Block → Block → Type 0
Dearer a b = a.price ≤ℤ b.price

-- each pair is cheaper than all behind it
all_dearer : (x : ℤ) (p : Pair) (ps : List Pair) → x <ℤ p.price → rises (p ∷ ps) ≡ true → All (λ q. x <ℤ q.price) (p ∷ ps)
all_dearer x p [] h r = (h, tt)
all_dearer x p (q ∷ qs) h r =
    let k : lt_z p.price q.price ≡ true = and_first (lt_z p.price q.price) (rises (q ∷ qs)) r in
    (h, all_dearer x q qs (omega (arith, ints)) (and_second (lt_z p.price q.price) (rises (q ∷ qs)) r))

behind : (p : Pair) (ps : List Pair) → rises (p ∷ ps) ≡ true → All (λ q. p.price <ℤ q.price) ps
behind p [] r = tt
behind p (q ∷ qs) r =
    let k : lt_z p.price q.price ≡ true = and_first (lt_z p.price q.price) (rises (q ∷ qs)) r in
    all_dearer p.price q qs (omega (arith, ints)) (and_second (lt_z p.price q.price) (rises (q ∷ qs)) r)

dearer_from : (E : ℕ → ℕ) (factor t : ℕ) (x : ℤ) (ps : List Pair) → 0 < factor → All (λ q. x <ℤ q.price) ps → All (λ b. adjusted x factor ≤ℤ b.price) (blocks_from E factor t ps)
dearer_from E factor t x [] f h = tt
dearer_from E factor t x (p ∷ ps) f h = (price_rises x p.price factor f (omega (arith, ints, h.0)), dearer_from E factor (t + p.kw) x ps f h.1)

blocks_rise : (E : ℕ → ℕ) (factor t : ℕ) (ps : List Pair) → 0 < factor → rises ps ≡ true → Chain Dearer (blocks_from E factor t ps)
blocks_rise E factor t [] f h = tt
blocks_rise E factor t (p ∷ ps) f h =
    (dearer_from E factor (t + p.kw) p.price ps f (behind p ps h), blocks_rise E factor (t + p.kw) ps f (and_second (below_next p ps) (rises ps) h))

outward : (P : ℤ) (bs : List Block) → Chain (λ a b. far P a ≤ far P b) bs → Outward P bs
outward P [] h = tt
outward P (b ∷ bs) h = (h.0, outward P bs h.1)

pub above_outward : (E : ℕ → ℕ) (factor : ℕ) (P : ℤ) (ps : List Pair) → 0 < factor → rises ps ≡ true → Outward P (blocks_above E factor P ps)
above_outward E factor P ps f h =
    outward P (blocks_above E factor P ps)
    (chain_weaker (λ b. lt_z P b.price ≡ true) Dearer (λ a b. far P a ≤ far P b) (λ a b p q r. omega (arith, ints)) (blocks_above E factor P ps)
    (kept_by_passes (λ b. lt_z P b.price) (blocks_from E factor 0 ps))
    (chain_kept Dearer (λ b. lt_z P b.price) (blocks_from E factor 0 ps) (blocks_rise E factor 0 ps f h)))

pub below_outward : (E : ℕ → ℕ) (factor : ℕ) (P : ℤ) (ps : List Pair) → 0 < factor → rises ps ≡ true → Outward P (blocks_below E factor P ps)
below_outward E factor P ps f h =
    let kept = filter (λ b. lt_z b.price P) (blocks_from E factor 0 ps) in
    outward P (blocks_below E factor P ps)
    (chain_weaker (λ b. lt_z b.price P ≡ true) (λ a b. Dearer b a) (λ a b. far P a ≤ far P b) (λ a b p q r. omega (arith, ints)) (blocks_below E factor P ps)
    (all_reverse (λ b. lt_z b.price P ≡ true) kept (kept_by_passes (λ b. lt_z b.price P) (blocks_from E factor 0 ps)))
    (chain_reverse Dearer kept (chain_kept Dearer (λ b. lt_z b.price P) (blocks_from E factor 0 ps) (blocks_rise E factor 0 ps f h))))

least : (factor : ℕ) (P : ℤ) (x : ℕ) (bs : List Block) → Outward P bs → Least factor P x bs
least factor P x bs o = (takes_divide x bs, λ ds v. (takes_most x bs ds v, λ e. costs_least factor P x bs ds v.0 o e))

rising : (ps : List Pair) → in_form ps ≡ true → rises ps ≡ true
rising ps h = and_second (all some_kw ps) (rises ps) h

pub least_above : LeastAbove
least_above E factor P ps x f h = least factor P x (blocks_above E factor P ps) (above_outward E factor P ps f (rising ps h))

pub least_below : LeastBelow
least_below E factor P ps x f h = least factor P x (blocks_below E factor P ps) (below_outward E factor P ps f (rising ps h))

least_for : (o : Operation) (P : ℤ) (m : OutOfMerit) → 0 < o.factor → in_form o.curve ≡ true → Least o.factor P (energy_out m) (blocks_for o P m)
least_for o P (Upward x) f h = least_above (energy_of o) o.factor P o.curve x f h
least_for o P (Downward x) f h = least_below (energy_of o) o.factor P o.curve x f h
least_for o P Neither f h = least o.factor P 0 [] tt

pub least_compensation : LeastCompensation
unfolding part
least_compensation o P f h = least_for o P (out_of_merit o P) f h
