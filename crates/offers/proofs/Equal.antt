-- Equal curves, pair by pair.
use Rattle.std.proofs.Common.{◌≡◌, List, arith}
use Rattle.std.specs.Bool.{Decides}
use Rattle.std.specs.Cmp.Lexicographic.{pointwise_decides}
use Rattle.std.proofs.lemmas.Int.{ints}
use Rattle.std.proofs.lemmas.Bool.Decides.{nat_tests}
use Rattle.offers.specs.declared.pair.Pair.{Pair}
use Rattle.offers.specs.Curves.{same_pair, same_pairs}

pair_decides : (p q : Pair) → Decides (same_pair p q) (p ≡ q)
pair_decides p q = (λ h. grind (arith, ints, nat_tests), λ e. grind (arith, ints, nat_tests))

-- the test says what it is called
pub pairs_decide : (ps qs : List Pair) → Decides (same_pairs ps qs) (ps ≡ qs)
pairs_decide = pointwise_decides pair_decides
