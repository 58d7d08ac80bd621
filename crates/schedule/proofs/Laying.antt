-- Blocks laid one behind another in memory.
use Rattle.std.proofs.Common.{◌≡◌, ℕ, ◌+◌, ◌<◌, ◌≤◌, List, [], ◌∷◌, ◌++◌, length, get_or, take, drop, set, sym, refl, ap, ◌∙◌, arith}
use Rattle.std.proofs.lemmas.List.{append-nil, append_assoc, drop_more, set_at, length-append, at_drop_more, at_drop_all, take_at}
use Rattle.offers.specs.Curves.{total}
use Rattle.offers.specs.declared.pair.Pair.{Pair}
use Rattle.schedule.specs.Ramps.{energy}
use Rattle.schedule.specs.Blocks.{block_of, blocks_from}
use Rattle.schedule.specs.Stations.{Operation, energy_of}
use Rattle.schedule.specs.declared.block.Block.{Block}

-- one more behind those in front
pub push_laid : {X : Type 0} (front ys : List X) (n : ℕ) (x : X) → length front ≡ n → n < length ys → set (front ++ drop n ys) n x ≡ (front ++ x ∷ []) ++ drop (n + 1) ys
push_laid front ys n x e h =
    ap (λ l. set (front ++ l) n x) (drop_more ys n x h) ∙ set_at front (get_or ys n x) (drop (n + 1) ys) x n e
    ∙ sym (append_assoc front (x ∷ []) (drop (n + 1) ys))

-- i blocks are laid over ys, the kW and the energy of their pairs known
pub record Laid (E : ℕ → ℕ) (factor : ℕ) (ps : List Pair) (ys : List Block) (i cheaper below : ℕ) (slots : List Block) : Type 0 where
  pub front : List Block
  pub many : length front ≡ i
  pub held : slots ≡ front ++ drop i ys
  pub whole : front ++ blocks_from E factor cheaper (drop i ps) ≡ blocks_from E factor 0 ps
  pub kw : cheaper + total (drop i ps) ≡ total ps
  pub energy : below ≡ E cheaper

pub laid_none : (E : ℕ → ℕ) (factor : ℕ) (ps : List Pair) (ys : List Block) (below : ℕ) → below ≡ E 0 → Laid E factor ps ys 0 0 below ys
laid_none E factor ps ys below e = record { front = []; many = refl; held = refl; whole = refl; kw = omega arith; energy = e }

module _ (E : ℕ → ℕ) (factor : ℕ) (ps : List Pair) (ys : List Block) (i cheaper below : ℕ) (slots : List Block) (laid : Laid E factor ps ys i cheaper below slots) where
  pub laid_fits : (d : Pair) → i < length ps → cheaper + (get_or ps i d).kw ≤ total ps
  laid_fits d h = let k = at_drop_more total ps i d h in omega (arith, laid.kw)

  pub laid_more : (d : Pair) (b : Block) (through : ℕ) → i < length ps → i < length ys → b ≡ block_of E factor cheaper (get_or ps i d) → through ≡ E (cheaper + (get_or ps i d).kw)
      → Laid E factor ps ys (i + 1) (cheaper + (get_or ps i d).kw) through (set slots i b)
  laid_more d b through h room e f =
      let k = at_drop_more total ps i d h in
      let F = laid.front in
      let later = blocks_from E factor (cheaper + (get_or ps i d).kw) (drop (i + 1) ps) in
      record {
        front = F ++ b ∷ [];
        many = length-append F (b ∷ []) ∙ ap (λ n. n + 1) laid.many;
        held = ap (λ l. set l i b) laid.held ∙ push_laid F ys i b laid.many room;
        whole = append_assoc F (b ∷ []) later ∙ ap (λ c. F ++ c ∷ later) e ∙ ap (λ l. F ++ l) (sym (at_drop_more (blocks_from E factor cheaper) ps i d h)) ∙ laid.whole;
        kw = omega (arith, laid.kw);
        energy = f;
      }

  pub laid_all : length ps ≤ i → i ≡ length ps → slots ≡ blocks_from E factor 0 ps ++ drop (length ps) ys
  laid_all h e =
      let all : laid.front ≡ blocks_from E factor 0 ps = sym (append-nil laid.front) ∙ ap (λ l. laid.front ++ l) (sym (at_drop_all (blocks_from E factor cheaper) ps i h)) ∙ laid.whole in
      laid.held ∙ (λ j. all j ++ drop (e j) ys)

pub length_from : (E : ℕ → ℕ) (factor t : ℕ) (ps : List Pair) → length (blocks_from E factor t ps) ≡ length ps
length_from E factor t [] = refl
length_from E factor t (p ∷ ps) = omega (arith, length_from E factor (t + p.kw) ps)

-- all blocks of a station, from the figures that its calls answered
pub laid_blocks : (o : Operation) (s u d : ℕ) (ps : List Pair) (slots ys : List Block) → s ≡ o.start → u ≡ o.up → d ≡ o.down → ps ≡ o.curve
    → slots ≡ blocks_from (energy s u d) o.factor 0 ps ++ ys → take (length ps) slots ≡ blocks_from (energy_of o) o.factor 0 o.curve
laid_blocks o s u d ps slots ys p q r e h =
    ap (take (length ps)) h ∙ take_at (blocks_from (energy s u d) o.factor 0 ps) ys (length ps) (length_from (energy s u d) o.factor 0 ps)
    ∙ (λ i. blocks_from (energy (p i) (q i) (r i)) o.factor 0 (e i))
