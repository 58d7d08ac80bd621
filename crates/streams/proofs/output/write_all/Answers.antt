use Rattle.std.proofs.Common.{◌≡◌, ℕ, ◌+◌, List, ◌++◌, Option, ap, ◌∙◌, sym, subst, take, drop}
use lib.Seq.{take-add}
use Rattle.std.proofs.lemmas.List.{drop-drop, take_rest}
use Rattle.std.specs.Io.KnownBytes.{Appends}
use Rattle.std.proofs.KnownBytes.{Appends-trans}
use Rattle.streams.proofs.output.write_all.Goals as goal

-- the first n bytes and then the first k of the rest are the first n + k
Appends-more : (a b c : Option (List ℕ)) (text rest : List ℕ) (n k : ℕ) → rest ≡ drop n text → Appends a b (take n text) → Appends b c (take k rest) → Appends a c (take (n + k) text)
Appends-more a b c text rest n k left held taken =
    subst (Appends a c) (ap (λ s. take n text ++ take k s) left ∙ sym (take-add n k text)) (Appends-trans a b c _ _ held taken)

pub loop-rest-preserved : goal.loop-rest-preserved
loop-rest-preserved g c =
    let (n, left, held) = c.loop-rest.invariant in
    let k = c.in_ok-n.n in
    let text = c.args.text.now in
    let rest = c.loop-rest.rest.now in
    (n + k, take_rest rest k ∙ ap (drop k) left ∙ drop-drop k n text, Appends-more _ _ _ text rest n k left held c.in_ok-n.ensures.bytes)
