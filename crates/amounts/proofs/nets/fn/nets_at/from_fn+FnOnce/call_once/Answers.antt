use Rattle.std.proofs.Common.{refl, ◌∙◌, w64}
use Rattle.std.proofs.lemmas.Int.{to_z-of_z}
use Rattle.amounts.proofs.nets.fn.nets_at.from_fn+FnOnce.call_once.Goals as goal

pub returns : goal.returns
returns c = (c.args.arg1, ((refl, refl), to_z-of_z w64 c.from_fn.result (record { sfits = c.from_fn.type_inv }) ∙ c.from_fn.ensures))
