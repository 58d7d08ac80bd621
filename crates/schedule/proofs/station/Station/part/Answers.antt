use Rattle.std.proofs.Common.{sym, ap, ◌∙◌, subst, arith}
use Rattle.std.specs.List.{AllByRecursion as All}
use Rattle.schedule.specs.Blocks.{Priced, energies, costs}
use Rattle.schedule.specs.Stations.{energy_counted, blocks_of, takes_of, part}
use Rattle.schedule.specs.Held.{operation}
use Rattle.schedule.proofs.Greedy.{takes_qualified}
use Rattle.schedule.proofs.Dividing.{listed_divided, all_beside, energies_beside, costs_beside}
use Rattle.schedule.proofs.Fitting.{fitting, Near, blocks_of_near, counted_bound}
use Rattle.schedule.proofs.station.Station.part.Goals as goal

pub cost_of_all-requires : goal.cost_of_all-requires
cost_of_all-requires c =
    let s = c.args.self.now in
    let o = operation s in
    let P = c.args.price.cents in
    let f = fitting s.factor.value s.tolerance s.start s.submission s.reading s.fits in
    let e = c.listed.ensures ∙ listed_divided (energy_counted o P) (blocks_of o P) c.blocks-blocks.result c.blocks-blocks.ensures in
    record {
      near = subst (All Priced) (sym e) (all_beside Near (blocks_of o P) (takes_of o P) (blocks_of_near o P f));
      few = omega (arith, ap energies e, energies_beside (blocks_of o P) (takes_of o P), takes_qualified (energy_counted o P) (blocks_of o P), counted_bound o P f);
    }

pub returns : goal.returns
unfolding part
returns c =
    let s = c.args.self.now in
    let o = operation s in
    let P = c.args.price.cents in
    let e = c.listed.ensures ∙ listed_divided (energy_counted o P) (blocks_of o P) c.blocks-blocks.result c.blocks-blocks.ensures in
    record { value = c.cost_of_all.ensures.value ∙ ap (costs s.factor.value P) e ∙ costs_beside s.factor.value P (blocks_of o P) (takes_of o P); bound = c.cost_of_all.ensures.bound }
