use Rattle.std.proofs.Common.{◌-◌, ap, ◌∙◌}
use Rattle.schedule.specs.Stations.{counted}
use Rattle.schedule.specs.Held.{operation}
use Rattle.schedule.proofs.Merits.{merit_up, merit_down, merit_none}
use Rattle.schedule.proofs.station.Station.out_of_merit.Goals as goal

pub returns-then-upward-gt0 : goal.returns-then-upward-gt0
returns-then-upward-gt0 c =
    let s = c.args.self.now in
    merit_up (operation s) c.args.price.cents c.counted-upward.result
    (c.counted-upward.ensures ∙ ap (counted s.tolerance) (c.saturating_sub.ensures ∙ ap (λ e. s.reading - e) c.upper.ensures)) c.if-upward-gt0.true

pub returns-then-downward-gt0 : goal.returns-then-downward-gt0
returns-then-downward-gt0 c =
    let s = c.args.self.now in
    merit_down (operation s) c.args.price.cents c.counted-upward.result
    (c.counted-upward.ensures ∙ ap (counted s.tolerance) (c.saturating_sub.ensures ∙ ap (λ e. s.reading - e) c.upper.ensures)) c.if-upward-gt0.false c.counted-downward.result
    (c.counted-downward.ensures ∙ ap (counted s.tolerance) (c.saturating_sub-2.ensures ∙ ap (λ e. e - s.reading) c.lower.ensures)) c.if-downward-gt0.true

pub returns : goal.returns
returns c =
    let s = c.args.self.now in
    merit_none (operation s) c.args.price.cents c.counted-upward.result
    (c.counted-upward.ensures ∙ ap (counted s.tolerance) (c.saturating_sub.ensures ∙ ap (λ e. s.reading - e) c.upper.ensures)) c.if-upward-gt0.false c.counted-downward.result
    (c.counted-downward.ensures ∙ ap (counted s.tolerance) (c.saturating_sub-2.ensures ∙ ap (λ e. e - s.reading) c.lower.ensures)) c.if-downward-gt0.false
