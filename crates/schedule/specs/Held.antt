-- What a station in memory stands for.
use Rattle.schedule.specs.Stations.{Operation, operates}
use Rattle.schedule.specs.declared.station.Station.{Station}

abbrev pub operation : Station → Operation
operation s = operates s.factor.value s.tolerance s.start s.submission s.reading
