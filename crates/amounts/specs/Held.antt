-- What a sheet at a price stands for.
use Rattle.amounts.specs.declared.account.AtPrice.{AtPrice}
use Rattle.amounts.specs.Amounts.{PricedSheet}
use Rattle.amounts.specs.Sheets.{held_at}

abbrev pub held : AtPrice → PricedSheet
held x = held_at x.sheet.now x.price.cents
