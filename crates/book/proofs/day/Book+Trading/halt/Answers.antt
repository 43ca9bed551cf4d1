use Rattle.std.proofs.Common.{[], refl}
use Rattle.rules.proofs.Ruled.{keeps_ruled}
use Rattle.book.proofs.day.Book+Trading.halt.Goals as goal

pub returns-clause-day : goal.returns-clause-day
returns-clause-day c held range = keeps_ruled {table = []} (record { outcome = refl; trades = refl; book = refl })
