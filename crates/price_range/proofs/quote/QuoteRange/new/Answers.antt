use Rattle.price_range.specs.Quotes.{quote_first}
use Rattle.price_range.proofs.quote.QuoteRange.new.Goals as goal

pub returns : goal.returns
returns c us = quote_first us
