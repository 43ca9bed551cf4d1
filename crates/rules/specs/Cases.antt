-- Worked cases: what the rules give on small books.
use Rattle.std.specs.Prelude.{◌≡◌, ℕ, List, [], ◌∷◌}
use Rattle.terms.specs.declared.setup.Instrument.{Instrument}
use Rattle.terms.specs.declared.side.Side.{Side}
use Rattle.terms.specs.declared.side.Side.TheVariants.{Buy, Sell}
use Rattle.terms.specs.declared.side.TimeInForce.TheVariants.{Day}
use Rattle.terms.specs.declared.trade.Trade.{Trade}
use Rattle.price_range.specs.Bands.{common, last_quote}
use Rattle.rules.specs.Book.{Answers}
use Rattle.rules.specs.Calls.{Call, order, quote, change, Outcome, answered}
use Rattle.rules.specs.Rules.{Ruled, rule, after, opening}

-- tick 1, spreads 1 to 100, quote lots 1 to 1,000, floor 1, ceiling 100,000, a warrant's range, queues of 64 places
abbrev pub terms : Instrument
terms = record { tick = 1; spread = record { least = 1; greatest = 100 }; quote_lots = record { least = 1; greatest = 1000 } }

abbrev pub warrant : Answers
warrant us = common (record { least = 1; greatest = 100000 }) (last_quote us)

-- calls
abbrev pub quotes : ℕ → ℕ → ℕ → ℕ → Call
quotes bid m ask n = quote (record { bid_price = bid; bid_lots = m; ask_price = ask; ask_lots = n }) 128

abbrev pub enters : Side → ℕ → ℕ → Call
enters s price lots = order s Day (record { member = 7; price = price; lots = lots }) 128

abbrev pub changes : ℕ → ℕ → ℕ → Call
changes n price lots = change (record { member = 7; order = n; price = price; lots = lots }) 128

-- each case begins with the quote 100, 50 / 104, 50; its legs are the orders 1 and 2
abbrev pub gives : List Call → Call → Ruled
gives cs c = rule c (after (quotes 100 50 104 50 ∷ cs) (opening terms 64 64 warrant))

-- an answer, and trades as buyer, seller, price, lots
abbrev pub says : ℕ → ℕ → ℕ → ℕ → ℕ → Outcome
says number traded resting cancelled trades = answered (record { number = number; traded = traded; resting = resting; cancelled = cancelled; trades = trades })

abbrev pub trades : ℕ → ℕ → ℕ → ℕ → Trade
trades buyer seller price lots = record { buyer = buyer; seller = seller; price = price; lots = lots }

abbrev pub Gives : Ruled → Outcome → List Trade → Type 0
Gives x o ts = (x.outcome ≡ o) × (x.trades ≡ ts)

pub record WorkedCases : Type 0 where
  pub all_trade : Gives (gives [] (enters Buy 104 50)) (says 3 50 0 0 1) (trades 3 2 104 50 ∷ [])
  pub ten_rest : Gives (gives [] (enters Buy 104 60)) (says 3 50 10 0 1) (trades 3 2 104 50 ∷ [])
  pub ten_are_cancelled : Gives (gives [] (enters Buy 105 60)) (says 3 50 0 10 1) (trades 3 2 104 50 ∷ [])
  pub sell_above_the_high : Gives (gives [] (enters Sell 105 5)) (says 3 0 5 0 0) []
  pub it_is_left_untouched : Gives (gives (enters Sell 105 5 ∷ []) (enters Buy 105 60)) (says 4 50 0 10 1) (trades 4 2 104 50 ∷ [])
  pub quote_moves_over_a_buy : Gives (gives (enters Buy 103 5 ∷ []) (quotes 98 50 101 50)) (says 4 5 95 100 1) (trades 3 5 101 5 ∷ [])
  pub first_come : Gives (gives (enters Buy 103 5 ∷ (enters Buy 103 5 ∷ [])) (enters Sell 103 7)) (says 5 7 0 0 2) (trades 3 5 103 5 ∷ (trades 4 5 103 2 ∷ []))
  pub cut_keeps_its_place : Gives (gives (enters Buy 103 5 ∷ (enters Buy 103 5 ∷ (changes 3 103 4 ∷ []))) (enters Sell 103 7)) (says 5 7 0 0 2) (trades 3 5 103 4 ∷ (trades 4 5 103 3 ∷ []))
  pub raised_goes_back : Gives (gives (enters Buy 103 5 ∷ (enters Buy 103 5 ∷ (changes 3 103 6 ∷ []))) (enters Sell 103 7)) (says 6 7 0 0 2) (trades 4 6 103 5 ∷ (trades 3 6 103 2 ∷ []))
