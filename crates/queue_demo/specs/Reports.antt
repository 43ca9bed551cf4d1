-- Orders as text.
--   price_line, order_line   the two kinds of line
--   report title orders    the title; a line an order, and above each new price its line
use Rattle.std.specs.Prelude.{ℕ, Bool, true, cond, not, List, [], ◌∷◌, ◌++◌, Some, None, codes, decimal, Option, ◌==◌}
use Rattle.orders.specs.Sides.{BuyOrder}
use Rattle.queue_demo.specs.Levels.{lots_at}

abbrev pub price_line : ℕ → ℕ → List ℕ
price_line price lots = decimal price ++ (codes ": " ++ (decimal lots ++ codes " lots\n"))

abbrev pub order_line : BuyOrder → List ℕ
order_line o = codes "  order " ++ (decimal o.0.number ++ (codes ", " ++ (decimal o.0.lots ++ codes " lots\n")))

-- the price before is another, or there is none
abbrev pub opens : Option ℕ → ℕ → Bool
opens None price = true
opens (Some last) price = not (last == price)

-- the lines of the orders os of all, below one at the price last
abbrev pub lines_below : List BuyOrder → Option ℕ → List BuyOrder → List ℕ
lines_below all last [] = []
lines_below all last (o ∷ os) =
    cond (opens last o.0.price) (price_line o.0.price (lots_at o.0.price all)) []
    ++ (order_line o ++ lines_below all (Some o.0.price) os)

abbrev pub report : List ℕ → List BuyOrder → List ℕ
report title orders = title ++ (codes "\n" ++ lines_below orders None orders)
