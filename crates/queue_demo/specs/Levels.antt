-- The lots at one price.
use Rattle.std.specs.Prelude.{ℕ, cond, List, ◌==◌, sum_by}
use Rattle.orders.specs.Sides.{BuyOrder}

abbrev pub lots_if : ℕ → BuyOrder → ℕ
lots_if price o = cond (o.0.price == price) o.0.lots 0

abbrev pub lots_at : ℕ → List BuyOrder → ℕ
lots_at price = sum_by (lots_if price)
