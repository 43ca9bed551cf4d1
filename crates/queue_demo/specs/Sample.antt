-- The orders of the demonstration.
use Rattle.std.specs.Prelude.{ℕ, List, [], ◌∷◌}
use Rattle.orders.specs.Sides.{BuyOrder, on_side}

-- an order of member 7, numbered by its turn
abbrev pub buying : ℕ → ℕ → ℕ → BuyOrder
buying number price lots = on_side (record { number = number; member = 7; price = price; lots = lots; turn = number })

-- as they enter
abbrev pub entered : List BuyOrder
entered = buying 1 102 40 ∷ (buying 2 104 5 ∷ (buying 3 102 30 ∷ (buying 4 103 7 ∷ (buying 5 104 50 ∷ []))))

-- in rank order: the higher price first, then the earlier turn
abbrev pub ranked : List BuyOrder
ranked = buying 2 104 5 ∷ (buying 5 104 50 ∷ (buying 4 103 7 ∷ (buying 1 102 40 ∷ (buying 3 102 30 ∷ []))))
