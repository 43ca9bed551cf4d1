-- Text that grows by the lines of one order.
use Rattle.std.proofs.Common.{◌≡◌, ℕ, ◌+◌, ◌<◌, ◌≤◌, Bool, true, false, cond, List, [], ◌++◌, length, get_or, drop, Some, None, codes, Option, sym, ap, ◌∙◌, append_assoc}
use Rattle.std.proofs.lemmas.List.{at_drop_more, at_drop_all, append-nil}
use Rattle.orders.specs.Sides.{BuyOrder, on_side}
use Rattle.queue_demo.specs.Levels.{lots_at}
use Rattle.queue_demo.specs.Reports.{price_line, order_line, opens, lines_below, report}

-- what stands behind the last place
abbrev pub blank : BuyOrder
blank = on_side (record { number = 0; member = 0; price = 0; lots = 0; turn = 0 })

-- the line of a new price
pub price_new : (t : Bool) (price lots n : ℕ) (was mid : List ℕ) → t ≡ true → lots ≡ n → mid ≡ was ++ price_line price lots → mid ≡ was ++ cond t (price_line price n) []
price_new true price lots n was mid new l m = m ∙ ap (λ k. was ++ price_line price k) l
price_new false price lots n was mid new l m = cc

-- and none where the price stays
pub price_same : (t : Bool) (line was mid : List ℕ) → t ≡ false → mid ≡ was → mid ≡ was ++ cond t line []
price_same false line was mid same m = m ∙ sym (append-nil was)
price_same true line was mid same m = cc

-- from `was` by `mid` to `end`: the line of a new price, and the line of the order
pub lines_more : (all : List BuyOrder) (i : ℕ) (d : BuyOrder) (last : Option ℕ) (was mid end whole : List ℕ) → i < length all
    → mid ≡ was ++ cond (opens last (get_or all i d).0.price) (price_line (get_or all i d).0.price (lots_at (get_or all i d).0.price all)) [] → end ≡ mid ++ order_line (get_or all i d)
    → was ++ lines_below all last (drop i all) ≡ whole → end ++ lines_below all (Some (get_or all i d).0.price) (drop (i + 1) all) ≡ whole
lines_more all i d last was mid end whole within m e inv =
    let o = get_or all i d in
    let head = cond (opens last o.0.price) (price_line o.0.price (lots_at o.0.price all)) [] in
    let rest = lines_below all (Some o.0.price) (drop (i + 1) all) in
    ap (λ bs. bs ++ rest) (e ∙ ap (λ bs. bs ++ order_line o) m) ∙ append_assoc (was ++ head) (order_line o) rest ∙ append_assoc was head (order_line o ++ rest)
    ∙ ap (λ bs. was ++ bs) (sym (at_drop_more (lines_below all last) all i d within)) ∙ inv

-- no order is left
pub lines_all : (all : List BuyOrder) (i : ℕ) (last : Option ℕ) (start was title now : List ℕ) → length all ≤ i → start ≡ was ++ (title ++ codes "\n")
    → now ++ lines_below all last (drop i all) ≡ start ++ lines_below all None all → now ≡ was ++ report title all
lines_all all i last start was title now done s inv =
    sym (append-nil now) ∙ ap (λ bs. now ++ bs) (sym (at_drop_all (lines_below all last) all i done)) ∙ inv ∙ ap (λ bs. bs ++ lines_below all None all) s
    ∙ append_assoc was (title ++ codes "\n") (lines_below all None all) ∙ ap (λ bs. was ++ bs) (append_assoc title (codes "\n") (lines_below all None all))
