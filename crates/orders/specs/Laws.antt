-- The laws of price and time priority.
use Rattle.std.specs.Prelude.{◌≡◌, ◌≢◌, true, false}
use Rattle.std.proofs.Common.{rules}
use Rattle.terms.specs.declared.side.Side.{Side}
use Rattle.terms.specs.declared.side.Side.TheVariants.{Buy, Sell}
use Rattle.queue.specs.Rank.{ExactlyOne}
use Rattle.orders.specs.Priority.{before}
use Rattle.orders.specs.declared.order.Order.{Order}

pub before_irreflexive : (s : Side) (o : Order) → before s o o ≡ false
before_irreflexive Buy o = search rules
before_irreflexive Sell o = search rules

pub before_transitive : (s : Side) (o p q : Order) → before s o p ≡ true → before s p q ≡ true → before s o q ≡ true
before_transitive Buy o p q h k = search rules
before_transitive Sell o p q h k = search rules

pub before_connected : (s : Side) (o p : Order) → (o.turn ≢ p.turn) → ExactlyOne (before s o p) (before s p o)
before_connected Buy o p h = search rules
before_connected Sell o p h = search rules
